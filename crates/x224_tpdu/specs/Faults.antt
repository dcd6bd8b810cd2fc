-- What is wrong with octets that spell no TPDU. Eight rules are tried in their order, and the first
-- that is broken names the fault. The faults and their order are this profile's.
use Rattle.std.specs.Prelude.{ℕ, ◌+◌, ◌-◌, ◌==◌, ◌&&◌, ◌||◌, not, nat_lt, nat_le, if◌then◌else◌, Bool, true, false, List, [], ◌∷◌, length, slice_index, take}
use Rattle.std.specs.Prelude.{drop, Option, Some, None, is_some}
use Rattle.x224_tpdu.specs.declared.fault.TpFault.{TpFault}
use Rattle.x224_tpdu.specs.declared.fault.TpFault.TheVariants.{Empty, Length, Code, Parameter, Value, Class, UserData}
use Rattle.x224_tpdu.specs.declared.kind.Kind.{Kind}
use Rattle.x224_tpdu.specs.declared.kind.Kind.TheVariants.{Cr, Cc, Ak}
use Rattle.x224_tpdu.specs.Kinds.{kind_of_tpdu_code, fixed_length, has_parameters, is_length, least_user, most_user}
use Rattle.x224_tpdu.specs.Parameters.{parameters_in, first_refused, size_octet}

-- octets cut behind the header that their first octet, LI, counts
pub record Layout : Type 0 where
  pub found : ℕ  -- the number of all octets
  pub li : ℕ  -- the length indicator
  pub code : ℕ  -- the first octet of the header
  pub fields : List ℕ  -- the header behind LI and the code
  pub user : List ℕ  -- what stands behind the header

-- the cut of octets; an octet that isn't there counts as 0
abbrev pub layout_of : List ℕ → Layout
layout_of octets =
    let li = slice_index octets 0 in
    record {
      found = length octets;
      li = li;
      code = slice_index octets 1;
      fields = take (li - 1) (drop 2 octets);
      user = drop (li + 1) octets;
    }

-- the header behind its fixed part
abbrev pub parameter_part : Kind → Layout → List ℕ
parameter_part kind c = drop (fixed_length kind - 1) c.fields

-- rule 1: there is an octet
abbrev pub rule_1 : List ℕ → Option TpFault
rule_1 octets = if length octets == 0 then Some Empty else None

-- rule 2: LI is neither 0 nor FF, and the header that it counts is there
abbrev pub rule_2 : Layout → Option TpFault
rule_2 c =
    if (c.li == 0) || (c.li == 0xFF) || nat_le c.found c.li then Some (Length c.li c.found) else None

-- rule 3: the second octet is the code of a kind
abbrev pub rule_3 : Layout → Option TpFault
rule_3 c = if is_some (kind_of_tpdu_code c.code) then None else Some (Code c.code)

-- rule 4: LI is one that this kind can have
abbrev pub rule_4 : Kind → Layout → Option TpFault
rule_4 kind c = if is_length kind c.li then None else Some (Length c.li c.found)

-- rule 5: the octet of class and options in CR and CC is 20
abbrev pub rule_5 : Kind → Layout → Option TpFault
rule_5 kind c =
    let class = slice_index c.fields 4 in
    if has_class kind && not (class == 0x20) then Some (Class class) else None
  where
    has_class : Kind → Bool
    has_class Cr = true
    has_class Cc = true
    has_class _ = false

-- the first parameter of a parameter part that may not stand there, or that isn't whole
abbrev pub part_fault : Kind → List ℕ → Option TpFault
part_fault kind part = broken (first_refused kind false (parameters_in part).0) (parameters_in part).1
  where
    broken : Option ℕ → List ℕ → Option TpFault
    broken (Some code) left_over = Some (Parameter code)
    broken None (code ∷ rest) = Some (Parameter code)
    broken None [] = None

-- rule 6: the parameter part is made of whole parameters that may stand in this kind
abbrev pub rule_6 : Kind → Layout → Option TpFault
rule_6 kind c = if has_parameters kind then part_fault kind (parameter_part kind c) else None

-- the fault of the octet of a TPDU size, which is 07 to 0D
abbrev pub size_fault : Option ℕ → Option TpFault
size_fault None = None
size_fault (Some octet) = if nat_le 7 octet && nat_le octet 13 then None else Some (Value 0xC0 octet)

-- the fault of a number YR-TU-NR, which has seven bits
abbrev pub number_fault : ℕ → Option TpFault
number_fault octet = if nat_lt octet 0x80 then None else Some (Value 0x60 octet)

-- rule 7: the TPDU size of CR and CC, and the number of AK
abbrev pub rule_7 : Kind → Layout → Option TpFault
rule_7 Cr c = size_fault (size_octet (parameters_in (parameter_part Cr c)).0)
rule_7 Cc c = size_fault (size_octet (parameters_in (parameter_part Cc c)).0)
rule_7 Ak c = number_fault (slice_index c.fields 2)
rule_7 _ c = None

-- the fault of user data that is too long, or too short
abbrev pub user_fault : Kind → List ℕ → Option TpFault
user_fault kind user =
    if nat_le (least_user kind) (length user) && nat_le (length user) (most_user kind) then None
    else Some (UserData (most_user kind) (length user))

-- rule 8: there are as many octets of user data as this kind can have
abbrev pub rule_8 : Kind → Layout → Option TpFault
rule_8 kind c = user_fault kind c.user

-- the first of several rules that is broken
abbrev pub first_of : List (Option TpFault) → Option TpFault
first_of [] = None
first_of (None ∷ rules) = first_of rules
first_of (Some fault ∷ rules) = Some fault

-- the rules that depend on the kind
abbrev pub kind_rules : Option Kind → Layout → List (Option TpFault)
kind_rules (Some kind) c =
    rule_4 kind c ∷ rule_5 kind c ∷ rule_6 kind c ∷ rule_7 kind c ∷ rule_8 kind c ∷ []
kind_rules None c = []

-- the eight rules in their order
abbrev pub rules : List ℕ → Layout → List (Option TpFault)
rules octets c = rule_1 octets ∷ rule_2 c ∷ rule_3 c ∷ kind_rules (kind_of_tpdu_code c.code) c

-- the fault of octets: the first rule that is broken
abbrev pub first_fault : List ℕ → Option TpFault
first_fault octets = first_of (rules octets (layout_of octets))
