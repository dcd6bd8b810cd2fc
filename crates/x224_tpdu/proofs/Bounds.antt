-- What is read is within its bounds, since it keeps the rules.
use Rattle.std.proofs.Common.{◌≡◌, ℕ, ◌<◌, ◌≤◌, nat_le, nat_lt, inl, inr, true, List, [], ◌∷◌, length, get_or, Option, Some, None, is_some, Ok, refl, subst, arith}
use Rattle.std.proofs.lemmas.Bool.{cases_Bool, ltb-true, leb-true}
use Rattle.x224_tpdu.specs.declared.fault.TpFault.{TpFault}
use Rattle.x224_tpdu.specs.declared.fault.TpFault.TheVariants.{Code, Value, UserData}
use Rattle.x224_tpdu.specs.declared.kind.Kind.{Kind}
use Rattle.x224_tpdu.specs.declared.kind.Kind.TheVariants.{Cr, Cc, Dr, Dc, Dt, Ak, Er}
use Rattle.x224_tpdu.specs.Kinds.{kind_of_tpdu_code, least_user, most_user}
use Rattle.x224_tpdu.specs.Parameters.{parameters_in, size_octet}
use Rattle.x224_tpdu.specs.Spelling.{TransportPdu}
use Rattle.x224_tpdu.specs.Spellings.{NamesSize, IsSize}
use Rattle.x224_tpdu.specs.Faults.{Layout, layout_of, parameter_part, rule_1, rule_2, rule_3, rule_4, rule_5, rule_6, rule_7, rule_8, kind_rules, first_of, size_fault, number_fault, user_fault, first_fault}
use Rattle.x224_tpdu.specs.Function.{size_of, value_by, tpdu_of_faultless_octets, fault_or, reading}
use Rattle.x224_tpdu.specs.ReadingLaws.{IsInRange}
use Rattle.x224_tpdu.proofs.RoundTrip.{named_is_size}

-- an answer without a fault
pub fault_or_ok : (fault : Option TpFault) (value p : TransportPdu) → fault_or fault value ≡ Ok p → (fault ≡ None) × (value ≡ p)
fault_or_ok None value p e = (refl, cc)
fault_or_ok (Some fault) value p e = absurd cc

-- where no rule is broken, the first isn't, nor those behind it
pub first_kept : (rule : Option TpFault) (behind : List (Option TpFault)) → first_of (rule ∷ behind) ≡ None → (rule ≡ None) × (first_of behind ≡ None)
first_kept None behind e = (refl, e)
first_kept (Some fault) behind e = absurd cc

-- the rules that depend on the kind
pub record KeepsAll (kind : Kind) (c : Layout) : Type 0 where
  pub keeps_4 : rule_4 kind c ≡ None
  pub keeps_5 : rule_5 kind c ≡ None
  pub keeps_6 : rule_6 kind c ≡ None
  pub keeps_7 : rule_7 kind c ≡ None
  pub keeps_8 : rule_8 kind c ≡ None

pub all_kept : (kind : Kind) (c : Layout) → first_of (kind_rules (Some kind) c) ≡ None → KeepsAll kind c
all_kept kind c e =
    let a = first_kept (rule_4 kind c) (rule_5 kind c ∷ rule_6 kind c ∷ rule_7 kind c ∷ rule_8 kind c ∷ []) e in
    let b = first_kept (rule_5 kind c) (rule_6 kind c ∷ rule_7 kind c ∷ rule_8 kind c ∷ []) a.1 in
    let d = first_kept (rule_6 kind c) (rule_7 kind c ∷ rule_8 kind c ∷ []) b.1 in
    let f = first_kept (rule_7 kind c) (rule_8 kind c ∷ []) d.1 in
    let g = first_kept (rule_8 kind c) [] f.1 in
    record { keeps_4 = a.0; keeps_5 = b.0; keeps_6 = d.0; keeps_7 = f.0; keeps_8 = g.0 }

-- user data that keep rule 8 are within their bounds
pub user_within : (kind : Kind) (user : List ℕ) → user_fault kind user ≡ None → (least_user kind ≤ length user) × (length user ≤ most_user kind)
user_within kind user e =
    elim (cases_Bool (nat_le (least_user kind) (length user))) [
      | inl least ↦
          elim (cases_Bool (nat_le (length user) (most_user kind))) [
            | inl most ↦ (leb-true _ _ least, leb-true _ _ most)
            | inr f ↦ (let g : user_fault kind user ≡ Some (UserData (most_user kind) (length user)) = rw (least, f) refl in absurd (broken _ _ e g))
          ]
      | inr f ↦ (let g : user_fault kind user ≡ Some (UserData (most_user kind) (length user)) = rw f refl in absurd (broken _ _ e g))
    ]
  where
    broken : (o : Option TpFault) (fault : TpFault) → o ≡ None → o ≡ Some fault → ⊥
    broken o fault none some = cc

-- a size that keeps rule 7 is one that can be named
pub size_within : (octet : Option ℕ) → size_fault octet ≡ None → NamesSize octet (size_of octet)
size_within None e = refl
size_within (Some k) e =
    elim (cases_Bool (nat_le 7 k)) [
      | inl least ↦
          elim (cases_Bool (nat_le k 13)) [
            | inl most ↦ (leb-true _ _ least, leb-true _ _ most, refl)
            | inr f ↦ (let g : size_fault (Some k) ≡ Some (Value 0xC0 k) = rw (least, f) refl in absurd (broken _ _ e g))
          ]
      | inr f ↦ (let g : size_fault (Some k) ≡ Some (Value 0xC0 k) = rw f refl in absurd (broken _ _ e g))
    ]
  where
    broken : (o : Option TpFault) (fault : TpFault) → o ≡ None → o ≡ Some fault → ⊥
    broken o fault none some = cc

pub number_within : (n : ℕ) → number_fault n ≡ None → n < 128
number_within n e =
    elim (cases_Bool (nat_lt n 128)) [
      | inl below ↦ ltb-true _ _ below
      | inr f ↦ (let g : number_fault n ≡ Some (Value 0x60 n) = rw f refl in absurd cc)
    ]

named_size : (octet : Option ℕ) → size_fault octet ≡ None → IsSize (size_of octet)
named_size octet e = named_is_size octet (size_of octet) (size_within octet e)

-- the octet of the TPDU size among the parameters of CR or CC
abbrev size_octet_in : Layout → Option ℕ
size_octet_in c = size_octet (parameters_in (parameter_part Cr c)).0

kind_within : (kind : Kind) (c : Layout) → KeepsAll kind c → IsInRange (value_by (Some kind) c)
kind_within Cr c k =
    let user = user_within Cr c.user k.keeps_8 in
    ((omega arith, named_size (size_octet_in c) k.keeps_7), user.0, user.1)
kind_within Cc c k =
    let user = user_within Cc c.user k.keeps_8 in
    ((omega arith, named_size (size_octet_in c) k.keeps_7), user.0, user.1)
kind_within Dr c k =
    let user = user_within Dr c.user k.keeps_8 in
    (tt, user.0, user.1)
kind_within Dc c k = (tt, omega arith, omega arith)
kind_within Dt c k =
    let user = user_within Dt c.user k.keeps_8 in
    (omega arith, user.0, user.1)
kind_within Ak c k = ((omega arith, number_within (get_or c.fields 2 0) k.keeps_7), omega arith, omega arith)
kind_within Er c k = (tt, omega arith, omega arith)

value_within : (kind : Option Kind) (c : Layout) → is_some kind ≡ true → first_of (kind_rules kind c) ≡ None → IsInRange (value_by kind c)
value_within None c some e = absurd cc
value_within (Some kind) c some e = kind_within kind c (all_kept kind c e)

pub has_kind : (c : Layout) → rule_3 c ≡ None → is_some (kind_of_tpdu_code c.code) ≡ true
has_kind c e =
    elim (cases_Bool (is_some (kind_of_tpdu_code c.code))) [
      | inl some ↦ some
      | inr f ↦ (let g : rule_3 c ≡ Some (Code c.code) = rw f refl in absurd cc)
    ]

pub reading_is_in_range : (octets : List ℕ) (p : TransportPdu) → reading octets ≡ Ok p → IsInRange p
unfolding reading
reading_is_in_range octets p e =
    let c : Layout = layout_of octets in
    let found = fault_or_ok (first_fault octets) (tpdu_of_faultless_octets octets) p e in
    let a = first_kept (rule_1 octets) (rule_2 c ∷ rule_3 c ∷ kind_rules (kind_of_tpdu_code c.code) c) found.0 in
    let b = first_kept (rule_2 c) (rule_3 c ∷ kind_rules (kind_of_tpdu_code c.code) c) a.1 in
    let d = first_kept (rule_3 c) (kind_rules (kind_of_tpdu_code c.code) c) b.1 in
    subst (λ (q : TransportPdu). IsInRange q) found.1 (value_within (kind_of_tpdu_code c.code) c (has_kind c d.0) d.1)
