-- Representation: what the private functions that read the parts of a TPDU promise; no claim rests on it.
use Rattle.std.specs.Prelude.{ℕ, ◌≡◌, ◌+◌, ◌<◌, ◌^◌, List, [], ◌∷◌, ◌++◌, length, Option, Some, None, Bool, true, false, Result, Err, MatchResult}
use Rattle.x224_tpdu.specs.declared.fault.TpFault.{TpFault}
use Rattle.x224_tpdu.specs.declared.fault.TpFault.TheVariants.{Code}
use Rattle.er_base.specs.Octets.{two}
use Rattle.x224_tpdu.specs.declared.kind.Kind.{Kind}
use Rattle.x224_tpdu.specs.declared.kind.Kind.TheVariants.{Cr, Dc, Dt, Ak}
use Rattle.x224_tpdu.specs.declared.parts.Parts.{Parts}
use Rattle.x224_tpdu.specs.declared.tpdu.Tpdu.{Tpdu}
use Rattle.x224_tpdu.specs.Kinds.{kind_of_tpdu_code}
use Rattle.x224_tpdu.specs.Parameters.{Parameter, parameters_in, first_refused, size_octet, parameter_octets}
use Rattle.x224_tpdu.specs.Spelling.{TransportPdu, user_in, header_without_length_indicator}
use Rattle.x224_tpdu.specs.Spellings.{pdu_of, kind_in, FitsTpduFields, HasParameters}
use Rattle.x224_tpdu.specs.Faults.{Layout, layout_of, rule_1, rule_2, rule_4, rule_5, kind_rules, first_of, parameter_part, part_fault}

-- the parts as the rules speak of them
abbrev pub layout_in : Parts → Layout
layout_in parts = record {
  found = parts.found;
  li = parts.li;
  code = parts.code;
  fields = parts.fields.now;
  user = parts.user.now;
}

-- the length indicator counts the code and the fields
abbrev pub IsCounted : Layout → Type 0
IsCounted c = c.li ≡ length c.fields + 1

-- octets that keep the rules 1 and 2 are these parts
pub record IsLayout (octets : List ℕ) (c : Layout) : Type 0 where
  pub is : c ≡ layout_of octets
  pub whole : octets ≡ c.li ∷ c.code ∷ c.fields ++ c.user
  pub counted : IsCounted c
  pub below_ff : c.li < 0xFF
  pub empty : rule_1 octets ≡ None
  pub length_is : rule_2 c ≡ None

-- the parameters of a header, where its kind has them
abbrev pub parameters_of : Kind → Layout → List Parameter
parameters_of Dc c = []
parameters_of Dt c = []
parameters_of Ak c = []
parameters_of kind c = (parameters_in (parameter_part kind c)).0

-- the parts are those of a spelling of this TPDU
pub record ArePartsOfTpdu (kind : Kind) (c : Layout) (p : TransportPdu) : Type 0 where
  pub kind_is : kind_in p ≡ kind
  pub fits : FitsTpduFields p
  pub may_stand : HasParameters p (parameters_of kind c)
  pub header_is : c.code ∷ c.fields ≡ header_without_length_indicator p (parameters_of kind c)
  pub user_is : c.user ≡ user_in p

-- parts of this kind that keep the rules 1 to 3 were read
abbrev pub ReadsKind : Kind → Layout → Result Tpdu TpFault → Type 0
ReadsKind kind c result =
    MatchResult result (λ tpdu. ArePartsOfTpdu kind c (pdu_of tpdu)) (λ fault. first_of (kind_rules (Some kind) c) ≡ Some fault)

-- octets are made of whole parameters that may stand in this kind
pub record HasWholeParameters (kind : Kind) (part : List ℕ) : Type 0 where
  pub none_refused : first_refused kind false (parameters_in part).0 ≡ None
  pub spelled_so : part ≡ parameter_octets (parameters_in part).0
  pub passes : part_fault kind part ≡ None

-- the first TPDU size, where one was passed or else stands in what is left
abbrev pub size_behind : Bool → Option ℕ → List Parameter → Option ℕ
size_behind true octet rest = octet
size_behind false octet rest = size_octet rest

-- octets begin with this parameter, and the octets `after` follow it
pub record BeginsWithParameter (octets : List ℕ) (code : ℕ) (value after : List ℕ) : Type 0 where
  pub parameters : parameters_in octets ≡ (record { code = code; value = value } ∷ (parameters_in after).0, (parameters_in after).1)
  pub shorter : length after < length octets

-- the code names this kind, and the length indicator counts
pub record IsOfKind (kind : Kind) (c : Layout) : Type 0 where
  pub named : kind_of_tpdu_code c.code ≡ Some kind
  pub counted : IsCounted c

-- the fields of CR or CC of class 2
pub record HasConnectionFields (c : Layout) (dst src : ℕ) (part : List ℕ) : Type 0 where
  pub fields_are : c.fields ≡ two dst ++ two src ++ 0x20 ∷ part
  pub dst_fits : dst < 2 ^ 16
  pub src_fits : src < 2 ^ 16
  pub part_is : parameter_part Cr c ≡ part
  pub length_is : rule_4 Cr c ≡ None
  pub class_is : rule_5 Cr c ≡ None

-- parts that keep the rules 1 and 2 were read
abbrev pub ReadsBy : Option Kind → Layout → Result Tpdu TpFault → Type 0
ReadsBy None c result = result ≡ Err (Code c.code)
ReadsBy (Some kind) c result = ReadsKind kind c result
