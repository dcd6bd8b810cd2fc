-- What is read was spelled.
use Rattle.std.proofs.Common.{arith, ◌≡◌, ℕ, zero, suc, ◌+◌, ◌-◌, ◌<◌, ◌≤◌, ◌%◌, ◌^◌, ◌==◌, inl, inr, Bool, nat_lt, List, [], ◌∷◌, ◌++◌, length, take, drop, get_or, refl, ap, sym, ◌∙◌, Option, Some, None, Ok, Err, take-append-drop, length-drop, length-take}
use Rattle.std.proofs.lemmas.Bool.{cases_Bool, eqb-true, eqb-false, ltb-false}
use Rattle.std.proofs.lemmas.List.{drop-drop}
use Rattle.er_base.specs.Octets.{three, eight, number_in, AreOctets}
use Rattle.sapdu.specs.declared.fault.SaFault.{SaFault}
use Rattle.sapdu.specs.declared.fault.SaFault.TheVariants.{Short, Long}
use Rattle.sapdu.specs.declared.kind.SaKind.{SaKind}
use Rattle.sapdu.specs.declared.kind.SaKind.TheVariants as kind
use Rattle.sapdu.specs.Kinds.{SapduKindRow, row_of_sapdu_kind, kind_among, kind_with, kinds}
use Rattle.sapdu.specs.Spelling.{SafetyPdu, df, kind_of, body, spelling, fields_of, fault_of_length, read_behind}
use Rattle.sapdu.specs.SpellingLaws.{Fits, IsSpelledBack}
use Rattle.sapdu.specs.Representation.{IsBody, IsLong}
use Rattle.sapdu.proofs.Facts.{Facts, PartFacts}
use Rattle.sapdu.proofs.ReadBack.{value_or}

-- ---- the parts of what is read

-- a kind that was found, a length that it has, and the fields by their places
record IsRead (found : Option SaKind) (octet : ℕ) (rest : List ℕ) (pdu : SafetyPdu) (flag : Bool) : Type 0 where
  pub one : SaKind
  pub kind : found ≡ Some one
  pub long : fault_of_length (row_of_sapdu_kind one) (suc (length rest)) ≡ None
  pub fields : fields_of one rest ≡ pdu
  pub flagged : (octet % 2 == 1) ≡ flag

behind : (one : SaKind) (fault : Option SaFault) (octet : ℕ) (rest : List ℕ) (pdu : SafetyPdu) (flag : Bool)
    → fault_of_length (row_of_sapdu_kind one) (suc (length rest)) ≡ fault
    → read_behind octet (Some one) rest ≡ Ok (pdu, flag) → IsRead (Some one) octet rest pdu flag
unfolding value_or
behind one (Some fault) octet rest pdu flag is read =
    let bad : Err fault ≡ Ok (pdu, flag) = rw is at read in absurd (cc)
behind one None octet rest pdu flag is read =
    let good : Ok (fields_of one rest, (octet % 2 == 1)) ≡ Ok (pdu, flag) = rw is at read in
    let pair : (fields_of one rest, (octet % 2 == 1)) ≡ (pdu, flag) = ap (value_or (pdu, flag)) good in
    record {
      one = one;
      kind = refl;
      long = is;
      fields = ap (λ (r : SafetyPdu × Bool). r.0) pair;
      flagged = ap (λ (r : SafetyPdu × Bool). r.1) pair;
    }

read_parts : (found : Option SaKind) (octet : ℕ) (rest : List ℕ) (pdu : SafetyPdu) (flag : Bool)
    → read_behind octet found rest ≡ Ok (pdu, flag) → IsRead found octet rest pdu flag
read_parts None octet rest pdu flag read = absurd (cc)
read_parts (Some one) octet rest pdu flag read = behind one (fault_of_length (row_of_sapdu_kind one) (suc (length rest))) octet rest pdu flag refl read

-- a length that is no fault is one that the row allows
long_of : (of : SapduKindRow) (found : ℕ) → fault_of_length of found ≡ None → IsLong of found
long_of of found e =
    elim (cases_Bool (nat_lt found of.least)) [
      | inl short ↦ let bad : Some (Short of.least found) ≡ None = rw short at e in absurd (cc)
      | inr enough ↦
          elim (cases_Bool (nat_lt of.greatest found)) [
            | inl long ↦ let bad : Some (Long of.greatest found) ≡ None = rw (enough, long) at e in absurd (cc)
            | inr good ↦ (ltb-false _ _ enough, ltb-false _ _ good)
          ]
    ]

-- the kind that is found among some has this header octet
header_of : (some : List SaKind) (octet : ℕ) (one : SaKind) → kind_among some octet ≡ Some one → octet - octet % 2 ≡ (row_of_sapdu_kind one).header
header_of [] octet one e = absurd (cc)
header_of (first ∷ others) octet one e =
    elim (cases_Bool (octet - octet % 2 == (row_of_sapdu_kind first).header)) [
      | inl here ↦
          let found : Some first ≡ Some one = rw here at e in
          let same : first ≡ one = cc in
          eqb-true _ _ here ∙ ap (λ k. (row_of_sapdu_kind k).header) same
      | inr other ↦ header_of others octet one (rw other at e)
    ]

-- with the flag that its last bit tells
with_flag : (octet head : ℕ) → octet - octet % 2 ≡ head → octet ≡ head + df (octet % 2 == 1)
with_flag octet head e =
    elim (cases_Bool (octet % 2 == 1)) [
      | inl odd ↦ let one : octet % 2 ≡ 1 = eqb-true _ _ odd in rw odd (omega arith)
      | inr even ↦ let other : octet % 2 ≡ 1 → ⊥ = eqb-false _ _ even in rw even (omega arith)
    ]

-- ---- the fields of each kind

-- the parts of octets are octets
record AreParts (n : ℕ) (octets : List ℕ) : Type 0 where
  pub front : AreOctets (take n octets)
  pub back : AreOctets (drop n octets)

parted : PartFacts → (n : ℕ) (octets : List ℕ) → AreOctets octets → AreParts n octets
parted facts n octets all =
    let cut = facts.parts (take n octets) (drop n octets) (rw (take-append-drop n octets) all) in record { front = cut.0; back = cut.1 }

three_octets : (a b c : ℕ) → a < 256 → b < 256 → c < 256 → AreOctets (a ∷ b ∷ c ∷ [])
three_octets a b c small small' small'' zero = small
three_octets a b c small small' small'' (suc zero) = small'
three_octets a b c small small' small'' (suc (suc zero)) = small''
three_octets a b c small small' small'' (suc (suc (suc k))) = omega arith

-- four octets in front: a number in three, and one
four_front : Facts → (rest : List ℕ) → AreOctets rest → 4 ≤ length rest
    → (number_in (take 3 rest) < 2 ^ 24) × (rest ≡ three (number_in (take 3 rest)) ++ get_or rest 3 0 ∷ drop 4 rest)
four_front facts [] all long = absurd (omega arith)
four_front facts (a ∷ []) all long = absurd (omega arith)
four_front facts (a ∷ b ∷ []) all long = absurd (omega arith)
four_front facts (a ∷ b ∷ c ∷ []) all long = absurd (omega arith)
four_front facts (a ∷ b ∷ c ∷ d ∷ rest) all long =
    let number : AreOctets (a ∷ b ∷ c ∷ []) = three_octets a b c (all 0) (all 1) (all 2) in
    let is = facts.three.back (a ∷ b ∷ c ∷ []) number refl in
    (is.0, ap (λ (l : List ℕ). l ++ d ∷ rest) (sym is.1))

-- sixteen octets are those of two numbers
two_numbers : Facts → PartFacts → (rest : List ℕ) → AreOctets rest → length rest ≡ 16
    → (number_in (take 8 rest) < 2 ^ 64) × (number_in (drop 8 rest) < 2 ^ 64) × (rest ≡ eight (number_in (take 8 rest)) ++ eight (number_in (drop 8 rest)))
two_numbers facts part rest all long =
    let cut = parted part 8 rest all in
    let front = facts.eight.back (take 8 rest) cut.front (omega (arith, length-take 8 rest)) in
    let back = facts.eight.back (drop 8 rest) cut.back (omega (arith, length-drop 8 rest)) in
    (front.0, back.0, rw (front.1, back.1) (sym (take-append-drop 8 rest)))

di_body : (rest : List ℕ) → length rest ≡ 2 → rest ≡ get_or rest 0 0 ∷ get_or rest 1 0 ∷ []
di_body [] long = absurd (omega arith)
di_body (a ∷ []) long = absurd (omega arith)
di_body (a ∷ b ∷ []) long = refl
di_body (a ∷ b ∷ c ∷ rest) long = absurd (omega arith)

-- of a DT with n user octets
dt_body : Facts → PartFacts → (rest : List ℕ) (n : ℕ) → AreOctets rest → length rest ≡ n + 8
    → AreOctets (take n rest) × (number_in (drop n rest) < 2 ^ 64) × (rest ≡ take n rest ++ eight (number_in (drop n rest)))
dt_body facts part rest n all long =
    let cut = parted part n rest all in
    let mac = facts.eight.back (drop n rest) cut.back (omega (arith, length-drop n rest)) in
    (cut.front, mac.0, rw mac.1 (sym (take-append-drop n rest)))

-- the fields of a kind by their places fit, and are spelled by the octets
fields_spelled : Facts → PartFacts → (one : SaKind) (rest : List ℕ) → AreOctets rest → IsLong (row_of_sapdu_kind one) (suc (length rest))
    → IsBody one rest (fields_of one rest)
fields_spelled facts part kind.Au1 rest all long =
    let least = long.0 in
    let greatest = long.1 in
    let front = four_front facts rest all (omega arith) in
    let rb = facts.eight.back (drop 4 rest) (parted part 4 rest all).back (omega (arith, length-drop 4 rest)) in
    (refl, record { user = tt; octets = (front.0, all 3, rb.0) }, rw rb.1 front.1)
fields_spelled facts part kind.Au2 rest all long =
    let least = long.0 in
    let greatest = long.1 in
    let front = four_front facts rest all (omega arith) in
    let both = two_numbers facts part (drop 4 rest) (parted part 4 rest all).back (omega (arith, length-drop 4 rest)) in
    rw (← drop-drop 8 4 rest) (refl, record { user = tt; octets = (front.0, all 3, both.0, both.1) }, front.1 ∙ ap (λ (l : List ℕ). three (number_in (take 3 rest)) ++ get_or rest 3 0 ∷ l) both.2)
fields_spelled facts part kind.Au3 rest all long =
    let least = long.0 in
    let greatest = long.1 in
    let mac = facts.eight.back rest all (omega arith) in (refl, record { user = tt; octets = mac.0 }, sym mac.1)
fields_spelled facts part kind.Ar rest all long =
    let least = long.0 in
    let greatest = long.1 in
    let mac = facts.eight.back rest all (omega arith) in (refl, record { user = tt; octets = mac.0 }, sym mac.1)
fields_spelled facts part kind.Dt rest all long =
    let least = long.0 in
    let greatest = long.1 in
    let is = dt_body facts part rest (length rest - 8) all (omega arith) in
    let user : length (take (length rest - 8) rest) ≡ length rest - 8 = omega (arith, length-take (length rest - 8) rest) in
    (refl, record { user = (omega arith, omega arith); octets = (is.0, is.1) }, is.2)
fields_spelled facts part kind.Di rest all long =
    let least = long.0 in
    let greatest = long.1 in
    (refl, record { user = tt; octets = (all 0, all 1) }, di_body rest (omega arith))

-- a header octet and a body are a spelling
spelled_by : (octet : ℕ) (rest : List ℕ) (one : SaKind) (pdu : SafetyPdu) (flag : Bool) → kind_of pdu ≡ one
    → octet ≡ (row_of_sapdu_kind one).header + df flag → rest ≡ body pdu → octet ∷ rest ≡ spelling pdu flag
spelled_by octet rest one pdu flag same head is =
    let first : octet ≡ (row_of_sapdu_kind (kind_of pdu)).header + df flag = head ∙ ap (λ (k : SaKind). (row_of_sapdu_kind k).header + df flag) (sym same) in
    ap (λ (o : ℕ). o ∷ rest) first ∙ ap (λ (l : List ℕ). ((row_of_sapdu_kind (kind_of pdu)).header + df flag) ∷ l) is

-- what is spelled by octets, by other names
moved : (octets : List ℕ) (p q : SafetyPdu) (f g : Bool) → p ≡ q → f ≡ g → Fits p × (octets ≡ spelling p f) → Fits q × (octets ≡ spelling q g)
moved octets p q f g same flag is = rw (← same, ← flag) is

-- ---- the law

-- octets that are read are the spelling of what was read
pub spelling_read : Facts → PartFacts → IsSpelledBack
spelling_read facts part [] pdu flag all read = absurd (cc)
spelling_read facts part (octet ∷ rest) pdu flag all read =
    let is = read_parts (kind_with octet) octet rest pdu flag read in
    let body_is = fields_spelled facts part is.one rest (λ k. all (suc k)) (long_of (row_of_sapdu_kind is.one) (suc (length rest)) is.long) in
    let head : octet ≡ (row_of_sapdu_kind is.one).header + df (octet % 2 == 1) = with_flag octet (row_of_sapdu_kind is.one).header (header_of kinds octet is.one is.kind) in
    let here : Fits (fields_of is.one rest) × (octet ∷ rest ≡ spelling (fields_of is.one rest) (octet % 2 == 1)) =
    (body_is.1, spelled_by octet rest is.one (fields_of is.one rest) (octet % 2 == 1) body_is.0 head body_is.2)
    in
    moved (octet ∷ rest) (fields_of is.one rest) pdu (octet % 2 == 1) flag is.fields is.flagged here
