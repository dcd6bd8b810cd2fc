-- What is spelled is read back.
use Rattle.std.proofs.Common.{arith, ◌≡◌, ℕ, suc, ◌+◌, ◌-◌, ◌<◌, ◌%◌, ◌^◌, ◌==◌, Bool, true, false, List, ◌++◌, length, take, drop, refl, ap, sym, ◌∙◌, Some, None, Result, Ok, Err, length-append}
use Rattle.std.proofs.lemmas.Bool.{le-ltb}
use Rattle.std.proofs.lemmas.List.{take_at, drop_at}
use Rattle.er_base.specs.Octets.{eight, number_in}
use Rattle.sapdu.specs.declared.kind.SaKind.{SaKind}
use Rattle.sapdu.specs.declared.kind.SaKind.TheVariants as kind
use Rattle.sapdu.specs.declared.fault.SaFault.{SaFault}
use Rattle.sapdu.specs.Kinds.{SapduKindRow, row_of_sapdu_kind, kind_with}
use Rattle.sapdu.specs.Spelling.{SafetyPdu, Au1, Au2, Au3, Ar, Dt, Di, df, kind_of, body, fields_of, fault_of_length, read_of}
use Rattle.sapdu.specs.SpellingLaws.{Fits, HasUserOctets, IsReadBack, SpellsOne}
use Rattle.sapdu.specs.Representation.{IsLong}
use Rattle.sapdu.proofs.Facts.{Facts, number_in_front, number_in_back}

-- a header octet tells its kind
pub kind_read : (one : SaKind) (flag : Bool) → kind_with ((row_of_sapdu_kind one).header + df flag) ≡ Some one
kind_read kind.Au1 false = refl
kind_read kind.Au1 true = refl
kind_read kind.Au2 false = refl
kind_read kind.Au2 true = refl
kind_read kind.Au3 false = refl
kind_read kind.Au3 true = refl
kind_read kind.Ar false = refl
kind_read kind.Ar true = refl
kind_read kind.Dt false = refl
kind_read kind.Dt true = refl
kind_read kind.Di false = refl
kind_read kind.Di true = refl

-- and its flag
pub flag_read : (one : SaKind) (flag : Bool) → (((row_of_sapdu_kind one).header + df flag) % 2 == 1) ≡ flag
flag_read kind.Au1 false = refl
flag_read kind.Au1 true = refl
flag_read kind.Au2 false = refl
flag_read kind.Au2 true = refl
flag_read kind.Au3 false = refl
flag_read kind.Au3 true = refl
flag_read kind.Ar false = refl
flag_read kind.Ar true = refl
flag_read kind.Dt false = refl
flag_read kind.Dt true = refl
flag_read kind.Di false = refl
flag_read kind.Di true = refl

-- a length that the row allows is no fault
pub no_fault : (of : SapduKindRow) (found : ℕ) → IsLong of found → fault_of_length of found ≡ None
no_fault of found long = rw (le-ltb found of.least long.0, le-ltb of.greatest found long.1) refl

-- an SaPDU has as many octets as its kind
pub body_long : Facts → (pdu : SafetyPdu) → HasUserOctets pdu → IsLong (row_of_sapdu_kind (kind_of pdu)) (suc (length (body pdu)))
body_long facts (Au1 id feature rb) sized = (omega (arith, facts.eight.long rb), omega (arith, facts.eight.long rb))
body_long facts (Au2 id feature ra mac) sized =
    let both : length (eight ra ++ eight mac) ≡ 16 = omega (arith, length-append (eight ra) (eight mac), facts.eight.long ra, facts.eight.long mac) in
    (omega arith, omega arith)
body_long facts (Au3 mac) sized = (omega (arith, facts.eight.long mac), omega (arith, facts.eight.long mac))
body_long facts (Ar mac) sized = (omega (arith, facts.eight.long mac), omega (arith, facts.eight.long mac))
body_long facts (Dt user mac) sized =
    let both : length (user ++ eight mac) ≡ length user + 8 = omega (arith, length-append user (eight mac), facts.eight.long mac) in
    let some = sized.0 in
    let few = sized.1 in
    (omega arith, omega arith)
body_long facts (Di reason sub) sized = (omega arith, omega arith)

-- the user octets and the MAC of a DT, by their places
dt_fields : Facts → (user : List ℕ) (mac : ℕ) (n : ℕ) → mac < 2 ^ 64 → n ≡ length user
    → Dt (take n (user ++ eight mac)) (number_in (drop n (user ++ eight mac))) ≡ Dt user mac
dt_fields facts user mac n small long = rw (take_at user (eight mac) n (sym long), drop_at user (eight mac) n (sym long), facts.eight.number mac small) refl

-- the fields by their places are those that were spelled
pub fields_back : Facts → (pdu : SafetyPdu) → Fits pdu → fields_of (kind_of pdu) (body pdu) ≡ pdu
fields_back facts (Au1 id feature rb) fits = rw (facts.three.number id fits.octets.0, facts.eight.number rb fits.octets.2) refl
fields_back facts (Au2 id feature ra mac) fits =
    rw (facts.three.number id fits.octets.0, number_in_front facts ra (eight mac) fits.octets.2, number_in_back facts ra mac fits.octets.3) refl
fields_back facts (Au3 mac) fits = rw (facts.eight.number mac fits.octets) refl
fields_back facts (Ar mac) fits = rw (facts.eight.number mac fits.octets) refl
fields_back facts (Dt user mac) fits =
    let both : length (user ++ eight mac) ≡ length user + 8 = omega (arith, length-append user (eight mac), facts.eight.long mac) in
    dt_fields facts user mac (length (user ++ eight mac) - 8) fits.octets.1 (omega arith)
fields_back facts (Di reason sub) fits = refl

-- what is spelled is read back
pub read_spelling : Facts → IsReadBack
read_spelling facts pdu flag fits =
    rw (
      kind_read (kind_of pdu) flag,
      no_fault (row_of_sapdu_kind (kind_of pdu)) (suc (length (body pdu))) (body_long facts pdu fits.user),
      fields_back facts pdu fits,
      flag_read (kind_of pdu) flag,
    ) refl

-- the value of an answer, where it has one
unfoldable pub value_or : SafetyPdu × Bool → Result (SafetyPdu × Bool) SaFault → SafetyPdu × Bool
value_or other (Ok value) = value
value_or other (Err fault) = other

-- a list of octets spells at most one SaPDU
pub spelling_injective : IsReadBack → SpellsOne
unfolding value_or
spelling_injective reads p q f g first second same =
    let read : Ok (p, f) ≡ Ok (q, g) = sym (reads p f first) ∙ ap read_of same ∙ reads q g second in
    let pair : (p, f) ≡ (q, g) = ap (value_or (p, f)) read in
    (ap (λ (r : SafetyPdu × Bool). r.0) pair, ap (λ (r : SafetyPdu × Bool). r.1) pair)
