-- With a session the MAC of an SaPDU in its place decides.
use Rattle.std.proofs.Common.{◌≡◌, ◌∙◌, ℕ, Bool, true, false, List, [], ◌∷◌, None, Ok, refl}
use Rattle.std.specs.Prelude.{◌==◌, nat_le}
use Rattle.std.proofs.lemmas.Bool.{eq-eqb, eqb-true, le-leb}
use Rattle.er_base.specs.declared.side.Side.{Side}
use Rattle.er_base.specs.declared.side.Side.TheVariants.{E, R}
use Rattle.cbc_mac.specs.Mac.{mac_of}
use Rattle.sapdu.specs.Spelling.{SafetyPdu, Au2, Au3, Ar, Dt}
use Rattle.safety_automaton.specs.Safety.{au2_text, au3_text, ar_text, message_text}
use Rattle.safety_pair_laws.specs.Openings.{flag_from}
use Rattle.tap_model.specs.declared.audit_verdict.AuditVerdict.{AuditVerdict}
use Rattle.tap_model.specs.declared.audit_verdict.AuditVerdict.TheVariants.{Good, Identity, Unexpected, Mac}
use Rattle.tap_model.specs.Verdicts.{SafetySession, verdict_where_broken, receiver_of, first_verdict_of, audit_verdict_on_item}
use Rattle.tap_laws.specs.Macs.{known_with, MacDecides, MacsDecide}

-- ---- the verdict by the tests that are left: place, identity, MAC

abbrev by_tests : Bool → Bool → Bool → AuditVerdict
by_tests a b c =
    first_verdict_of (None ∷ verdict_where_broken a Unexpected ∷ None ∷ verdict_where_broken b Identity ∷ None ∷ verdict_where_broken c Mac ∷ [])

good_by : (a b c : Bool) → a ≡ true → b ≡ true → c ≡ true → by_tests a b c ≡ Good
good_by a b c x y z = rw (x, y, z) refl

wrong_by : (a b c : Bool) → a ≡ true → b ≡ true → c ≡ false → by_tests a b c ≡ Mac
wrong_by a b c x y z = rw (x, y, z) refl

differs : (a b : ℕ) → (a ≡ b → ⊥) → (a == b) ≡ false
differs a b apart = by (a == b) refl
  where
    by : (t : Bool) → (a == b) ≡ t → (a == b) ≡ false
    by true e = absurd (apart (eqb-true a b e))
    by false e = e

-- one that is judged by such tests
decides : (engine rbc : ℕ) (s : SafetySession) (side : Side) (place : ℕ) (pdu : (mac : ℕ) → SafetyPdu) (text : List ℕ) (a b : Bool) → a ≡ true → b ≡ true
    → ((mac : ℕ) → audit_verdict_on_item (known_with engine rbc s) side place (Ok (pdu mac, flag_from side)) ≡ by_tests a b (mac == mac_of s.keys text))
    → MacDecides engine rbc s side place pdu text
decides engine rbc s side place pdu text a b x y is = record {
  good = λ mac e. is mac ∙ good_by a b (mac == mac_of s.keys text) x y (eq-eqb mac (mac_of s.keys text) e);
  wrong = λ mac apart. is mac ∙ wrong_by a b (mac == mac_of s.keys text) x y (differs mac (mac_of s.keys text) apart);
}

-- ---- of each kind

au2_is : (engine rbc ra : ℕ) (s : SafetySession) (mac : ℕ)
    → audit_verdict_on_item (known_with engine rbc s) R 0 (Ok (Au2 rbc 1 ra mac, true)) ≡ by_tests true (rbc == rbc) (mac == mac_of s.keys (au2_text true engine rbc 1 ra s.rb))
unfolding audit_verdict_on_item au2_text
au2_is engine rbc ra s mac = refl

au3_is : (engine rbc : ℕ) (s : SafetySession) (mac : ℕ)
    → audit_verdict_on_item (known_with engine rbc s) E 1 (Ok (Au3 mac, false)) ≡ by_tests true true (mac == mac_of s.keys (au3_text false rbc s.ra s.rb))
unfolding audit_verdict_on_item au3_text
au3_is engine rbc s mac = refl

ar_is : (engine rbc : ℕ) (s : SafetySession) (mac : ℕ)
    → audit_verdict_on_item (known_with engine rbc s) R 1 (Ok (Ar mac, true)) ≡ by_tests true true (mac == mac_of s.keys (ar_text true engine))
unfolding audit_verdict_on_item ar_text
ar_is engine rbc s mac = refl

dt_is : (engine rbc : ℕ) (s : SafetySession) (side : Side) (place : ℕ) (user : List ℕ) (mac : ℕ)
    → audit_verdict_on_item (known_with engine rbc s) side place (Ok (Dt user mac, flag_from side))
    ≡ by_tests (nat_le 2 place) true (mac == mac_of s.keys (message_text (flag_from side) (receiver_of (known_with engine rbc s) side) user))
unfolding audit_verdict_on_item message_text
dt_is engine rbc s E place user mac = refl
dt_is engine rbc s R place user mac = refl

pub macs_decide : MacsDecide
macs_decide = record {
  au2 = λ engine rbc ra s.
      decides engine rbc s R 0 (λ mac. Au2 rbc 1 ra mac) (au2_text true engine rbc 1 ra s.rb) true (rbc == rbc) refl (eq-eqb rbc rbc refl) (au2_is engine rbc ra s);
  au3 = λ engine rbc s. decides engine rbc s E 1 (λ mac. Au3 mac) (au3_text false rbc s.ra s.rb) true true refl refl (au3_is engine rbc s);
  ar = λ engine rbc s. decides engine rbc s R 1 (λ mac. Ar mac) (ar_text true engine) true true refl refl (ar_is engine rbc s);
  dt = λ engine rbc s side place late user.
      decides engine rbc s side place (λ mac. Dt user mac) (message_text (flag_from side) (receiver_of (known_with engine rbc s) side) user) (nat_le 2 place) true
      (le-leb 2 place late) refl (dt_is engine rbc s side place user);
}
