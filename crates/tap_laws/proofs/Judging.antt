-- What an audit finds good of texts that an end was given.
use Rattle.std.proofs.Common.{◌≡◌, ◌∙◌, ◌≤◌, ℕ, ◌+◌, Bool, true, false, List, [], ◌∷◌, ◌++◌, length, Option, Some, None, Ok, Err, refl, sym, ap, ap₂, arith}
use Rattle.std.specs.Prelude.{◌==◌, nat_le}
use Rattle.std.proofs.lemmas.Bool.{eq-eqb, le-leb}
use Rattle.er_base.specs.declared.side.Side.{Side}
use Rattle.er_base.specs.declared.side.Side.TheVariants.{E, R}
use Rattle.cbc_mac.specs.Mac.{mac_of}
use Rattle.sapdu.specs.Spelling.{Au1, Au2, Au3, Ar, Dt, Di, read_of}
use Rattle.sapdu.specs.Sealed.{sealed_text}
use Rattle.safety_automaton.specs.Safety.{same_flag, message_text}
use Rattle.tap_model.specs.declared.audit_verdict.AuditVerdict.{AuditVerdict}
use Rattle.tap_model.specs.declared.audit_verdict.AuditVerdict.TheVariants.{Good, Malformed, Flag, Unexpected, Feature, Identity, NoKey, Mac}
use Rattle.tap_model.specs.Verdicts.{SafetySession, Known, Read, verdict_where_broken, side_flag, receiver_of, first_verdict_of, audit_verdict_on_item, judged_from, user_read, good_user, good_texts}
use Rattle.tap_laws.specs.Progress.{AreMessages}

-- ---- the first two items are no good DTs

pub no_user : (read : Read) (v : AuditVerdict) → user_read read ≡ [] → good_user read v ≡ []
no_user read Good e = e
no_user read Malformed e = refl
no_user read Flag e = refl
no_user read Unexpected e = refl
no_user read Feature e = refl
no_user read Identity e = refl
no_user read NoKey e = refl
no_user read Mac e = refl

not_expected : (read : Read) (b : Bool) (more : List (Option AuditVerdict)) → good_user read (first_verdict_of (verdict_where_broken b Flag ∷ verdict_where_broken false Unexpected ∷ more)) ≡ []
not_expected read true more = refl
not_expected read false more = refl

early : (known : Known) (side : Side) (place : ℕ) → nat_le 2 place ≡ false → (read : Read) → good_user read (audit_verdict_on_item known side place read) ≡ []
unfolding audit_verdict_on_item
early known side place e (Err fault) = refl
early known side place e (Ok (Au1 id feature rb, flag)) = no_user (Ok (Au1 id feature rb, flag)) _ refl
early known side place e (Ok (Au2 id feature ra mac, flag)) = no_user (Ok (Au2 id feature ra mac, flag)) _ refl
early known side place e (Ok (Au3 mac, flag)) = no_user (Ok (Au3 mac, flag)) _ refl
early known side place e (Ok (Ar mac, flag)) = no_user (Ok (Ar mac, flag)) _ refl
early known E place e (Ok (Dt user mac, flag)) = rw e (not_expected (Ok (Dt user mac, flag)) (same_flag flag (side_flag E)) _)
early known R place e (Ok (Dt user mac, flag)) = rw e (not_expected (Ok (Dt user mac, flag)) (same_flag flag (side_flag R)) _)
early known side place e (Ok (Di reason sub, flag)) = no_user (Ok (Di reason sub, flag)) _ refl

-- one item, and those behind it
judged_more : (known : Known) (side : Side) (place : ℕ) (item : List ℕ) (rest : List (List ℕ))
    → good_texts (judged_from known side place (item ∷ rest)) ≡ good_user (read_of item) (audit_verdict_on_item known side place (read_of item)) ++ good_texts (judged_from known side (place + 1) rest)
unfolding judged_from good_texts
judged_more known side place item rest = refl

pub none_judged : (known : Known) (side : Side) (place : ℕ) → good_texts (judged_from known side place []) ≡ []
unfolding judged_from good_texts
none_judged known side place = refl

pub first_judged : (known : Known) (side : Side) (item : List ℕ) (rest : List (List ℕ)) → good_texts (judged_from known side 0 (item ∷ rest)) ≡ good_texts (judged_from known side 1 rest)
first_judged known side item rest =
    judged_more known side 0 item rest ∙ ap (λ (z : List (List ℕ)). z ++ good_texts (judged_from known side 1 rest)) (early known side 0 refl (read_of item))

pub second_judged : (known : Known) (side : Side) (item : List ℕ) (rest : List (List ℕ)) → good_texts (judged_from known side 1 (item ∷ rest)) ≡ good_texts (judged_from known side 2 rest)
second_judged known side item rest =
    judged_more known side 1 item rest ∙ ap (λ (z : List (List ℕ)). z ++ good_texts (judged_from known side 2 rest)) (early known side 1 refl (read_of item))

-- ---- messages under the session keys are good

same_flags : (b : Bool) → same_flag b b ≡ true
same_flags true = refl
same_flags false = refl

-- the sealed text of a DT has neither its MAC nor the random numbers
pub sealed_is : (user : List ℕ) (mac : ℕ) (flag : Bool) (me ra rb : ℕ) → sealed_text (Dt user mac) flag me ra rb ≡ message_text flag me user
unfolding message_text
sealed_is user mac flag me ra rb = refl

tests_pass : (a b c : Bool) → a ≡ true → b ≡ true → c ≡ true
    → first_verdict_of (verdict_where_broken a Flag ∷ verdict_where_broken b Unexpected ∷ None ∷ None ∷ None ∷ verdict_where_broken c Mac ∷ []) ≡ Good
tests_pass a b c x y z = rw (x, y, z) refl

module _ (known : Known) (s : SafetySession) where
  abbrev with_session : Known
  with_session = record known { session = Some s }

  good_dt : (side : Side) (place : ℕ) (user : List ℕ) (mac : ℕ) → nat_le 2 place ≡ true → mac ≡ mac_of s.keys (message_text (side_flag side) (receiver_of known side) user)
      → audit_verdict_on_item with_session side place (Ok (Dt user mac, side_flag side)) ≡ Good
  unfolding audit_verdict_on_item
  good_dt E place user mac late e =
      tests_pass (same_flag false false) (nat_le 2 place) (mac == mac_of s.keys (sealed_text (Dt user mac) false known.rbc s.ra s.rb)) refl late
      (eq-eqb mac (mac_of s.keys (sealed_text (Dt user mac) false known.rbc s.ra s.rb)) (e ∙ ap (λ (t : List ℕ). mac_of s.keys t) (sym (sealed_is user mac false known.rbc s.ra s.rb))))
  good_dt R place user mac late e =
      tests_pass (same_flag true true) (nat_le 2 place) (mac == mac_of s.keys (sealed_text (Dt user mac) true known.engine s.ra s.rb)) refl late
      (eq-eqb mac (mac_of s.keys (sealed_text (Dt user mac) true known.engine s.ra s.rb)) (e ∙ ap (λ (t : List ℕ). mac_of s.keys t) (sym (sealed_is user mac true known.engine s.ra s.rb))))

module _ (known : Known) (s : SafetySession) (side : Side) where
  good_one : (place : ℕ) (text user : List ℕ) → nat_le 2 place ≡ true
      → read_of text ≡ Ok (Dt user (mac_of s.keys (message_text (side_flag side) (receiver_of known side) user)), side_flag side)
      → good_user (read_of text) (audit_verdict_on_item (with_session known s) side place (read_of text)) ≡ user ∷ []
  good_one place text user late e =
      let mac : ℕ = mac_of s.keys (message_text (side_flag side) (receiver_of known side) user) in
      let r : Read = Ok (Dt user mac, side_flag side) in
      ap (λ (read : Read). good_user read (audit_verdict_on_item (with_session known s) side place read)) e ∙ ap (λ (v : AuditVerdict). good_user r v) (good_dt known s side place user mac late refl)

  -- behind the first two places
  pub messages_good : (place : ℕ) (texts users rest : List (List ℕ)) → 2 ≤ place → AreMessages s.keys (side_flag side) (receiver_of known side) texts users
      → good_texts (judged_from (with_session known s) side place (texts ++ rest)) ≡ users ++ good_texts (judged_from (with_session known s) side (place + length texts) rest)
  messages_good place [] [] rest late h = ap (λ (n : ℕ). good_texts (judged_from (with_session known s) side n rest)) (omega arith)
  messages_good place [] (user ∷ users) rest late h = absurd h
  messages_good place (text ∷ texts) [] rest late h = absurd h
  messages_good place (text ∷ texts) (user ∷ users) rest late h =
      judged_more (with_session known s) side place text (texts ++ rest)
      ∙ ap₂ (λ (a b : List (List ℕ)). a ++ b) (good_one place text user (le-leb 2 place late) h.0)
      (messages_good (place + 1) texts users rest (omega (arith, late)) h.1
      ∙ ap (λ (n : ℕ). users ++ good_texts (judged_from (with_session known s) side n rest)) (let e : (place + 1) + length texts ≡ place + length (text ∷ texts) = omega arith in e))
