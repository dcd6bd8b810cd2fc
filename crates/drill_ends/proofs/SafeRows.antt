-- What a side of a safe connection tells of each row of the safety model.
use Rattle.std.proofs.Common.{◌≡◌, ℕ, ◌==◌, Bool, true, false, not, List, [], ◌++◌, length, refl, sym, ap, ◌∙◌, subst, Option, Some, None, Result, Ok, Err, if◌then◌else◌}
use Rattle.des_block.specs.declared.triple_key.TripleKey.{TripleKey}
use Rattle.er_base.specs.declared.cause.Cause.{Cause}
use Rattle.er_base.specs.declared.cause.Cause.TheVariants.{NoKey, Au2MacWrong, Au3MacWrong, ArMacWrong, OtherResponder, OtherFeature, DtMacWrong, WrongDirection, Unexpected, Malformed}
use Rattle.cbc_mac.specs.Mac.{mac_of}
use Rattle.session_keys.specs.Session.{session_of}
use Rattle.sapdu.specs.declared.fault.SaFault.{SaFault}
use Rattle.sapdu.specs.Spelling.{SafetyPdu, Au1, Au2, Au3, Ar, Dt, Di, read_of}
use Rattle.sapdu.specs.Messages.{is_message}
use Rattle.safety_automaton.specs.Safety.{Safety, Phase, Ready, WaitAu1, WaitAu2, WaitAu3, WaitAr, Connected, Released, Received, DataRequest, RefusedLength, SafetyOutcome, SentDt, Refused, same_flag, peer_flag, session_in, au2_text, au3_text, ar_text, message_text, releases, sends_au2, sends_au3, sends_ar, receives_ar, accepts_dt, sends_dt, row, checked, step_received_octets, sends, step, sealed_by, verified_by, octets_sent_in_outcome}
use Rattle.safety_automaton.specs.Reports.{KeptSafe, Report, report_of}
use Rattle.drill_model.specs.Ends.{outcomes_by}
use Rattle.drill_ends.specs.declared.told.Told.{Told}
use Rattle.drill_ends.specs.Tellings.{AreTold}
use Rattle.drill_model.specs.Ends.{OfSafe}
use Rattle.drill_ends.specs.declared.safe_end.Checked.{Checked}
use Rattle.drill_ends.specs.declared.drill_end.DrillEnd.TheVariants as code
use Rattle.drill_ends.specs.KeptEnds.{EndWent}
use Rattle.drill_ends.specs.SafeEnds.{checked_text, told_report, told_sealed, told_written}

-- ---- received octets

-- what is told of a row, by what the side answers
abbrev pub told_of : Safety × SafetyOutcome → List Told
told_of a =
    (told_report (report_of a.1) (checked_text (verified_by a.1) (session_in a.0.phase)) ++ told_sealed (sealed_by a.1) (session_in a.0.phase))
    ++ told_written (octets_sent_in_outcome a.1)

abbrev pub IsToldAll : List ℕ → Safety × SafetyOutcome → Type 0
IsToldAll heard a = AreTold (outcomes_by heard a.1) (told_of a)

module _ (heard : List ℕ) (key_of : ℕ → ℕ → Option TripleKey) (s : Safety) where
  unless : (b : Bool) (x y : Safety × SafetyOutcome) → IsToldAll heard x → IsToldAll heard y → IsToldAll heard (if not b then x else y)
  unless true x y hx hy = hy
  unless false x y hx hy = hx

  released : (cause : Cause) → IsToldAll heard (releases s cause)
  released cause = (refl, (refl, tt))

  found : (id feature ra rb : ℕ) (kmac : Option TripleKey)
      → IsToldAll heard (elim kmac as (λ k. Safety × SafetyOutcome) [
        | None ↦ releases s NoKey
        | Some k ↦ sends_au2 s (record { me = s.me; peer = id; ra = ra; rb = rb; session = session_of k ra rb })
      ])
  found id feature ra rb None = released NoKey
  found id feature ra rb (Some k) = (refl, (refl, tt))

  accepted : (session : TripleKey) (user verified : List ℕ) → session_in s.phase ≡ Some session → IsToldAll heard (accepts_dt s session user verified)
  accepted session user verified is = rw is (refl, tt)

  rows : (phase : Phase) (pdu : SafetyPdu) → s.phase ≡ phase → IsToldAll heard (row key_of s phase pdu)
  rows (Ready peer kmac rb) (Di reason sub) is = (refl, tt)
  rows (WaitAu1 ra) (Di reason sub) is = (refl, tt)
  rows (WaitAu2 peer kmac rb) (Di reason sub) is = (refl, tt)
  rows (WaitAu3 connection) (Di reason sub) is = (refl, tt)
  rows (WaitAr connection) (Di reason sub) is = (refl, tt)
  rows (Connected peer session) (Di reason sub) is = (refl, tt)
  rows (Released release session) (Di reason sub) is = (refl, tt)
  rows (WaitAu1 ra) (Au1 id feature rb) is =
      unless (feature == 1) (releases s OtherFeature) _ (released OtherFeature) (found id feature ra rb (key_of id s.me))
  rows (WaitAu2 peer kmac rb) (Au2 id feature ra mac) is =
      let session : TripleKey = session_of kmac ra rb in
      let text : List ℕ = au2_text (peer_flag s) s.me peer 1 ra rb in
      unless (feature == 1) (releases s OtherFeature) _ (released OtherFeature)
      (unless (id == peer) (releases s OtherResponder) _ (released OtherResponder)
      (unless (mac == mac_of session text) (releases s Au2MacWrong) (sends_au3 s (record { me = s.me; peer = peer; ra = ra; rb = rb; session = session }) text)
      (released Au2MacWrong) (refl, (refl, (refl, tt)))))
  rows (WaitAu3 c) (Au3 mac) is =
      let text : List ℕ = au3_text (peer_flag s) s.me c.ra c.rb in
      unless (mac == mac_of c.session text) (releases s Au3MacWrong) (sends_ar s c text) (released Au3MacWrong) (refl, (refl, (refl, tt)))
  rows (WaitAr c) (Ar mac) is =
      let text : List ℕ = ar_text (peer_flag s) s.me in
      unless (mac == mac_of c.session text) (releases s ArMacWrong) (receives_ar s c text) (released ArMacWrong) (refl, tt)
  rows (Connected peer session) (Dt user mac) is =
      let text : List ℕ = message_text (peer_flag s) s.me user in
      unless (mac == mac_of session text) (releases s DtMacWrong) (accepts_dt s session user text) (released DtMacWrong)
      (accepted session user text (ap session_in is))
  rows phase pdu is = released Unexpected

  of_checked : (answer : Result (SafetyPdu × Bool) SaFault) → IsToldAll heard (checked key_of s answer)
  of_checked (Err fault) = released Malformed
  of_checked (Ok read) =
      unless (same_flag read.1 (peer_flag s)) (releases s WrongDirection) (row key_of s s.phase read.0) (released WrongDirection) (rows s.phase read.0 refl)

  of_receives : (phase : Phase) (octets : List ℕ) → IsToldAll heard (step_received_octets key_of s phase octets)
  of_receives (Released release session) octets = tt
  of_receives (Ready peer kmac rb) octets = of_checked (read_of octets)
  of_receives (WaitAu1 ra) octets = of_checked (read_of octets)
  of_receives (WaitAu2 peer kmac rb) octets = of_checked (read_of octets)
  of_receives (WaitAu3 connection) octets = of_checked (read_of octets)
  of_receives (WaitAr connection) octets = of_checked (read_of octets)
  of_receives (Connected peer session) octets = of_checked (read_of octets)

  pub when_received : (octets : List ℕ) → IsToldAll heard (step key_of s (Received octets))
  when_received octets = of_receives s.phase octets

-- ---- a send

-- a send that was Ok: what was sealed, and the frame
abbrev pub IsToldSent : Safety × SafetyOutcome → Type 0
IsToldSent (t, SentDt session user sealed octets) = AreTold (outcomes_by [] (SentDt session user sealed octets)) (told_sealed (Some sealed) (session_in t.phase) ++ told_written octets)
IsToldSent (t, outcome) = Unit {0}

unless_sent : (b : Bool) (x y : Safety × SafetyOutcome) → IsToldSent x → IsToldSent y → IsToldSent (if not b then x else y)
unless_sent true x y hx hy = hy
unless_sent false x y hx hy = hx

of_sends : (s : Safety) (phase : Phase) (user : List ℕ) → s.phase ≡ phase → IsToldSent (sends s phase user)
of_sends s (Released release session) user is = tt
of_sends s (Connected peer session) user is =
    let keys : session_in s.phase ≡ Some session = ap session_in is in
    unless_sent (is_message user) (s, Refused (RefusedLength (length user))) (sends_dt s peer session user) tt (rw keys (refl, (refl, tt)))
of_sends s (Ready peer kmac rb) user is = tt
of_sends s (WaitAu1 ra) user is = tt
of_sends s (WaitAu2 peer kmac rb) user is = tt
of_sends s (WaitAu3 connection) user is = tt
of_sends s (WaitAr connection) user is = tt

pub when_sent : (key_of : ℕ → ℕ → Option TripleKey) (s : Safety) (user : List ℕ) → IsToldSent (step key_of s (DataRequest user))
when_sent key_of s user = of_sends s s.phase user refl

-- ---- the code

-- octets that came, by the steps of the code
pub received_so : (key_of : ℕ → ℕ → Option TripleKey) (s : Safety) (octets : List ℕ) (new : KeptSafe) (report : Report) (found : Option Checked)
    (room written held : List ℕ) (none one two list : List Told)
    → new.safety ≡ (step key_of s (Received octets)).0 → report ≡ report_of (step key_of s (Received octets)).1
    → new.sealed ≡ sealed_by (step key_of s (Received octets)).1 → new.verified ≡ verified_by (step key_of s (Received octets)).1
    → room ≡ [] → written ≡ room ++ octets_sent_in_outcome (step key_of s (Received octets)).1 → held ≡ written
    → found ≡ checked_text new.verified (session_in new.safety.phase)
    → none ≡ [] → one ≡ none ++ told_report report found → two ≡ one ++ told_sealed new.sealed (session_in new.safety.phase)
    → list ≡ two ++ told_written held
    → EndWent (code.Safe new) list (OfSafe (step key_of s (Received octets)).0, outcomes_by octets (step key_of s (Received octets)).1)
received_so key_of s octets new report found' room written held none one two list safety reports seals verifies empty writes holds finds nothing first second third =
    let a : Safety × SafetyOutcome = step key_of s (Received octets) in
    let held_is : held ≡ octets_sent_in_outcome a.1 = holds ∙ writes ∙ ap (λ (xs : List ℕ). xs ++ octets_sent_in_outcome a.1) empty in
    let session : session_in new.safety.phase ≡ session_in a.0.phase = ap (λ (t : Safety). session_in t.phase) safety in
    let checked_is : found' ≡ checked_text (verified_by a.1) (session_in a.0.phase) =
    finds ∙ ap (λ v. checked_text v (session_in new.safety.phase)) verifies ∙ ap (checked_text (verified_by a.1)) session in
    let one_is : one ≡ told_report (report_of a.1) (checked_text (verified_by a.1) (session_in a.0.phase)) =
    first ∙ ap (λ (xs : List Told). xs ++ told_report report found') nothing ∙ ap (λ r. told_report r found') reports ∙ ap (told_report (report_of a.1)) checked_is in
    let two_is : two ≡ told_report (report_of a.1) (checked_text (verified_by a.1) (session_in a.0.phase)) ++ told_sealed (sealed_by a.1) (session_in a.0.phase) =
    second ∙ ap (λ (xs : List Told). xs ++ told_sealed new.sealed (session_in new.safety.phase)) one_is
    ∙ ap (λ t. told_report (report_of a.1) (checked_text (verified_by a.1) (session_in a.0.phase)) ++ told_sealed t (session_in new.safety.phase)) seals
    ∙ ap (λ k. told_report (report_of a.1) (checked_text (verified_by a.1) (session_in a.0.phase)) ++ told_sealed (sealed_by a.1) k) session in
    let all : list ≡ told_of a = third ∙ ap (λ (xs : List Told). xs ++ told_written held) two_is
    ∙ ap (λ (os : List ℕ). (told_report (report_of a.1) (checked_text (verified_by a.1) (session_in a.0.phase)) ++ told_sealed (sealed_by a.1) (session_in a.0.phase)) ++ told_written os) held_is in
    record { stands = safety; told = subst (AreTold (outcomes_by octets a.1)) (sym all) (when_received octets key_of s octets) }
