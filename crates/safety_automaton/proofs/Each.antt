-- Wherever a row is met the step has its outcome.
use Rattle.std.proofs.Common.{◌≡◌, ◌∙◌, ℕ, ◌==◌, true, false, List, Option, refl, sym, subst, ap, eq-eqb}
use Rattle.std.proofs.lemmas.Bool.{ne_eqb}
use Rattle.des_block.specs.declared.triple_key.TripleKey.{TripleKey}
use Rattle.cbc_mac.specs.Mac.{mac_of}
use Rattle.session_keys.specs.Session.{session_of}
use Rattle.sapdu.specs.Spelling.{SafetyPdu, Au1, Au2, Au3, Ar, Dt, Di, read_of}
use Rattle.er_base.specs.declared.release.Release.{Release}
use Rattle.er_base.specs.declared.cause.Cause.{Cause}
use Rattle.er_base.specs.declared.cause.Cause.TheVariants as cause
use Rattle.safety_automaton.specs.Safety.{Safety, Connection, Phase, Ready, WaitAu1, WaitAu2, WaitAu3, WaitAr, Connected, Released, SafetyEvent, Refusal, Refused, RefusedReleased, RefusedNotConnected, RefusedLength, SentAu1, SentAu2, SentAu3, SentAr, ReceivedAr, AcceptedDt, SentDt, ReleasedLocally, ReleasedByPeer, NothingDone, peer_flag, au2_text, au3_text, ar_text, message_text, releases, released_by_peer, row, checked, step_received_octets, sends, connects, disconnects, step}
use Rattle.safety_automaton.specs.Rules.{IsOpen, IsInSetUp, IsReady, IsReceived, IsAwaited, CauseMet, OtherFeatureMet, OfAu1, OfAu2, StaysIdle, AtReceived, AtDisconnect, AtConnect, SendsAu1, SendsAu2, SendsAu3, SendsAr, ReceivesAr, AcceptsDt, SendsDt, RefusesDataRequest, RefusalMet, ReleasesLocally, ReleasesByPeer, StepsEach}
use Rattle.safety_automaton.proofs.Flags.{same_flag_at, own_flag}
use Rattle.safety_automaton.proofs.Only.{message_test, message_refused}

same_number : (n : ℕ) → (n == n) ≡ true
same_number n = eq-eqb n n refl

-- ---- octets that are read, at a side that isn't released

pub reads_open : (key_of : ℕ → ℕ → Option TripleKey) (s : Safety) (phase : Phase) (octets : List ℕ) → IsOpen phase
    → step_received_octets key_of s phase octets ≡ checked key_of s (read_of octets)
reads_open key_of s (Released release session) octets unreleased = absurd unreleased
reads_open key_of s phase octets unreleased = refl

-- an SaPDU with the peer's flag comes to its row
pub comes_to_row : (key_of : ℕ → ℕ → Option TripleKey) (s : Safety) (event : SafetyEvent) (pdu : SafetyPdu) → IsOpen s.phase → IsReceived s event pdu
    → step key_of s event ≡ row key_of s s.phase pdu
comes_to_row key_of s event pdu unreleased received =
    rw (received.event_is, reads_open key_of s s.phase received.octets unreleased, received.read, same_flag_at (peer_flag s)) refl

-- the same at a phase that is told
at_phase : (key_of : ℕ → ℕ → Option TripleKey) (s : Safety) (event : SafetyEvent) (phase : Phase) (pdu : SafetyPdu) → s.phase ≡ phase → IsOpen phase
    → IsReceived s event pdu → step key_of s event ≡ row key_of s phase pdu
at_phase key_of s event phase pdu e unreleased received =
    comes_to_row key_of s event pdu (subst IsOpen (sym e) unreleased) received ∙ ap (λ p. row key_of s p pdu) e

-- ---- releases

-- a readable SaPDU for which the state doesn't wait
unexpected_row : (key_of : ℕ → ℕ → Option TripleKey) (s : Safety) (phase : Phase) (pdu : SafetyPdu) → (IsAwaited phase pdu → ⊥)
    → row key_of s phase pdu ≡ releases s cause.Unexpected
unexpected_row key_of s phase (Di reason sub) other = absurd (other tt)
unexpected_row key_of s (WaitAu1 ra) (Au1 id feature rb) other = absurd (other (ra, refl))
unexpected_row key_of s (WaitAu2 peer kmac rb) (Au2 id feature ra mac) other = absurd (other (peer, kmac, rb, refl))
unexpected_row key_of s (WaitAu3 c) (Au3 mac) other = absurd (other (c, refl))
unexpected_row key_of s (WaitAr c) (Ar mac) other = absurd (other (c, refl))
unexpected_row key_of s (Connected peer session) (Dt user mac) other = absurd (other (peer, session, refl))
unexpected_row key_of s phase pdu other = refl

disconnects_open : (s : Safety) (phase : Phase) (sub : ℕ) → IsOpen phase → disconnects s phase sub ≡ releases s (cause.User sub)
disconnects_open s (Released release session) sub unreleased = absurd unreleased
disconnects_open s phase sub unreleased = refl

other_feature : (key_of : ℕ → ℕ → Option TripleKey) (s : Safety) (event : SafetyEvent) → OtherFeatureMet s event
    → step key_of s event ≡ releases s cause.OtherFeature
other_feature key_of s event (OfAu1 ra id feature rb waits received other) =
    let test : (feature == 1) ≡ false = ne_eqb _ _ other in
    at_phase key_of s event (WaitAu1 ra) (Au1 id feature rb) waits tt received ∙ rw test refl
other_feature key_of s event (OfAu2 peer rb id feature ra mac kmac waits received other) =
    let test : (feature == 1) ≡ false = ne_eqb _ _ other in
    at_phase key_of s event (WaitAu2 peer kmac rb) (Au2 id feature ra mac) waits tt received ∙ rw test refl

-- a side whose cause for a release is met releases
pub releases_for : (key_of : ℕ → ℕ → Option TripleKey) (s : Safety) (event : SafetyEvent) (why : Cause) → CauseMet key_of s event why
    → step key_of s event ≡ releases s why
releases_for key_of s event (cause.User sub) met = rw (met.1) (disconnects_open s s.phase sub met.0)
releases_for key_of s event cause.NoKey met =
    at_phase key_of s event (WaitAu1 met.ra) (Au1 met.id 1 met.rb) met.waits tt met.received ∙ rw (met.none) refl
releases_for key_of s event cause.Au2MacWrong met =
    let test : (met.mac == mac_of (session_of met.kmac met.ra met.rb) (au2_text (peer_flag s) s.me met.peer 1 met.ra met.rb)) ≡ false = ne_eqb _ _ met.wrong in
    at_phase key_of s event (WaitAu2 met.peer met.kmac met.rb) (Au2 met.peer 1 met.ra met.mac) met.waits tt met.received
    ∙ rw (same_number met.peer, test) refl
releases_for key_of s event cause.Au3MacWrong met =
    let test : (met.mac == mac_of met.connection.session (au3_text (peer_flag s) s.me met.connection.ra met.connection.rb)) ≡ false = ne_eqb _ _ met.wrong in
    at_phase key_of s event (WaitAu3 met.connection) (Au3 met.mac) met.waits tt met.received ∙ rw test refl
releases_for key_of s event cause.ArMacWrong met =
    let test : (met.mac == mac_of met.connection.session (ar_text (peer_flag s) s.me)) ≡ false = ne_eqb _ _ met.wrong in
    at_phase key_of s event (WaitAr met.connection) (Ar met.mac) met.waits tt met.received ∙ rw test refl
releases_for key_of s event cause.OtherResponder met =
    let test : (met.id == met.peer) ≡ false = ne_eqb _ _ met.other in
    at_phase key_of s event (WaitAu2 met.peer met.kmac met.rb) (Au2 met.id 1 met.ra met.mac) met.waits tt met.received ∙ rw test refl
releases_for key_of s event cause.OtherFeature met = other_feature key_of s event met
releases_for key_of s event cause.DtMacWrong met =
    let test : (met.mac == mac_of met.session (message_text (peer_flag s) s.me met.user)) ≡ false = ne_eqb _ _ met.wrong in
    at_phase key_of s event (Connected met.peer met.session) (Dt met.user met.mac) met.waits tt met.received ∙ rw test refl
releases_for key_of s event cause.WrongDirection met =
    rw (met.event_is, reads_open key_of s s.phase met.octets met.unreleased, met.read, own_flag s.role) refl
releases_for key_of s event cause.Unexpected met =
    comes_to_row key_of s event met.pdu met.unreleased met.received ∙ unexpected_row key_of s s.phase met.pdu met.unawaited
releases_for key_of s event cause.Malformed met =
    rw (met.event_is, reads_open key_of s s.phase met.octets met.unreleased, met.read) refl
releases_for key_of s event why met = absurd met

releases_locally : (key_of : ℕ → ℕ → Option TripleKey) (s : Safety) (event : SafetyEvent) (next : Safety) (release : Release) (octets : List ℕ)
    → ReleasesLocally key_of s event next release octets → step key_of s event ≡ (next, ReleasedLocally release octets)
releases_locally key_of s event next release octets met =
    releases_for key_of s event met.cause met.met ∙ rw (met.releases.octets_is, met.releases.next_is, met.releases.release_is) refl

pub di_row : (key_of : ℕ → ℕ → Option TripleKey) (s : Safety) (phase : Phase) (reason sub : ℕ) → row key_of s phase (Di reason sub) ≡ released_by_peer s reason sub
di_row key_of s (Ready peer kmac rb) reason sub = refl
di_row key_of s (WaitAu1 ra) reason sub = refl
di_row key_of s (WaitAu2 peer kmac rb) reason sub = refl
di_row key_of s (WaitAu3 c) reason sub = refl
di_row key_of s (WaitAr c) reason sub = refl
di_row key_of s (Connected peer session) reason sub = refl
di_row key_of s (Released release session) reason sub = refl

-- ---- the other outcomes

releases_by_peer : (key_of : ℕ → ℕ → Option TripleKey) (s : Safety) (event : SafetyEvent) (next : Safety) (release : Release)
    → ReleasesByPeer s event next release → step key_of s event ≡ (next, ReleasedByPeer release)
releases_by_peer key_of s event next release met =
    comes_to_row key_of s event (Di met.reason met.sub) met.unreleased met.received ∙ di_row key_of s s.phase met.reason met.sub
    ∙ rw (met.next_is, met.release_is) refl

sends_au1 : (key_of : ℕ → ℕ → Option TripleKey) (s : Safety) (event : SafetyEvent) (next : Safety) (octets : List ℕ)
    → SendsAu1 s event next octets → step key_of s event ≡ (next, SentAu1 octets)
sends_au1 key_of s event next octets met = rw (met.octets_is, met.next_is, met.event_is, met.waits) refl

pub sends_au2 : (key_of : ℕ → ℕ → Option TripleKey) (s : Safety) (event : SafetyEvent) (next : Safety) (session : TripleKey) (sealed octets : List ℕ)
    → SendsAu2 key_of s event next session sealed octets → step key_of s event ≡ (next, SentAu2 session sealed octets)
sends_au2 key_of s event next session sealed octets met =
    let c : Connection = met.connection in
    at_phase key_of s event (WaitAu1 c.ra) (Au1 c.peer 1 c.rb) met.waits tt met.received
    ∙ rw (met.found, ← met.me_is, ← met.keys_are, met.octets_is, met.sealed_is, met.session_is, met.next_is, ← met.me_is) refl

pub sends_au3 : (key_of : ℕ → ℕ → Option TripleKey) (s : Safety) (event : SafetyEvent) (next : Safety) (session : TripleKey) (verified sealed octets : List ℕ)
    → SendsAu3 s event next session verified sealed octets → step key_of s event ≡ (next, SentAu3 session verified sealed octets)
sends_au3 key_of s event next session verified sealed octets met =
    let c : Connection = met.connection in
    at_phase key_of s event (WaitAu2 c.peer met.kmac c.rb) (Au2 c.peer 1 c.ra (mac_of session verified)) met.waits tt met.received
    ∙ rw (same_number c.peer, ← met.verified_is, ← met.keys_are, met.session_is, same_number (mac_of c.session verified), ← met.me_is, met.octets_is, met.sealed_is, met.session_is, met.next_is, ← met.me_is) refl

pub sends_ar : (key_of : ℕ → ℕ → Option TripleKey) (s : Safety) (event : SafetyEvent) (next : Safety) (c : Connection) (verified sealed octets : List ℕ)
    → SendsAr s event next c verified sealed octets → step key_of s event ≡ (next, SentAr c verified sealed octets)
sends_ar key_of s event next c verified sealed octets met =
    at_phase key_of s event (WaitAu3 c) (Au3 (mac_of c.session verified)) met.waits tt met.received
    ∙ rw (← met.verified_is, same_number (mac_of c.session verified), met.octets_is, met.sealed_is, met.next_is) refl

pub receives_ar : (key_of : ℕ → ℕ → Option TripleKey) (s : Safety) (event : SafetyEvent) (next : Safety) (c : Connection) (verified : List ℕ)
    → ReceivesAr s event next c verified → step key_of s event ≡ (next, ReceivedAr c verified)
receives_ar key_of s event next c verified met =
    at_phase key_of s event (WaitAr c) (Ar (mac_of c.session verified)) met.waits tt met.received
    ∙ rw (← met.verified_is, same_number (mac_of c.session verified), met.next_is) refl

pub accepts_dt : (key_of : ℕ → ℕ → Option TripleKey) (s : Safety) (event : SafetyEvent) (next : Safety) (session : TripleKey) (user verified : List ℕ)
    → AcceptsDt s event next session user verified → step key_of s event ≡ (next, AcceptedDt session user verified)
accepts_dt key_of s event next session user verified met =
    at_phase key_of s event (Connected met.peer session) (Dt user (mac_of session verified)) met.connected tt met.received
    ∙ rw (← met.verified_is, same_number (mac_of session verified), met.next_is) refl

pub sends_message : (key_of : ℕ → ℕ → Option TripleKey) (s : Safety) (event : SafetyEvent) (next : Safety) (session : TripleKey) (user sealed octets : List ℕ)
    → SendsDt s event next session user sealed octets → step key_of s event ≡ (next, SentDt session user sealed octets)
sends_message key_of s event next session user sealed octets met =
    rw (met.octets_is, met.sealed_is, met.next_is, met.event_is, met.connected, message_test user met.message) refl

not_connected : (s : Safety) (phase : Phase) (user : List ℕ) → IsInSetUp phase → sends s phase user ≡ (s, Refused RefusedNotConnected)
not_connected s (Connected peer session) user here = absurd here
not_connected s (Released release session) user here = absurd here
not_connected s phase user here = refl

refuses_for : (s : Safety) (user : List ℕ) (refusal : Refusal) → RefusalMet s user refusal → sends s s.phase user ≡ (s, Refused refusal)
refuses_for s user (RefusedReleased release) met = rw (met.1) refl
refuses_for s user RefusedNotConnected met = not_connected s s.phase user met
refuses_for s user (RefusedLength found) met = rw (met.0.2, message_refused user met.2, met.1) refl

refuses : (key_of : ℕ → ℕ → Option TripleKey) (s : Safety) (event : SafetyEvent) (next : Safety) (refusal : Refusal)
    → RefusesDataRequest s event next refusal → step key_of s event ≡ (next, Refused refusal)
refuses key_of s event next refusal met = rw (met.next_is, met.event_is) (refuses_for s met.user refusal met.met)

starts_nothing : (s : Safety) (phase : Phase) → (IsReady phase → ⊥) → connects s phase ≡ (s, NothingDone)
starts_nothing s (Ready peer kmac rb) not_ready = absurd (not_ready tt)
starts_nothing s phase not_ready = refl

idle : (key_of : ℕ → ℕ → Option TripleKey) (s : Safety) (event : SafetyEvent) (next : Safety) → StaysIdle s event next
    → step key_of s event ≡ (next, NothingDone)
idle key_of s event next (AtReceived octets release session e released same) = rw (e, same, released) refl
idle key_of s event next (AtDisconnect sub release session e released same) = rw (e, same, released) refl
idle key_of s event next (AtConnect e not_ready same) = rw (e, same) (starts_nothing s s.phase not_ready)

pub steps_each : StepsEach
steps_each key_of s event next (SentAu1 octets) met = sends_au1 key_of s event next octets met
steps_each key_of s event next (SentAu2 session sealed octets) met = sends_au2 key_of s event next session sealed octets met
steps_each key_of s event next (SentAu3 session verified sealed octets) met = sends_au3 key_of s event next session verified sealed octets met
steps_each key_of s event next (SentAr c verified sealed octets) met = sends_ar key_of s event next c verified sealed octets met
steps_each key_of s event next (ReceivedAr c verified) met = receives_ar key_of s event next c verified met
steps_each key_of s event next (AcceptedDt session user verified) met = accepts_dt key_of s event next session user verified met
steps_each key_of s event next (SentDt session user sealed octets) met = sends_message key_of s event next session user sealed octets met
steps_each key_of s event next (Refused refusal) met = refuses key_of s event next refusal met
steps_each key_of s event next (ReleasedLocally release octets) met = releases_locally key_of s event next release octets met
steps_each key_of s event next (ReleasedByPeer release) met = releases_by_peer key_of s event next release met
steps_each key_of s event next NothingDone met = idle key_of s event next met
