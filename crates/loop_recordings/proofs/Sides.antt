-- A safety side that doesn't wait for an AU1 looks no key up, and comes to no such phase.
use Rattle.std.proofs.Common.{◌≡◌, ℕ, Bool, true, false, not, Option, Result, Ok, Err, refl, ap, true≢false}
use Rattle.std.specs.Prelude.{◌==◌, if◌then◌else◌}
use Rattle.des_block.specs.declared.triple_key.TripleKey.{TripleKey}
use Rattle.cbc_mac.specs.Mac.{mac_of}
use Rattle.session_keys.specs.Session.{session_of}
use Rattle.sapdu.specs.declared.fault.SaFault.{SaFault}
use Rattle.sapdu.specs.Messages.{is_message}
use Rattle.sapdu.specs.Spelling.{SafetyPdu, Au2, Au3, Ar, Dt, Di, read_of}
use Rattle.er_base.specs.declared.cause.Cause.TheVariants as cause
use Rattle.safety_automaton.specs.Safety.{Safety, Phase, Ready, WaitAu1, WaitAu2, WaitAu3, WaitAr, Connected, Released, SafetyEvent, ConnectRequest, Received, DataRequest, DisconnectRequest, SafetyOutcome, same_flag, peer_flag, au2_text, au3_text, ar_text, message_text, releases, row, checked, step_received_octets, sends, connects, disconnects, step}
use Rattle.std.specs.Prelude.{List}

-- a responder before an AU1 looks up the key of its pair
abbrev pub asks : Phase → Bool
asks (Ready peer kmac rb) = false
asks (WaitAu1 ra) = true
asks (WaitAu2 peer kmac rb) = false
asks (WaitAu3 connection) = false
asks (WaitAr connection) = false
asks (Connected peer session) = false
asks (Released release session) = false

module _ (f g : ℕ → ℕ → Option TripleKey) (s : Safety) where
  same_row : (phase : Phase) (pdu : SafetyPdu) → asks phase ≡ false → row f s phase pdu ≡ row g s phase pdu
  same_row phase (Di reason sub) quiet = refl
  same_row (WaitAu1 ra) pdu quiet = absurd (true≢false quiet)
  same_row (WaitAu2 peer kmac rb) (Au2 id feature ra mac) quiet = refl
  same_row (WaitAu3 c) (Au3 mac) quiet = refl
  same_row (WaitAr c) (Ar mac) quiet = refl
  same_row (Connected peer session) (Dt user mac) quiet = refl
  same_row phase pdu quiet = refl

  same_checked : (read : Result (SafetyPdu × Bool) SaFault) → asks s.phase ≡ false → checked f s read ≡ checked g s read
  same_checked (Err fault) quiet = refl
  same_checked (Ok read) quiet =
      ap (λ z. if not (same_flag read.1 (peer_flag s)) then releases s cause.WrongDirection else z) (same_row s.phase read.0 quiet)

  same_receives : (phase : Phase) (octets : List ℕ) → asks s.phase ≡ false → step_received_octets f s phase octets ≡ step_received_octets g s phase octets
  same_receives (Released release session) octets quiet = refl
  same_receives phase octets quiet = same_checked (read_of octets) quiet

  -- a step is the same, however keys are looked up
  pub same_step : (event : SafetyEvent) → asks s.phase ≡ false → step f s event ≡ step g s event
  same_step ConnectRequest quiet = refl
  same_step (Received octets) quiet = same_receives s.phase octets quiet
  same_step (DataRequest user) quiet = refl
  same_step (DisconnectRequest sub) quiet = refl

-- ---- the phase behind a step

quiet_if : (b : Bool) (x y : Safety × SafetyOutcome) → asks x.0.phase ≡ false → asks y.0.phase ≡ false → asks (if b then x else y).0.phase ≡ false
quiet_if true x y p q = p
quiet_if false x y p q = q

module _ (f : ℕ → ℕ → Option TripleKey) (s : Safety) where
  quiet_row : (phase : Phase) (pdu : SafetyPdu) → asks phase ≡ false → asks s.phase ≡ false → asks (row f s phase pdu).0.phase ≡ false
  quiet_row phase (Di reason sub) quiet is = refl
  quiet_row (WaitAu1 ra) pdu quiet is = absurd (true≢false quiet)
  quiet_row (WaitAu2 peer kmac rb) (Au2 id feature ra mac) quiet is =
      quiet_if (not (feature == 1)) _ _ refl
      (quiet_if (not (id == peer)) _ _ refl
      (quiet_if (not (mac == mac_of (session_of kmac ra rb) (au2_text (peer_flag s) s.me peer 1 ra rb))) _ _ refl refl))
  quiet_row (WaitAu3 c) (Au3 mac) quiet is = quiet_if (not (mac == mac_of c.session (au3_text (peer_flag s) s.me c.ra c.rb))) _ _ refl refl
  quiet_row (WaitAr c) (Ar mac) quiet is = quiet_if (not (mac == mac_of c.session (ar_text (peer_flag s) s.me))) _ _ refl refl
  quiet_row (Connected peer session) (Dt user mac) quiet is = quiet_if (not (mac == mac_of session (message_text (peer_flag s) s.me user))) _ _ refl is
  quiet_row phase pdu quiet is = refl

  quiet_checked : (read : Result (SafetyPdu × Bool) SaFault) → asks s.phase ≡ false → asks (checked f s read).0.phase ≡ false
  quiet_checked (Err fault) is = refl
  quiet_checked (Ok read) is = quiet_if (not (same_flag read.1 (peer_flag s))) _ _ refl (quiet_row s.phase read.0 is is)

  quiet_receives : (phase : Phase) (octets : List ℕ) → asks s.phase ≡ false → asks (step_received_octets f s phase octets).0.phase ≡ false
  quiet_receives (Released release session) octets is = is
  quiet_receives phase octets is = quiet_checked (read_of octets) is

  quiet_sends : (phase : Phase) (user : List ℕ) → asks s.phase ≡ false → asks (sends s phase user).0.phase ≡ false
  quiet_sends (Connected peer session) user is = quiet_if (not (is_message user)) _ _ is is
  quiet_sends phase user is = is

  quiet_connects : (phase : Phase) → asks s.phase ≡ false → asks (connects s phase).0.phase ≡ false
  quiet_connects (Ready peer kmac rb) is = refl
  quiet_connects phase is = is

  quiet_disconnects : (phase : Phase) (sub : ℕ) → asks s.phase ≡ false → asks (disconnects s phase sub).0.phase ≡ false
  quiet_disconnects (Released release session) sub is = is
  quiet_disconnects phase sub is = refl

  pub quiet_step : (event : SafetyEvent) → asks s.phase ≡ false → asks (step f s event).0.phase ≡ false
  quiet_step ConnectRequest is = quiet_connects s.phase is
  quiet_step (Received octets) is = quiet_receives s.phase octets is
  quiet_step (DataRequest user) is = quiet_sends s.phase user is
  quiet_step (DisconnectRequest sub) is = quiet_disconnects s.phase sub is
