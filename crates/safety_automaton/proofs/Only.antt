-- A step has an outcome only where its row is met: by the cases of the event, the state and the SaPDU.
use Rattle.std.proofs.Common.{◌≡◌, ℕ, ◌==◌, nat_le, not, Bool, true, false, if◌then◌else◌, List, length, Option, Some, None, Result, Ok, Err, refl, sym, subst, ap}
use Rattle.std.proofs.lemmas.Bool.{eqb-true, eqb-false, and_parts, and_from, leb-true, le-leb}
use Rattle.des_block.specs.declared.triple_key.TripleKey.{TripleKey}
use Rattle.cbc_mac.specs.Mac.{mac_of}
use Rattle.session_keys.specs.Session.{session_of}
use Rattle.sapdu.specs.Spelling.{SafetyPdu, Au1, Au2, Au3, Ar, Dt, Di, read_of}
use Rattle.sapdu.specs.Messages.{IsMessage, is_message}
use Rattle.sapdu.specs.declared.fault.SaFault.{SaFault}
use Rattle.er_base.specs.declared.cause.Cause.{Cause}
use Rattle.er_base.specs.declared.cause.Cause.TheVariants as cause
use Rattle.safety_automaton.specs.Safety.{Safety, Phase, Ready, WaitAu1, WaitAu2, WaitAu3, WaitAr, Connected, Released, SafetyEvent, ConnectRequest, Received, DataRequest, DisconnectRequest, SafetyOutcome, peer_flag, same_flag, au2_text, au3_text, ar_text, message_text, releases, sends_au2, row, checked, step_received_octets, sends, connects, disconnects, step}
use Rattle.safety_automaton.specs.Rules.{IsOpen, IsInSetUp, IsReady, IsReceived, IsAwaited, CauseMet, OfAu1, OfAu2, AtReceived, AtDisconnect, AtConnect, IsStep, StepsOnly}
use Rattle.safety_automaton.proofs.Flags.{same_flag-true, is_own_flag}

-- a side and an outcome whose row is met
pub record IsMet (key_of : ℕ → ℕ → Option TripleKey) (s : Safety) (event : SafetyEvent) (a : Safety × SafetyOutcome) : Type 0 where
  pub met : IsStep key_of s event a.0 a.1

-- a test that is negated
met_unless : (key_of : ℕ → ℕ → Option TripleKey) (s : Safety) (event : SafetyEvent) (b : Bool) (x y : Safety × SafetyOutcome)
    → (b ≡ false → IsMet key_of s event x) → (b ≡ true → IsMet key_of s event y) → IsMet key_of s event (if not b then x else y)
met_unless key_of s event true x y mx my = my refl
met_unless key_of s event false x y mx my = mx refl

met_releases : (key_of : ℕ → ℕ → Option TripleKey) (s : Safety) (event : SafetyEvent) (why : Cause) → CauseMet key_of s event why
    → IsMet key_of s event (releases s why)
met_releases key_of s event why met =
    record { met = record { cause = why; met = met; releases = record { release_is = refl; next_is = refl; octets_is = refl } } }

-- the pairs of a state and an SaPDU for which it waits
abbrev pub IsPair : Phase → SafetyPdu → Type 0
IsPair phase (Di reason sub) = Unit {0}
IsPair (WaitAu1 ra) (Au1 id feature rb) = Unit {0}
IsPair (WaitAu2 peer kmac rb) (Au2 id feature ra mac) = Unit {0}
IsPair (WaitAu3 c) (Au3 mac) = Unit {0}
IsPair (WaitAr c) (Ar mac) = Unit {0}
IsPair (Connected peer session) (Dt user mac) = Unit {0}
IsPair phase pdu = ⊥

pair_of : (phase : Phase) (pdu : SafetyPdu) → IsAwaited phase pdu → IsPair phase pdu
pair_of phase (Di reason sub) w = is_di phase reason sub
  where
    is_di : (phase : Phase) (reason sub : ℕ) → IsPair phase (Di reason sub)
    is_di phase reason sub = tt
pair_of phase (Au1 id feature rb) w = let P : Phase → Type 0 = λ p. IsPair p (Au1 id feature rb) in subst P (sym w.1) tt
pair_of phase (Au2 id feature ra mac) w = let P : Phase → Type 0 = λ p. IsPair p (Au2 id feature ra mac) in subst P (sym w.3) tt
pair_of phase (Au3 mac) w = let P : Phase → Type 0 = λ p. IsPair p (Au3 mac) in subst P (sym w.1) tt
pair_of phase (Ar mac) w = let P : Phase → Type 0 = λ p. IsPair p (Ar mac) in subst P (sym w.1) tt
pair_of phase (Dt user mac) w = let P : Phase → Type 0 = λ p. IsPair p (Dt user mac) in subst P (sym w.2) tt

met_unexpected : (key_of : ℕ → ℕ → Option TripleKey) (s : Safety) (event : SafetyEvent) (phase : Phase) (pdu : SafetyPdu) → s.phase ≡ phase
    → IsOpen phase → IsReceived s event pdu → (IsPair phase pdu → ⊥) → IsMet key_of s event (releases s cause.Unexpected)
met_unexpected key_of s event phase pdu e unreleased received no_pair =
    let no_pair_here : IsPair s.phase pdu → ⊥ = let P : Phase → Type 0 = λ p. IsPair p pdu → ⊥ in subst P (sym e) no_pair in
    met_releases key_of s event cause.Unexpected
    (record { pdu = pdu; unreleased = subst IsOpen (sym e) unreleased; received = received; unawaited = λ w. no_pair_here (pair_of s.phase pdu w) })

-- an AU1, where its KMAC was looked up
met_au1 : (key_of : ℕ → ℕ → Option TripleKey) (s : Safety) (event : SafetyEvent) (ra id rb : ℕ) (found : Option TripleKey) → s.phase ≡ WaitAu1 ra
    → IsReceived s event (Au1 id 1 rb) → key_of id s.me ≡ found
    → IsMet key_of s event (elim found [
      | None ↦ releases s cause.NoKey
      | Some kmac ↦ sends_au2 s (record { me = s.me; peer = id; ra = ra; rb = rb; session = session_of kmac ra rb })
    ])
met_au1 key_of s event ra id rb None e received found =
    met_releases key_of s event cause.NoKey (record { ra = ra; id = id; rb = rb; waits = e; received = received; none = found })
met_au1 key_of s event ra id rb (Some kmac) e received found =
    record {
      met = record {
        connection = record { me = s.me; peer = id; ra = ra; rb = rb; session = session_of kmac ra rb };
        kmac = kmac;
        waits = e;
        received = received;
        found = found;
        me_is = refl;
        keys_are = refl;
        session_is = refl;
        next_is = refl;
        sealed_is = refl;
        octets_is = refl;
      };
    }

received_as : (s : Safety) (event : SafetyEvent) (p q : SafetyPdu) → p ≡ q → IsReceived s event p → IsReceived s event q
received_as s event p q e h = let P : SafetyPdu → Type 0 = λ x. IsReceived s event x in subst P e h

-- the table
met_row : (key_of : ℕ → ℕ → Option TripleKey) (s : Safety) (event : SafetyEvent) (phase : Phase) (pdu : SafetyPdu) → s.phase ≡ phase → IsOpen phase
    → IsReceived s event pdu → IsMet key_of s event (row key_of s phase pdu)
met_row key_of s event phase (Di reason sub) e unreleased received =
    record {
      met = record {
        reason = reason;
        sub = sub;
        unreleased = subst IsOpen (sym e) unreleased;
        received = received;
        release_is = refl;
        next_is = refl;
      };
    }
met_row key_of s event (WaitAu1 ra) (Au1 id feature rb) e unreleased received =
    met_unless key_of s event (feature == 1) _ _
    (λ other. met_releases key_of s event cause.OtherFeature (OfAu1 ra id feature rb e received (eqb-false feature 1 other)))
    (λ one. met_au1 key_of s event ra id rb (key_of id s.me) e
    (received_as s event (Au1 id feature rb) (Au1 id 1 rb) (ap (λ n. Au1 id n rb) (eqb-true feature 1 one)) received) refl)
met_row key_of s event (WaitAu2 peer kmac rb) (Au2 id feature ra mac) e unreleased received =
    let session : TripleKey = session_of kmac ra rb in
    let text : List ℕ = au2_text (peer_flag s) s.me peer 1 ra rb in
    met_unless key_of s event (feature == 1) _ _
    (λ other. met_releases key_of s event cause.OtherFeature (OfAu2 peer rb id feature ra mac kmac e received (eqb-false feature 1 other)))
    (λ one.
    let first : IsReceived s event (Au2 id 1 ra mac) =
    received_as s event (Au2 id feature ra mac) (Au2 id 1 ra mac) (ap (λ n. Au2 id n ra mac) (eqb-true feature 1 one)) received in
    met_unless key_of s event (id == peer) _ _
    (λ other. met_releases key_of s event cause.OtherResponder
    (record { peer = peer; kmac = kmac; id = id; ra = ra; rb = rb; mac = mac; waits = e; received = first; other = eqb-false id peer other }))
    (λ same.
    let second : IsReceived s event (Au2 peer 1 ra mac) =
    received_as s event (Au2 id 1 ra mac) (Au2 peer 1 ra mac) (ap (λ n. Au2 n 1 ra mac) (eqb-true id peer same)) first in
    met_unless key_of s event (mac == mac_of session text) _ _
    (λ wrong. met_releases key_of s event cause.Au2MacWrong
    (record { peer = peer; kmac = kmac; ra = ra; rb = rb; mac = mac; waits = e; received = second; wrong = eqb-false mac (mac_of session text) wrong }))
    (λ right. record {
      met = record {
        connection = record { me = s.me; peer = peer; ra = ra; rb = rb; session = session };
        kmac = kmac;
        waits = e;
        received = received_as s event (Au2 peer 1 ra mac) (Au2 peer 1 ra (mac_of session text))
            (ap (λ n. Au2 peer 1 ra n) (eqb-true mac (mac_of session text) right)) second;
        me_is = refl;
        keys_are = refl;
        session_is = refl;
        next_is = refl;
        verified_is = refl;
        sealed_is = refl;
        octets_is = refl;
      };
    })))
met_row key_of s event (WaitAu3 c) (Au3 mac) e unreleased received =
    let text : List ℕ = au3_text (peer_flag s) s.me c.ra c.rb in
    met_unless key_of s event (mac == mac_of c.session text) _ _
    (λ wrong. met_releases key_of s event cause.Au3MacWrong
    (record { connection = c; mac = mac; waits = e; received = received; wrong = eqb-false mac (mac_of c.session text) wrong }))
    (λ right. record {
      met = record {
        waits = e;
        received = received_as s event (Au3 mac) (Au3 (mac_of c.session text)) (ap (λ n. Au3 n) (eqb-true mac (mac_of c.session text) right)) received;
        next_is = refl;
        verified_is = refl;
        sealed_is = refl;
        octets_is = refl;
      };
    })
met_row key_of s event (WaitAr c) (Ar mac) e unreleased received =
    let text : List ℕ = ar_text (peer_flag s) s.me in
    met_unless key_of s event (mac == mac_of c.session text) _ _
    (λ wrong. met_releases key_of s event cause.ArMacWrong
    (record { connection = c; mac = mac; waits = e; received = received; wrong = eqb-false mac (mac_of c.session text) wrong }))
    (λ right. record {
      met = record {
        waits = e;
        received = received_as s event (Ar mac) (Ar (mac_of c.session text)) (ap (λ n. Ar n) (eqb-true mac (mac_of c.session text) right)) received;
        next_is = refl;
        verified_is = refl;
      };
    })
met_row key_of s event (Connected peer session) (Dt user mac) e unreleased received =
    let text : List ℕ = message_text (peer_flag s) s.me user in
    met_unless key_of s event (mac == mac_of session text) _ _
    (λ wrong. met_releases key_of s event cause.DtMacWrong
    (record {
      peer = peer;
      session = session;
      user = user;
      mac = mac;
      waits = e;
      received = received;
      wrong = eqb-false mac (mac_of session text) wrong;
    }))
    (λ right. record {
      met = record {
        peer = peer;
        connected = e;
        received = received_as s event (Dt user mac) (Dt user (mac_of session text)) (ap (λ n. Dt user n) (eqb-true mac (mac_of session text) right)) received;
        next_is = refl;
        verified_is = refl;
      };
    })
met_row key_of s event (Released release session) pdu e unreleased received = absurd unreleased
met_row key_of s event phase pdu e unreleased received = met_unexpected key_of s event phase pdu e unreleased received (λ pair. pair)

-- octets that were read
met_checked : (key_of : ℕ → ℕ → Option TripleKey) (s : Safety) (octets : List ℕ) (read : Result (SafetyPdu × Bool) SaFault) → IsOpen s.phase
    → read_of octets ≡ read → IsMet key_of s (Received octets) (checked key_of s read)
met_checked key_of s octets (Err fault) unreleased is =
    met_releases key_of s (Received octets) cause.Malformed
    (record { octets = octets; fault = fault; unreleased = unreleased; event_is = refl; read = is })
met_checked key_of s octets (Ok read) unreleased is =
    met_unless key_of s (Received octets) (same_flag read.1 (peer_flag s)) _ _
    (λ own.
    let flag_is = is_own_flag s.role read.1 own in
    met_releases key_of s (Received octets) cause.WrongDirection
    (record {
      octets = octets;
      pdu = read.0;
      unreleased = unreleased;
      event_is = refl;
      read = subst (λ f. read_of octets ≡ Ok (read.0, f)) flag_is is;
    }))
    (λ peers.
    let flag_is = same_flag-true read.1 (peer_flag s) peers in
    met_row key_of s (Received octets) s.phase read.0 refl unreleased
    (record { octets = octets; event_is = refl; read = subst (λ f. read_of octets ≡ Ok (read.0, f)) flag_is is }))

met_receives : (key_of : ℕ → ℕ → Option TripleKey) (s : Safety) (phase : Phase) (octets : List ℕ) → s.phase ≡ phase
    → IsMet key_of s (Received octets) (step_received_octets key_of s phase octets)
met_receives key_of s (Released release session) octets e = record { met = AtReceived octets release session refl e refl }
met_receives key_of s phase octets e = met_checked key_of s octets (read_of octets) (subst IsOpen (sym e) tt) refl

-- the test of a message
pub message_test : (user : List ℕ) → IsMessage user → is_message user ≡ true
message_test user good =
    and_from (nat_le 1 (length user)) (nat_le (length user) 1023) (le-leb 1 (length user) good.0) (le-leb (length user) 1023 good.1)

tested_message : (user : List ℕ) → is_message user ≡ true → IsMessage user
tested_message user e =
    let both = and_parts (nat_le 1 (length user)) (nat_le (length user) 1023) e in
    (leb-true 1 (length user) both.0, leb-true (length user) 1023 both.1)

no_message : (user : List ℕ) → is_message user ≡ false → IsMessage user → ⊥
no_message user e good = let t = message_test user good in cc

refused_at : (b : Bool) (user : List ℕ) → (IsMessage user → ⊥) → is_message user ≡ b → is_message user ≡ false
refused_at true user none e = absurd (none (tested_message user e))
refused_at false user none e = e

pub message_refused : (user : List ℕ) → (IsMessage user → ⊥) → is_message user ≡ false
message_refused user none = refused_at (is_message user) user none refl

met_sends : (key_of : ℕ → ℕ → Option TripleKey) (s : Safety) (phase : Phase) (user : List ℕ) → s.phase ≡ phase
    → IsMet key_of s (DataRequest user) (sends s phase user)
met_sends key_of s (Released release session) user e =
    record { met = record { user = user; event_is = refl; met = (session, e); next_is = refl } }
met_sends key_of s (Connected peer session) user e =
    met_unless key_of s (DataRequest user) (is_message user) _ _
    (λ no. record { met = record { user = user; event_is = refl; met = ((peer, session, e), refl, no_message user no); next_is = refl } })
    (λ yes. record {
      met = record {
        peer = peer;
        event_is = refl;
        connected = e;
        message = tested_message user yes;
        next_is = refl;
        sealed_is = refl;
        octets_is = refl;
      };
    })
met_sends key_of s phase user e = record { met = record { user = user; event_is = refl; met = subst IsInSetUp (sym e) tt; next_is = refl } }

met_connects : (key_of : ℕ → ℕ → Option TripleKey) (s : Safety) (phase : Phase) → s.phase ≡ phase → IsMet key_of s ConnectRequest (connects s phase)
met_connects key_of s (Ready peer kmac rb) e =
    record { met = record { peer = peer; kmac = kmac; rb = rb; event_is = refl; waits = e; next_is = refl; octets_is = refl } }
met_connects key_of s phase e = record { met = AtConnect refl (subst (λ p. IsReady p → ⊥) (sym e) (λ ready. ready)) refl }

met_disconnects : (key_of : ℕ → ℕ → Option TripleKey) (s : Safety) (phase : Phase) (sub : ℕ) → s.phase ≡ phase
    → IsMet key_of s (DisconnectRequest sub) (disconnects s phase sub)
met_disconnects key_of s (Released release session) sub e = record { met = AtDisconnect sub release session refl e refl }
met_disconnects key_of s phase sub e = met_releases key_of s (DisconnectRequest sub) (cause.User sub) (subst IsOpen (sym e) tt, refl)

pub met_step : (key_of : ℕ → ℕ → Option TripleKey) (s : Safety) (event : SafetyEvent) → IsMet key_of s event (step key_of s event)
met_step key_of s ConnectRequest = met_connects key_of s s.phase refl
met_step key_of s (Received octets) = met_receives key_of s s.phase octets refl
met_step key_of s (DataRequest user) = met_sends key_of s s.phase user refl
met_step key_of s (DisconnectRequest sub) = met_disconnects key_of s s.phase sub refl

pub steps_only : StepsOnly
steps_only key_of s event = (met_step key_of s event).met
