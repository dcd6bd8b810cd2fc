-- A message is accepted exactly where it is verified, and a side is connected only by an SaPDU whose MAC verified.
use Rattle.std.proofs.Common.{◌≡◌, ℕ, ◌<◌, ◌^◌, List, Option, Ok, refl, sym, subst}
use Rattle.des_block.specs.declared.triple_key.TripleKey.{TripleKey}
use Rattle.cbc_mac.specs.Mac.{mac_of}
use Rattle.sapdu.specs.Spelling.{SafetyPdu, Dt, spelling, read_of}
use Rattle.sapdu.specs.SpellingLaws.{Fits, IsReadBack, IsSpelledBack}
use Rattle.safety_automaton.specs.Safety.{Safety, Connected, SafetyEvent, Received, SafetyOutcome, SentAu1, SentAu2, SentAu3, SentAr, ReceivedAr, AcceptedDt, SentDt, Refused, ReleasedLocally, ReleasedByPeer, NothingDone, peer_flag, step}
use Rattle.safety_automaton.specs.Rules.{IsReceived, IsStep, AcceptsDt, StaysIdle, AtReceived, AtDisconnect, AtConnect}
use Rattle.safety_automaton.specs.Laws.{IsVerifiedMessage, AcceptsVerified, VerifiedAccepts, AcceptsSpelled, SpelledAccepts, SpelledIsReceived, ReceivedIsSpelled, ComesConnected, WasConnected, HasSentAr, HasReceivedAr, ConnectsOnly, ReleasedRests}
use Rattle.safety_automaton.proofs.Only.{steps_only}
use Rattle.safety_automaton.proofs.Each.{accepts_dt}

-- the MAC of each text is a number of eight octets
abbrev pub MacsFit : Type 0
MacsFit = (key : TripleKey) (text : List ℕ) → mac_of key text < 2 ^ 64

-- octets that were received, as they are read
read_as : (s : Safety) (octets : List ℕ) (pdu : SafetyPdu) → IsReceived s (Received octets) pdu → read_of octets ≡ Ok (pdu, peer_flag s)
read_as s octets pdu r = let same : octets ≡ r.octets = let e = r.event_is in cc in rw same r.read

pub accepts_verified : AcceptsVerified
accepts_verified key_of s session octets user text e =
    let P : SafetyOutcome → Type 0 = λ o. IsStep key_of s (Received octets) (step key_of s (Received octets)).0 o in
    let row : AcceptsDt s (Received octets) (step key_of s (Received octets)).0 session user text = subst P e (steps_only key_of s (Received octets)) in
    record { peer = row.peer; connected = row.connected; text_is = row.verified_is; read = read_as s octets _ row.received }

pub verified_accepts : VerifiedAccepts
verified_accepts key_of s session octets user text v =
    accepts_dt key_of s (Received octets) s session user text
    (record {
      peer = v.peer;
      connected = v.connected;
      received = record { octets = octets; event_is = refl; read = v.read };
      next_is = refl;
      verified_is = v.text_is;
    })

-- ---- in octets

pub spelled_is_received : IsReadBack → SpelledIsReceived
spelled_is_received back s octets pdu fits is =
    let P : List ℕ → Type 0 = λ o. read_of o ≡ Ok (pdu, peer_flag s) in
    record { octets = octets; event_is = refl; read = subst P (sym is) (back pdu (peer_flag s) fits) }

pub received_is_spelled : IsSpelledBack → ReceivedIsSpelled
received_is_spelled back s octets pdu small r = back octets pdu (peer_flag s) small (read_as s octets pdu r)

pub spelled_accepts : IsReadBack → MacsFit → SpelledAccepts
spelled_accepts back below key_of s session octets user text small dt =
    let mac : ℕ = mac_of session text in
    let fits : Fits (Dt user mac) = record { user = dt.message; octets = (small, below session text) } in
    let P : List ℕ → Type 0 = λ o. read_of o ≡ Ok (Dt user mac, peer_flag s) in
    verified_accepts key_of s session octets user text
    (record { peer = dt.peer; connected = dt.connected; text_is = dt.text_is; read = subst P (sym dt.spelled) (back (Dt user mac) (peer_flag s) fits) })

pub accepts_spelled : IsSpelledBack → AcceptsSpelled
accepts_spelled back key_of s session octets user text small e =
    let v : IsVerifiedMessage s session octets user text = accepts_verified key_of s session octets user text e in
    let mac : ℕ = mac_of session text in
    let both : Fits (Dt user mac) × (octets ≡ spelling (Dt user mac) (peer_flag s)) = back octets (Dt user mac) (peer_flag s) small v.read in
    record { peer = v.peer; connected = v.connected; message = both.0.user; text_is = v.text_is; spelled = both.1 }

-- ---- how a side comes to be connected

same_connection : (p q : ℕ) (j k : TripleKey) → Connected p j ≡ Connected q k → (p ≡ q) × (j ≡ k)
same_connection p q j k e = (cc, cc)

-- a side at which nothing is done is as it was
pub idle_same : (s : Safety) (event : SafetyEvent) (next : Safety) → StaysIdle s event next → next ≡ s
idle_same s event next (AtReceived octets release session is released same) = same
idle_same s event next (AtDisconnect sub release session is released same) = same
idle_same s event next (AtConnect is ready same) = same

comes_connected : (key_of : ℕ → ℕ → Option TripleKey) (s : Safety) (event : SafetyEvent) (next : Safety) (outcome : SafetyOutcome) (peer : ℕ)
    (session : TripleKey) → IsStep key_of s event next outcome → next.phase ≡ Connected peer session → ComesConnected s outcome peer session
comes_connected key_of s event next (SentAu1 octets) peer session met e = let n = met.next_is in absurd cc
comes_connected key_of s event next (SentAu2 key sealed octets) peer session met e = let n = met.next_is in absurd cc
comes_connected key_of s event next (SentAu3 key verified sealed octets) peer session met e = let n = met.next_is in absurd cc
comes_connected key_of s event next (SentAr c verified sealed octets) peer session met e =
    let P : Safety → Type 0 = λ n. n.phase ≡ Connected peer session in
    let same = same_connection c.peer peer c.session session (subst P met.next_is e) in
    HasSentAr c verified sealed octets refl same.0 same.1
comes_connected key_of s event next (ReceivedAr c verified) peer session met e =
    let P : Safety → Type 0 = λ n. n.phase ≡ Connected peer session in
    let same = same_connection c.peer peer c.session session (subst P met.next_is e) in
    HasReceivedAr c verified refl same.0 same.1
comes_connected key_of s event next (AcceptedDt key user verified) peer session met e =
    let P : Safety → Type 0 = λ n. n.phase ≡ Connected peer session in WasConnected (subst P met.next_is e)
comes_connected key_of s event next (SentDt key user sealed octets) peer session met e =
    let P : Safety → Type 0 = λ n. n.phase ≡ Connected peer session in WasConnected (subst P met.next_is e)
comes_connected key_of s event next (Refused refusal) peer session met e =
    let P : Safety → Type 0 = λ n. n.phase ≡ Connected peer session in WasConnected (subst P met.next_is e)
comes_connected key_of s event next (ReleasedLocally release octets) peer session met e = let n = met.releases.next_is in absurd cc
comes_connected key_of s event next (ReleasedByPeer release) peer session met e = let n = met.next_is in absurd cc
comes_connected key_of s event next NothingDone peer session met e =
    let P : Safety → Type 0 = λ n. n.phase ≡ Connected peer session in WasConnected (subst P (idle_same s event next met) e)

pub connects_only : ConnectsOnly
connects_only key_of s event peer session e =
    comes_connected key_of s event (step key_of s event).0 (step key_of s event).1 peer session (steps_only key_of s event) e

pub released_rests : ReleasedRests
released_rests s release session released =
    record {
      ignores = λ key_of octets. rw released refl;
      refuses = λ key_of user. rw released refl;
      stays = λ key_of sub. rw released refl;
      starts_nothing = λ key_of. rw released refl;
    }
