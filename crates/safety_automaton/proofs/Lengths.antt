-- The lengths of what is sent and of what is accepted.
use Rattle.std.proofs.Common.{◌≡◌, ◌∙◌, ◌+◌, ℕ, ◌≤◌, Bool, List, length, Option, refl, sym, subst, ap, arith, length-append}
use Rattle.er_base.specs.Octets.{eight}
use Rattle.des_block.specs.declared.triple_key.TripleKey.{TripleKey}
use Rattle.cbc_mac.specs.Mac.{mac_of}
use Rattle.sapdu.specs.Spelling.{SafetyPdu, Au1, Au2, Au3, Ar, Dt, Di, spelling}
use Rattle.sapdu.specs.SpellingLaws.{IsSpelledBack}
use Rattle.safety_automaton.specs.Safety.{Safety, SafetyEvent, ConnectRequest, Received, DataRequest, DisconnectRequest, SafetyOutcome, SentAu1, SentAu2, SentAu3, SentAr, ReceivedAr, AcceptedDt, SentDt, Refused, ReleasedLocally, ReleasedByPeer, NothingDone, flag_of, octets_sent_in_outcome, step}
use Rattle.er_base.specs.Stored.{Stored}
use Rattle.er_base.specs.Stored.{Appends}
use Rattle.safety_automaton.specs.Reports.{Report, report_of}
use Rattle.safety_automaton.specs.Views.{IfAccepted}
use Rattle.safety_automaton.specs.Rules.{IsStep}
use Rattle.safety_automaton.specs.Laws.{IsValidEvent, HasOutcomeLength, LengthsAre, most_sent, SendsFew}
use Rattle.safety_automaton.proofs.Only.{steps_only}
use Rattle.safety_automaton.proofs.Valid.{fits_received}

-- a number is spelled in eight octets
abbrev pub EightAreEight : Type 0
EightAreEight = (n : ℕ) → length (eight n) ≡ 8

-- the length of an SaPDU
length_of : SafetyPdu → ℕ
length_of (Au1 id feature rb) = 13
length_of (Au2 id feature ra mac) = 21
length_of (Au3 mac) = 9
length_of (Ar mac) = 9
length_of (Dt user mac) = length user + 9
length_of (Di reason sub) = 3

spelling_length : EightAreEight → (pdu : SafetyPdu) (flag : Bool) → length (spelling pdu flag) ≡ length_of pdu
unfolding length_of
spelling_length long (Au1 id feature rb) flag = let l = long rb in omega arith
spelling_length long (Au2 id feature ra mac) flag = simp (length-append, long) (omega arith)
spelling_length long (Au3 mac) flag = let l = long mac in omega arith
spelling_length long (Ar mac) flag = let l = long mac in omega arith
spelling_length long (Dt user mac) flag = simp (length-append, long) (omega arith)
spelling_length long (Di reason sub) flag = omega arith

spelled_length : EightAreEight → (pdu : SafetyPdu) (flag : Bool) (octets : List ℕ) → octets ≡ spelling pdu flag → length octets ≡ length_of pdu
spelled_length long pdu flag octets e = ap length e ∙ spelling_length long pdu flag

lengths : EightAreEight → IsSpelledBack → (key_of : ℕ → ℕ → Option TripleKey) (s : Safety) (event : SafetyEvent) (next : Safety)
    (outcome : SafetyOutcome) → IsStep key_of s event next outcome → IsValidEvent event → HasOutcomeLength outcome
unfolding length_of
lengths long back key_of s event next (SentAu1 octets) met fine = spelled_length long (Au1 s.me 1 met.rb) (flag_of s.role) octets met.octets_is
lengths long back key_of s event next (SentAu2 session sealed octets) met fine = spelled_length long (Au2 s.me 1 met.connection.ra (mac_of session sealed)) (flag_of s.role) octets met.octets_is
lengths long back key_of s event next (SentAu3 session verified sealed octets) met fine = spelled_length long (Au3 (mac_of session sealed)) (flag_of s.role) octets met.octets_is
lengths long back key_of s event next (SentAr c verified sealed octets) met fine = spelled_length long (Ar (mac_of c.session sealed)) (flag_of s.role) octets met.octets_is
lengths long back key_of s event next (ReceivedAr c verified) met fine = tt
lengths long back key_of s event next (AcceptedDt session user verified) met fine =
    (fits_received back s event (Dt user (mac_of session verified)) fine met.received).user
lengths long back key_of s event next (SentDt session user sealed octets) met fine = (met.message, spelled_length long (Dt user (mac_of session sealed)) (flag_of s.role) octets met.octets_is)
lengths long back key_of s event next (Refused refusal) met fine = tt
lengths long back key_of s event next (ReleasedLocally release octets) met fine = spelled_length long (Di release.reason release.sub) (flag_of s.role) octets met.releases.octets_is
lengths long back key_of s event next (ReleasedByPeer release) met fine = tt
lengths long back key_of s event next NothingDone met fine = tt

pub lengths_are : EightAreEight → IsSpelledBack → LengthsAre
lengths_are long back key_of s event fine =
    lengths long back key_of s event (step key_of s event).0 (step key_of s event).1 (steps_only key_of s event) fine

-- at each event a DI may be sent
di_fits : (event : SafetyEvent) → 3 ≤ most_sent event
di_fits ConnectRequest = omega arith
di_fits (Received octets) = omega arith
di_fits (DataRequest user) = omega arith
di_fits (DisconnectRequest sub) = omega arith

none_fits : (event : SafetyEvent) → 0 ≤ most_sent event
none_fits event = omega arith

fits_at : (n m : ℕ) (event at : SafetyEvent) → event ≡ at → n ≡ m → m ≤ most_sent at → n ≤ most_sent event
fits_at n m event at e long few = let same : most_sent event ≡ most_sent at = ap most_sent e in omega arith

few : EightAreEight → (key_of : ℕ → ℕ → Option TripleKey) (s : Safety) (event : SafetyEvent) (next : Safety) (outcome : SafetyOutcome)
    → IsStep key_of s event next outcome → length (octets_sent_in_outcome outcome) ≤ most_sent event
unfolding length_of
few long key_of s event next (SentAu1 octets) met =
    fits_at (length octets) 13 event ConnectRequest met.event_is (spelled_length long (Au1 s.me 1 met.rb) (flag_of s.role) octets met.octets_is) (omega arith)
few long key_of s event next (SentAu2 session sealed octets) met =
    fits_at (length octets) 21 event (Received met.received.octets) met.received.event_is
    (spelled_length long (Au2 s.me 1 met.connection.ra (mac_of session sealed)) (flag_of s.role) octets met.octets_is) (omega arith)
few long key_of s event next (SentAu3 session verified sealed octets) met =
    fits_at (length octets) 9 event (Received met.received.octets) met.received.event_is
    (spelled_length long (Au3 (mac_of session sealed)) (flag_of s.role) octets met.octets_is) (omega arith)
few long key_of s event next (SentAr c verified sealed octets) met =
    fits_at (length octets) 9 event (Received met.received.octets) met.received.event_is
    (spelled_length long (Ar (mac_of c.session sealed)) (flag_of s.role) octets met.octets_is) (omega arith)
few long key_of s event next (ReceivedAr c verified) met = none_fits event
few long key_of s event next (AcceptedDt session user verified) met = none_fits event
few long key_of s event next (SentDt session user sealed octets) met =
    let most : length user ≤ 1023 = met.message.1 in
    fits_at (length octets) (length user + 9) event (DataRequest user) met.event_is
    (spelled_length long (Dt user (mac_of session sealed)) (flag_of s.role) octets met.octets_is) (omega arith)
few long key_of s event next (Refused refusal) met = none_fits event
few long key_of s event next (ReleasedLocally release octets) met =
    fits_at (length octets) 3 event event refl
    (spelled_length long (Di release.reason release.sub) (flag_of s.role) octets met.releases.octets_is) (di_fits event)
few long key_of s event next (ReleasedByPeer release) met = none_fits event
few long key_of s event next NothingDone met = none_fits event

pub sends_few : EightAreEight → SendsFew
sends_few long key_of s event = few long key_of s event (step key_of s event).0 (step key_of s event).1 (steps_only key_of s event)

-- what was appended is no longer
pub few_appended : (old new : Stored) (octets : List ℕ) (n : ℕ) → Appends old new octets → length octets ≤ n → length new.items ≤ length old.items + n
few_appended old new octets n appends short =
    let both : length new.items ≡ length old.items + length octets = ap length appends.items ∙ length-append old.items octets in
    omega arith

-- user octets that were accepted are a message
pub few_accepted : (told : Report) (outcome : SafetyOutcome) → HasOutcomeLength outcome → told ≡ report_of outcome
    → IfAccepted told (λ user. length user ≤ 1023)
few_accepted told outcome has e = let P : Report → Type 0 = λ r. IfAccepted r (λ user. length user ≤ 1023) in subst P (sym e) (of_outcome outcome has)
  where
    of_outcome : (outcome : SafetyOutcome) → HasOutcomeLength outcome → IfAccepted (report_of outcome) (λ user. length user ≤ 1023)
    of_outcome (SentAu1 octets) has = tt
    of_outcome (SentAu2 session sealed octets) has = tt
    of_outcome (SentAu3 session verified sealed octets) has = tt
    of_outcome (SentAr c verified sealed octets) has = tt
    of_outcome (ReceivedAr c verified) has = tt
    of_outcome (AcceptedDt session user verified) has = has.1
    of_outcome (SentDt session user sealed octets) has = tt
    of_outcome (Refused refusal) has = tt
    of_outcome (ReleasedLocally release octets) has = tt
    of_outcome (ReleasedByPeer release) has = tt
    of_outcome NothingDone has = tt
