-- The sides that there can be, and what they send: kept by each row.
use Rattle.std.proofs.Common.{◌≡◌, ℕ, ◌<◌, ◌⊎◌, inl, inr, List, [], Option, refl, sym, subst, arith}
use Rattle.er_base.specs.declared.release.Release.{Release}
use Rattle.des_block.specs.declared.triple_key.TripleKey.{TripleKey}
use Rattle.cbc_mac.specs.Mac.{mac_of}
use Rattle.er_base.specs.Octets.{AreOctets}
use Rattle.sapdu.specs.Spelling.{SafetyPdu, Au1, Au2, Au3, Ar, Dt, Di}
use Rattle.sapdu.specs.SpellingLaws.{Fits, IsSpelledBack}
use Rattle.er_base.specs.Causes.{release_of}
use Rattle.er_base.specs.declared.cause.Cause.{Cause}
use Rattle.er_base.specs.declared.cause.Cause.TheVariants as cause
use Rattle.safety_automaton.specs.Safety.{Safety, Connection, Phase, Ready, Connected, WaitAu1, WaitAu2, WaitAu3, WaitAr, SafetyEvent, DataRequest, DisconnectRequest, SafetyOutcome, SentAu1, SentAu2, SentAu3, SentAr, ReceivedAr, AcceptedDt, SentDt, Refused, ReleasedLocally, ReleasedByPeer, NothingDone, peer_flag, octets_sent_in_outcome, step}
use Rattle.safety_automaton.specs.Rules.{IsReceived, IsStep, CauseMet}
use Rattle.safety_automaton.specs.Laws.{IsValidPhase, IsValid, IsValidEvent, MakesValid, StaysValid, StaysItself, SpellsOwn, SendsOwn}
use Rattle.safety_automaton.proofs.Only.{steps_only}
use Rattle.safety_automaton.proofs.Messages.{MacsFit, idle_same}

pub makes_valid : MakesValid
makes_valid =
    record {
      initiators = λ me peer rb kmac own others random. record { me = own; phase = (refl, others, random) };
      responders = λ me ra own random. record { me = own; phase = (refl, random) };
      fixed_sides = λ me peer role session own others. record { me = own; phase = others };
    }

-- what is received fits
pub fits_received : IsSpelledBack → (s : Safety) (event : SafetyEvent) (pdu : SafetyPdu) → IsValidEvent event → IsReceived s event pdu → Fits pdu
fits_received back s event pdu valid r = (back r.octets pdu (peer_flag s) (subst IsValidEvent r.event_is valid) r.read).0

phase_as : (s : Safety) (phase : Phase) → IsValid s → s.phase ≡ phase → IsValidPhase s.me s.role phase
phase_as s phase valid e = let P : Phase → Type 0 = λ p. IsValidPhase s.me s.role p in subst P e valid.phase

-- a side with another phase
goes_on : (s next : Safety) (phase : Phase) → IsValid s → IsValidPhase s.me s.role phase → next ≡ record s { phase = phase } → IsValid next
goes_on s next phase valid fine e = subst IsValid (sym e) (record { me = valid.me; phase = fine })

user_sub : (event : SafetyEvent) (sub : ℕ) → IsValidEvent event → event ≡ DisconnectRequest sub → sub < 256
user_sub event sub valid e = subst IsValidEvent e valid

-- the two octets of a release by this side
own_octets : (key_of : ℕ → ℕ → Option TripleKey) (s : Safety) (event : SafetyEvent) (why : Cause) → IsValidEvent event → CauseMet key_of s event why
    → ((release_of why).reason < 256) × ((release_of why).sub < 256)
own_octets key_of s event (cause.User sub) valid met = (omega arith, user_sub event sub valid met.1)
own_octets key_of s event why valid met = (omega arith, omega arith)

stays : IsSpelledBack → (key_of : ℕ → ℕ → Option TripleKey) (s : Safety) (event : SafetyEvent) (next : Safety) (outcome : SafetyOutcome)
    → IsStep key_of s event next outcome → IsValid s → IsValidEvent event → IsValid next
stays back key_of s event next (SentAu1 octets) met valid fine =
    goes_on s next (WaitAu2 met.peer met.kmac met.rb) valid (phase_as s (Ready met.peer met.kmac met.rb) valid met.waits) met.next_is
stays back key_of s event next (SentAu2 session sealed octets) met valid fine =
    let c : Connection = met.connection in
    let was = phase_as s (WaitAu1 c.ra) valid met.waits in
    let fits = fits_received back s event (Au1 c.peer 1 c.rb) fine met.received in
    goes_on s next (WaitAu3 c) valid (was.0, record { me_is = met.me_is; peer = fits.octets.0; ra = was.1; rb = fits.octets.2 }) met.next_is
stays back key_of s event next (SentAu3 session verified sealed octets) met valid fine =
    let c : Connection = met.connection in
    let was = phase_as s (WaitAu2 c.peer met.kmac c.rb) valid met.waits in
    let fits = fits_received back s event (Au2 c.peer 1 c.ra (mac_of session verified)) fine met.received in
    goes_on s next (WaitAr c) valid (was.0, record { me_is = met.me_is; peer = was.1; ra = fits.octets.2; rb = was.2 }) met.next_is
stays back key_of s event next (SentAr c verified sealed octets) met valid fine =
    let was = phase_as s (WaitAu3 c) valid met.waits in
    goes_on s next (Connected c.peer c.session) valid was.1.peer met.next_is
stays back key_of s event next (ReceivedAr c verified) met valid fine =
    let was = phase_as s (WaitAr c) valid met.waits in
    goes_on s next (Connected c.peer c.session) valid was.1.peer met.next_is
stays back key_of s event next (AcceptedDt session user verified) met valid fine = subst IsValid (sym met.next_is) valid
stays back key_of s event next (SentDt session user sealed octets) met valid fine = subst IsValid (sym met.next_is) valid
stays back key_of s event next (Refused refusal) met valid fine = subst IsValid (sym met.next_is) valid
stays back key_of s event next (ReleasedLocally release octets) met valid fine =
    let P : Release → Type 0 = λ r. (r.reason < 256) × (r.sub < 256) in
    goes_on s next _ valid (subst P (sym met.releases.release_is) (own_octets key_of s event met.cause fine met.met)) met.releases.next_is
stays back key_of s event next (ReleasedByPeer release) met valid fine =
    let P : Release → Type 0 = λ r. (r.reason < 256) × (r.sub < 256) in
    let fits = fits_received back s event (Di met.reason met.sub) fine met.received in
    goes_on s next _ valid (subst P (sym met.release_is) fits.octets) met.next_is
stays back key_of s event next NothingDone met valid fine = subst IsValid (sym (idle_same s event next met)) valid

pub stays_valid : IsSpelledBack → StaysValid
stays_valid back key_of s event valid fine =
    stays back key_of s event (step key_of s event).0 (step key_of s event).1 (steps_only key_of s event) valid fine

same_side : (s next : Safety) (phase : Phase) → next ≡ record s { phase = phase } → (next.me ≡ s.me) × (next.role ≡ s.role)
same_side s next phase e = let P : Safety → Type 0 = λ n. (n.me ≡ s.me) × (n.role ≡ s.role) in subst P (sym e) (refl, refl)

same_all : (s next : Safety) → next ≡ s → (next.me ≡ s.me) × (next.role ≡ s.role)
same_all s next e = let P : Safety → Type 0 = λ n. (n.me ≡ s.me) × (n.role ≡ s.role) in subst P (sym e) (refl, refl)

itself : (key_of : ℕ → ℕ → Option TripleKey) (s : Safety) (event : SafetyEvent) (next : Safety) (outcome : SafetyOutcome)
    → IsStep key_of s event next outcome → (next.me ≡ s.me) × (next.role ≡ s.role)
itself key_of s event next (SentAu1 octets) met = same_side s next _ met.next_is
itself key_of s event next (SentAu2 session sealed octets) met = same_side s next _ met.next_is
itself key_of s event next (SentAu3 session verified sealed octets) met = same_side s next _ met.next_is
itself key_of s event next (SentAr c verified sealed octets) met = same_side s next _ met.next_is
itself key_of s event next (ReceivedAr c verified) met = same_side s next _ met.next_is
itself key_of s event next (AcceptedDt session user verified) met = same_all s next met.next_is
itself key_of s event next (SentDt session user sealed octets) met = same_all s next met.next_is
itself key_of s event next (Refused refusal) met = same_all s next met.next_is
itself key_of s event next (ReleasedLocally release octets) met = same_side s next _ met.releases.next_is
itself key_of s event next (ReleasedByPeer release) met = same_side s next _ met.next_is
itself key_of s event next NothingDone met = same_all s next (idle_same s event next met)

pub stays_itself : StaysItself
stays_itself key_of s event = itself key_of s event (step key_of s event).0 (step key_of s event).1 (steps_only key_of s event)

-- ---- what is sent

user_octets : (event : SafetyEvent) (user : List ℕ) → IsValidEvent event → event ≡ DataRequest user → AreOctets user
user_octets event user valid e = subst IsValidEvent e valid

sends : MacsFit → (key_of : ℕ → ℕ → Option TripleKey) (s : Safety) (event : SafetyEvent) (next : Safety) (outcome : SafetyOutcome)
    → IsStep key_of s event next outcome → IsValid s → IsValidEvent event → (octets_sent_in_outcome outcome ≡ []) ⊎ SpellsOwn s (octets_sent_in_outcome outcome)
sends below key_of s event next (SentAu1 octets) met valid fine =
    let was = phase_as s (Ready met.peer met.kmac met.rb) valid met.waits in
    inr (record { pdu = Au1 s.me 1 met.rb; fits = record { user = tt; octets = (valid.me, omega arith, was.2) }; octets_are = met.octets_is })
sends below key_of s event next (SentAu2 session sealed octets) met valid fine =
    let c : Connection = met.connection in
    let was = phase_as s (WaitAu1 c.ra) valid met.waits in
    inr (record {
      pdu = Au2 s.me 1 c.ra (mac_of session sealed);
      fits = record { user = tt; octets = (valid.me, omega arith, was.1, below session sealed) };
      octets_are = met.octets_is;
    })
sends below key_of s event next (SentAu3 session verified sealed octets) met valid fine =
    inr (record { pdu = Au3 (mac_of session sealed); fits = record { user = tt; octets = below session sealed }; octets_are = met.octets_is })
sends below key_of s event next (SentAr c verified sealed octets) met valid fine =
    inr (record { pdu = Ar (mac_of c.session sealed); fits = record { user = tt; octets = below c.session sealed }; octets_are = met.octets_is })
sends below key_of s event next (ReceivedAr c verified) met valid fine = inl refl
sends below key_of s event next (AcceptedDt session user verified) met valid fine = inl refl
sends below key_of s event next (SentDt session user sealed octets) met valid fine =
    inr (record {
      pdu = Dt user (mac_of session sealed);
      fits = record { user = met.message; octets = (user_octets event user fine met.event_is, below session sealed) };
      octets_are = met.octets_is;
    })
sends below key_of s event next (Refused refusal) met valid fine = inl refl
sends below key_of s event next (ReleasedLocally release octets) met valid fine =
    let P : Release → Type 0 = λ r. (r.reason < 256) × (r.sub < 256) in
    let few = subst P (sym met.releases.release_is) (own_octets key_of s event met.cause fine met.met) in
    inr (record { pdu = Di release.reason release.sub; fits = record { user = tt; octets = few }; octets_are = met.releases.octets_is })
sends below key_of s event next (ReleasedByPeer release) met valid fine = inl refl
sends below key_of s event next NothingDone met valid fine = inl refl

pub sends_own : MacsFit → SendsOwn
sends_own below key_of s event valid fine =
    sends below key_of s event (step key_of s event).0 (step key_of s event).1 (steps_only key_of s event) valid fine
