-- What a side knows on its way to a connection, and that each of its steps keeps it, with facts of which all that is claimed holds.
use Rattle.std.proofs.Common.{◌≡◌, ℕ, Bool, true, false, inl, inr, List, [], ◌∷◌, ◌++◌, refl, sym, ap, ap₂, subst, ◌∙◌}
use Rattle.std.specs.Prelude.{map, Option, Some, Ok}
use Rattle.std.proofs.lemmas.Bool.{or_parts, not-false, not-true}
use Rattle.std.proofs.lemmas.List.Folds.{list_any-append}
use Rattle.er_base.specs.declared.release.Release.{Release}
use Rattle.er_base.specs.declared.side.Side.{Side}
use Rattle.er_base.specs.declared.side.Side.TheVariants.{E, R}
use Rattle.er_base.specs.Sides.{other}
use Rattle.des_block.specs.declared.triple_key.TripleKey.{TripleKey}
use Rattle.cbc_mac.specs.Mac.{mac_of}
use Rattle.session_keys.specs.Session.{session_of}
use Rattle.sapdu.specs.Spelling.{SafetyPdu, Au2, Au3, Ar, Dt, read_of}
use Rattle.safety_automaton.specs.declared.role.Role.{Role}
use Rattle.safety_automaton.specs.Safety.{Safety, Connection, Phase, Ready, WaitAu1, WaitAu2, WaitAu3, WaitAr, Connected, Released, SafetyEvent, SafetyOutcome, SentAu1, SentAu2, SentAu3, SentAr, ReceivedAr, AcceptedDt, SentDt, Refused, ReleasedLocally, ReleasedByPeer, NothingDone, flag_of, other_role, peer_flag, au2_text, au3_text, ar_text, message_text}
use Rattle.safety_automaton.specs.Rules.{IsReceived, SendsAu1, SendsAu2, SendsAu3, SendsAr, ReceivesAr, AcceptsDt, SendsDt, StaysIdle, AtReceived, AtDisconnect, AtConnect, IsStep}
use Rattle.safety_automaton.specs.Laws.{TextsTell}
use Rattle.safety_pair_laws.specs.Facts.{Fact, Verified, MarkedFact, at_side, heard_in, facts_by, is_mistrust, mistrusts, was_sealed, mark, marked_from}
use Rattle.safety_pair_laws.specs.Facts as fact
use Rattle.safety_pair_laws.specs.Openings.{PairOpening, OfFixed, OfKeys, role_of_side, flag_from, etcs_number_of_side, key_for}
use Rattle.safety_pair_laws.specs.Authentic.{IsReadFrom, WasVerified, Verifies, ConnectsAs, HasSession, IsSend, IsAcceptedMessage, IsEnginesSealing, IsRbcsSealing, IsVerifiedBeforeConnection, IsOwn, IsConnection, IsAuthentic}
use Rattle.safety_pair_laws.proofs.Along.{Along, any_more, any_at}
use Rattle.safety_pair_laws.proofs.Sealings.{was_sealed_more}
use Rattle.safety_pair_laws.proofs.Mistrust.{none_sealed, marked_right, trusted_earlier, only_so}
use Rattle.safety_pair_laws.proofs.Honest.{HonestFact, AllHonest, was_sent, was_au3, was_au2, was_ar, randoms}

-- the text of the AU2 of a connection of an engine
abbrev pub au2_of : Connection → List ℕ
au2_of c = au2_text true c.me c.peer 1 c.ra c.rb

-- that text was sealed, unless what was verified in the set-up of the engine is forged
abbrev pub IsTrusted : List MarkedFact → Connection → Type 0
IsTrusted seen c = mistrusts E seen ≡ false → was_sealed c.session (au2_of c) seen ≡ true

mistrusts_before : (seen more : List MarkedFact) → mistrusts E (seen ++ more) ≡ false → (mistrusts E seen ≡ false) × (mistrusts E more ≡ false)
mistrusts_before seen more none = or_parts (mistrusts E seen) (mistrusts E more) (sym (list_any-append (is_mistrust E) seen more) ∙ none)

trusted_more : (seen more : List MarkedFact) (c : Connection) → IsTrusted seen c → IsTrusted (seen ++ more) c
trusted_more seen more c trusted = λ none. was_sealed_more c.session (au2_of c) seen more (trusted (mistrusts_before seen more none).0)

trusted_now : (seen more : List MarkedFact) (heard : List ℕ) (c : Connection) → IsTrusted (seen ++ mark seen (at_side E (Verified heard c.session (au2_of c))) ∷ more) c
trusted_now seen more heard c = λ none.
    let m : MarkedFact = mark seen (at_side E (Verified heard c.session (au2_of c))) in
    let fresh : (is_mistrust E m ≡ false) × (mistrusts E more ≡ false) = or_parts (is_mistrust E m) (mistrusts E more) (mistrusts_before seen (m ∷ more) none).1 in
    was_sealed_more c.session (au2_of c) seen (m ∷ more) (not-false (was_sealed c.session (au2_of c) seen) fresh.0)

-- an engine that calls this peer with this KMAC and random number has a connection of its own by it
abbrev pub CanCall : PairOpening → (peer : ℕ) → TripleKey → (rb : ℕ) → Type 0
CanCall opening peer kmac rb =
    (c : Connection) → c.me ≡ etcs_number_of_side opening E → c.peer ≡ peer → c.rb ≡ rb → c.session ≡ session_of kmac c.ra c.rb → IsOwn opening E c

-- a radio block centre that answers with this random number has one with whom its KMAC is found
abbrev pub CanAnswer : PairOpening → (ra : ℕ) → Type 0
CanAnswer opening ra =
    (c : Connection) (kmac : TripleKey) → key_for opening c.peer c.me ≡ Some kmac → c.me ≡ etcs_number_of_side opening R → c.ra ≡ ra
    → c.session ≡ session_of kmac c.ra c.rb → IsOwn opening R c

-- what a side knows in a phase, behind all that came before
abbrev pub Knows : PairOpening → List MarkedFact → Side → Phase → Type 0
Knows opening seen E (Ready peer kmac rb) = CanCall opening peer kmac rb
Knows opening seen E (WaitAu1 ra) = ⊥
Knows opening seen E (WaitAu2 peer kmac rb) = CanCall opening peer kmac rb
Knows opening seen E (WaitAu3 c) = ⊥
Knows opening seen E (WaitAr c) = IsOwn opening E c × WasVerified E c.session (au2_of c) seen × IsTrusted seen c
Knows opening seen E (Connected peer session) = (peer ≡ etcs_number_of_side opening R) × HasSession opening seen E session
Knows opening seen E (Released release session) = Unit {0}
Knows opening seen R (Ready peer kmac rb) = ⊥
Knows opening seen R (WaitAu1 ra) = CanAnswer opening ra
Knows opening seen R (WaitAu2 peer kmac rb) = ⊥
Knows opening seen R (WaitAu3 c) = IsOwn opening R c
Knows opening seen R (WaitAr c) = ⊥
Knows opening seen R (Connected peer session) = (peer ≡ etcs_number_of_side opening E) × HasSession opening seen R session
Knows opening seen R (Released release session) = Unit {0}

session_more : (opening : PairOpening) (seen more : List MarkedFact) (side : Side) (session : TripleKey)
    → HasSession opening seen side session → HasSession opening (seen ++ more) side session
session_more (OfFixed engine rbc ke kr) seen more E session h = h
session_more (OfFixed engine rbc ke kr) seen more R session h = h
session_more (OfKeys engine rbc ke kr ra rb) seen more side session h =
    let c : Connection = h.connection in
    record {
      connection = c;
      own = h.own;
      session = h.session;
      reported = any_more (λ m. (m.side ≡ side) × ConnectsAs c m.fact) seen more h.reported;
    }

knows_more : (opening : PairOpening) (seen more : List MarkedFact) (side : Side) (phase : Phase) → Knows opening seen side phase
    → Knows opening (seen ++ more) side phase
knows_more opening seen more E (WaitAr c) h =
    (h.0, any_more (λ m. (m.side ≡ E) × Verifies c.session (au2_of c) m.fact) seen more h.1, trusted_more seen more c h.2)
knows_more opening seen more E (Connected peer session) h = (h.0, session_more opening seen more E session h.1)
knows_more opening seen more R (Connected peer session) h = (h.0, session_more opening seen more R session h.1)
knows_more opening seen more E phase h = h
knows_more opening seen more R phase h = h

-- a side of the opening, with what it knows
pub record IsSteady (opening : PairOpening) (seen : List MarkedFact) (side : Side) (s : Safety) : Type 0 where
  pub role_is : s.role ≡ role_of_side side
  pub me_is : s.me ≡ etcs_number_of_side opening side
  pub knows : Knows opening seen side s.phase

pub steady_more : (opening : PairOpening) (seen more : List MarkedFact) (side : Side) (s : Safety)
    → IsSteady opening seen side s → IsSteady opening (seen ++ more) side s
steady_more opening seen more side s steady =
    record { role_is = steady.role_is; me_is = steady.me_is; knows = knows_more opening seen more side s.phase steady.knows }

-- a fact is honest, and all that is claimed of it holds
pub record IsFine (opening : PairOpening) (before : List MarkedFact) (m : MarkedFact) : Type 0 where
  pub honest : HonestFact opening m.side m.fact
  pub authentic : IsAuthentic opening before m.side m.fact m.forged

-- the facts of an outcome at a side that received these octets
abbrev pub news : List MarkedFact → Side → (heard : List ℕ) → SafetyOutcome → List MarkedFact
news seen side heard outcome = marked_from seen (map (at_side side) (facts_by heard outcome))

-- a step went well
pub record IsProper (opening : PairOpening) (seen : List MarkedFact) (side : Side) (heard : List ℕ) (next : Safety) (outcome : SafetyOutcome) : Type 0 where
  pub steady : IsSteady opening (seen ++ news seen side heard outcome) side next
  pub along : Along (IsFine opening) seen (news seen side heard outcome)

-- the side goes on in a phase in which it knows what it should
onward : (opening : PairOpening) (seen later : List MarkedFact) (side : Side) (s next : Safety) (phase : Phase)
    → next ≡ record s { phase = phase } → IsSteady opening seen side s → Knows opening later side phase → IsSteady opening later side next
onward opening seen later side s next phase is steady knows =
    let there : IsSteady opening later side (record s { phase = phase }) = record { role_is = steady.role_is; me_is = steady.me_is; knows = knows } in
    subst (IsSteady opening later side) (sym is) there

-- it stays as it is
stays : (opening : PairOpening) (seen more : List MarkedFact) (side : Side) (s next : Safety) → next ≡ s → IsSteady opening seen side s
    → IsSteady opening (seen ++ more) side next
stays opening seen more side s next is steady = subst (IsSteady opening (seen ++ more) side) (sym is) (steady_more opening seen more side s steady)

peers_flag : (side : Side) → flag_of (other_role (role_of_side side)) ≡ flag_from (other side)
peers_flag E = refl
peers_flag R = refl

flag_is : (s : Safety) (side : Side) → s.role ≡ role_of_side side → peer_flag s ≡ flag_from (other side)
flag_is s side role_is = ap (λ (r : Role). flag_of (other_role r)) role_is ∙ peers_flag side

-- what was received was heard with the flag of the other side
heard_from : (s : Safety) (side : Side) (event : SafetyEvent) (pdu : SafetyPdu) → s.role ≡ role_of_side side → IsReceived s event pdu
    → IsReadFrom (other side) (heard_in event) pdu
heard_from s side event pdu role_is r =
    let P : SafetyEvent → Type 0 = λ e. read_of (heard_in e) ≡ Ok (pdu, flag_from (other side)) in
    let read : read_of r.octets ≡ Ok (pdu, flag_from (other side)) = r.read ∙ ap (λ (f : Bool). Ok (pdu, f)) (flag_is s side role_is) in
    subst P (sym r.event_is) read

-- an AU2 that was verified
verified_au2 : (opening : PairOpening) (c : Connection) (heard : List ℕ) → IsOwn opening E c
    → IsReadFrom R heard (Au2 c.peer 1 c.ra (mac_of c.session (au2_of c))) → IsVerifiedBeforeConnection opening E heard c.session (au2_of c)
verified_au2 (OfFixed engine rbc ke kr) c heard own read = absurd own
verified_au2 (OfKeys engine rbc ke kr ra rb) c heard own read =
    let text_is : au2_of c ≡ au2_text true engine rbc 1 c.ra rb = rw (own.me, own.peer, own.own) refl in
    let peers : read_of heard ≡ Ok (Au2 rbc 1 c.ra (mac_of c.session (au2_of c)), true) =
    read ∙ ap (λ (p : ℕ). Ok (Au2 p 1 c.ra (mac_of c.session (au2_of c)), true)) own.peer in
    record { ra = c.ra; session = own.session; text_is = text_is; read = peers }

-- the session keys of a connection
connected_now : (opening : PairOpening) (seen more : List MarkedFact) (side : Side) (heard : List ℕ) (c : Connection) (text : List ℕ) → IsOwn opening side c
    → HasSession opening (seen ++ mark seen (at_side side (fact.Connected heard c text)) ∷ more) side c.session
connected_now (OfFixed engine rbc ke kr) seen more side heard c text own = absurd own
connected_now (OfKeys engine rbc ke kr ra rb) seen more side heard c text own =
    record {
      connection = c;
      own = own;
      session = refl;
      reported = any_at (λ m. (m.side ≡ side) × ConnectsAs c m.fact) seen _ more (refl, refl);
    }

me_of : (opening : PairOpening) (side : Side) (c : Connection) → IsOwn opening side c → c.me ≡ etcs_number_of_side opening side
me_of (OfFixed engine rbc ke kr) side c own = absurd own
me_of (OfKeys engine rbc ke kr ra rb) E c own = own.me
me_of (OfKeys engine rbc ke kr ra rb) R c own = own.me

peer_of : (opening : PairOpening) (side : Side) (c : Connection) → IsOwn opening side c → c.peer ≡ etcs_number_of_side opening (other side)
peer_of (OfFixed engine rbc ke kr) side c own = absurd own
peer_of (OfKeys engine rbc ke kr ra rb) E c own = own.peer
peer_of (OfKeys engine rbc ke kr ra rb) R c own = own.peer

module _ (tell : TextsTell) (opening : PairOpening) where
  released_knows : (seen : List MarkedFact) (side : Side) (release : Release) (session : Option TripleKey) → Knows opening seen side (Released release session)
  released_knows seen E release session = tt
  released_knows seen R release session = tt

  -- ---- outcomes without facts

  quiet : (seen : List MarkedFact) (side : Side) (heard : List ℕ) (next : Safety) (outcome : SafetyOutcome) → facts_by heard outcome ≡ []
      → IsSteady opening (seen ++ []) side next → IsProper opening seen side heard next outcome
  quiet seen side heard next outcome none steady =
      let Q : List Fact → Type 0 = λ facts.
      IsSteady opening (seen ++ marked_from seen (map (at_side side) facts)) side next
      × Along (IsFine opening) seen (marked_from seen (map (at_side side) facts)) in
      let both : Q (facts_by heard outcome) = subst Q (sym none) (steady, tt) in
      record { steady = both.0; along = both.1 }

  begins : (seen : List MarkedFact) (side : Side) (s : Safety) (event : SafetyEvent) (next : Safety) (octets : List ℕ) → IsSteady opening seen side s
      → SendsAu1 s event next octets → IsSteady opening (seen ++ []) side next
  begins seen E s event next octets steady r =
      let knows : CanCall opening r.peer r.kmac r.rb = subst (Knows opening seen E) r.waits steady.knows in
      onward opening seen (seen ++ []) E s next (WaitAu2 r.peer r.kmac r.rb) r.next_is steady knows
  begins seen R s event next octets steady r = absurd (subst (Knows opening seen R) r.waits steady.knows)

  idle : (seen : List MarkedFact) (side : Side) (s : Safety) (event : SafetyEvent) (next : Safety) → IsSteady opening seen side s
      → StaysIdle s event next → IsSteady opening (seen ++ []) side next
  idle seen side s event next steady (AtReceived octets release session event_is waits is) = stays opening seen [] side s next is steady
  idle seen side s event next steady (AtDisconnect sub release session event_is waits is) = stays opening seen [] side s next is steady
  idle seen side s event next steady (AtConnect event_is ready is) = stays opening seen [] side s next is steady

  -- ---- messages

  accepts : (seen : List MarkedFact) (side : Side) (s : Safety) (event : SafetyEvent) (next : Safety) (session : TripleKey) (user verified : List ℕ)
      → AllHonest opening seen → IsSteady opening seen side s → HasSession opening seen side session → AcceptsDt s event next session user verified
      → IsProper opening seen side (heard_in event) next (AcceptedDt session user verified)
  accepts seen side s event next session user verified honest steady has r =
      let text_is : verified ≡ message_text (flag_from (other side)) (etcs_number_of_side opening side) user =
      r.verified_is ∙ ap₂ (λ (f : Bool) (m : ℕ). message_text f m user) (flag_is s side steady.role_is) steady.me_is in
      let message : IsAcceptedMessage opening seen side (heard_in event) user session verified _ =
      record {
        session = has;
        text_is = text_is;
        read = heard_from s side event (Dt user (mac_of session verified)) steady.role_is r.received;
        sent = λ unforged.
            was_sent tell opening (other side) session verified (etcs_number_of_side opening side) user text_is seen honest (not-false (was_sealed session verified seen) unforged);
        only = λ forged. none_sealed session verified seen (not-true (was_sealed session verified seen) forged);
      } in
      record { steady = stays opening seen _ side s next r.next_is steady; along = (record { honest = tt; authentic = message }, tt) }

  sends : (seen : List MarkedFact) (side : Side) (s : Safety) (event : SafetyEvent) (heard : List ℕ) (next : Safety) (session : TripleKey) (user sealed octets : List ℕ)
      → IsSteady opening seen side s → (r : SendsDt s event next session user sealed octets)
      → (r.peer ≡ etcs_number_of_side opening (other side)) × HasSession opening seen side session
      → IsProper opening seen side heard next (SentDt session user sealed octets)
  sends seen side s event heard next session user sealed octets steady r has =
      let text_is : sealed ≡ message_text (flag_from side) (etcs_number_of_side opening (other side)) user =
      r.sealed_is ∙ ap₂ (λ (t : Role) (to : ℕ). message_text (flag_of t) to user) steady.role_is has.0 in
      let send : IsSend opening seen side user session sealed = record { session = has.1; text_is = text_is } in
      record {
        steady = stays opening seen _ side s next r.next_is steady;
        along = (record { honest = (etcs_number_of_side opening (other side), text_is); authentic = (refl, send) }, tt);
      }

  -- the peer and the session keys of a connected side
  has_session : (seen : List MarkedFact) (side : Side) (s : Safety) (peer : ℕ) (session : TripleKey) → s.phase ≡ Connected peer session
      → IsSteady opening seen side s → (peer ≡ etcs_number_of_side opening (other side)) × HasSession opening seen side session
  has_session seen E s peer session is steady = subst (Knows opening seen E) is steady.knows
  has_session seen R s peer session is steady = subst (Knows opening seen R) is steady.knows

  -- ---- the set-up

  sends_au2 : (seen : List MarkedFact) (side : Side) (s : Safety) (event : SafetyEvent) (heard : List ℕ) (next : Safety) (session : TripleKey) (sealed octets : List ℕ)
      → IsSteady opening seen side s → SendsAu2 (key_for opening) s event next session sealed octets
      → IsProper opening seen side heard next (SentAu2 session sealed octets)
  sends_au2 seen E s event heard next session sealed octets steady r = absurd (subst (Knows opening seen E) r.waits steady.knows)
  sends_au2 seen R s event heard next session sealed octets steady r =
      let c : Connection = r.connection in
      let can : CanAnswer opening c.ra = subst (Knows opening seen R) r.waits steady.knows in
      let own : IsOwn opening R c = can c r.kmac (ap (key_for opening c.peer) r.me_is ∙ r.found) (r.me_is ∙ steady.me_is) refl r.keys_are in
      let text_is : sealed ≡ au2_text true c.peer c.me 1 c.ra c.rb =
      r.sealed_is ∙ ap₂ (λ (t : Role) (m : ℕ). au2_text (flag_of t) c.peer m 1 c.ra c.rb) steady.role_is (sym r.me_is) in
      let honest : IsRbcsSealing opening session sealed = record { connection = c; own = own; key_is = r.session_is; text_is = inl text_is } in
      record { steady = onward opening seen _ R s next (WaitAu3 c) r.next_is steady own; along = (record { honest = honest; authentic = (refl, honest) }, tt) }

  sends_au3 : (seen : List MarkedFact) (side : Side) (s : Safety) (event : SafetyEvent) (next : Safety) (session : TripleKey) (verified sealed octets : List ℕ)
      → IsSteady opening seen side s → SendsAu3 s event next session verified sealed octets
      → IsProper opening seen side (heard_in event) next (SentAu3 session verified sealed octets)
  sends_au3 seen R s event next session verified sealed octets steady r = absurd (subst (Knows opening seen R) r.waits steady.knows)
  sends_au3 seen E s event next session verified sealed octets steady r =
      let c : Connection = r.connection in
      let heard : List ℕ = heard_in event in
      let can : CanCall opening c.peer r.kmac c.rb = subst (Knows opening seen E) r.waits steady.knows in
      let own : IsOwn opening E c = can c (r.me_is ∙ steady.me_is) refl refl r.keys_are in
      let verified_is : verified ≡ au2_of c =
      r.verified_is ∙ ap₂ (λ (f : Bool) (m : ℕ). au2_text f m c.peer 1 c.ra c.rb) (flag_is s E steady.role_is) (sym r.me_is) in
      let sealed_is : sealed ≡ au3_text false c.peer c.ra c.rb =
      r.sealed_is ∙ ap (λ (t : Role). au3_text (flag_of t) c.peer c.ra c.rb) steady.role_is in
      let honest : IsEnginesSealing opening c.session sealed = record { connection = c; own = own; key_is = refl; text_is = sealed_is } in
      let read : IsReadFrom R heard (Au2 c.peer 1 c.ra (mac_of session verified)) = heard_from s E event _ steady.role_is r.received in
      let read_so : IsReadFrom R heard (Au2 c.peer 1 c.ra (mac_of c.session (au2_of c))) =
      read ∙ ap₂ (λ (k : TripleKey) (t : List ℕ). Ok (Au2 c.peer 1 c.ra (mac_of k t), true)) r.session_is verified_is in
      let known : IsVerifiedBeforeConnection opening E heard c.session (au2_of c) = verified_au2 opening c heard own read_so in
      let Q : TripleKey → List ℕ → Type 0 = λ k t. IsProper opening seen E heard next (SentAu3 k t sealed octets) in
      let first : MarkedFact = mark seen (at_side E (Verified heard c.session (au2_of c))) in
      let there : Q c.session (au2_of c) =
      record {
        steady = onward opening seen _ E s next (WaitAr c) r.next_is steady (
          own,
          any_at (λ m. (m.side ≡ E) × Verifies c.session (au2_of c) m.fact) seen first _ (refl, (refl, refl)),
          trusted_now seen _ heard c,
        );
        along = (record { honest = tt; authentic = (known, marked_right c.session (au2_of c) seen) }, (record { honest = honest; authentic = (refl, honest) }, tt));
      } in
      subst (λ (t : List ℕ). Q session t) (sym verified_is) (subst (λ (k : TripleKey). Q k (au2_of c)) (sym r.session_is) there)

  sends_ar : (seen : List MarkedFact) (side : Side) (s : Safety) (event : SafetyEvent) (next : Safety) (c : Connection) (verified sealed octets : List ℕ)
      → AllHonest opening seen → IsSteady opening seen side s → SendsAr s event next c verified sealed octets
      → IsProper opening seen side (heard_in event) next (SentAr c verified sealed octets)
  sends_ar seen E s event next c verified sealed octets honest steady r = absurd (subst (Knows opening seen E) r.waits steady.knows)
  sends_ar seen R s event next c verified sealed octets honest steady r =
      let heard : List ℕ = heard_in event in
      let own : IsOwn opening R c = subst (Knows opening seen R) r.waits steady.knows in
      let me_is : s.me ≡ c.me = steady.me_is ∙ sym (me_of opening R c own) in
      let verified_is : verified ≡ au3_text false c.me c.ra c.rb =
      r.verified_is ∙ ap₂ (λ (f : Bool) (m : ℕ). au3_text f m c.ra c.rb) (flag_is s R steady.role_is) me_is in
      let sealed_is : sealed ≡ ar_text true c.peer = r.sealed_is ∙ ap (λ (t : Role). ar_text (flag_of t) c.peer) steady.role_is in
      let sealed_honest : IsRbcsSealing opening c.session sealed = record { connection = c; own = own; key_is = refl; text_is = inr sealed_is } in
      let first : MarkedFact = mark seen (at_side R (fact.Connected heard c verified)) in
      let connection : IsConnection opening seen R heard c verified first.forged =
      record {
        own = own;
        set_up = record { text_is = verified_is; read = heard_from s R event (Au3 (mac_of c.session verified)) steady.role_is r.received };
        peered = λ unforged.
            let was : was_sealed c.session verified seen ≡ true =
            not-false (was_sealed c.session verified seen) (or_parts _ (mistrusts R seen) unforged).0 in
            let both = was_au3 tell opening c seen honest (subst (λ (t : List ℕ). was_sealed c.session t seen ≡ true) verified_is was) in
            record { sealed = both.0; randoms = randoms opening R c own both.1; shared = both.1 };
        trusted = trusted_earlier c.session verified R seen;
        only = only_so c.session verified R seen;
      } in
      record {
        steady = onward opening seen _ R s next (Connected c.peer c.session) r.next_is steady (peer_of opening R c own, connected_now opening seen _ R heard c verified own);
        along = (record { honest = tt; authentic = connection }, (record { honest = sealed_honest; authentic = (refl, sealed_honest) }, tt));
      }

  receives_ar : (seen : List MarkedFact) (side : Side) (s : Safety) (event : SafetyEvent) (next : Safety) (c : Connection) (verified : List ℕ)
      → AllHonest opening seen → IsSteady opening seen side s → ReceivesAr s event next c verified
      → IsProper opening seen side (heard_in event) next (ReceivedAr c verified)
  receives_ar seen R s event next c verified honest steady r = absurd (subst (Knows opening seen R) r.waits steady.knows)
  receives_ar seen E s event next c verified honest steady r =
      let heard : List ℕ = heard_in event in
      let knows : Knows opening seen E (WaitAr c) = subst (Knows opening seen E) r.waits steady.knows in
      let own : IsOwn opening E c = knows.0 in
      let me_is : s.me ≡ c.me = steady.me_is ∙ sym (me_of opening E c own) in
      let verified_is : verified ≡ ar_text true c.me =
      r.verified_is ∙ ap₂ (λ (f : Bool) (m : ℕ). ar_text f m) (flag_is s E steady.role_is) me_is in
      let first : MarkedFact = mark seen (at_side E (fact.Connected heard c verified)) in
      let connection : IsConnection opening seen E heard c verified first.forged =
      record {
        own = own;
        set_up = record { text_is = verified_is; read = heard_from s E event (Ar (mac_of c.session verified)) steady.role_is r.received; au2 = knows.1 };
        peered = λ unforged.
            let parts = or_parts _ (mistrusts E seen) unforged in
            let was : was_sealed c.session verified seen ≡ true = not-false (was_sealed c.session verified seen) parts.0 in
            let au2 = was_au2 tell opening c seen honest (knows.2 parts.1) in
            let ar = was_ar tell opening c seen honest (subst (λ (t : List ℕ). was_sealed c.session t seen ≡ true) verified_is was) in
            record { sealed = (au2.0, ar); randoms = randoms opening E c own au2.1; shared = au2.1 };
        trusted = trusted_earlier c.session verified E seen;
        only = only_so c.session verified E seen;
      } in
      record {
        steady = onward opening seen _ E s next (Connected c.peer c.session) r.next_is steady (peer_of opening E c own, connected_now opening seen _ E heard c verified own);
        along = (record { honest = tt; authentic = connection }, tt);
      }

  -- ---- each step

  pub proper_step : (seen : List MarkedFact) (side : Side) (s : Safety) (event : SafetyEvent) (next : Safety) (outcome : SafetyOutcome)
      → AllHonest opening seen → IsSteady opening seen side s → IsStep (key_for opening) s event next outcome
      → IsProper opening seen side (heard_in event) next outcome
  proper_step seen side s event next (SentAu1 octets) honest steady r =
      quiet seen side (heard_in event) next (SentAu1 octets) refl (begins seen side s event next octets steady r)
  proper_step seen side s event next (SentAu2 session sealed octets) honest steady r = sends_au2 seen side s event (heard_in event) next session sealed octets steady r
  proper_step seen side s event next (SentAu3 session verified sealed octets) honest steady r =
      sends_au3 seen side s event next session verified sealed octets steady r
  proper_step seen side s event next (SentAr c verified sealed octets) honest steady r = sends_ar seen side s event next c verified sealed octets honest steady r
  proper_step seen side s event next (ReceivedAr c verified) honest steady r = receives_ar seen side s event next c verified honest steady r
  proper_step seen side s event next (AcceptedDt session user verified) honest steady r =
      accepts seen side s event next session user verified honest steady (has_session seen side s r.peer session r.connected steady).1 r
  proper_step seen side s event next (SentDt session user sealed octets) honest steady r = sends seen side s event (heard_in event) next session user sealed octets steady r
      (has_session seen side s r.peer session r.connected steady)
  proper_step seen side s event next (Refused refusal) honest steady r =
      quiet seen side (heard_in event) next (Refused refusal) refl (stays opening seen [] side s next r.next_is steady)
  proper_step seen side s event next (ReleasedLocally release octets) honest steady r =
      quiet seen side (heard_in event) next (ReleasedLocally release octets) refl (
      onward opening seen (seen ++ []) side s next (Released release _) r.releases.next_is steady (released_knows (seen ++ []) side release _)
      )
  proper_step seen side s event next (ReleasedByPeer release) honest steady r =
      quiet seen side (heard_in event) next (ReleasedByPeer release) refl (
      onward opening seen (seen ++ []) side s next (Released release _) r.next_is steady (released_knows (seen ++ []) side release _)
      )
  proper_step seen side s event next NothingDone honest steady r =
      quiet seen side (heard_in event) next NothingDone refl (idle seen side s event next steady r)
