-- Two sides that agree, stage by stage: AU1, then AU2, then AU3, then AR is under way, and then both are connected.
use Rattle.std.proofs.Common.{◌≡◌, inl, inr, ℕ, ◌+◌, ◌≤◌, ◌==◌, ◌&&◌, if◌then◌else◌, Bool, true, false, List, [], ◌∷◌, ◌++◌, length, Ok, refl, sym, ap, ap₂, subst, ◌∙◌, arith}
use Rattle.std.specs.Prelude.{Option, Some, None}
use Rattle.std.specs.List.{list_any}
use Rattle.std.proofs.lemmas.Bool.{eq-eqb}
use Rattle.er_base.specs.declared.side.Side.{Side}
use Rattle.er_base.specs.declared.side.Side.TheVariants.{E, R}
use Rattle.er_base.specs.Sides.{other}
use Rattle.er_base.specs.Octets.{AreOctets}
use Rattle.des_block.specs.declared.triple_key.TripleKey.{TripleKey}
use Rattle.cbc_mac.specs.Mac.{mac_of}
use Rattle.cbc_mac.specs.Laws.{MacBelow}
use Rattle.session_keys.specs.Session.{session_of}
use Rattle.sapdu.specs.Spelling.{SafetyPdu, Au1, Au2, Au3, Ar, spelling, read_of}
use Rattle.sapdu.specs.SpellingLaws.{Fits, IsReadBack}
use Rattle.safety_automaton.specs.declared.role.Role.TheVariants.{Initiator, Responder}
use Rattle.safety_automaton.specs.Safety.{Safety, Connection, WaitAu2, WaitAu3, WaitAr, initiator, responder, fixed, ConnectRequest, Received, DataRequest, Refusal, RefusedNotConnected, RefusedLength, SafetyOutcome, SentAu1, SentAu2, SentAu3, SentAr, ReceivedAr, SentDt, Refused, au2_text, au3_text, ar_text, message_text}
use Rattle.safety_automaton.specs.Rules.{IsInSetUp, SendsAu1, SendsAu2, SendsAu3, SendsAr, ReceivesAr, SendsDt, RefusesDataRequest, StepsEach}
use Rattle.safety_pair_laws.specs.Facts.{Sent, Sealed, Verified, Connected, SideFact, MarkedFact, at_side, was_sealed, mistrusts, marked}
use Rattle.safety_pair_laws.specs.Openings.{PairOpening, OfFixed, OfKeys, key_for, safety_of}
use Rattle.safety_pair_laws.specs.Deliveries.{sent_of, Flow, under_way, flow_with_answer, flow_behind_event, delivered, untouched, begun_flow, Flows, Begins, Sends, Delivers, FitsOpening, IsFlowComplete, HasFlowed, FlowsDeliver}
use Rattle.safety_pair_laws.proofs.Tallies.{Tally, no_tally, plus_none, plus_sent_r}
use Rattle.safety_pair_laws.proofs.Flowing.{Direction, flows_none, flows_later, flows_sent, IsClean, clean_more, none_mistrusted, self_sealing, sealed_by_more, sealed_still}
use Rattle.safety_pair_laws.proofs.Stages.{flow_of, Room, room_none, room_one, at_first, decide_message, after_refused, message_sapdu, AreConnected, reads_message, sends_connected, delivers_connected, bounded_connected, complete_connected, unforged_connected}

abbrev rbc_tally : List (List ℕ) → Tally
rbc_tally sent = record { sent_e = []; accepted_e = []; sent_r = sent; accepted_r = [] }

module _ (engine rbc : ℕ) (ke : TripleKey) (ra rb : ℕ) where
  abbrev opening : PairOpening
  opening = OfKeys engine rbc ke (Some ke) ra rb

  abbrev key : TripleKey
  key = session_of ke ra rb

  abbrev of_engine : Connection
  of_engine = record { me = engine; peer = rbc; ra = ra; rb = rb; session = key }

  abbrev of_rbc : Connection
  of_rbc = record { me = rbc; peer = engine; ra = ra; rb = rb; session = key }

  -- the engine once AU1, and once AU3 was sent; the radio block centre once AU2 was sent, and once it is connected
  abbrev calling : Safety
  calling = record { me = engine; role = Initiator; phase = WaitAu2 rbc ke rb }

  abbrev trusting : Safety
  trusting = record { me = engine; role = Initiator; phase = WaitAr of_engine }

  abbrev answering : Safety
  answering = record { me = rbc; role = Responder; phase = WaitAu3 of_rbc }

  abbrev accepting : Safety
  accepting = fixed rbc engine Responder key

  abbrev text_au2 : List ℕ
  text_au2 = au2_text true engine rbc 1 ra rb

  abbrev text_au3 : List ℕ
  text_au3 = au3_text false rbc ra rb

  abbrev text_ar : List ℕ
  text_ar = ar_text true engine

  abbrev au1 : SafetyPdu
  au1 = Au1 engine 1 rb

  abbrev au2 : SafetyPdu
  au2 = Au2 rbc 1 ra (mac_of key text_au2)

  abbrev au3 : SafetyPdu
  au3 = Au3 (mac_of key text_au3)

  abbrev ar : SafetyPdu
  ar = Ar (mac_of key text_ar)

  pub data SetUp (f : Flow) : Type 0 where
    AtAu1 : (facts : List SideFact) (octets : List ℕ) → f ≡ flow_of facts calling (responder rbc ra) (octets ∷ []) [] 0 → read_of octets ≡ Ok (au1, false)
        → IsClean facts no_tally → SetUp f
    AtAu2 : (facts : List SideFact) (octets : List ℕ) → f ≡ flow_of facts calling answering [] (octets ∷ []) 1 → read_of octets ≡ Ok (au2, true)
        → was_sealed key text_au2 (marked facts) ≡ true → IsClean facts no_tally → SetUp f
    AtAu3 : (facts : List SideFact) (octets : List ℕ) → f ≡ flow_of facts trusting answering (octets ∷ []) [] 2 → read_of octets ≡ Ok (au3, false)
        → was_sealed key text_au3 (marked facts) ≡ true → IsClean facts no_tally → SetUp f
    AtAr : (facts : List SideFact) (octets : List ℕ) (rest sent : List (List ℕ)) → f ≡ flow_of facts trusting accepting [] (octets ∷ rest) 3
        → read_of octets ≡ Ok (ar, true) → was_sealed key text_ar (marked facts) ≡ true → IsClean facts (rbc_tally sent)
        → Direction (marked facts) key true engine rest sent [] → SetUp f
    AtConnected : AreConnected engine rbc key 4 f → SetUp f

module _ (each : StepsEach) (below : MacBelow) (back : IsReadBack) (engine rbc : ℕ) (ke : TripleKey) (ra rb : ℕ)
    (fit : FitsOpening (OfKeys engine rbc ke (Some ke) ra rb)) where
  abbrev own : PairOpening
  own = opening engine rbc ke ra rb

  abbrev k : TripleKey
  k = key engine rbc ke ra rb

  abbrev Stage : Flow → Type 0
  Stage f = SetUp engine rbc ke ra rb f

  -- ---- what is spelled is read back

  reads_au1 : read_of (spelling (au1 engine rbc ke ra rb) false) ≡ Ok (au1 engine rbc ke ra rb, false)
  reads_au1 =
      let fits : Fits (au1 engine rbc ke ra rb) = record { user = tt; octets = (fit.0, omega arith, fit.3) } in
      back (au1 engine rbc ke ra rb) false fits

  reads_au2 : read_of (spelling (au2 engine rbc ke ra rb) true) ≡ Ok (au2 engine rbc ke ra rb, true)
  reads_au2 =
      let fits : Fits (au2 engine rbc ke ra rb) = record { user = tt; octets = (fit.1, omega arith, fit.2, below k (text_au2 engine rbc ke ra rb)) } in
      back (au2 engine rbc ke ra rb) true fits

  reads_au3 : read_of (spelling (au3 engine rbc ke ra rb) false) ≡ Ok (au3 engine rbc ke ra rb, false)
  reads_au3 =
      let fits : Fits (au3 engine rbc ke ra rb) = record { user = tt; octets = below k (text_au3 engine rbc ke ra rb) } in
      back (au3 engine rbc ke ra rb) false fits

  reads_ar : read_of (spelling (ar engine rbc ke ra rb) true) ≡ Ok (ar engine rbc ke ra rb, true)
  reads_ar =
      let fits : Fits (ar engine rbc ke ra rb) = record { user = tt; octets = below k (text_ar engine rbc ke ra rb) } in
      back (ar engine rbc ke ra rb) true fits

  -- ---- sends

  -- a side in the set-up refuses a send
  not_connected : (f : Flow) (side : Side) (user : List ℕ) → IsInSetUp (safety_of f.pair side).phase → flow_behind_event own f side (DataRequest user) ≡ f
  not_connected f side user in_set_up =
      let s : Safety = safety_of f.pair side in
      let row : RefusesDataRequest s (DataRequest user) s RefusedNotConnected = record { user = user; event_is = refl; met = in_set_up; next_is = refl } in
      ap (flow_with_answer f side (DataRequest user)) (each (key_for own) s (DataRequest user) s (Refused RefusedNotConnected) row) ∙ after_refused f side user RefusedNotConnected

  rbc_sends : (facts : List SideFact) (octets : List ℕ) (rest sent : List (List ℕ)) (user : List ℕ) → AreOctets user
      → read_of octets ≡ Ok (ar engine rbc ke ra rb, true) → was_sealed k (text_ar engine rbc ke ra rb) (marked facts) ≡ true → IsClean facts (rbc_tally sent)
      → Direction (marked facts) k true engine rest sent []
      → Stage (flow_behind_event own (flow_of facts (trusting engine rbc ke ra rb) (accepting engine rbc ke ra rb) [] (octets ∷ rest) 3) R (DataRequest user))
  rbc_sends facts octets rest sent user are_octets read sealed_ar clean flows =
      let s : Safety = accepting engine rbc ke ra rb in
      let f : Flow = flow_of facts (trusting engine rbc ke ra rb) s [] (octets ∷ rest) 3 in
      let P : Safety × SafetyOutcome → Type 0 = λ a. Stage (flow_with_answer f R (DataRequest user) a) in
      let text : List ℕ = message_text true engine user in
      let sapdu : List ℕ = message_sapdu k true engine user in
      elim (decide_message user) [
        | inl message ↦
            let row : SendsDt s (DataRequest user) s k user text sapdu =
            record { peer = engine; event_is = refl; connected = refl; message = message; next_is = refl; sealed_is = refl; octets_is = refl } in
            let more : List SideFact = at_side R (Sent user k text) ∷ [] in
            let sealed : was_sealed k text (marked (facts ++ more)) ≡ true = sealed_by_more facts more k text (rw (self_sealing k text) refl) in
            let further : Direction (marked (facts ++ more)) k true engine (rest ++ sapdu ∷ []) (sent ++ user ∷ []) [] =
            flows_sent k true engine (marked (facts ++ more)) rest sent [] sapdu user (flows_later k true engine facts more rest sent [] flows)
            (reads_message each below back k true engine user message are_octets, sealed) in
            let there : P (s, SentDt k user text sapdu) =
            AtAr (facts ++ more) octets (rest ++ sapdu ∷ []) (sent ++ user ∷ []) refl read
            (sealed_still facts more k (text_ar engine rbc ke ra rb) sealed_ar)
            (clean_more facts more (rbc_tally sent) (rbc_tally (sent ++ user ∷ [])) clean refl (plus_sent_r (rbc_tally sent) user)) further in
            subst P (sym (each (key_for own) s (DataRequest user) s (SentDt k user text sapdu) row)) there
        | inr none ↦
            let refusal : Refusal = RefusedLength (length user) in
            let row : RefusesDataRequest s (DataRequest user) s refusal =
            record { user = user; event_is = refl; met = ((engine, k, refl), refl, none); next_is = refl } in
            subst P (sym (each (key_for own) s (DataRequest user) s (Refused refusal) row))
            (subst Stage (sym (after_refused f R user refusal)) (AtAr facts octets rest sent refl read sealed_ar clean flows))
      ]

  sends_stage : (f : Flow) (side : Side) (user : List ℕ) → AreOctets user → Stage f → Stage (flow_behind_event own f side (DataRequest user))
  sends_stage f E user are_octets (AtAu1 facts octets is read clean) =
      let g : Flow = flow_of facts (calling engine rbc ke ra rb) (responder rbc ra) (octets ∷ []) [] 0 in
      let Q : Flow → Type 0 = λ h. Stage (flow_behind_event own h E (DataRequest user)) in
      subst Q (sym is) (subst Stage (sym (not_connected g E user tt)) (AtAu1 facts octets refl read clean))
  sends_stage f R user are_octets (AtAu1 facts octets is read clean) =
      let g : Flow = flow_of facts (calling engine rbc ke ra rb) (responder rbc ra) (octets ∷ []) [] 0 in
      let Q : Flow → Type 0 = λ h. Stage (flow_behind_event own h R (DataRequest user)) in
      subst Q (sym is) (subst Stage (sym (not_connected g R user tt)) (AtAu1 facts octets refl read clean))
  sends_stage f E user are_octets (AtAu2 facts octets is read sealed clean) =
      let g : Flow = flow_of facts (calling engine rbc ke ra rb) (answering engine rbc ke ra rb) [] (octets ∷ []) 1 in
      let Q : Flow → Type 0 = λ h. Stage (flow_behind_event own h E (DataRequest user)) in
      subst Q (sym is) (subst Stage (sym (not_connected g E user tt)) (AtAu2 facts octets refl read sealed clean))
  sends_stage f R user are_octets (AtAu2 facts octets is read sealed clean) =
      let g : Flow = flow_of facts (calling engine rbc ke ra rb) (answering engine rbc ke ra rb) [] (octets ∷ []) 1 in
      let Q : Flow → Type 0 = λ h. Stage (flow_behind_event own h R (DataRequest user)) in
      subst Q (sym is) (subst Stage (sym (not_connected g R user tt)) (AtAu2 facts octets refl read sealed clean))
  sends_stage f E user are_octets (AtAu3 facts octets is read sealed clean) =
      let g : Flow = flow_of facts (trusting engine rbc ke ra rb) (answering engine rbc ke ra rb) (octets ∷ []) [] 2 in
      let Q : Flow → Type 0 = λ h. Stage (flow_behind_event own h E (DataRequest user)) in
      subst Q (sym is) (subst Stage (sym (not_connected g E user tt)) (AtAu3 facts octets refl read sealed clean))
  sends_stage f R user are_octets (AtAu3 facts octets is read sealed clean) =
      let g : Flow = flow_of facts (trusting engine rbc ke ra rb) (answering engine rbc ke ra rb) (octets ∷ []) [] 2 in
      let Q : Flow → Type 0 = λ h. Stage (flow_behind_event own h R (DataRequest user)) in
      subst Q (sym is) (subst Stage (sym (not_connected g R user tt)) (AtAu3 facts octets refl read sealed clean))
  sends_stage f E user are_octets (AtAr facts octets rest sent is read sealed clean flows) =
      let g : Flow = flow_of facts (trusting engine rbc ke ra rb) (accepting engine rbc ke ra rb) [] (octets ∷ rest) 3 in
      let Q : Flow → Type 0 = λ h. Stage (flow_behind_event own h E (DataRequest user)) in
      subst Q (sym is) (subst Stage (sym (not_connected g E user tt)) (AtAr facts octets rest sent refl read sealed clean flows))
  sends_stage f R user are_octets (AtAr facts octets rest sent is read sealed clean flows) =
      let Q : Flow → Type 0 = λ h. Stage (flow_behind_event own h R (DataRequest user)) in
      subst Q (sym is) (rbc_sends facts octets rest sent user are_octets read sealed clean flows)
  sends_stage f side user are_octets (AtConnected c) = AtConnected (sends_connected each below back own engine rbc k 4 f side user are_octets c)

  -- ---- deliveries

  -- a stage, with room in the other direction
  abbrev Reaches : List (List ℕ) → Side → Flow → Type 0
  Reaches old side g = Stage g × Room old (under_way g side)

  finds : key_for own engine rbc ≡ Some ke
  finds =
      let first : (engine == engine) ≡ true = eq-eqb engine engine refl in
      let second : (rbc == rbc) ≡ true = eq-eqb rbc rbc refl in
      ap (λ (b : Bool). if b then Some ke else None) (ap₂ (λ (a b : Bool). a && b) first second)

  au1_delivers : (facts : List SideFact) (octets : List ℕ) → read_of octets ≡ Ok (au1 engine rbc ke ra rb, false) → IsClean facts no_tally
      → Reaches [] R (delivered own (flow_of facts (calling engine rbc ke ra rb) (responder rbc ra) (octets ∷ []) [] 0) E octets [])
  au1_delivers facts octets read clean =
      let s : Safety = responder rbc ra in
      let next : Safety = answering engine rbc ke ra rb in
      let g : Flow = flow_of facts (calling engine rbc ke ra rb) s [] [] 1 in
      let text : List ℕ = text_au2 engine rbc ke ra rb in
      let sapdu : List ℕ = spelling (au2 engine rbc ke ra rb) true in
      let row : SendsAu2 (key_for own) s (Received octets) next k text sapdu =
      record {
        connection = of_rbc engine rbc ke ra rb;
        kmac = ke;
        waits = refl;
        received = record { octets = octets; event_is = refl; read = read };
        found = finds;
        me_is = refl;
        keys_are = refl;
        session_is = refl;
        next_is = refl;
        sealed_is = refl;
        octets_is = refl;
      } in
      let more : List SideFact = at_side R (Sealed k text) ∷ [] in
      let sealed : was_sealed k text (marked (facts ++ more)) ≡ true = sealed_by_more facts more k text (rw (self_sealing k text) refl) in
      let P : Safety × SafetyOutcome → Type 0 = λ a. Reaches [] R (flow_with_answer g R (Received octets) a) in
      let there : P (next, SentAu2 k text sapdu) =
      (AtAu2 (facts ++ more) sapdu refl reads_au2 sealed (clean_more facts more no_tally no_tally clean refl (plus_none no_tally)), room_one sapdu) in
      subst P (sym (each (key_for own) s (Received octets) next (SentAu2 k text sapdu) row)) there

  au2_delivers : (facts : List SideFact) (octets : List ℕ) → read_of octets ≡ Ok (au2 engine rbc ke ra rb, true)
      → was_sealed k (text_au2 engine rbc ke ra rb) (marked facts) ≡ true → IsClean facts no_tally
      → Reaches [] E (delivered own (flow_of facts (calling engine rbc ke ra rb) (answering engine rbc ke ra rb) [] (octets ∷ []) 1) R octets [])
  au2_delivers facts octets read was clean =
      let s : Safety = calling engine rbc ke ra rb in
      let next : Safety = trusting engine rbc ke ra rb in
      let g : Flow = flow_of facts s (answering engine rbc ke ra rb) [] [] 2 in
      let verified : List ℕ = text_au2 engine rbc ke ra rb in
      let text : List ℕ = text_au3 engine rbc ke ra rb in
      let sapdu : List ℕ = spelling (au3 engine rbc ke ra rb) false in
      let row : SendsAu3 s (Received octets) next k verified text sapdu =
      record {
        connection = of_engine engine rbc ke ra rb;
        kmac = ke;
        waits = refl;
        received = record { octets = octets; event_is = refl; read = read };
        me_is = refl;
        keys_are = refl;
        session_is = refl;
        next_is = refl;
        verified_is = refl;
        sealed_is = refl;
        octets_is = refl;
      } in
      let more : List SideFact = at_side E (Verified octets k verified) ∷ at_side E (Sealed k text) ∷ [] in
      let sealed : was_sealed k text (marked (facts ++ more)) ≡ true = sealed_by_more facts more k text (rw (self_sealing k text) refl) in
      let P : Safety × SafetyOutcome → Type 0 = λ a. Reaches [] E (flow_with_answer g E (Received octets) a) in
      let there : P (next, SentAu3 k verified text sapdu) =
      (AtAu3 (facts ++ more) sapdu refl reads_au3 sealed (clean_more facts more no_tally no_tally clean (rw was refl) (plus_none no_tally)), room_one sapdu) in
      subst P (sym (each (key_for own) s (Received octets) next (SentAu3 k verified text sapdu) row)) there

  au3_delivers : (facts : List SideFact) (octets : List ℕ) → read_of octets ≡ Ok (au3 engine rbc ke ra rb, false)
      → was_sealed k (text_au3 engine rbc ke ra rb) (marked facts) ≡ true → IsClean facts no_tally
      → Reaches [] R (delivered own (flow_of facts (trusting engine rbc ke ra rb) (answering engine rbc ke ra rb) (octets ∷ []) [] 2) E octets [])
  au3_delivers facts octets read was clean =
      let s : Safety = answering engine rbc ke ra rb in
      let c : Connection = of_rbc engine rbc ke ra rb in
      let next : Safety = accepting engine rbc ke ra rb in
      let g : Flow = flow_of facts (trusting engine rbc ke ra rb) s [] [] 3 in
      let verified : List ℕ = text_au3 engine rbc ke ra rb in
      let text : List ℕ = text_ar engine rbc ke ra rb in
      let sapdu : List ℕ = spelling (ar engine rbc ke ra rb) true in
      let row : SendsAr s (Received octets) next c verified text sapdu =
      record {
        waits = refl;
        received = record { octets = octets; event_is = refl; read = read };
        next_is = refl;
        verified_is = refl;
        sealed_is = refl;
        octets_is = refl;
      } in
      let more : List SideFact = at_side R (Connected octets c verified) ∷ at_side R (Sealed k text) ∷ [] in
      let trusted : mistrusts R (marked facts) ≡ false = none_mistrusted R (marked facts) clean.unforged in
      let sealed : was_sealed k text (marked (facts ++ more)) ≡ true = sealed_by_more facts more k text (rw (self_sealing k text) refl) in
      let P : Safety × SafetyOutcome → Type 0 = λ a. Reaches [] R (flow_with_answer g R (Received octets) a) in
      let there : P (next, SentAr c verified text sapdu) = (
        AtAr (facts ++ more) sapdu [] [] refl reads_ar sealed (clean_more facts more no_tally (rbc_tally []) clean (rw (was, trusted) refl) (plus_none no_tally))
            (flows_none k true engine (marked (facts ++ more))),
        room_one sapdu,
      ) in
      subst P (sym (each (key_for own) s (Received octets) next (SentAr c verified text sapdu) row)) there

  ar_delivers : (facts : List SideFact) (octets : List ℕ) (rest sent : List (List ℕ)) → read_of octets ≡ Ok (ar engine rbc ke ra rb, true)
      → was_sealed k (text_ar engine rbc ke ra rb) (marked facts) ≡ true → IsClean facts (rbc_tally sent) → Direction (marked facts) k true engine rest sent []
      → Reaches [] E (delivered own (flow_of facts (trusting engine rbc ke ra rb) (accepting engine rbc ke ra rb) [] (octets ∷ rest) 3) R octets rest)
  ar_delivers facts octets rest sent read was clean flows =
      let s : Safety = trusting engine rbc ke ra rb in
      let c : Connection = of_engine engine rbc ke ra rb in
      let next : Safety = fixed engine rbc Initiator k in
      let g : Flow = flow_of facts s (accepting engine rbc ke ra rb) [] rest 4 in
      let verified : List ℕ = text_ar engine rbc ke ra rb in
      let row : ReceivesAr s (Received octets) next c verified =
      record { waits = refl; received = record { octets = octets; event_is = refl; read = read }; next_is = refl; verified_is = refl } in
      let more : List SideFact = at_side E (Connected octets c verified) ∷ [] in
      let trusted : mistrusts E (marked facts) ≡ false = none_mistrusted E (marked facts) clean.unforged in
      let P : Safety × SafetyOutcome → Type 0 = λ a. Reaches [] E (flow_with_answer g E (Received octets) a) in
      let connected : AreConnected engine rbc k 4 (flow_with_answer g E (Received octets) (next, ReceivedAr c verified)) =
      record {
        facts = facts ++ more;
        from_e = [];
        from_r = rest;
        n = 4;
        t = rbc_tally sent;
        is = refl;
        clean = clean_more facts more (rbc_tally sent) (rbc_tally sent) clean (rw (was, trusted) refl) (plus_none (rbc_tally sent));
        e_flows = flows_none k false rbc (marked (facts ++ more));
        r_flows = flows_later k true engine facts more rest sent [] flows;
        count = omega arith;
      } in
      let there : P (next, ReceivedAr c verified) = (AtConnected connected, room_none []) in
      subst P (sym (each (key_for own) s (Received octets) next (ReceivedAr c verified) row)) there

  nothing_first : (x : List ℕ) (xs : List (List ℕ)) → [] ≡ x ∷ xs → ⊥
  nothing_first x xs e = cc

  delivers_stage : (f : Flow) (side : Side) (octets : List ℕ) (rest : List (List ℕ)) → under_way f side ≡ octets ∷ rest → Stage f
      → Reaches (under_way f (other side)) (other side) (delivered own f side octets rest)
  delivers_stage f E octets rest first (AtAu1 facts own_octets is read clean) =
      let g : Flow = flow_of facts (calling engine rbc ke ra rb) (responder rbc ra) (own_octets ∷ []) [] 0 in
      let Q : Flow → Type 0 = λ h. Reaches (under_way h R) R (delivered own h E octets rest) in
      let P : List ℕ → List (List ℕ) → Type 0 = λ o l. Reaches [] R (delivered own g E o l) in
      subst Q (sym is) (at_first P own_octets octets [] rest (ap (λ (h : Flow). h.from_e) (sym is) ∙ first) (au1_delivers facts own_octets read clean))
  delivers_stage f R octets rest first (AtAu1 facts own_octets is read clean) = absurd (nothing_first octets rest (ap (λ (h : Flow). h.from_r) (sym is) ∙ first))
  delivers_stage f R octets rest first (AtAu2 facts own_octets is read sealed clean) =
      let g : Flow = flow_of facts (calling engine rbc ke ra rb) (answering engine rbc ke ra rb) [] (own_octets ∷ []) 1 in
      let Q : Flow → Type 0 = λ h. Reaches (under_way h E) E (delivered own h R octets rest) in
      let P : List ℕ → List (List ℕ) → Type 0 = λ o l. Reaches [] E (delivered own g R o l) in
      subst Q (sym is) (at_first P own_octets octets [] rest (ap (λ (h : Flow). h.from_r) (sym is) ∙ first) (au2_delivers facts own_octets read sealed clean))
  delivers_stage f E octets rest first (AtAu2 facts own_octets is read sealed clean) =
      absurd (nothing_first octets rest (ap (λ (h : Flow). h.from_e) (sym is) ∙ first))
  delivers_stage f E octets rest first (AtAu3 facts own_octets is read sealed clean) =
      let g : Flow = flow_of facts (trusting engine rbc ke ra rb) (answering engine rbc ke ra rb) (own_octets ∷ []) [] 2 in
      let Q : Flow → Type 0 = λ h. Reaches (under_way h R) R (delivered own h E octets rest) in
      let P : List ℕ → List (List ℕ) → Type 0 = λ o l. Reaches [] R (delivered own g E o l) in
      subst Q (sym is) (at_first P own_octets octets [] rest (ap (λ (h : Flow). h.from_e) (sym is) ∙ first) (au3_delivers facts own_octets read sealed clean))
  delivers_stage f R octets rest first (AtAu3 facts own_octets is read sealed clean) =
      absurd (nothing_first octets rest (ap (λ (h : Flow). h.from_r) (sym is) ∙ first))
  delivers_stage f R octets rest first (AtAr facts own_octets own_rest sent is read sealed clean flows) =
      let g : Flow = flow_of facts (trusting engine rbc ke ra rb) (accepting engine rbc ke ra rb) [] (own_octets ∷ own_rest) 3 in
      let Q : Flow → Type 0 = λ h. Reaches (under_way h E) E (delivered own h R octets rest) in
      let P : List ℕ → List (List ℕ) → Type 0 = λ o l. Reaches [] E (delivered own g R o l) in
      subst Q (sym is)
      (at_first P own_octets octets own_rest rest (ap (λ (h : Flow). h.from_r) (sym is) ∙ first) (ar_delivers facts own_octets own_rest sent read sealed clean flows))
  delivers_stage f E octets rest first (AtAr facts own_octets own_rest sent is read sealed clean flows) =
      absurd (nothing_first octets rest (ap (λ (h : Flow). h.from_e) (sym is) ∙ first))
  delivers_stage f side octets rest first (AtConnected c) =
      let comes = delivers_connected each below back own engine rbc k 4 f side octets rest first c in
      (AtConnected comes.0, comes.1)

  -- ---- the beginning, and every flow

  begins_stage : Stage (begun_flow own)
  begins_stage =
      let s : Safety = initiator engine rbc ke rb in
      let next : Safety = calling engine rbc ke ra rb in
      let f : Flow = untouched own in
      let sapdu : List ℕ = spelling (au1 engine rbc ke ra rb) false in
      let row : SendsAu1 s ConnectRequest next sapdu =
      record { peer = rbc; kmac = ke; rb = rb; event_is = refl; waits = refl; next_is = refl; octets_is = refl } in
      let P : Safety × SafetyOutcome → Type 0 = λ a. Stage (flow_with_answer f E ConnectRequest a) in
      let there : P (next, SentAu1 sapdu) = AtAu1 [] sapdu refl reads_au1 (record { unforged = refl; tally_is = refl }) in
      subst P (sym (each (key_for own) s ConnectRequest next (SentAu1 sapdu) row)) there

  every_stage : (f : Flow) → Flows own f → Stage f
  every_stage _ Begins = begins_stage
  every_stage _ (Sends f side user octets flows) = sends_stage f side user octets (every_stage f flows)
  every_stage _ (Delivers f side octets rest first flows) = (delivers_stage f side octets rest first (every_stage f flows)).0

  -- ---- what is claimed

  unforged_stage : (f : Flow) → Stage f → list_any (λ (m : MarkedFact). m.forged) (marked f.facts) ≡ false
  unforged_stage f (AtAu1 facts octets is read clean) = ap (λ (g : Flow). list_any (λ (m : MarkedFact). m.forged) (marked g.facts)) is ∙ clean.unforged
  unforged_stage f (AtAu2 facts octets is read sealed clean) = ap (λ (g : Flow). list_any (λ (m : MarkedFact). m.forged) (marked g.facts)) is ∙ clean.unforged
  unforged_stage f (AtAu3 facts octets is read sealed clean) = ap (λ (g : Flow). list_any (λ (m : MarkedFact). m.forged) (marked g.facts)) is ∙ clean.unforged
  unforged_stage f (AtAr facts octets rest sent is read sealed clean flows) =
      ap (λ (g : Flow). list_any (λ (m : MarkedFact). m.forged) (marked g.facts)) is ∙ clean.unforged
  unforged_stage f (AtConnected c) = unforged_connected each below back own engine rbc k 4 f c

  few : (f : Flow) (n sent : ℕ) → f.deliveries ≡ n → n ≤ 4 → f.deliveries ≤ 4 + sent
  few f n sent is small = omega arith

  bounded_stage : (f : Flow) → Stage f → f.deliveries ≤ 4 + (length (sent_of E f.facts) + length (sent_of R f.facts))
  bounded_stage f (AtAu1 facts octets is read clean) = few f 0 _ (ap (λ (g : Flow). g.deliveries) is) (omega arith)
  bounded_stage f (AtAu2 facts octets is read sealed clean) = few f 1 _ (ap (λ (g : Flow). g.deliveries) is) (omega arith)
  bounded_stage f (AtAu3 facts octets is read sealed clean) = few f 2 _ (ap (λ (g : Flow). g.deliveries) is) (omega arith)
  bounded_stage f (AtAr facts octets rest sent is read sealed clean flows) = few f 3 _ (ap (λ (g : Flow). g.deliveries) is) (omega arith)
  bounded_stage f (AtConnected c) = bounded_connected each below back own engine rbc k 4 f c

  some_first : (x : List ℕ) (xs : List (List ℕ)) → x ∷ xs ≡ [] → ⊥
  some_first x xs e = cc

  complete_stage : (f : Flow) → Stage f → f.from_e ≡ [] → f.from_r ≡ [] → IsFlowComplete f
  complete_stage f (AtAu1 facts octets is read clean) none_e none_r = absurd (some_first octets [] (ap (λ (g : Flow). g.from_e) (sym is) ∙ none_e))
  complete_stage f (AtAu2 facts octets is read sealed clean) none_e none_r = absurd (some_first octets [] (ap (λ (g : Flow). g.from_r) (sym is) ∙ none_r))
  complete_stage f (AtAu3 facts octets is read sealed clean) none_e none_r = absurd (some_first octets [] (ap (λ (g : Flow). g.from_e) (sym is) ∙ none_e))
  complete_stage f (AtAr facts octets rest sent is read sealed clean flows) none_e none_r =
      absurd (some_first octets rest (ap (λ (g : Flow). g.from_r) (sym is) ∙ none_r))
  complete_stage f (AtConnected c) none_e none_r = complete_connected each below back own engine rbc k 4 f c none_e none_r

  pub flowed_keys : (f : Flow) → Flows own f → HasFlowed own f
  flowed_keys f flows =
      let stage : Stage f = every_stage f flows in
      record {
        unforged = unforged_stage f stage;
        bounded = bounded_stage f stage;
        complete = complete_stage f stage;
        room = λ side octets rest most first one small. (delivers_stage f side octets rest first stage).1 most one small;
      }

-- ---- fixed session keys

module _ (each : StepsEach) (below : MacBelow) (back : IsReadBack) (engine rbc : ℕ) (ks : TripleKey) where
  abbrev held : PairOpening
  held = OfFixed engine rbc ks ks

  begins_fixed : AreConnected engine rbc ks 0 (begun_flow held)
  begins_fixed =
      record {
        facts = [];
        from_e = [];
        from_r = [];
        n = 0;
        t = no_tally;
        is = refl;
        clean = record { unforged = refl; tally_is = refl };
        e_flows = flows_none ks false rbc [];
        r_flows = flows_none ks true engine [];
        count = omega arith;
      }

  every_fixed : (f : Flow) → Flows held f → AreConnected engine rbc ks 0 f
  every_fixed _ Begins = begins_fixed
  every_fixed _ (Sends f side user octets flows) = sends_connected each below back held engine rbc ks 0 f side user octets (every_fixed f flows)
  every_fixed _ (Delivers f side octets rest first flows) = (delivers_connected each below back held engine rbc ks 0 f side octets rest first (every_fixed f flows)).0

  pub flowed_fixed : (f : Flow) → Flows held f → HasFlowed held f
  flowed_fixed f flows =
      let c : AreConnected engine rbc ks 0 f = every_fixed f flows in
      record {
        unforged = unforged_connected each below back held engine rbc ks 0 f c;
        bounded = bounded_connected each below back held engine rbc ks 0 f c;
        complete = complete_connected each below back held engine rbc ks 0 f c;
        room = λ side octets rest most first one small.
            (delivers_connected each below back held engine rbc ks 0 f side octets rest first c).1 most one small;
      }

-- ---- both

pub flows_deliver : StepsEach → MacBelow → IsReadBack → FlowsDeliver
flows_deliver each below back (OfFixed engine rbc ke kr) fit agree f flows =
    let Q : TripleKey → Type 0 = λ s. Flows (OfFixed engine rbc ke s) f → HasFlowed (OfFixed engine rbc ke s) f in
    subst Q agree (flowed_fixed each below back engine rbc ke f) flows
flows_deliver each below back (OfKeys engine rbc ke kr ra rb) fit agree f flows =
    let Q : Option TripleKey → Type 0 = λ s. Flows (OfKeys engine rbc ke s ra rb) f → HasFlowed (OfKeys engine rbc ke s ra rb) f in
    subst Q (sym agree) (flowed_keys each below back engine rbc ke ra rb fit f) flows
