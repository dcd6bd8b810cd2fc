-- Two connected sides under the same session keys: what is sent flows to the other side.
use Rattle.std.proofs.Common.{◌≡◌, ◌⊎◌, inl, inr, ℕ, ◌+◌, ◌≤◌, Bool, true, false, List, [], ◌∷◌, ◌++◌, length, refl, sym, ap, subst, ◌∙◌, append-nil, length-append, arith}
use Rattle.std.specs.List.{list_any}
use Rattle.std.proofs.lemmas.Bool.{cases_lt}
use Rattle.er_base.specs.declared.side.Side.{Side}
use Rattle.er_base.specs.declared.side.Side.TheVariants.{E, R}
use Rattle.er_base.specs.Sides.{other}
use Rattle.er_base.specs.Octets.{AreOctets}
use Rattle.des_block.specs.declared.triple_key.TripleKey.{TripleKey}
use Rattle.cbc_mac.specs.Mac.{mac_of}
use Rattle.cbc_mac.specs.Laws.{MacBelow}
use Rattle.sapdu.specs.Messages.{IsMessage}
use Rattle.sapdu.specs.Spelling.{Dt, spelling, read_of}
use Rattle.sapdu.specs.SpellingLaws.{Fits, IsReadBack}
use Rattle.safety_automaton.specs.declared.role.Role.TheVariants.{Initiator, Responder}
use Rattle.safety_automaton.specs.Safety.{Safety, fixed, Received, DataRequest, Refusal, RefusedLength, SafetyOutcome, AcceptedDt, SentDt, Refused, message_text}
use Rattle.safety_automaton.specs.Rules.{AcceptsDt, SendsDt, RefusesDataRequest, StepsEach}
use Rattle.safety_pair_laws.specs.Facts.{Sent, Accepted, SideFact, MarkedFact, at_side, was_sealed, marked}
use Rattle.safety_pair_laws.specs.Openings.{PairOpening, key_for, safety_of}
use Rattle.safety_pair_laws.specs.Deliveries.{sent_of, Flow, under_way, flow_with_answer, flow_behind_event, delivered, IsFlowComplete}
use Rattle.safety_pair_laws.proofs.Tallies.{Tally, plus_sent_e, plus_sent_r, plus_accepted_e, plus_accepted_r}
use Rattle.safety_pair_laws.proofs.Flowing.{message_from, Direction, IsTaken, flows_later, flows_sent, flows_taken, flows_done, flows_length, IsClean, clean_more, self_sealing, sealed_by_more}

abbrev pub flow_of : List SideFact → Safety → Safety → List (List ℕ) → List (List ℕ) → ℕ → Flow
flow_of facts e r from_e from_r n = record { facts = facts; pair = record { e = e; r = r }; from_e = from_e; from_r = from_r; deliveries = n }

-- no more wait than did, or one
abbrev pub Room : List (List ℕ) → List (List ℕ) → Type 0
Room old new = (most : ℕ) → 1 ≤ most → length old ≤ most → length new ≤ most

pub room_none : (line : List (List ℕ)) → Room line (line ++ [])
room_none line most one small = subst (λ (l : List (List ℕ)). length l ≤ most) (sym (append-nil line)) small

pub room_one : (octets : List ℕ) → Room [] (octets ∷ [])
room_one octets most one small = one

pub at_first : (P : List ℕ → List (List ℕ) → Type 0) (x y : List ℕ) (xs ys : List (List ℕ)) → x ∷ xs ≡ y ∷ ys → P x xs → P y ys
at_first P x y xs ys e p =
    let heads : x ≡ y = cc in
    let tails : xs ≡ ys = cc in
    subst (λ (o : List ℕ). P o ys) heads (subst (λ (l : List (List ℕ)). P x l) tails p)

-- octets are a message or not
pub decide_message : (user : List ℕ) → IsMessage user ⊎ (IsMessage user → ⊥)
decide_message user =
    elim (cases_lt 0 (length user)) [
      | inl some ↦ elim (cases_lt (length user) 1024) [
        | inl few ↦ inl (omega arith, omega arith)
        | inr many ↦ inr (λ m. let least : length user ≤ 1023 = m.1 in absurd (omega arith))
      ]
      | inr none ↦ inr (λ m. let most : 1 ≤ length user = m.0 in absurd (omega arith))
    ]

-- a send that is refused changes nothing
pub after_refused : (f : Flow) (side : Side) (user : List ℕ) (refusal : Refusal) → flow_with_answer f side (DataRequest user) (safety_of f.pair side, Refused refusal) ≡ f
after_refused f E user refusal =
    λ i. record { facts = append-nil f.facts i; pair = f.pair; from_e = append-nil f.from_e i; from_r = f.from_r; deliveries = f.deliveries }
after_refused f R user refusal =
    λ i. record { facts = append-nil f.facts i; pair = f.pair; from_e = f.from_e; from_r = append-nil f.from_r i; deliveries = f.deliveries }

abbrev pub message_sapdu : TripleKey → Bool → ℕ → List ℕ → List ℕ
message_sapdu key flag to user = spelling (Dt user (mac_of key (message_text flag to user))) flag

-- both sides are connected under these session keys; so many deliveries were made before
pub record AreConnected (engine rbc : ℕ) (key : TripleKey) (base : ℕ) (f : Flow) : Type 0 where
  pub facts : List SideFact
  pub from_e : List (List ℕ)
  pub from_r : List (List ℕ)
  pub n : ℕ
  pub t : Tally
  pub is : f ≡ flow_of facts (fixed engine rbc Initiator key) (fixed rbc engine Responder key) from_e from_r n
  pub clean : IsClean facts t
  pub e_flows : Direction (marked facts) key false rbc from_e t.sent_e t.accepted_r
  pub r_flows : Direction (marked facts) key true engine from_r t.sent_r t.accepted_e
  pub count : n ≤ base + (length t.accepted_r + length t.accepted_e)

module _ (each : StepsEach) (below : MacBelow) (back : IsReadBack) where
  pub reads_message : (key : TripleKey) (flag : Bool) (to : ℕ) (user : List ℕ) → IsMessage user → AreOctets user
      → read_of (message_sapdu key flag to user) ≡ message_from key flag to user
  reads_message key flag to user message octets =
      let fits : Fits (Dt user (mac_of key (message_text flag to user))) =
      record { user = message; octets = (octets, below key (message_text flag to user)) } in
      back (Dt user (mac_of key (message_text flag to user))) flag fits

  -- ---- connected sides

  module _ (opening : PairOpening) (engine rbc : ℕ) (key : TripleKey) (base : ℕ) where
    abbrev e_side : Safety
    e_side = fixed engine rbc Initiator key

    abbrev r_side : Safety
    r_side = fixed rbc engine Responder key

    connected_sends : (facts : List SideFact) (from_e from_r : List (List ℕ)) (n : ℕ) (side : Side) (user : List ℕ) → AreOctets user
        → AreConnected engine rbc key base (flow_of facts e_side r_side from_e from_r n) → (t : Tally) → IsClean facts t
        → Direction (marked facts) key false rbc from_e t.sent_e t.accepted_r
        → Direction (marked facts) key true engine from_r t.sent_r t.accepted_e
        → n ≤ base + (length t.accepted_r + length t.accepted_e)
        → AreConnected engine rbc key base (flow_behind_event opening (flow_of facts e_side r_side from_e from_r n) side (DataRequest user))
    connected_sends facts from_e from_r n E user octets here t clean e_flows r_flows count =
        let f : Flow = flow_of facts e_side r_side from_e from_r n in
        let P : Safety × SafetyOutcome → Type 0 = λ a. AreConnected engine rbc key base (flow_with_answer f E (DataRequest user) a) in
        let text : List ℕ = message_text false rbc user in
        let sapdu : List ℕ = message_sapdu key false rbc user in
        elim (decide_message user) [
          | inl message ↦
              let row : SendsDt e_side (DataRequest user) e_side key user text sapdu =
              record { peer = rbc; event_is = refl; connected = refl; message = message; next_is = refl; sealed_is = refl; octets_is = refl } in
              let more : List SideFact = at_side E (Sent user key text) ∷ [] in
              let sealed : was_sealed key text (marked (facts ++ more)) ≡ true = sealed_by_more facts more key text (rw (self_sealing key text) refl) in
              let there : P (e_side, SentDt key user text sapdu) =
              record {
                facts = facts ++ more;
                from_e = from_e ++ sapdu ∷ [];
                from_r = from_r;
                n = n;
                t = record t { sent_e = t.sent_e ++ user ∷ [] };
                is = refl;
                clean = clean_more facts more t (record t { sent_e = t.sent_e ++ user ∷ [] }) clean refl (plus_sent_e t user);
                e_flows = flows_sent key false rbc (marked (facts ++ more)) from_e t.sent_e t.accepted_r sapdu user
                    (flows_later key false rbc facts more from_e t.sent_e t.accepted_r e_flows) (reads_message key false rbc user message octets, sealed);
                r_flows = flows_later key true engine facts more from_r t.sent_r t.accepted_e r_flows;
                count = count;
              } in
              subst P (sym (each (key_for opening) e_side (DataRequest user) e_side (SentDt key user text sapdu) row)) there
          | inr none ↦
              let refusal : Refusal = RefusedLength (length user) in
              let row : RefusesDataRequest e_side (DataRequest user) e_side refusal =
              record { user = user; event_is = refl; met = ((rbc, key, refl), refl, none); next_is = refl } in
              subst P (sym (each (key_for opening) e_side (DataRequest user) e_side (Refused refusal) row))
              (subst (AreConnected engine rbc key base) (sym (after_refused f E user refusal)) here)
        ]
    connected_sends facts from_e from_r n R user octets here t clean e_flows r_flows count =
        let f : Flow = flow_of facts e_side r_side from_e from_r n in
        let P : Safety × SafetyOutcome → Type 0 = λ a. AreConnected engine rbc key base (flow_with_answer f R (DataRequest user) a) in
        let text : List ℕ = message_text true engine user in
        let sapdu : List ℕ = message_sapdu key true engine user in
        elim (decide_message user) [
          | inl message ↦
              let row : SendsDt r_side (DataRequest user) r_side key user text sapdu =
              record { peer = engine; event_is = refl; connected = refl; message = message; next_is = refl; sealed_is = refl; octets_is = refl } in
              let more : List SideFact = at_side R (Sent user key text) ∷ [] in
              let sealed : was_sealed key text (marked (facts ++ more)) ≡ true = sealed_by_more facts more key text (rw (self_sealing key text) refl) in
              let there : P (r_side, SentDt key user text sapdu) =
              record {
                facts = facts ++ more;
                from_e = from_e;
                from_r = from_r ++ sapdu ∷ [];
                n = n;
                t = record t { sent_r = t.sent_r ++ user ∷ [] };
                is = refl;
                clean = clean_more facts more t (record t { sent_r = t.sent_r ++ user ∷ [] }) clean refl (plus_sent_r t user);
                e_flows = flows_later key false rbc facts more from_e t.sent_e t.accepted_r e_flows;
                r_flows = flows_sent key true engine (marked (facts ++ more)) from_r t.sent_r t.accepted_e sapdu user
                    (flows_later key true engine facts more from_r t.sent_r t.accepted_e r_flows) (reads_message key true engine user message octets, sealed);
                count = count;
              } in
              subst P (sym (each (key_for opening) r_side (DataRequest user) r_side (SentDt key user text sapdu) row)) there
          | inr none ↦
              let refusal : Refusal = RefusedLength (length user) in
              let row : RefusesDataRequest r_side (DataRequest user) r_side refusal =
              record { user = user; event_is = refl; met = ((engine, key, refl), refl, none); next_is = refl } in
              subst P (sym (each (key_for opening) r_side (DataRequest user) r_side (Refused refusal) row))
              (subst (AreConnected engine rbc key base) (sym (after_refused f R user refusal)) here)
        ]

    pub sends_connected : (f : Flow) (side : Side) (user : List ℕ) → AreOctets user → AreConnected engine rbc key base f
        → AreConnected engine rbc key base (flow_behind_event opening f side (DataRequest user))
    sends_connected f side user octets c =
        let Q : Flow → Type 0 = λ g. AreConnected engine rbc key base (flow_behind_event opening g side (DataRequest user)) in
        subst Q (sym c.is)
        (connected_sends c.facts c.from_e c.from_r c.n side user octets (subst (AreConnected engine rbc key base) c.is c) c.t c.clean c.e_flows c.r_flows c.count)

    -- connected, with room in the other direction
    abbrev pub Comes : List (List ℕ) → Side → Flow → Type 0
    Comes old side g = AreConnected engine rbc key base g × Room old (under_way g side)

    connected_delivers : (facts : List SideFact) (from_e from_r : List (List ℕ)) (n : ℕ) (t : Tally) (side : Side) (octets : List ℕ) (rest : List (List ℕ))
        → under_way (flow_of facts e_side r_side from_e from_r n) side ≡ octets ∷ rest → IsClean facts t
        → Direction (marked facts) key false rbc from_e t.sent_e t.accepted_r
        → Direction (marked facts) key true engine from_r t.sent_r t.accepted_e
        → n ≤ base + (length t.accepted_r + length t.accepted_e)
        → Comes (under_way (flow_of facts e_side r_side from_e from_r n) (other side)) (other side)
        (delivered opening (flow_of facts e_side r_side from_e from_r n) side octets rest)
    connected_delivers facts from_e from_r n t E octets rest first clean e_flows r_flows count =
        let g : Flow = flow_of facts e_side r_side rest from_r (n + 1) in
        let flows : Direction (marked facts) key false rbc (octets ∷ rest) t.sent_e t.accepted_r =
        subst (λ (l : List (List ℕ)). Direction (marked facts) key false rbc l t.sent_e t.accepted_r) first e_flows in
        let taken : IsTaken (marked facts) key false rbc octets rest t.sent_e t.accepted_r = flows_taken key false rbc (marked facts) octets rest t.sent_e t.accepted_r flows in
        let user : List ℕ = taken.user in
        let text : List ℕ = message_text false rbc user in
        let row : AcceptsDt r_side (Received octets) r_side key user text =
        record {
          peer = engine;
          connected = refl;
          received = record { octets = octets; event_is = refl; read = taken.bears.0 };
          next_is = refl;
          verified_is = refl;
        } in
        let more : List SideFact = at_side R (Accepted octets user key text) ∷ [] in
        let u : Tally = record t { accepted_r = t.accepted_r ++ user ∷ [] } in
        let longer : length (t.accepted_r ++ user ∷ []) ≡ length t.accepted_r + 1 = length-append t.accepted_r (user ∷ []) in
        let P : Safety × SafetyOutcome → Type 0 = λ a. Comes from_r R (flow_with_answer g R (Received octets) a) in
        let there : P (r_side, AcceptedDt key user text) = (
          record {
            facts = facts ++ more;
            from_e = rest;
            from_r = from_r ++ [];
            n = n + 1;
            t = u;
            is = refl;
            clean = clean_more facts more t u clean (rw (taken.bears.1) refl) (plus_accepted_r t user);
            e_flows = flows_later key false rbc facts more rest t.sent_e (t.accepted_r ++ user ∷ []) taken.rest;
            r_flows = subst (λ (l : List (List ℕ)). Direction (marked (facts ++ more)) key true engine l t.sent_r t.accepted_e) (sym (append-nil from_r))
                (flows_later key true engine facts more from_r t.sent_r t.accepted_e r_flows);
            count = omega arith;
          },
          room_none from_r,
        ) in
        subst P (sym (each (key_for opening) r_side (Received octets) r_side (AcceptedDt key user text) row)) there
    connected_delivers facts from_e from_r n t R octets rest first clean e_flows r_flows count =
        let g : Flow = flow_of facts e_side r_side from_e rest (n + 1) in
        let flows : Direction (marked facts) key true engine (octets ∷ rest) t.sent_r t.accepted_e =
        subst (λ (l : List (List ℕ)). Direction (marked facts) key true engine l t.sent_r t.accepted_e) first r_flows in
        let taken : IsTaken (marked facts) key true engine octets rest t.sent_r t.accepted_e =
        flows_taken key true engine (marked facts) octets rest t.sent_r t.accepted_e flows in
        let user : List ℕ = taken.user in
        let text : List ℕ = message_text true engine user in
        let row : AcceptsDt e_side (Received octets) e_side key user text =
        record {
          peer = rbc;
          connected = refl;
          received = record { octets = octets; event_is = refl; read = taken.bears.0 };
          next_is = refl;
          verified_is = refl;
        } in
        let more : List SideFact = at_side E (Accepted octets user key text) ∷ [] in
        let u : Tally = record t { accepted_e = t.accepted_e ++ user ∷ [] } in
        let longer : length (t.accepted_e ++ user ∷ []) ≡ length t.accepted_e + 1 = length-append t.accepted_e (user ∷ []) in
        let P : Safety × SafetyOutcome → Type 0 = λ a. Comes from_e E (flow_with_answer g E (Received octets) a) in
        let there : P (e_side, AcceptedDt key user text) = (
          record {
            facts = facts ++ more;
            from_e = from_e ++ [];
            from_r = rest;
            n = n + 1;
            t = u;
            is = refl;
            clean = clean_more facts more t u clean (rw (taken.bears.1) refl) (plus_accepted_e t user);
            e_flows = subst (λ (l : List (List ℕ)). Direction (marked (facts ++ more)) key false rbc l t.sent_e t.accepted_r) (sym (append-nil from_e))
                (flows_later key false rbc facts more from_e t.sent_e t.accepted_r e_flows);
            r_flows = flows_later key true engine facts more rest t.sent_r (t.accepted_e ++ user ∷ []) taken.rest;
            count = omega arith;
          },
          room_none from_e,
        ) in
        subst P (sym (each (key_for opening) e_side (Received octets) e_side (AcceptedDt key user text) row)) there

    pub delivers_connected : (f : Flow) (side : Side) (octets : List ℕ) (rest : List (List ℕ)) → under_way f side ≡ octets ∷ rest
        → AreConnected engine rbc key base f → Comes (under_way f (other side)) (other side) (delivered opening f side octets rest)
    delivers_connected f side octets rest first c =
        let Q : Flow → Type 0 = λ g. Comes (under_way g (other side)) (other side) (delivered opening g side octets rest) in
        let there : under_way (flow_of c.facts e_side r_side c.from_e c.from_r c.n) side ≡ octets ∷ rest = ap (λ (g : Flow). under_way g side) (sym c.is) ∙ first in
        subst Q (sym c.is) (connected_delivers c.facts c.from_e c.from_r c.n c.t side octets rest there c.clean c.e_flows c.r_flows c.count)

    -- what is claimed of connected sides
    pub bounded_connected : (f : Flow) → AreConnected engine rbc key base f → f.deliveries ≤ base + (length (sent_of E f.facts) + length (sent_of R f.facts))
    bounded_connected f c =
        let Q : Flow → Type 0 = λ g. g.deliveries ≤ base + (length (sent_of E g.facts) + length (sent_of R g.facts)) in
        let sent_e : sent_of E c.facts ≡ c.t.sent_e = ap (λ (u : Tally). u.sent_e) c.clean.tally_is in
        let sent_r : sent_of R c.facts ≡ c.t.sent_r = ap (λ (u : Tally). u.sent_r) c.clean.tally_is in
        let of_e : length c.t.accepted_r + length c.e_flows.waiting ≡ length c.t.sent_e =
        flows_length key false rbc (marked c.facts) c.from_e c.t.sent_e c.t.accepted_r c.e_flows in
        let of_r : length c.t.accepted_e + length c.r_flows.waiting ≡ length c.t.sent_r =
        flows_length key true engine (marked c.facts) c.from_r c.t.sent_r c.t.accepted_e c.r_flows in
        let long_e : length (sent_of E c.facts) ≡ length c.t.sent_e = ap length sent_e in
        let long_r : length (sent_of R c.facts) ≡ length c.t.sent_r = ap length sent_r in
        let count : c.n ≤ base + (length c.t.accepted_r + length c.t.accepted_e) = c.count in
        subst Q (sym c.is) (omega arith)

    pub complete_connected : (f : Flow) → AreConnected engine rbc key base f → f.from_e ≡ [] → f.from_r ≡ [] → IsFlowComplete f
    complete_connected f c =
        let Q : Flow → Type 0 = λ g. g.from_e ≡ [] → g.from_r ≡ [] → IsFlowComplete g in
        let there : Q (flow_of c.facts e_side r_side c.from_e c.from_r c.n) = λ none_e none_r.
        let e_flows : Direction (marked c.facts) key false rbc [] c.t.sent_e c.t.accepted_r =
        subst (λ (l : List (List ℕ)). Direction (marked c.facts) key false rbc l c.t.sent_e c.t.accepted_r) none_e c.e_flows in
        let r_flows : Direction (marked c.facts) key true engine [] c.t.sent_r c.t.accepted_e =
        subst (λ (l : List (List ℕ)). Direction (marked c.facts) key true engine l c.t.sent_r c.t.accepted_e) none_r c.r_flows in
        record {
          e_connected = tt;
          r_connected = tt;
          at_r = ap (λ (u : Tally). u.accepted_r) c.clean.tally_is
              ∙ flows_done key false rbc (marked c.facts) c.t.sent_e c.t.accepted_r e_flows
              ∙ sym (ap (λ (u : Tally). u.sent_e) c.clean.tally_is);
          at_e = ap (λ (u : Tally). u.accepted_e) c.clean.tally_is
              ∙ flows_done key true engine (marked c.facts) c.t.sent_r c.t.accepted_e r_flows
              ∙ sym (ap (λ (u : Tally). u.sent_r) c.clean.tally_is);
        } in
        subst Q (sym c.is) there

    pub unforged_connected : (f : Flow) → AreConnected engine rbc key base f → list_any (λ (m : MarkedFact). m.forged) (marked f.facts) ≡ false
    unforged_connected f c =
        let Q : Flow → Type 0 = λ g. list_any (λ (m : MarkedFact). m.forged) (marked g.facts) ≡ false in
        subst Q (sym c.is) c.clean.unforged
