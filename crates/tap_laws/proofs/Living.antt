-- The safety side of an end that isn't released isn't released either.
use Rattle.std.proofs.Common.{◌≡◌, ◌∙◌, ℕ, zero, suc, ◌-◌, Bool, true, false, not, ◌&&◌, List, [], ◌∷◌, length, Option, Some, None, Ok, Err, refl, sym, ap, subst}
use Rattle.hdlc_station_model.specs.Receiving.{is_some_octets}
use Rattle.std.specs.Prelude.{◌==◌, is_some, if◌then◌else◌}
use Rattle.er_base.specs.declared.release.Release.{Release}
use Rattle.er_base.specs.declared.cause.Cause.{Cause}
use Rattle.er_base.specs.declared.cause.Cause.TheVariants.{User, BlockRefused, SetUpTimeSpent, LineEnded, LineFailed, LineStalled}
use Rattle.er_base.specs.Causes.{release_of, by_this_end}
use Rattle.des_block.specs.declared.triple_key.TripleKey.{TripleKey}
use Rattle.hdlc_frames.specs.Framing.{Verdict}
use Rattle.hdlc_station_model.specs.Calls as station
use Rattle.hdlc_station_model.specs.Events.{news}
use Rattle.t70_header.specs.Joining as joining
use Rattle.x224_class2.specs.Refusals.{protocol_error}
use Rattle.x224_class2.specs.Transport.{ReceptionDeed, Nothing, Called, Confirmed, Message, Disconnected}
use Rattle.x224_class2.specs.Transport as transport
use Rattle.sapdu.specs.Messages.{is_message}
use Rattle.sapdu.specs.Spelling.{di_in}
use Rattle.safety_automaton.specs.Safety.{no_keys, Safety, Phase, Ready, WaitAu1, WaitAu2, WaitAu3, WaitAr, Connected, Released, ConnectRequest, Received, DataRequest, DisconnectRequest, SafetyOutcome, SentAu1, SentAu2, SentAu3, SentAr, ReceivedAr, AcceptedDt, SentDt, Refused, ReleasedLocally, ReleasedByPeer, NothingDone, connects, sends, sends_dt, octets_sent_in_outcome, peer_flag, step}
use Rattle.safety_automaton.specs.Reports.{report_of}
use Rattle.safety_automaton.specs.Rules.{IsOpen, StepsOnly, IsStep, AtReceived, AtDisconnect, AtConnect}
use Rattle.er_end_model.specs.Outcomes.{SendRefusal}
use Rattle.er_end_model.specs.Steps.{Finds, new_event, new_event_at, with_release, send_dr, end_after_di, answer_dr, on_safety_release, why_of, normal_disconnect, with_safety_step, hand_text, skip_message, Carrier, InCr, InCc, InDt, hand_answer, keep_message, on_safety_report, on_text, on_transport_deed, on_joined_block, is_ready, on_link_up, on_link_told, hand_next_tpdu, has_next_tpdu, hand_waiting_tpdus, most_offers, conclude_event, step_start, step_frame, refusal_of, step_send_unless, step_take, step_release, is_spent, di_of, on_expiry, step_tick, step_break}
use Rattle.er_end_model.specs.Steps as end_steps
use Rattle.er_end_model.specs.Layers.{Core, model}
use Rattle.er_end_model.specs.Hearing.{station_behind}
use Rattle.er_end_model.specs.Ends.{Call, Answer, Event, Start, Come, Send, Take, Leave, Tick, Ended, Fault, Stalled, End, Moment, opened, hears_each, end_run}
use Rattle.er_end_model.specs.Ends as end
use Rattle.tap_laws.specs.Progress.{LiveSides}

-- why an end was released, and its safety side
abbrev State : Type 0
State = Option Release × Safety

abbrev state : Core → State
state x = (x.released, x.safe.safety)

abbrev FineAt : State → Type 0
FineAt v = v.0 ≡ None → IsOpen v.1.phase

abbrev Fine : Core → Type 0
Fine x = FineAt (state x)

fine_as : (x y : Core) → state y ≡ state x → Fine x → Fine y
fine_as x y e h = subst (λ (v : State). FineAt v) (sym e) h

gone_fine : (y : Core) (why : Release) → y.released ≡ Some why → Fine y
gone_fine y why e live = absurd (let z = sym e ∙ live in cc)

state_if : (b : Bool) (x y : Core) (v : State) → state x ≡ v → state y ≡ v → state (if b then x else y) ≡ v
state_if true x y v h g = h
state_if false x y v h g = g

fine_if : (b : Bool) (x y : Core) → Fine x → Fine y → Fine (if b then x else y)
fine_if true x y h g = h
fine_if false x y h g = g

offers_state : (n : ℕ) (x : Core) → state (hand_waiting_tpdus model n x) ≡ state x
unfolding hand_waiting_tpdus
offers_state zero x = refl
offers_state (suc n) x = state_if (has_next_tpdu model x) (hand_waiting_tpdus model n (hand_next_tpdu model x)) x (state x) (offers_state n (hand_next_tpdu model x)) refl

concludes_state : (x : Core) → state (conclude_event model x) ≡ state x
concludes_state x = state_if (is_some x.released) x _ (state x) refl (offers_state most_offers x)

says_state : (text : List ℕ) (x : Core) → state (hand_text model text x) ≡ state x
says_state text x = state_if (is_some_octets text && model.may_hand x.upper) _ x (state x) refl refl

answers_state : (by : Carrier) (text : List ℕ) (x : Core) → state (hand_answer model by text x) ≡ state x
answers_state InCr text x = state_if (is_some_octets text) _ x (state x) refl refl
answers_state InCc text x = says_state text x
answers_state InDt text x = says_state text (skip_message model x)

keeps_state : (by : Carrier) (user : List ℕ) (x : Core) → state (keep_message model by user x) ≡ state x
keeps_state InCr user x = refl
keeps_state InCc user x = refl
keeps_state InDt user x = refl

departs_fine : (why : Release) (reason : ℕ) (user : List ℕ) (x : Core) → Fine (send_dr model why reason user x)
departs_fine why reason user x = gone_fine (send_dr model why reason user x) why refl

parts_fine : (why : Release) (di : List ℕ) (x : Core) → Fine (on_safety_release model why di x)
parts_fine why di x =
    fine_if why.by_peer (end_after_di model why x) (send_dr model why normal_disconnect di x) (gone_fine (end_after_di model why x) why refl)
    (departs_fine why normal_disconnect di x)

-- ---- a step of the safety side

open_at : (next : Safety) (phase : Phase) → next.phase ≡ phase → IsOpen phase → IsOpen next.phase
open_at next phase e h = subst (λ (p : Phase). IsOpen p) (sym e) h

connect_open : (s : Safety) (p : Phase) → IsOpen s.phase → IsOpen (connects s p).0.phase
connect_open s (Ready peer kmac rb) h = tt
connect_open s (WaitAu1 ra) h = h
connect_open s (WaitAu2 peer kmac rb) h = h
connect_open s (WaitAu3 connection) h = h
connect_open s (WaitAr connection) h = h
connect_open s (Connected peer session) h = h
connect_open s (Released release session) h = h

abbrev side_in : Safety × SafetyOutcome → Safety
side_in r = r.0

first_same : (b : Bool) (s : Safety) (m n : SafetyOutcome) → side_in (if b then (s, m) else (s, n)) ≡ s
first_same true s m n = refl
first_same false s m n = refl

send_open : (s : Safety) (p : Phase) (user : List ℕ) → (sends s p user).0 ≡ s
send_open s (Ready peer kmac rb) user = refl
send_open s (WaitAu1 ra) user = refl
send_open s (WaitAu2 peer kmac rb) user = refl
send_open s (WaitAu3 connection) user = refl
send_open s (WaitAr connection) user = refl
send_open s (Connected peer session) user = first_same (not (is_message user)) s _ (sends_dt s peer session user).1
send_open s (Released release session) user = refl

module _ (steps : StepsOnly) where
  module _ (key_of : ℕ → ℕ → Option TripleKey) (text : List ℕ) (x : Core) (s next : Safety) (open_ : IsOpen s.phase) where
    abbrev after : SafetyOutcome → Core
    after o = with_safety_step model (Received text) (next, o) x

    answered : (by : Carrier) (o : SafetyOutcome) → IsOpen next.phase → Fine (hand_answer model by (octets_sent_in_outcome o) (after o))
    answered by o h = fine_as (after o) (hand_answer model by (octets_sent_in_outcome o) (after o)) (answers_state by (octets_sent_in_outcome o) (after o)) (λ live. h)

    acts_fine : (by : Carrier) (o : SafetyOutcome) → IsStep key_of s (Received text) next o → Fine (on_safety_report model by (report_of o) (octets_sent_in_outcome o) (after o))
    acts_fine by (SentAu1 octets) row = λ live. open_at next _ (ap (λ (n : Safety). n.phase) row.next_is) tt
    acts_fine by (SentAu2 session sealed octets) row = answered by (SentAu2 session sealed octets) (open_at next _ (ap (λ (n : Safety). n.phase) row.next_is) tt)
    acts_fine by (SentAu3 session verified sealed octets) row =
        answered by (SentAu3 session verified sealed octets) (open_at next _ (ap (λ (n : Safety). n.phase) row.next_is) tt)
    acts_fine by (SentAr connection verified sealed octets) row =
        answered by (SentAr connection verified sealed octets) (open_at next _ (ap (λ (n : Safety). n.phase) row.next_is) tt)
    acts_fine by (ReceivedAr connection verified) row = answered by (ReceivedAr connection verified) (open_at next _ (ap (λ (n : Safety). n.phase) row.next_is) tt)
    acts_fine by (AcceptedDt session user verified) row =
        fine_as (after (AcceptedDt session user verified)) (keep_message model by user (after (AcceptedDt session user verified))) (keeps_state by user (after (AcceptedDt session user verified)))
        (λ live. open_at next s.phase (ap (λ (n : Safety). n.phase) row.next_is) open_)
    acts_fine by (SentDt session user sealed octets) row = λ live. open_at next s.phase (ap (λ (n : Safety). n.phase) row.next_is) open_
    acts_fine by (Refused refusal) row = λ live. open_at next s.phase (ap (λ (n : Safety). n.phase) row.next_is) open_
    acts_fine by (ReleasedLocally release octets) row = parts_fine release octets (after (ReleasedLocally release octets))
    acts_fine by (ReleasedByPeer release) row = parts_fine release [] (after (ReleasedByPeer release))
    acts_fine by NothingDone (AtReceived octets release session e phase same) = λ live. open_at next s.phase (ap (λ (n : Safety). n.phase) same) open_
    acts_fine by NothingDone (AtDisconnect sub release session e phase same) = λ live. open_at next s.phase (ap (λ (n : Safety). n.phase) same) open_
    acts_fine by NothingDone (AtConnect e ready same) = λ live. open_at next s.phase (ap (λ (n : Safety). n.phase) same) open_

  -- ---- a frame

  text_fine : (finds : Finds) (by : Carrier) (text : List ℕ) (x : Core) → IsOpen x.safe.safety.phase → Fine (on_text model finds by text x)
  text_fine finds by text x h =
      let a : Safety × SafetyOutcome = step (finds x.moment) x.safe.safety (Received text) in
      acts_fine (finds x.moment) text x x.safe.safety a.0 h by a.1 (steps (finds x.moment) x.safe.safety (Received text))

  deed_fine : (finds : Finds) (d : ReceptionDeed) (x : Core) → IsOpen x.safe.safety.phase → Fine (on_transport_deed model finds d x)
  deed_fine finds Nothing x h = λ live. h
  deed_fine finds (Called user) x h = text_fine finds InCr user x h
  deed_fine finds (Confirmed user) x h = text_fine finds InCc user x h
  deed_fine finds (Message message) x h = text_fine finds InDt message x h
  deed_fine finds (Disconnected user) x h =
      let why : Release = why_of (di_in user (peer_flag x.safe.safety)) in gone_fine (answer_dr model why x) why refl
  deed_fine finds (transport.Refused sub reason) x h = departs_fine (by_this_end 2 sub) reason [] x

  block_fine : (finds : Finds) (answer : joining.BlockJoiningResult) (x : Core) → IsOpen x.safe.safety.phase → Fine (on_joined_block model finds answer x)
  block_fine finds (Ok None) x h = λ live. h
  block_fine finds (Ok (Some tpdu)) x h = deed_fine finds (model.deed x.upper tpdu) (record x { upper = model.hears x.upper tpdu }) h
  block_fine finds (Err fault) x h = departs_fine (release_of BlockRefused) protocol_error [] x

  up_fine : (x : Core) → IsOpen x.safe.safety.phase → Fine (on_link_up model x)
  up_fine x h =
      let a : Safety × SafetyOutcome = step no_keys x.safe.safety ConnectRequest in
      let z : Core = with_safety_step model ConnectRequest a x in
      let fine : Fine z = λ live. connect_open x.safe.safety x.safe.safety.phase h in
      fine_if (model.may_connect x.upper && is_ready x.safe.safety.phase) (end_steps.connect_with_text model (octets_sent_in_outcome a.1) z) x
      (fine_if (is_some_octets (octets_sent_in_outcome a.1)) _ z fine fine) (λ live. h)

  link_fine : (finds : Finds) (payload : Option (List ℕ)) (up : Bool) (released : Option Release) (x : Core) → IsOpen x.safe.safety.phase
      → Fine (on_link_told model finds payload up released x)
  link_fine finds (Some payload) up released x h =
      let joined = joining.block_step x.joined payload in block_fine finds joined.1 (record x { joined = joined.0 }) h
  link_fine finds None true released x h = up_fine x h
  link_fine finds None false (Some why) x h = gone_fine (with_release why x) why refl
  link_fine finds None false None x h = λ live. h

  -- an end that was released stays so, and of one that wasn't this is claimed
  unless_gone : (r : Option Release) (x y : Core) → x.released ≡ r → (r ≡ None → Fine y) → Fine (if is_some r then x else y)
  unless_gone None x y e h = h refl
  unless_gone (Some why) x y e h = gone_fine x why e

  module _ (now : ℕ) (x : Core) (h : Fine x) where
    abbrev b : Core
    b = new_event_at model now x

    concluded : (y : Core) → Fine y → Fine (conclude_event model y)
    concluded y f = fine_as y (conclude_event model y) (concludes_state y) f

    comes_fine : (finds : Finds) (v : Verdict) → Fine (step_frame model finds now v x)
    comes_fine finds v =
        let z : Core = record b { line = station_behind x now v } in
        let d = (station_behind x now v).deed in
        let y : Core = on_link_told model finds d.payload d.up d.released z in
        unless_gone x.released b (conclude_event model y) refl (λ live. concluded y (link_fine finds d.payload d.up d.released z (h live)))

    starts_fine : Fine (step_start model now x)
    starts_fine =
        let z : Core = record b { line = station.starts b.moment b.line } in
        unless_gone x.released b (conclude_event model z) refl (λ live. concluded z h)

    uses_fine : Fine (step_take model now x)
    uses_fine =
        let z : Core = record b { upper = model.uses b.upper } in
        fine_if (length x.upper.accepted - x.upper.used == 0) b (conclude_event model z) h (concluded z h)

    leaves_fine : (sub : ℕ) → Fine (step_release model now sub x)
    leaves_fine sub =
        let a : Safety × SafetyOutcome = step no_keys x.safe.safety (DisconnectRequest sub) in
        unless_gone x.released b _ refl (λ live. departs_fine (release_of (User sub)) normal_disconnect (octets_sent_in_outcome a.1) (with_safety_step model (DisconnectRequest sub) a b))

    time_fine : (given_up : Option Release) (z : Core) → Fine z → Fine (on_expiry model given_up z)
    time_fine (Some why) z f = gone_fine (with_release why z) why refl
    time_fine None z f =
        fine_if (is_spent z) _ z (departs_fine (release_of SetUpTimeSpent) normal_disconnect (di_of (release_of SetUpTimeSpent) z.safe.safety) z) f

    ticks_fine : Fine (step_tick model now x)
    ticks_fine =
        let z : Core = record b { line = station.ticks b.moment b.line } in
        let y : Core = on_expiry model (model.given_up b.moment b.line) z in
        unless_gone x.released b (conclude_event model y) refl (λ live. concluded y (time_fine (model.given_up b.moment b.line) z h))

    breaks_fine : (cause : Cause) → Fine (step_break model cause x)
    breaks_fine cause = unless_gone x.released (new_event model x) (with_release (release_of cause) (new_event model x)) refl (λ live. gone_fine (with_release (release_of cause) (new_event model x)) (release_of cause) refl)

    sends_fine : (user : List ℕ) (r : Option SendRefusal) → Fine (step_send_unless model r now user x)
    sends_fine user (Some refusal) = h
    sends_fine user None =
        let a : Safety × SafetyOutcome = step no_keys x.safe.safety (DataRequest user) in
        let y : Core = with_safety_step model (DataRequest user) a b in
        let z : Core = record y { upper = model.sends y.upper user } in
        concluded (hand_text model (octets_sent_in_outcome a.1) z)
        (fine_as z (hand_text model (octets_sent_in_outcome a.1) z) (says_state (octets_sent_in_outcome a.1) z)
        (λ live. subst (λ (s : Safety). IsOpen s.phase) (sym (send_open x.safe.safety x.safe.safety.phase user)) (h live)))

  each_fine : (finds : Finds) (now : ℕ) (vs : List Verdict) (x : Core) → Fine x → Fine (hears_each finds now vs x)
  each_fine finds now [] x h = h
  each_fine finds now (v ∷ vs) x h = each_fine finds now vs (step_frame model finds now v x) (comes_fine now x h finds v)

  event_fine : (now : ℕ) (event : Event) (m : End) → Fine m.core → Fine (end.step_event now event m).0.core
  event_fine now Start m h = starts_fine now m.core h
  event_fine now (Come finds octets) m h = each_fine finds now (news m.stream octets) (new_event_at model now m.core) h
  event_fine now (Send user) m h = sends_fine now m.core h user (refusal_of model user m.core)
  event_fine now Take m h = uses_fine now m.core h
  event_fine now (Leave sub) m h = leaves_fine now m.core h sub
  event_fine now Tick m h = ticks_fine now m.core h
  event_fine now Ended m h = breaks_fine now m.core h LineEnded
  event_fine now Fault m h = breaks_fine now m.core h LineFailed
  event_fine now Stalled m h = breaks_fine now m.core h LineStalled

  run_fine : (events : List Moment) (m : End) → Fine m.core → Fine (end_run events m).core
  run_fine [] m h = h
  run_fine (e ∷ events) m h = run_fine events (end.step_event e.now e.event m).0 (event_fine e.now e.event m h)

  pub live_sides : LiveSides
  live_sides (Call settings me peer kmac rb now) events = run_fine events (opened (Call settings me peer kmac rb now)) (λ live. tt)
  live_sides (Answer settings me ra now) events = run_fine events (opened (Answer settings me ra now)) (λ live. tt)
