-- What an end tells of its peer is the doing of a text that a frame brought.
use Rattle.std.proofs.Common.{◌≡◌, ◌∙◌, ℕ, max, Bool, true, false, ◌&&◌, List, [], ◌∷◌, ◌++◌, Option, Some, None, Ok, Err, refl, sym, ap, subst, append_assoc, append-nil}
use Rattle.hdlc_station_model.specs.Receiving.{is_some_octets}
use Rattle.std.specs.Prelude.{is_some, if◌then◌else◌}
use Rattle.std.specs.List.{flat_map, All}
use Rattle.std.proofs.lemmas.List.Elements.{All-nil, All-cons, All-append, All-weaker}
use Rattle.er_base.specs.declared.release.Release.{Release}
use Rattle.er_base.specs.declared.cause.Cause.TheVariants.{LineEnded, LineFailed, LineStalled, BlockRefused}
use Rattle.er_base.specs.Causes.{release_of, by_this_end}
use Rattle.des_block.specs.declared.triple_key.TripleKey.{TripleKey}
use Rattle.hdlc_frames.specs.Framing.{Verdict}
use Rattle.hdlc_station_model.specs.Events.{news}
use Rattle.t70_header.specs.Joining as joining
use Rattle.x224_class2.specs.Refusals.{protocol_error}
use Rattle.x224_class2.specs.Transport.{ReceptionDeed, Nothing, Called, Confirmed, Message, Disconnected, reception}
use Rattle.x224_class2.specs.Transport as transport
use Rattle.sapdu.specs.Spelling.{di_in}
use Rattle.safety_automaton.specs.Safety.{no_keys, Safety, ConnectRequest, Received, DataRequest, SafetyOutcome, SentAu1, SentAu2, SentAu3, SentAr, ReceivedAr, AcceptedDt, SentDt, Refused, ReleasedLocally, ReleasedByPeer, NothingDone, octets_sent_in_outcome, peer_flag, step}
use Rattle.safety_automaton.specs.Reports.{report_of}
use Rattle.safety_automaton.specs.Rules.{StepsOnly, IsStep}
use Rattle.safety_automaton.specs.Laws.{AcceptsVerified}
use Rattle.er_end_model.specs.Outcomes.{Outcome, ConnectedTo, Accepted, SendRefusal}
use Rattle.er_end_model.specs.Outcomes as told
use Rattle.er_end_model.specs.Steps.{Finds, new_event_at, send_dr, answer_dr, on_safety_release, why_of, with_safety_step, Carrier, InCr, InCc, InDt, hand_answer, keep_message, on_safety_report, on_text, on_transport_deed, on_joined_block, is_ready, connect_with_text, on_link_up, on_link_told, conclude_event, step_start, step_frame, refusal_of, step_send_unless, on_send, step_take, step_release, step_tick, step_break, if_connected, if_accepted, if_released, if_octets, outcomes_of, if_taken}
use Rattle.er_end_model.specs.Layers.{Core, model}
use Rattle.er_end_model.specs.Ends.{Event, Start, Come, Send, Take, Leave, Tick, Ended, Fault, Stalled, End, Moment, told_of_each, refusal_or_outcomes, end_run, outcomes}
use Rattle.er_end_model.specs.Ends as end
use Rattle.er_end_model.specs.Hearing.{text_in_deed, station_behind, IsTextOf}
use Rattle.er_end_model.specs.Origins.{BringsMessage, ConnectsWith, ByAu3, ByAr, core_behind_frames, Brings, Origin, OctetOutcomesHaveOrigin, BringsIn, RunsAreHeard, octets_brought_by_event, StreamIsWhole}
use Rattle.er_end_model.proofs.Behind.{taken_at, joined_at, heard_at, hears_parts}
use Rattle.er_end_model.proofs.Speaking.{seen, seen_departs, seen_cut_off, seen_parts, seen_concludes}
use Rattle.er_end_model.proofs.Giving.{Shown, shown, silence, word, shown_as, shown_if, shown_answers, starts_show, sent_shows, uses_show, ticks_show, breaks_show, IsQuiet, quiet_silence, quiet_word, quiet_leaves}

-- ---- a frame

module _ (steps : StepsOnly) (accepts_only : AcceptsVerified) where
  module _ (finds : Finds) (now : ℕ) (verdict : Verdict) (x : Core) where
    -- the frame brought a text that does this
    abbrev Brought : (Safety → List ℕ → Type 0) → Type 0
    Brought Does = (text : List ℕ) × IsTextOf x now verdict text × Does x.safe.safety text

    -- what is told is brought
    record Tells (v : Shown) : Type 0 where
      peers : (peer : ℕ) → v.connected ≡ Some peer → Brought (ConnectsWith peer)
      messages : (message : List ℕ) → v.news ≡ Some message → Brought (BringsMessage message)

    quiet_tells : (v : Shown) → v.connected ≡ None → v.news ≡ None → Tells v
    quiet_tells v c n = record { peers = λ peer e. absurd (let z = sym c ∙ e in cc); messages = λ message e. absurd (let z = sym n ∙ e in cc) }

    tells_as : (x y : Shown) → y ≡ x → Tells x → Tells y
    tells_as x y e t = subst (λ (v : Shown). Tells v) (sym e) t

    module _ (text : List ℕ) (is : IsTextOf x now verdict text) (key_of : ℕ → ℕ → Option TripleKey) (q : Safety) (y : Core) (c : y.connected ≡ None) (n : y.upper.news ≡ None) where
      abbrev after : SafetyOutcome → Core
      after o = with_safety_step model (Received text) (q, o) y

      abbrev Comes : SafetyOutcome → Type 0
      Comes o = (step key_of x.safe.safety (Received text)).1 ≡ o

      stays : (o : SafetyOutcome) (z : Core) → seen z ≡ seen (after o) → Tells (shown z)
      stays o z e = tells_as (shown (after o)) (shown z) (shown_as (after o) z e) (quiet_tells (shown (after o)) c n)

      answered : (by : Carrier) (o : SafetyOutcome) → Tells (shown (hand_answer model by (octets_sent_in_outcome o) (after o)))
      answered by o = tells_as (shown (after o)) (shown (hand_answer model by (octets_sent_in_outcome o) (after o))) (shown_answers by (octets_sent_in_outcome o) (after o)) (quiet_tells (shown (after o)) c n)

      connected : (by : Carrier) (o : SafetyOutcome) (peer : ℕ) → ConnectsWith peer x.safe.safety text
          → Tells (shown (record (hand_answer model by (octets_sent_in_outcome o) (after o)) { connected = Some peer }))
      connected by o peer on_transport_deed =
          let z : Core = record (hand_answer model by (octets_sent_in_outcome o) (after o)) { connected = Some peer } in
          let e : shown z ≡ record (shown (after o)) { connected = Some peer } = ap (λ (v : Shown). record v { connected = Some peer }) (shown_answers by (octets_sent_in_outcome o) (after o)) in
          tells_as (record (shown (after o)) { connected = Some peer }) (shown z) e (record {
            peers = λ p f. let g : peer ≡ p = cc in (text, is, subst (λ (k : ℕ). ConnectsWith k x.safe.safety text) g on_transport_deed);
            messages = λ message f. absurd (let g = sym n ∙ f in cc);
          })

      kept : (by : Carrier) (o : SafetyOutcome) (user : List ℕ) → BringsMessage user x.safe.safety text → Tells (shown (keep_message model by user (after o)))
      kept InCr o user on_transport_deed = quiet_tells (shown (after o)) c n
      kept InCc o user on_transport_deed = quiet_tells (shown (after o)) c n
      kept InDt o user on_transport_deed = record {
        peers = λ p f. absurd (let g = sym c ∙ f in cc);
        messages = λ message f. let g : user ≡ message = cc in (text, is, subst (λ (k : List ℕ). BringsMessage k x.safe.safety text) g on_transport_deed);
      }

      row : (o : SafetyOutcome) → Comes o → IsStep key_of x.safe.safety (Received text) (step key_of x.safe.safety (Received text)).0 o
      row o e = subst (λ (p : SafetyOutcome). IsStep key_of x.safe.safety (Received text) (step key_of x.safe.safety (Received text)).0 p) e (steps key_of x.safe.safety (Received text))

      acts_tell : (by : Carrier) (o : SafetyOutcome) → Comes o → Tells (shown (on_safety_report model by (report_of o) (octets_sent_in_outcome o) (after o)))
      acts_tell by (SentAu1 octets) e = stays (SentAu1 octets) (after (SentAu1 octets)) refl
      acts_tell by (SentAu2 session sealed octets) e = answered by (SentAu2 session sealed octets)
      acts_tell by (SentAu3 session verified sealed octets) e = answered by (SentAu3 session verified sealed octets)
      acts_tell by (SentAr connection verified sealed octets) e =
          connected by (SentAr connection verified sealed octets) connection.peer
          (ByAu3 (step key_of x.safe.safety (Received text)).0 connection verified sealed octets refl (row (SentAr connection verified sealed octets) e))
      acts_tell by (ReceivedAr connection verified) e =
          connected by (ReceivedAr connection verified) connection.peer
          (ByAr (step key_of x.safe.safety (Received text)).0 connection verified refl (row (ReceivedAr connection verified) e))
      acts_tell by (AcceptedDt session user verified) e =
          kept by (AcceptedDt session user verified) user (session, verified, accepts_only key_of x.safe.safety session text user verified e)
      acts_tell by (SentDt session user sealed octets) e = stays (SentDt session user sealed octets) (after (SentDt session user sealed octets)) refl
      acts_tell by (Refused refusal) e = stays (Refused refusal) (after (Refused refusal)) refl
      acts_tell by (ReleasedLocally release octets) e =
          stays (ReleasedLocally release octets) (on_safety_release model release octets (after (ReleasedLocally release octets))) (seen_parts release octets (after (ReleasedLocally release octets)))
      acts_tell by (ReleasedByPeer release) e =
          stays (ReleasedByPeer release) (on_safety_release model release [] (after (ReleasedByPeer release))) (seen_parts release [] (after (ReleasedByPeer release)))
      acts_tell by NothingDone e = stays NothingDone (after NothingDone) refl

    text_tells : (payload tpdu : List ℕ) (by : Carrier) (text : List ℕ) → IsTextOf x now verdict text → Tells (shown (on_text model finds by text (heard_at now verdict x payload tpdu)))
    text_tells payload tpdu by text is =
        let key_of : ℕ → ℕ → Option TripleKey = finds (max x.moment now) in
        let a : Safety × SafetyOutcome = step key_of x.safe.safety (Received text) in
        acts_tell text is key_of a.0 (heard_at now verdict x payload tpdu) refl refl by a.1 refl

    deed_tells : (payload tpdu : List ℕ) (d : ReceptionDeed) → ((text : List ℕ) → text_in_deed d ≡ Some text → IsTextOf x now verdict text)
        → Tells (shown (on_transport_deed model finds d (heard_at now verdict x payload tpdu)))
    deed_tells payload tpdu Nothing h = quiet_tells (shown (heard_at now verdict x payload tpdu)) refl refl
    deed_tells payload tpdu (Called user) h = text_tells payload tpdu InCr user (h user refl)
    deed_tells payload tpdu (Confirmed user) h = text_tells payload tpdu InCc user (h user refl)
    deed_tells payload tpdu (Message message) h = text_tells payload tpdu InDt message (h message refl)
    deed_tells payload tpdu (Disconnected user) h =
        let y : Core = heard_at now verdict x payload tpdu in
        let why : Release = why_of (di_in user (peer_flag x.safe.safety)) in
        tells_as silence (shown (answer_dr model why y)) (shown_as y (answer_dr model why y) (seen_cut_off why y)) (quiet_tells silence refl refl)
    deed_tells payload tpdu (transport.Refused sub reason) h =
        let y : Core = heard_at now verdict x payload tpdu in
        let why : Release = by_this_end 2 sub in
        tells_as silence (shown (send_dr model why reason [] y)) (shown_as y (send_dr model why reason [] y) (seen_departs why reason [] y)) (quiet_tells silence refl refl)

    block_tells : (payload : List ℕ) → (station_behind x now verdict).deed.payload ≡ Some payload → (answer : joining.BlockJoiningResult) → (joining.block_step x.joined payload).1 ≡ answer
        → Tells (shown (on_joined_block model finds answer (joined_at now verdict x payload)))
    block_tells payload t (Ok None) e = quiet_tells silence refl refl
    block_tells payload t (Ok (Some tpdu)) e =
        deed_tells payload tpdu (reception x.upper.transport tpdu).1 (λ text b. record { payload = payload; taken = t; tpdu = tpdu; joined = e; brought = b })
    block_tells payload t (Err fault) e =
        let y : Core = joined_at now verdict x payload in
        let why : Release = release_of BlockRefused in
        tells_as silence (shown (send_dr model why protocol_error [] y)) (shown_as y (send_dr model why protocol_error [] y) (seen_departs why protocol_error [] y)) (quiet_tells silence refl refl)

    up_tells : Tells (shown (on_link_up model (taken_at now verdict x)))
    up_tells =
        let a : Safety × SafetyOutcome = step no_keys x.safe.safety ConnectRequest in
        let z : Core = with_safety_step model ConnectRequest a (taken_at now verdict x) in
        let v : Shown = word ConnectRequest a.1 in
        up_or (model.may_connect (taken_at now verdict x).upper && is_ready (taken_at now verdict x).safe.safety.phase) (connect_with_text model (octets_sent_in_outcome a.1) z)
        (tells_as v (shown (connect_with_text model (octets_sent_in_outcome a.1) z)) (shown_if (is_some_octets (octets_sent_in_outcome a.1)) _ z v refl refl) (quiet_tells v refl refl))
      where
        up_or : (b : Bool) (y : Core) → Tells (shown y) → Tells (shown (if b then y else (taken_at now verdict x)))
        up_or true y t = t
        up_or false y t = quiet_tells silence refl refl

    link_tells : (payload : Option (List ℕ)) (up : Bool) (released : Option Release) → (station_behind x now verdict).deed.payload ≡ payload
        → Tells (shown (on_link_told model finds payload up released (taken_at now verdict x)))
    link_tells (Some payload) up released t = block_tells payload t (joining.block_step x.joined payload).1 refl
    link_tells None true released t = up_tells
    link_tells None false (Some why) t = quiet_tells silence refl refl
    link_tells None false None t = quiet_tells silence refl refl

    frame_tells : Tells (shown (step_frame model finds now verdict x))
    frame_tells =
        let d = (station_behind x now verdict).deed in
        let y : Core = on_link_told model finds d.payload d.up d.released (taken_at now verdict x) in
        unless x.released (conclude_event model y) (tells_as (shown y) (shown (conclude_event model y)) (shown_as y (conclude_event model y) (seen_concludes y)) (link_tells d.payload d.up d.released refl))
      where
        unless : (r : Option Release) (y : Core) → Tells (shown y) → Tells (shown (if is_some r then new_event_at model now x else y))
        unless None y t = t
        unless (Some why) y t = quiet_tells silence refl refl

-- ---- what is told

module _ (P : Outcome → Type 0) (releases : (why : Release) → P (told.WasReleased why)) (octets : (os : List ℕ) → P (told.Octets os)) where
  released_all : (o : Option Release) → All P (if_released o)
  released_all None = All-nil P
  released_all (Some why) = All-cons P (told.WasReleased why) [] (releases why) (All-nil P)

  octets_all : (os : List ℕ) → All P (if_octets os)
  octets_all [] = All-nil P
  octets_all (o ∷ os) = All-cons P (told.Octets (o ∷ os)) [] (octets (o ∷ os)) (All-nil P)

  connected_all : (o : Option ℕ) → ((peer : ℕ) → o ≡ Some peer → P (ConnectedTo peer)) → All P (if_connected o)
  connected_all None h = All-nil P
  connected_all (Some peer) h = All-cons P (ConnectedTo peer) [] (h peer refl) (All-nil P)

  accepted_all : (o : Option (List ℕ)) → ((message : List ℕ) → o ≡ Some message → P (Accepted message)) → All P (if_accepted o)
  accepted_all None h = All-nil P
  accepted_all (Some message) h = All-cons P (Accepted message) [] (h message refl) (All-nil P)

  told_all : (y : Core) → ((peer : ℕ) → y.connected ≡ Some peer → P (ConnectedTo peer)) → ((message : List ℕ) → y.upper.news ≡ Some message → P (Accepted message))
      → All P (outcomes_of model y)
  told_all y c n =
      let a = if_connected y.connected in
      let b = if_accepted y.upper.news in
      let d = if_released y.leaves in
      let e = if_octets (model.written y.line) in
      All-append P (a ++ b ++ d) e
      (All-append P (a ++ b) d (All-append P a b (connected_all y.connected c) (accepted_all y.upper.news n)) (released_all y.leaves)) (octets_all (model.written y.line))

  quiet_all : (y : Core) → IsQuiet y → All P (outcomes_of model y)
  quiet_all y q = told_all y (λ peer e. absurd (let z = sym q.connected ∙ e in cc)) (λ message e. absurd (let z = sym q.news ∙ e in cc))

-- ---- octets

module _ (steps : StepsOnly) (accepts_only : AcceptsVerified) where
  module _ (finds : Finds) (now : ℕ) (octets : List ℕ) (m : End) where
    each_told : (first vs : List Verdict) → news m.stream octets ≡ first ++ vs → (x : Core) → core_behind_frames finds now first m ≡ x
        → All (Origin (Brings finds now octets m)) (told_of_each finds now vs x)
    each_told first [] e x is = All-nil (Origin (Brings finds now octets m))
    each_told first (v ∷ vs) e x is =
        let P : Outcome → Type 0 = Origin (Brings finds now octets m) in
        let b : Core = core_behind_frames finds now first m in
        let y : Core = step_frame model finds now v x in
        let t = frame_tells steps accepts_only finds now v b in
        let same : step_frame model finds now v b ≡ y = ap (λ (z : Core). step_frame model finds now v z) is in
        let one : All P (outcomes_of model (step_frame model finds now v b)) =
        told_all P (λ why. tt) (λ os. tt) (step_frame model finds now v b)
        (λ peer f. let g = t.peers peer f in record { first = first; verdict = v; later = vs; frames = e; text = g.0; is_text = g.1; does = g.2 })
        (λ message f. let g = t.messages message f in record { first = first; verdict = v; later = vs; frames = e; text = g.0; is_text = g.1; does = g.2 }) in
        let rest : All P (told_of_each finds now vs y) =
        each_told (first ++ v ∷ []) vs (e ∙ sym (append_assoc first (v ∷ []) vs)) y (hears_parts finds now first (v ∷ []) (new_event_at model now m.core) ∙ same) in
        All-append P (outcomes_of model y) (told_of_each finds now vs y) (subst (λ (z : Core). All P (outcomes_of model z)) same one) rest

  pub octets_are_heard : OctetOutcomesHaveOrigin
  octets_are_heard finds now octets m = each_told finds now octets m [] (news m.stream octets) refl (new_event_at model now m.core) refl

  -- ---- a run

  abbrev Told : List Moment → End → Outcome → Type 0
  Told events m = Origin (BringsIn events m)

  step_told : (events before after : List Moment) (m : End) (now : ℕ) (event : Event) → events ≡ before ++ record { now = now; event = event } ∷ after
      → All (Told events m) (end.step_event now event (end_run before m)).1
  step_told events before after m now Start e =
      let k : Core = (end_run before m).core in
      quiet_all (Told events m) (λ why. tt) (λ os. tt) (step_start model now k) (quiet_silence (step_start model now k) (starts_show now k))
  step_told events before after m now (Come finds octets) e =
      All-weaker (Origin (Brings finds now octets (end_run before m))) (Told events m) came (end.step_event now (Come finds octets) (end_run before m)).1 (octets_are_heard finds now octets (end_run before m))
    where
      carried : (Does : Safety → List ℕ → Type 0) → Brings finds now octets (end_run before m) Does → BringsIn events m Does
      carried Does b = record { before = before; now = now; finds = finds; octets = octets; after = after; events_are = e; brings = b }

      came : (o : Outcome) → Origin (Brings finds now octets (end_run before m)) o → Told events m o
      came (ConnectedTo peer) b = carried (ConnectsWith peer) b
      came (Accepted message) b = carried (BringsMessage message) b
      came (told.Taken message) b = tt
      came told.NothingToTake b = tt
      came (told.Refused refusal) b = tt
      came (told.WasReleased release) b = tt
      came (told.Octets os) b = tt
  step_told events before after m now (Send user) e = unless (refusal_of model user (end_run before m).core)
    where
      unless : (r : Option SendRefusal) → All (Told events m) (refusal_or_outcomes r (outcomes_of model (step_send_unless model r now user (end_run before m).core)))
      unless (Some refusal) = All-cons (Told events m) (told.Refused refusal) [] tt (All-nil (Told events m))
      unless None =
          let k : Core = (end_run before m).core in
          let y : Core = on_send model user (new_event_at model now k) in
          quiet_all (Told events m) (λ why. tt) (λ os. tt) y (quiet_word y (DataRequest user) (step no_keys k.safe.safety (DataRequest user)).1 (sent_shows now user k))
  step_told events before after m now Take e =
      let k : Core = (end_run before m).core in
      All-append (Told events m) (if_taken (model.oldest k.upper)) (outcomes_of model (step_take model now k)) (taken_all (model.oldest k.upper))
      (quiet_all (Told events m) (λ why. tt) (λ os. tt) (step_take model now k) (quiet_silence (step_take model now k) (uses_show now k)))
    where
      taken_all : (o : Option (List ℕ)) → All (Told events m) (if_taken o)
      taken_all None = All-cons (Told events m) told.NothingToTake [] tt (All-nil (Told events m))
      taken_all (Some message) = All-cons (Told events m) (told.Taken message) [] tt (All-nil (Told events m))
  step_told events before after m now (Leave sub) e =
      let k : Core = (end_run before m).core in
      quiet_all (Told events m) (λ why. tt) (λ os. tt) (step_release model now sub k) (quiet_leaves now sub k)
  step_told events before after m now Tick e =
      let k : Core = (end_run before m).core in
      quiet_all (Told events m) (λ why. tt) (λ os. tt) (step_tick model now k) (quiet_silence (step_tick model now k) (ticks_show now k))
  step_told events before after m now Ended e =
      let k : Core = (end_run before m).core in
      quiet_all (Told events m) (λ why. tt) (λ os. tt) (step_break model LineEnded k) (quiet_silence (step_break model LineEnded k) (breaks_show LineEnded k))
  step_told events before after m now Fault e =
      let k : Core = (end_run before m).core in
      quiet_all (Told events m) (λ why. tt) (λ os. tt) (step_break model LineFailed k) (quiet_silence (step_break model LineFailed k) (breaks_show LineFailed k))
  step_told events before after m now Stalled e =
      let k : Core = (end_run before m).core in
      quiet_all (Told events m) (λ why. tt) (λ os. tt) (step_break model LineStalled k) (quiet_silence (step_break model LineStalled k) (breaks_show LineStalled k))

  run_told : (events before after : List Moment) (m n : End) → events ≡ before ++ after → end_run before m ≡ n → All (Told events m) (outcomes after n)
  run_told events before [] m n e is = All-nil (Told events m)
  run_told events before (moment ∷ after) m n e is =
      let one = step_told events before after m moment.now moment.event e in
      let here : All (Told events m) (end.step_event moment.now moment.event n).1 = subst (λ (k : End). All (Told events m) (end.step_event moment.now moment.event k).1) is one in
      All-append (Told events m) (end.step_event moment.now moment.event n).1 (outcomes after (end.step_event moment.now moment.event n).0) here
      (run_told events (before ++ moment ∷ []) after m (end.step_event moment.now moment.event n).0 (e ∙ sym (append_assoc before (moment ∷ []) after))
      (run_last before moment m ∙ ap (λ (k : End). (end.step_event moment.now moment.event k).0) is))
    where
      run_last : (before : List Moment) (moment : Moment) (m : End) → end_run (before ++ moment ∷ []) m ≡ (end.step_event moment.now moment.event (end_run before m)).0
      run_last [] moment m = refl
      run_last (e ∷ before) moment m = run_last before moment (end.step_event e.now e.event m).0

  pub runs_are_heard : RunsAreHeard
  runs_are_heard events m = run_told events [] events m m refl refl

-- ---- the stream

step_stream : (now : ℕ) (event : Event) (m : End) → (end.step_event now event m).0.stream ≡ m.stream ++ octets_brought_by_event event
step_stream now Start m = sym (append-nil m.stream)
step_stream now (Come finds octets) m = refl
step_stream now (Send user) m = sym (append-nil m.stream)
step_stream now Take m = sym (append-nil m.stream)
step_stream now (Leave sub) m = sym (append-nil m.stream)
step_stream now Tick m = sym (append-nil m.stream)
step_stream now Ended m = sym (append-nil m.stream)
step_stream now Fault m = sym (append-nil m.stream)
step_stream now Stalled m = sym (append-nil m.stream)

pub stream_is_whole : StreamIsWhole
stream_is_whole [] m = sym (append-nil m.stream)
stream_is_whole (e ∷ events) m =
    stream_is_whole events (end.step_event e.now e.event m).0
    ∙ ap (λ (s : List ℕ). s ++ flat_map (λ (k : Moment). octets_brought_by_event k.event) events) (step_stream e.now e.event m)
    ∙ append_assoc m.stream (octets_brought_by_event e.event) (flat_map (λ (k : Moment). octets_brought_by_event k.event) events)
