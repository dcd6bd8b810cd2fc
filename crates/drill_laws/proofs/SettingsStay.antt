-- The ends of a link keep the file's settings: each event of a station and of a stack does, and so each step of a link.
use Rattle.std.proofs.Common.{◌≡◌, ℕ, zero, suc, ◌+◌, ◌==◌, max, true, false, Bool, if◌then◌else◌, List, [], ◌∷◌, ◌++◌, refl, subst}
use Rattle.std.specs.Prelude.{◌&&◌, Option, Some, None, is_some, Ok, Err}
use Rattle.er_base.specs.declared.release.Release.{Release}
use Rattle.er_base.specs.declared.side.Side.{Side}
use Rattle.er_base.specs.declared.side.Side.TheVariants.{E, R}
use Rattle.er_base.specs.declared.cause.Cause.TheVariants.{User, BlockRefused, SetUpTimeSpent}
use Rattle.er_base.specs.Causes.{release_of, by_this_end}
use Rattle.er_base.specs.Sides.{other}
use Rattle.er_settings.specs.Values.{Settings}
use Rattle.er_scenario.specs.declared.step.Step.{Step}
use Rattle.des_block.specs.declared.triple_key.TripleKey.{TripleKey}
use Rattle.hdlc_frames.specs.Framing.{Verdict}
use Rattle.hdlc_station_model.specs.Receiving.{is_some_octets}
use Rattle.hdlc_station_model.specs.Stations.{Station, Deed as LinkDeed, settled, made, is_down}
use Rattle.hdlc_station_model.specs.Calls.{starts, receives, hands, finishes, ticks, closes}
use Rattle.hdlc_station_model.specs.Selective.{receives_as}
use Rattle.hdlc_station_model.specs.Events.{news, quits}
use Rattle.t70_header.specs.Joining as joining
use Rattle.x224_class2.specs.Tpdus.{Dr, Dc}
use Rattle.x224_class2.specs.Transport.{ReceptionDeed, Nothing, Called, Confirmed, Message, Disconnected}
use Rattle.x224_class2.specs.Transport as transport
use Rattle.x224_class2.specs.Refusals.{protocol_error}
use Rattle.sapdu.specs.Spelling.{di_in}
use Rattle.safety_automaton.specs.Safety.{no_keys, Safety, SafetyEvent, ConnectRequest, Received, DataRequest, DisconnectRequest, SafetyOutcome, peer_flag, octets_sent_in_outcome, step}
use Rattle.safety_automaton.specs.Reports.{Report, ToldAnswered, ToldConnected, ToldAccepted, ToldReleased, ToldIgnored, report_of}
use Rattle.safety_pair_laws.specs.Openings.{OfFixed, OfKeys}
use Rattle.er_end_model.specs.Outcomes.{SendRefusal}
use Rattle.er_end_model.specs.Layers.{Core, model}
use Rattle.er_end_model.specs.Steps.{Finds, new_event_at, with_release, hand_tpdu, close_link, send_owed_answer, send_dr, answer_dr, end_after_di, on_safety_release, why_of, with_safety_step, hand_text, skip_message, Carrier, InCr, InCc, InDt, hand_answer, keep_message, on_safety_report, on_text, on_transport_deed, on_joined_block, is_ready, connect_with_text, on_link_up, on_link_told, on_link_deed, hand_next_tpdu, has_next_tpdu, hand_waiting_tpdus, most_offers, conclude_event, step_start, step_frame, refusal_of, step_send_unless, step_take, step_release, is_spent, di_of, on_expiry, step_tick, normal_disconnect}
use Rattle.er_end_model.specs.Ends.{End as Stack, Call, Answer, hears_each}
use Rattle.er_end_model.specs.Ends as stacks
use Rattle.drill_model.specs.Outcomes.{Occurrence}
use Rattle.drill_model.specs.StationEnds.{station_and_told, frames_heard, payload_refusal_of_station, handed_unless}
use Rattle.drill_model.specs.Ends.{EndAtLevel, OfSafe, OfStation, OfStack, EndEvent, station_end_step, stack_end_step, safe_end_step, end_step}
use Rattle.drill_model.specs.Ends as event
use Rattle.drill_model.specs.Waiting.{change_first}
use Rattle.drill_model.specs.Links.{Link, LinkOpening, OfPair, OfStations, OfStacks, end_of, key_on, waiting_of, with_waiting, give, link_of, joined_pair, opened_link, LinkStep, pass, link_step}
use Rattle.drill_model.specs.Links as links
use Rattle.drill_model.specs.Worlds.{DrillPlan, link_at, history_on, world_run}
use Rattle.drill_model.specs.Opened.{HasLineSettings, HasSettings, SettingsStay}
use Rattle.drill_model.specs.Growth.{HistoryGrows, HistoryOfOwn, HistoryOfOther}
use Rattle.drill_laws.proofs.Worlds.{AtPlace, world_lives}
use Rattle.drill_laws.proofs.Talking.{any_steps}
use Rattle.drill_laws.proofs.Bringing.{Kept, starts_kept, receives_kept, selective_receives_kept, hands_kept, finishes_kept, ticks_kept, closes_kept}

-- any payload
abbrev Any : List ℕ → Type 0
Any payload = Unit {0}

module _ (calling extended : Bool) (window n2 t1 : ℕ) where
  abbrev Stays : Station → Type 0
  Stays s = Kept calling extended window n2 t1 Any Any s

  starts_stay : (now : ℕ) (s : Station) → Stays s → Stays (starts now s)
  starts_stay now s h = starts_kept calling extended window n2 t1 Any Any now s h

  receives_stay : (now : ℕ) (v : Verdict) (s : Station) → Stays s → Stays (receives now v s)
  receives_stay now v s h = receives_kept calling extended window n2 t1 Any Any now v s (λ payload info. tt) h

  receives_as_stay : (selective : Bool) (now : ℕ) (v : Verdict) (s : Station) → Stays s → Stays (receives_as selective now v s)
  receives_as_stay true now v s h = selective_receives_kept calling extended window n2 t1 Any Any (λ payload held. tt) now v s (λ payload info. tt) h
  receives_as_stay false now v s h = receives_stay now v s h

  hands_stay : (now : ℕ) (payload : List ℕ) (s : Station) → Stays s → Stays (hands now payload s)
  hands_stay now payload s h = hands_kept calling extended window n2 t1 Any Any now payload s h

  finishes_stay : (s : Station) → Stays s → Stays (finishes s)
  finishes_stay s h = finishes_kept calling extended window n2 t1 Any Any s h

  ticks_stay : (now : ℕ) (s : Station) → Stays s → Stays (ticks now s)
  ticks_stay now s h = ticks_kept calling extended window n2 t1 Any Any now s h

  closes_stay : (s : Station) → Stays s → Stays (closes s)
  closes_stay s h = closes_kept calling extended window n2 t1 Any Any s h

  -- behind a call, and with the answer that is owed
  settled_stay : (s : Station) → Stays s → Stays (settled s)
  settled_stay s h = (h.0, h.1, h.2, h.3, h.4, h.5, tt)

  told_stay : (s : Station) → Stays s → Stays (station_and_told (finishes s)).0
  told_stay s h = settled_stay (finishes s) (finishes_stay s h)

  -- ---- an event at a station

  frames_stay : (selective : Bool) (moment : ℕ) (vs : List Verdict) (s : Station) → Stays s → Stays (frames_heard selective moment vs s).0
  frames_stay selective moment [] s h = h
  frames_stay selective moment (v ∷ vs) s h =
      let u : Station = receives_as selective moment v s in
      frames_stay selective moment vs (settled (finishes u)) (told_stay u (receives_as_stay selective moment v s h))

  handed_stay : (q : Option SendRefusal) (moment : ℕ) (payload : List ℕ) (s : Station) → Stays s → Stays (handed_unless q moment payload s).0
  handed_stay (Some refusal) moment payload s h = h
  handed_stay None moment payload s h = told_stay (hands moment payload s) (hands_stay moment payload s h)

  quits_stay : (sub : ℕ) (b : Bool) (s : Station) → Stays s → Stays (if b then (s, []) else station_and_told (quits sub s)).0
  quits_stay sub true s h = h
  quits_stay sub false s h = let k = closes_stay s h in (k.0, k.1, k.2, k.3, k.4, k.5, tt)

  -- ---- an event at a stack

  module _ (limit : ℕ) where
    abbrev CoreStays : Core → Type 0
    CoreStays x = Stays x.line × (x.limit ≡ limit)

    if_core : (P : Core → Type 0) (b : Bool) (x y : Core) → P x → P y → P (if b then x else y)
    if_core P true x y hx hy = hx
    if_core P false x y hx hy = hy

    departs_stay : (why : Release) (reason : ℕ) (user : List ℕ) (x : Core) → CoreStays x → CoreStays (send_dr model why reason user x)
    departs_stay why reason user x h =
        let y : Core = hand_tpdu model (Dr reason user) x in
        if_core (λ y. CoreStays (with_release why (close_link model y))) (model.may_send x.line) y x (closes_stay y.line (hands_stay x.moment _ x.line h.0), h.1)
        (closes_stay x.line h.0, h.1)

    cut_off_stays : (why : Release) (x : Core) → CoreStays x → CoreStays (answer_dr model why x)
    cut_off_stays why x h =
        let y : Core = hand_tpdu model Dc x in
        if_core (λ y. CoreStays (with_release why (send_owed_answer model y))) (model.may_send x.line) y x (finishes_stay y.line (hands_stay x.moment _ x.line h.0), h.1)
        (finishes_stay x.line h.0, h.1)

    parts_stay : (why : Release) (di : List ℕ) (x : Core) → CoreStays x → CoreStays (on_safety_release model why di x)
    parts_stay why di x h =
        if_core CoreStays why.by_peer (end_after_di model why x) (send_dr model why normal_disconnect di x) (closes_stay x.line h.0, h.1) (departs_stay why normal_disconnect di x h)

    says_stay : (text : List ℕ) (x : Core) → CoreStays x → CoreStays (hand_text model text x)
    says_stay text x h = if_core CoreStays (is_some_octets text && model.may_hand x.upper) (record x { upper = model.hands_message x.upper text }) x h h

    answers_stay : (carrier : Carrier) (text : List ℕ) (x : Core) → CoreStays x → CoreStays (hand_answer model carrier text x)
    answers_stay InCr text x h = if_core CoreStays (is_some_octets text) (record x { upper = model.accepts x.upper text }) x h h
    answers_stay InCc text x h = says_stay text x h
    answers_stay InDt text x h = says_stay text (skip_message model x) h

    keeps_stay : (carrier : Carrier) (user : List ℕ) (x : Core) → CoreStays x → CoreStays (keep_message model carrier user x)
    keeps_stay InCr user x h = h
    keeps_stay InCc user x h = h
    keeps_stay InDt user x h = h

    acts_stay : (carrier : Carrier) (report : Report) (octets : List ℕ) (x : Core) → CoreStays x → CoreStays (on_safety_report model carrier report octets x)
    acts_stay carrier ToldAnswered octets x h = answers_stay carrier octets x h
    acts_stay carrier (ToldConnected peer) octets x h = answers_stay carrier octets x h
    acts_stay carrier (ToldAccepted user) octets x h = keeps_stay carrier user x h
    acts_stay carrier (ToldReleased why) octets x h = parts_stay why octets x h
    acts_stay carrier ToldIgnored octets x h = h

    offers_stay : (n : ℕ) (x : Core) → CoreStays x → CoreStays (hand_waiting_tpdus model n x)
    unfolding hand_waiting_tpdus
    offers_stay zero x h = h
    offers_stay (suc n) x h =
        if_core CoreStays (has_next_tpdu model x) (hand_waiting_tpdus model n (hand_next_tpdu model x)) x
        (offers_stay n (hand_next_tpdu model x) (hands_stay x.moment _ x.line h.0, h.1)) h

    concludes_stay : (x : Core) → CoreStays x → CoreStays (conclude_event model x)
    concludes_stay x h =
        let y : Core = hand_waiting_tpdus model most_offers x in
        let k : CoreStays y = offers_stay most_offers x h in
        if_core CoreStays (is_some x.released) x (send_owed_answer model y) h (finishes_stay y.line k.0, k.1)

    text_stays : (finds : Finds) (carrier : Carrier) (text : List ℕ) (x : Core) → CoreStays x → CoreStays (on_text model finds carrier text x)
    text_stays finds carrier text x h =
        let a : Safety × SafetyOutcome = step (finds x.moment) x.safe.safety (Received text) in
        acts_stay carrier (report_of a.1) (octets_sent_in_outcome a.1) (with_safety_step model (Received text) a x) h

    does_stay : (finds : Finds) (deed : ReceptionDeed) (x : Core) → CoreStays x → CoreStays (on_transport_deed model finds deed x)
    does_stay finds Nothing x h = h
    does_stay finds (Called user) x h = text_stays finds InCr user x h
    does_stay finds (Confirmed user) x h = text_stays finds InCc user x h
    does_stay finds (Message message) x h = text_stays finds InDt message x h
    does_stay finds (Disconnected user) x h = cut_off_stays (why_of (di_in user (peer_flag x.safe.safety))) x h
    does_stay finds (transport.Refused sub reason) x h = departs_stay (by_this_end 2 sub) reason [] x h

    block_stays : (finds : Finds) (answer : joining.BlockJoiningResult) (x : Core) → CoreStays x → CoreStays (on_joined_block model finds answer x)
    block_stays finds (Ok None) x h = h
    block_stays finds (Ok (Some tpdu)) x h = does_stay finds (model.deed x.upper tpdu) (record x { upper = model.hears x.upper tpdu }) h
    block_stays finds (Err fault) x h = departs_stay (release_of BlockRefused) protocol_error [] x h

    comes_up_stays : (x : Core) → CoreStays x → CoreStays (on_link_up model x)
    comes_up_stays x h =
        let a : Safety × SafetyOutcome = step no_keys x.safe.safety ConnectRequest in
        let y : Core = with_safety_step model ConnectRequest a x in
        if_core CoreStays (model.may_connect x.upper && is_ready x.safe.safety.phase) (connect_with_text model (octets_sent_in_outcome a.1) y) x
        (if_core CoreStays (is_some_octets (octets_sent_in_outcome a.1)) (record y { upper = model.connects y.upper (octets_sent_in_outcome a.1) }) y h h) h

    link_stays : (finds : Finds) (payload : Option (List ℕ)) (up : Bool) (why : Option Release) (x : Core) → CoreStays x → CoreStays (on_link_told model finds payload up why x)
    link_stays finds (Some payload) up why x h = block_stays finds (joining.block_step x.joined payload).1 (record x { joined = (joining.block_step x.joined payload).0 }) h
    link_stays finds None true why x h = comes_up_stays x h
    link_stays finds None false (Some why) x h = h
    link_stays finds None false None x h = h

    time_stays : (why : Option Release) (x : Core) → CoreStays x → CoreStays (on_expiry model why x)
    time_stays (Some why) x h = h
    time_stays None x h =
        let why : Release = release_of SetUpTimeSpent in
        if_core CoreStays (is_spent x) (send_dr model why normal_disconnect (di_of why x.safe.safety) x) x (departs_stay why normal_disconnect (di_of why x.safe.safety) x h) h

    begun_stays : (now : ℕ) (x : Core) → CoreStays x → CoreStays (new_event_at model now x)
    begun_stays now x h = (settled_stay x.line h.0, h.1)

    start_stays : (now : ℕ) (x : Core) → CoreStays x → CoreStays (step_start model now x)
    start_stays now x h =
        let y : Core = new_event_at model now x in
        let k : CoreStays y = begun_stays now x h in
        let z : Core = record y { line = model.starts y.moment y.line } in
        if_core CoreStays (is_some y.released) y (conclude_event model z) k (concludes_stay z (starts_stay y.moment y.line k.0, k.1))

    frame_stays : (finds : Finds) (now : ℕ) (v : Verdict) (x : Core) → CoreStays x → CoreStays (step_frame model finds now v x)
    frame_stays finds now v x h =
        let y : Core = new_event_at model now x in
        let k : CoreStays y = begun_stays now x h in
        let z : Core = record y { line = model.receives y.moment v y.line } in
        let deed : LinkDeed = model.told y.moment v y.line in
        if_core CoreStays (is_some y.released) y (conclude_event model (on_link_deed model finds deed z)) k
        (concludes_stay (on_link_deed model finds deed z) (link_stays finds deed.payload deed.up deed.released z (receives_stay y.moment v y.line k.0, k.1)))

    each_stays : (finds : Finds) (now : ℕ) (vs : List Verdict) (x : Core) → CoreStays x → CoreStays (hears_each finds now vs x)
    each_stays finds now [] x h = h
    each_stays finds now (v ∷ vs) x h = each_stays finds now vs (step_frame model finds now v x) (frame_stays finds now v x h)

    send_stays : (q : Option SendRefusal) (now : ℕ) (user : List ℕ) (x : Core) → CoreStays x → CoreStays (step_send_unless model q now user x)
    send_stays (Some refusal) now user x h = h
    send_stays None now user x h =
        let y : Core = new_event_at model now x in
        let a : Safety × SafetyOutcome = step no_keys y.safe.safety (DataRequest user) in
        let z : Core = record (with_safety_step model (DataRequest user) a y) { upper = model.sends (with_safety_step model (DataRequest user) a y).upper user } in
        concludes_stay (hand_text model (octets_sent_in_outcome a.1) z) (says_stay (octets_sent_in_outcome a.1) z (begun_stays now x h))

    take_stays : (now : ℕ) (x : Core) → CoreStays x → CoreStays (step_take model now x)
    take_stays now x h =
        let y : Core = new_event_at model now x in
        let z : Core = record y { upper = model.uses y.upper } in
        if_core CoreStays (model.untaken y.upper == 0) y (conclude_event model z) (begun_stays now x h) (concludes_stay z (begun_stays now x h))

    leave_stays : (now sub : ℕ) (x : Core) → CoreStays x → CoreStays (step_release model now sub x)
    leave_stays now sub x h =
        let y : Core = new_event_at model now x in
        let a : Safety × SafetyOutcome = step no_keys y.safe.safety (DisconnectRequest sub) in
        let z : Core = with_safety_step model (DisconnectRequest sub) a y in
        if_core CoreStays (is_some y.released) y (send_dr model (release_of (User sub)) normal_disconnect (octets_sent_in_outcome a.1) z) (begun_stays now x h)
        (departs_stay (release_of (User sub)) normal_disconnect (octets_sent_in_outcome a.1) z (begun_stays now x h))

    tick_stays : (now : ℕ) (x : Core) → CoreStays x → CoreStays (step_tick model now x)
    tick_stays now x h =
        let y : Core = new_event_at model now x in
        let k : CoreStays y = begun_stays now x h in
        let z : Core = record y { line = model.ticks y.moment y.line } in
        let why : Option Release = model.given_up y.moment y.line in
        if_core CoreStays (is_some y.released) y (conclude_event model (on_expiry model why z)) k
        (concludes_stay (on_expiry model why z) (time_stays why z (ticks_stay y.moment y.line k.0, k.1)))

-- ---- any end

module _ (settings : Settings) (opened_at : ℕ) where
  -- the end of the side that calls, or of the other
  abbrev EndStays : Bool → EndAtLevel → Type 0
  EndStays calling (OfSafe s) = Unit {0}
  EndStays calling (OfStation selective s stream) = Stays calling (settings.modulo == 128) settings.window settings.n2 settings.t1 s
  EndStays calling (OfStack m) = CoreStays calling (settings.modulo == 128) settings.window settings.n2 settings.t1 (opened_at + settings.setup) m.core

  safe_stays : (calling : Bool) (key_of : ℕ → ℕ → Option TripleKey) (s : Safety) (given : Option SafetyEvent) → EndStays calling (safe_end_step key_of s given).0
  safe_stays calling key_of s None = tt
  safe_stays calling key_of s (Some given) = tt

  module _ (calling : Bool) (key_of : ℕ → ℕ → Option TripleKey) (moment : ℕ) where
    abbrev X : Bool
    X = settings.modulo == 128

    station_stays : (selective : Bool) (s : Station) (stream : List ℕ) (given : EndEvent) → EndStays calling (OfStation selective s stream)
        → EndStays calling (station_end_step selective moment s stream given).0
    station_stays selective s stream event.Start h =
        told_stay calling X settings.window settings.n2 settings.t1 (starts moment s) (starts_stay calling X settings.window settings.n2 settings.t1 moment s h)
    station_stays selective s stream (event.Receive octets) h = frames_stay calling X settings.window settings.n2 settings.t1 selective moment (news stream octets) s h
    station_stays selective s stream (event.Send payload) h =
        handed_stay calling X settings.window settings.n2 settings.t1 (payload_refusal_of_station s payload s.released) moment payload s h
    station_stays selective s stream event.Take h = h
    station_stays selective s stream (event.Release sub) h = quits_stay calling X settings.window settings.n2 settings.t1 sub (is_down s.phase) s h
    station_stays selective s stream event.Tick h =
        told_stay calling X settings.window settings.n2 settings.t1 (ticks moment s) (ticks_stay calling X settings.window settings.n2 settings.t1 moment s h)

    stack_stays : (m : Stack) (given : EndEvent) → EndStays calling (OfStack m) → EndStays calling (stack_end_step key_of moment m given).0
    stack_stays m event.Start h = start_stays calling X settings.window settings.n2 settings.t1 (opened_at + settings.setup) moment m.core h
    stack_stays m (event.Receive octets) h =
        each_stays calling X settings.window settings.n2 settings.t1 (opened_at + settings.setup) (λ now. key_of) moment (news m.stream octets) (new_event_at model moment m.core)
        (begun_stays calling X settings.window settings.n2 settings.t1 (opened_at + settings.setup) moment m.core h)
    stack_stays m (event.Send user) h =
        send_stays calling X settings.window settings.n2 settings.t1 (opened_at + settings.setup) (refusal_of model user m.core) moment user m.core h
    stack_stays m event.Take h = take_stays calling X settings.window settings.n2 settings.t1 (opened_at + settings.setup) moment m.core h
    stack_stays m (event.Release sub) h = leave_stays calling X settings.window settings.n2 settings.t1 (opened_at + settings.setup) moment sub m.core h
    stack_stays m event.Tick h = tick_stays calling X settings.window settings.n2 settings.t1 (opened_at + settings.setup) moment m.core h

    end_stays : (end : EndAtLevel) (given : EndEvent) → EndStays calling end → EndStays calling (end_step key_of moment end given).0
    end_stays (OfSafe s) given h = safe_stays calling key_of s (event.safety_event given)
    end_stays (OfStation selective s stream) given h = station_stays selective s stream given h
    end_stays (OfStack m) given h = stack_stays m given h

-- ---- a link

module _ (settings : Settings) where
  abbrev LinkStays : Link → List Occurrence → Type 0
  LinkStays l history = EndStays settings l.opened_at true l.e × EndStays settings l.opened_at false l.r

  given : (l : Link) (side : Side) (e : EndEvent) (history more : List Occurrence) → LinkStays l history → LinkStays (give l side e).0 more
  given l E e history more h = (end_stays settings l.opened_at true (key_on l.opening) l.moment l.e e h.0, h.1)
  given l R e history more h = (h.0, end_stays settings l.opened_at false (key_on l.opening) l.moment l.r e h.1)

  waiting_stays : (l : Link) (side : Side) (frames : List (List ℕ)) (history more : List Occurrence) → LinkStays l history → LinkStays (with_waiting l side frames) more
  waiting_stays l E frames history more h = h
  waiting_stays l R frames history more h = h

  passes : (l : Link) (side : Side) (frames : List (List ℕ)) (history more : List Occurrence) → LinkStays l history → LinkStays (pass l side frames).0 more
  passes l side [] history more h = h
  passes l side (frame ∷ frames) history more h =
      given (with_waiting l side frames) (other side) (event.Receive frame) history more (waiting_stays l side frames history history h)

  stepped : (l : Link) (history more : List Occurrence) (s : LinkStep) → LinkStays l history → LinkStays (link_step l s).0 more
  stepped l history more (links.Send side octets) h = given l side (event.Send octets) history more h
  stepped l history more (links.Pass side) h = passes l side (waiting_of l side) history more h
  stepped l history more (links.Change side change) h = waiting_stays l side (change_first change (waiting_of l side)).0 history more h
  stepped l history more (links.Take side) h = given l side event.Take history more h
  stepped l history more (links.Release side sub) h = given l side (event.Release sub) history more h
  stepped l history more (links.Tick moment) h =
      let m : Link = record l { moment = max l.moment moment } in
      given (give m E event.Tick).0 R event.Tick history more (given m E event.Tick history history h)

  opened : (moment : ℕ) (opening : LinkOpening) (more : List Occurrence) → LinkStays (opened_link settings moment opening).0 more
  opened moment (OfPair (OfFixed engine rbc ke kr)) more = (tt, tt)
  opened moment (OfPair (OfKeys engine rbc ke kr ra rb)) more =
      given (joined_pair (OfKeys engine rbc ke kr ra rb) moment) E event.Start [] more (tt, tt)
  opened moment (OfStations selective) more =
      let l : Link =
      link_of (OfStations selective) moment (OfStation selective (made true (settings.modulo == 128) settings.window settings.n2 settings.t1) [])
      (OfStation selective (made false (settings.modulo == 128) settings.window settings.n2 settings.t1) []) in
      given l E event.Start [] more ((refl, refl, refl, refl, refl, tt, tt), (refl, refl, refl, refl, refl, tt, tt))
  opened moment (OfStacks engine rbc ke kr ra rb) more =
      let l : Link =
      link_of (OfStacks engine rbc ke kr ra rb) moment (OfStack (stacks.opened (Call settings engine rbc ke rb moment))) (OfStack (stacks.opened (Answer settings rbc ra moment))) in
      given l E event.Start [] more (((refl, refl, refl, refl, refl, tt, tt), refl), ((refl, refl, refl, refl, refl, tt, tt), refl))

  kept_settings : (calling : Bool) (s : Station) → Stays calling (settings.modulo == 128) settings.window settings.n2 settings.t1 s → HasLineSettings settings s
  kept_settings calling s h = (h.1, h.2, h.3, h.4)

  has_settings : (opened_at : ℕ) (calling : Bool) (end : EndAtLevel) → EndStays settings opened_at calling end → HasSettings settings opened_at end
  has_settings opened_at calling (OfSafe s) h = tt
  has_settings opened_at calling (OfStation selective s stream) h = kept_settings calling s h
  has_settings opened_at calling (OfStack m) h = (kept_settings calling m.core.line h.0, h.1)

pub settings_stay : HistoryGrows → HistoryOfOwn → HistoryOfOther → (plan : DrillPlan) (steps : List Step) → SettingsStay plan steps
settings_stay grow own away plan steps n l side at =
    by_side side (subst (λ (p : Option Link). AtPlace (LinkStays plan.settings) p (history_on n (world_run plan steps).1)) at all)
  where
    all : AtPlace (LinkStays plan.settings) (link_at (world_run plan steps).0 n) (history_on n (world_run plan steps).1)
    all =
        world_lives grow own away plan (λ x. Unit {0}) (λ x. Unit {0}) (LinkStays plan.settings)
        (record {
          opens = λ moment opening fit. opened plan.settings moment opening (opened_link plan.settings moment opening).1;
          steps = λ k history s fit h. stepped plan.settings k history (history ++ (link_step k s).1) s h;
          others = λ s none. tt;
        }) steps (any_steps plan steps) n

    by_side : (side : Side) → LinkStays plan.settings l (history_on n (world_run plan steps).1) → HasSettings plan.settings l.opened_at (end_of l side)
    by_side E h = has_settings plan.settings l.opened_at true l.e h.0
    by_side R h = has_settings plan.settings l.opened_at false l.r h.1
