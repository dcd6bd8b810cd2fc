-- What holds of the station of an end, and is kept by each call of it, is kept by each event of the end.
use Rattle.std.proofs.Common.{ℕ, zero, suc, ◌-◌, Bool, true, false, ◌&&◌, List, [], length, Option, Some, None, Ok, Err}
use Rattle.std.specs.Prelude.{◌==◌, is_some, if◌then◌else◌}
use Rattle.er_base.specs.declared.release.Release.{Release}
use Rattle.er_base.specs.declared.cause.Cause.{Cause}
use Rattle.er_base.specs.declared.cause.Cause.TheVariants.{User, BlockRefused, SetUpTimeSpent}
use Rattle.er_base.specs.Causes.{release_of, by_this_end}
use Rattle.hdlc_frames.specs.Framing.{Verdict}
use Rattle.hdlc_station_model.specs.Stations.{Station, settled}
use Rattle.hdlc_station_model.specs.Receiving.{is_some_octets}
use Rattle.hdlc_station_model.specs.Calls as station
use Rattle.t70_header.specs.Blocks.{last_block}
use Rattle.t70_header.specs.Joining as joining
use Rattle.x224_class2.specs.Tpdus.{GivenTpdu, Dr, Dc, octets_given}
use Rattle.x224_class2.specs.Refusals.{protocol_error}
use Rattle.x224_class2.specs.Transport.{ReceptionDeed, Nothing, Called, Confirmed, Message, Disconnected}
use Rattle.x224_class2.specs.Transport as transport
use Rattle.sapdu.specs.Spelling.{di_in}
use Rattle.safety_automaton.specs.Safety.{no_keys, Safety, ConnectRequest, Received, DataRequest, DisconnectRequest, SafetyOutcome, octets_sent_in_outcome, peer_flag, step}
use Rattle.safety_automaton.specs.Reports.{Report, ToldAnswered, ToldConnected, ToldAccepted, ToldReleased, ToldIgnored, report_of}
use Rattle.er_end_model.specs.Steps.{Finds, new_event, new_event_at, with_release, hand_tpdu, hand_tpdu_if_may, send_owed_answer, send_dr, answer_dr, end_after_di, on_safety_release, why_of, normal_disconnect, with_safety_step, hand_text, skip_message, Carrier, InCr, InCc, InDt, hand_answer, keep_message, on_safety_report, on_text, on_transport_deed, on_joined_block, is_ready, connect_with_text, on_link_up, on_link_told, hand_next_tpdu, has_next_tpdu, hand_waiting_tpdus, most_offers, conclude_event, step_start, step_frame, on_send, step_take, step_release, is_spent, di_of, on_expiry, step_tick, step_break}
use Rattle.er_end_model.specs.Layers.{Core, model}

-- calls that may come behind others in one event
pub record Keeps (G : Station → Type 0) : Type 0 where
  pub hands : (now : ℕ) (payload : List ℕ) (s : Station) → G s → G (station.hands now payload s)
  pub finishes : (s : Station) → G s → G (station.finishes s)
  pub closes : (s : Station) → G s → G (station.closes s)

-- and those with which one begins
pub record Begins (G : Station → Type 0) (s : Station) : Type 0 where
  pub itself : G s
  pub starts : (now : ℕ) → G (station.starts now s)
  pub receives : (now : ℕ) (verdict : Verdict) → G (station.receives now verdict s)
  pub ticks : (now : ℕ) → G (station.ticks now s)

module _ (G : Station → Type 0) (keeps : Keeps G) where
  abbrev Walks : Core → Type 0
  Walks x = G x.line

  walks_if : (b : Bool) (x y : Core) → Walks x → Walks y → Walks (if b then x else y)
  walks_if true x y h g = h
  walks_if false x y h g = g

  tpdu_walks : (tpdu : GivenTpdu) (x : Core) → Walks x → Walks (hand_tpdu_if_may model tpdu x)
  tpdu_walks tpdu x h = walks_if (model.may_send x.line) (hand_tpdu model tpdu x) x (keeps.hands x.moment (last_block (octets_given tpdu)) x.line h) h

  departs_walks : (why : Release) (reason : ℕ) (user : List ℕ) (x : Core) → Walks x → Walks (send_dr model why reason user x)
  departs_walks why reason user x h = keeps.closes (hand_tpdu_if_may model (Dr reason user) x).line (tpdu_walks (Dr reason user) x h)

  answers_walks : (why : Release) (x : Core) → Walks x → Walks (answer_dr model why x)
  answers_walks why x h = keeps.finishes (hand_tpdu_if_may model Dc x).line (tpdu_walks Dc x h)

  parts_walks : (why : Release) (di : List ℕ) (x : Core) → Walks x → Walks (on_safety_release model why di x)
  parts_walks why di x h =
      walks_if why.by_peer (end_after_di model why x) (send_dr model why normal_disconnect di x) (keeps.closes x.line h) (departs_walks why normal_disconnect di x h)

  says_walks : (text : List ℕ) (x : Core) → Walks x → Walks (hand_text model text x)
  says_walks text x h = walks_if (is_some_octets text && model.may_hand x.upper) (record x { upper = model.hands_message x.upper text }) x h h

  pub answer_walks : (by : Carrier) (text : List ℕ) (x : Core) → Walks x → Walks (hand_answer model by text x)
  answer_walks InCr text x h = walks_if (is_some_octets text) (record x { upper = model.accepts x.upper text }) x h h
  answer_walks InCc text x h = says_walks text x h
  answer_walks InDt text x h = says_walks text (skip_message model x) h

  keeps_walks : (by : Carrier) (user : List ℕ) (x : Core) → Walks x → Walks (keep_message model by user x)
  keeps_walks InCr user x h = h
  keeps_walks InCc user x h = h
  keeps_walks InDt user x h = h

  pub report_walks : (by : Carrier) (report : Report) (octets : List ℕ) (x : Core) → Walks x → Walks (on_safety_report model by report octets x)
  report_walks by ToldAnswered octets x h = answer_walks by octets x h
  report_walks by (ToldConnected peer) octets x h = answer_walks by octets x h
  report_walks by (ToldAccepted user) octets x h = keeps_walks by user x h
  report_walks by (ToldReleased why) octets x h = parts_walks why octets x h
  report_walks by ToldIgnored octets x h = h

  pub text_walks : (finds : Finds) (by : Carrier) (text : List ℕ) (x : Core) → Walks x → Walks (on_text model finds by text x)
  text_walks finds by text x h =
      let a : Safety × SafetyOutcome = step (finds x.moment) x.safe.safety (Received text) in
      report_walks by (report_of a.1) (octets_sent_in_outcome a.1) (with_safety_step model (Received text) a x) h

  pub deed_walks : (finds : Finds) (d : ReceptionDeed) (x : Core) → Walks x → Walks (on_transport_deed model finds d x)
  deed_walks finds Nothing x h = h
  deed_walks finds (Called user) x h = text_walks finds InCr user x h
  deed_walks finds (Confirmed user) x h = text_walks finds InCc user x h
  deed_walks finds (Message message) x h = text_walks finds InDt message x h
  deed_walks finds (Disconnected user) x h = answers_walks (why_of (di_in user (peer_flag x.safe.safety))) x h
  deed_walks finds (transport.Refused sub reason) x h = departs_walks (by_this_end 2 sub) reason [] x h

  pub joined_walks : (finds : Finds) (answer : joining.BlockJoiningResult) (x : Core) → Walks x → Walks (on_joined_block model finds answer x)
  joined_walks finds (Ok None) x h = h
  joined_walks finds (Ok (Some tpdu)) x h = deed_walks finds (model.deed x.upper tpdu) (record x { upper = model.hears x.upper tpdu }) h
  joined_walks finds (Err fault) x h = departs_walks (release_of BlockRefused) protocol_error [] x h

  up_walks : (x : Core) → Walks x → Walks (on_link_up model x)
  up_walks x h =
      let a : Safety × SafetyOutcome = step no_keys x.safe.safety ConnectRequest in
      let z : Core = with_safety_step model ConnectRequest a x in
      walks_if (model.may_connect x.upper && is_ready x.safe.safety.phase) (connect_with_text model (octets_sent_in_outcome a.1) z) x
      (walks_if (is_some_octets (octets_sent_in_outcome a.1)) (record z { upper = model.connects z.upper (octets_sent_in_outcome a.1) }) z h h) h

  pub link_walks : (finds : Finds) (payload : Option (List ℕ)) (up : Bool) (released : Option Release) (x : Core) → Walks x → Walks (on_link_told model finds payload up released x)
  link_walks finds (Some payload) up released x h =
      let joined = joining.block_step x.joined payload in joined_walks finds joined.1 (record x { joined = joined.0 }) h
  link_walks finds None true released x h = up_walks x h
  link_walks finds None false (Some why) x h = h
  link_walks finds None false None x h = h

  pub offers_walk : (n : ℕ) (x : Core) → Walks x → Walks (hand_waiting_tpdus model n x)
  unfolding hand_waiting_tpdus
  offers_walk zero x h = h
  offers_walk (suc n) x h =
      walks_if (has_next_tpdu model x) (hand_waiting_tpdus model n (hand_next_tpdu model x)) x
      (offers_walk n (hand_next_tpdu model x) (keeps.hands x.moment (last_block (model.next x.upper)) x.line h)) h

  pub concludes_walk : (x : Core) → Walks x → Walks (conclude_event model x)
  concludes_walk x h =
      walks_if (is_some x.released) x (send_owed_answer model (hand_waiting_tpdus model most_offers x)) h
      (keeps.finishes (hand_waiting_tpdus model most_offers x).line (offers_walk most_offers x h))

  -- ---- the events, of an end that rests

  module _ (now : ℕ) (x : Core) (begins : Begins G (settled x.line)) where
    abbrev b : Core
    b = new_event_at model now x

    at_rest : Walks b
    at_rest = begins.itself

    pub start_walks : Walks (step_start model now x)
    start_walks =
        let z : Core = record b { line = station.starts b.moment b.line } in
        walks_if (is_some x.released) b (conclude_event model z) at_rest (concludes_walk z (begins.starts b.moment))

    pub frame_walks : (finds : Finds) (v : Verdict) → Walks (step_frame model finds now v x)
    frame_walks finds v =
        let z : Core = record b { line = station.receives b.moment v b.line } in
        let d = model.told b.moment v b.line in
        let y : Core = on_link_told model finds d.payload d.up d.released z in
        walks_if (is_some x.released) b (conclude_event model y) at_rest
        (concludes_walk y (link_walks finds d.payload d.up d.released z (begins.receives b.moment v)))

    pub send_walks : (user : List ℕ) → Walks (on_send model user b)
    send_walks user =
        let a : Safety × SafetyOutcome = step no_keys x.safe.safety (DataRequest user) in
        let y : Core = with_safety_step model (DataRequest user) a b in
        let z : Core = record y { upper = model.sends y.upper user } in
        concludes_walk (hand_text model (octets_sent_in_outcome a.1) z) (says_walks (octets_sent_in_outcome a.1) z at_rest)

    pub take_walks : Walks (step_take model now x)
    take_walks =
        let z : Core = record b { upper = model.uses b.upper } in
        walks_if (length x.upper.accepted - x.upper.used == 0) b (conclude_event model z) at_rest (concludes_walk z at_rest)

    pub leave_walks : (sub : ℕ) → Walks (step_release model now sub x)
    leave_walks sub =
        let a : Safety × SafetyOutcome = step no_keys x.safe.safety (DisconnectRequest sub) in
        let z : Core = with_safety_step model (DisconnectRequest sub) a b in
        walks_if (is_some x.released) b (send_dr model (release_of (User sub)) normal_disconnect (octets_sent_in_outcome a.1) z) at_rest
        (departs_walks (release_of (User sub)) normal_disconnect (octets_sent_in_outcome a.1) z at_rest)

    time_walks : (why : Option Release) (z : Core) → Walks z → Walks (on_expiry model why z)
    time_walks (Some why) z h = h
    time_walks None z h =
        let why : Release = release_of SetUpTimeSpent in
        walks_if (is_spent z) (send_dr model why normal_disconnect (di_of why z.safe.safety) z) z (departs_walks why normal_disconnect (di_of why z.safe.safety) z h) h

    pub tick_walks : Walks (step_tick model now x)
    tick_walks =
        let z : Core = record b { line = station.ticks b.moment b.line } in
        let y : Core = on_expiry model (model.given_up b.moment b.line) z in
        walks_if (is_some x.released) b (conclude_event model y) at_rest
        (concludes_walk y (time_walks (model.given_up b.moment b.line) z (begins.ticks b.moment)))

    pub break_walks : (cause : Cause) → Walks (step_break model cause x)
    break_walks cause = walks_if (is_some x.released) (new_event model x) (with_release (release_of cause) (new_event model x)) at_rest at_rest
