-- A station never sees a moment that its end hasn't seen, so the end finds a timer expired exactly at its deadline.
use Rattle.std.proofs.Common.{◌≡◌, ◌≤◌, ◌⊎◌, inl, inr, ◌∙◌, ◌+◌, ◌-◌, ◌%◌, ℕ, zero, suc, max, min, Bool, true, false, ◌&&◌, not, List, [], ◌∷◌, ◌++◌, length, Option, Some, None, Ok, Err, refl, sym, ap, subst, arith}
use Rattle.std.specs.Prelude.{◌==◌, ◌||◌, nat_lt, nat_le, is_some, if◌then◌else◌}
use Rattle.std.proofs.lemmas.Bool.{cond_both, leb-true, leb-false, le-leb}
use Rattle.er_base.specs.declared.release.Release.{Release}
use Rattle.er_base.specs.declared.cause.Cause.{Cause}
use Rattle.er_base.specs.declared.cause.Cause.TheVariants.{User, SetUpUnanswered, NoProgress, LineEnded, LineFailed, LineStalled, BlockRefused, SetUpTimeSpent}
use Rattle.er_base.specs.Causes.{release_of, by_this_end}
use Rattle.hdlc_frames.specs.declared.controls.Control.{Control}
use Rattle.hdlc_frames.specs.declared.controls.Control.TheVariants as control
use Rattle.hdlc_frames.specs.ControlOctets.{control_of}
use Rattle.hdlc_frames.specs.Framing.{Verdict, Frame, BadFcs, TooShort, TooLong, Aborted}
use Rattle.hdlc_station_model.specs.declared.phase.Phase.{Phase}
use Rattle.hdlc_station_model.specs.declared.phase.Phase.TheVariants.{Idle, Setting, Up, Down}
use Rattle.hdlc_station_model.specs.Frames.{Rr, Rej, SetUp, modulo}
use Rattle.hdlc_station_model.specs.Stations.{Station, is_down, sees, puts}
use Rattle.hdlc_station_model.specs.Sending.{can_send, waiting, sends_next, sends_up_to, sends_waiting, sends_again, starts_timer, settles, gives_up, counts_expiry, expires_at, expires, expires_if_due, is_due, refuses_frame}
use Rattle.hdlc_station_model.specs.Receiving.{strays, is_known_address, is_addressed, is_error, errs, number_shown_as, acknowledges, acknowledging, accepts, rejects, takes, marks_busy, repeats_rejected, agrees, sets_up_again, row_of_phase, hears, hears_control, is_some_octets}
use Rattle.hdlc_station_model.specs.Calls.{starts_at, closes_at}
use Rattle.hdlc_station_model.specs.Calls as station
use Rattle.hdlc_station_model.specs.Events.{news}
use Rattle.t70_header.specs.Blocks.{last_block}
use Rattle.t70_header.specs.Joining as joining
use Rattle.x224_class2.specs.Tpdus.{GivenTpdu, Dr, Dc, octets_given}
use Rattle.x224_class2.specs.Refusals.{protocol_error}
use Rattle.x224_class2.specs.Transport.{ReceptionDeed, Nothing, Called, Confirmed, Message, Disconnected, reception}
use Rattle.x224_class2.specs.Transport as transport
use Rattle.sapdu.specs.Spelling.{di_in}
use Rattle.safety_automaton.specs.Safety.{no_keys, Safety, ConnectRequest, Received, DataRequest, DisconnectRequest, SafetyOutcome, octets_sent_in_outcome, peer_flag}
use Rattle.safety_automaton.specs.Reports.{Report, ToldAnswered, ToldConnected, ToldAccepted, ToldReleased, ToldIgnored, report_of}
use Rattle.safety_automaton.specs.Safety as safety
use Rattle.er_end_model.specs.Outcomes.{SendRefusal}
use Rattle.er_end_model.specs.Steps.{Finds, new_event, new_event_at, with_release, hand_tpdu, hand_tpdu_if_may, send_dr, answer_dr, end_after_di, on_safety_release, why_of, with_safety_step, hand_text, skip_message, Carrier, InCr, InCc, InDt, hand_answer, keep_message, on_safety_report, on_text, on_transport_deed, on_joined_block, is_ready, connect_with_text, on_link_up, on_link_told, hand_next_tpdu, has_next_tpdu, hand_waiting_tpdus, most_offers, send_owed_answer, conclude_event, step_start, step_frame, refusal_of, step_send_unless, on_send, step_take, step_release, is_connected, is_spent, normal_disconnect, di_of, on_expiry, step_tick, step_break, earlier_of_moments}
use Rattle.er_end_model.specs.Layers.{Core, model}
use Rattle.er_end_model.specs.Ends.{Opening, Call, Answer, Event, Start, Come, Send, Take, Leave, Tick, Ended, Fault, Stalled, End, Moment, opened, finds_expired, hears_each, step_event, end_run}
use Rattle.er_end_model.specs.Timing.{IsDue, ExpiresAtDeadline, IsTimely, TimelyEnds}

-- ---- what a station sees of moments

abbrev Same : Station → Station → Type 0
Same x y = y.moment ≡ x.moment

up_to_same : (n : ℕ) (x : Station) → Same x (sends_up_to n x)
up_to_same zero x = refl
up_to_same (suc n) x = cond_both (can_send x) (sends_up_to n (sends_next x)) x (Same x) (λ e. up_to_same n (sends_next x)) (λ e. refl)

waiting_same : (x y : Station) → Same x y → Same x (sends_waiting y)
waiting_same x y e = up_to_same (waiting y) y ∙ e

took : (ns : ℕ) (payload : List ℕ) (x y : Station) → Same x y → Same x (takes ns payload y)
took ns payload x y e =
    cond_both (length y.taken % modulo y.extended == ns) (accepts payload y) (rejects y) (Same x) (λ f. e)
    (λ f. cond_both y.gap (puts (Rr (length y.taken)) y) (puts (Rej (length y.taken)) (record y { gap = true })) (Same x) (λ g. e) (λ g. e))

numbered : (o : Option ℕ) (rest : Station → Station) (x : Station) → ((n : ℕ) → Same x (rest (acknowledges n x))) → Same x (acknowledging o rest x)
numbered None rest x h = refl
numbered (Some n) rest x h = h n

repeated : (x y : Station) → Same x y → Same x (repeats_rejected y)
repeated x y e = cond_both (nat_lt y.acked y.sent) (starts_timer (sends_again y)) y (Same x) (λ f. e) (λ f. e)

set_up : (poll : Bool) (x : Station) → Same x (sets_up_again poll x)
set_up poll x = cond_both (length x.taken == 0) (agrees poll (record x { gap = false })) (refuses_frame x) (Same x) (λ e. refl) (λ e. refl)

rowed : (p : Phase) (c : Control) (information : List ℕ) (x : Station) → Same x (row_of_phase p x c information)
rowed Idle (control.Info ns nr) information x = refl
rowed Idle (control.Rr nr) information x = refl
rowed Idle (control.Rnr nr) information x = refl
rowed Idle (control.Rej nr) information x = refl
rowed Idle (control.Srej nr) information x = refl
rowed Idle (control.Sabm poll) information x = refl
rowed Idle (control.Sabme poll) information x = refl
rowed Idle (control.Disc poll) information x = refl
rowed Idle control.Ua information x = refl
rowed Idle control.Dm information x = refl
rowed Idle control.Frmr information x = refl
rowed Setting (control.Info ns nr) information x = refl
rowed Setting (control.Rr nr) information x = refl
rowed Setting (control.Rnr nr) information x = refl
rowed Setting (control.Rej nr) information x = refl
rowed Setting (control.Srej nr) information x = refl
rowed Setting (control.Sabm poll) information x = refl
rowed Setting (control.Sabme poll) information x = refl
rowed Setting (control.Disc poll) information x = refl
rowed Setting control.Ua information x = refl
rowed Setting control.Dm information x = refl
rowed Setting control.Frmr information x = refl
rowed Up (control.Info ns nr) information x =
    numbered (number_shown_as x.extended x.acked (x.sent - x.acked) nr) (takes ns information) x (λ n. took ns information x (acknowledges n x) refl)
rowed Up (control.Rr nr) information x = numbered (number_shown_as x.extended x.acked (x.sent - x.acked) nr) (marks_busy false) x (λ n. refl)
rowed Up (control.Rnr nr) information x = numbered (number_shown_as x.extended x.acked (x.sent - x.acked) nr) (marks_busy true) x (λ n. refl)
rowed Up (control.Rej nr) information x =
    numbered (number_shown_as x.extended x.acked (x.sent - x.acked) nr) (λ t. repeats_rejected (marks_busy false t)) x (λ n. repeated x (marks_busy false (acknowledges n x)) refl)
rowed Up (control.Srej nr) information x = refl
rowed Up (control.Sabm poll) information x = set_up poll x
rowed Up (control.Sabme poll) information x = set_up poll x
rowed Up (control.Disc poll) information x = refl
rowed Up control.Ua information x = refl
rowed Up control.Dm information x = refl
rowed Up control.Frmr information x = refl
rowed Down c information x = refl

erred : (p : Phase) (x : Station) → Same x (errs p x)
erred Idle x = cond_both x.calling (refuses_frame x) (strays x) (Same x) (λ e. refl) (λ e. refl)
erred Setting x = refl
erred Up x = refl
erred Down x = refl

heard_control : (address : ℕ) (o : Option (Control × List ℕ)) (x : Station) → Same x (hears_control address o x)
heard_control address None x = erred x.phase x
heard_control address (Some read) x =
    cond_both (is_addressed x.calling address read.0) (if is_error x.calling read.0 read.1 then errs x.phase x else row_of_phase x.phase x read.0 read.1) (strays x) (Same x)
    (λ e. cond_both (is_error x.calling read.0 read.1) (errs x.phase x) (row_of_phase x.phase x read.0 read.1) (Same x) (λ e. erred x.phase x) (λ e. rowed x.phase read.0 read.1 x))
    (λ e. refl)

heard : (v : Verdict) (x : Station) → Same x (hears v x)
heard (Frame address body) x =
    cond_both (is_known_address address) (hears_control address (control_of (modulo x.extended) body) x) (strays x) (Same x)
    (λ e. heard_control address (control_of (modulo x.extended) body) x) (λ e. refl)
heard BadFcs x = refl
heard TooShort x = refl
heard TooLong x = refl
heard Aborted x = refl

expired : (p : Phase) (x : Station) → Same x (expires_at p x)
expired Idle x = refl
expired Setting x = cond_both (nat_lt x.n2 (x.expiries + 1)) (gives_up SetUpUnanswered x) (starts_timer (puts SetUp (counts_expiry x))) (Same x) (λ e. refl) (λ e. refl)
expired Up x = cond_both (nat_lt x.n2 (x.expiries + 1)) (gives_up NoProgress x) (starts_timer (sends_again (counts_expiry x))) (Same x) (λ e. refl) (λ e. refl)
expired Down x = refl

started : (p : Phase) (x : Station) → Same x (starts_at p x)
started Idle x = cond_both x.calling _ x (Same x) (λ e. refl) (λ e. refl)
started Setting x = refl
started Up x = refl
started Down x = refl

closed : (p : Phase) (x : Station) → Same x (closes_at p x)
closed Idle x = refl
closed Setting x = refl
closed Up x = refl
closed Down x = refl

-- ---- a station that saw no moment behind n

abbrev Till : ℕ → Station → Type 0
Till n s = s.moment ≤ n

till_same : (n : ℕ) (x y : Station) → Same x y → Till n x → Till n y
till_same n x y e t = subst (λ (k : ℕ). k ≤ n) (sym e) t

till_seen : (n : ℕ) (x : Station) → Till n x → Till n (sees n x)
till_seen n x t = omega (arith, t)

starts_till : (n : ℕ) (x : Station) → Till n x → Till n (station.starts n x)
starts_till n x t =
    cond_both (is_down x.phase) x (starts_at x.phase (sees n x)) (Till n) (λ e. t) (λ e. till_same n (sees n x) (starts_at x.phase (sees n x)) (started x.phase (sees n x)) (till_seen n x t))

receives_till : (n : ℕ) (v : Verdict) (x : Station) → Till n x → Till n (station.receives n v x)
receives_till n v x t =
    let y : Station = sees n x in
    cond_both (is_down x.phase) x (sends_waiting (hears v y)) (Till n) (λ e. t)
    (λ e. till_same n y (sends_waiting (hears v y)) (waiting_same y (hears v y) (heard v y)) (till_seen n x t))

hands_till : (n : ℕ) (payload : List ℕ) (x : Station) → Till n x → Till n (station.hands n payload x)
hands_till n payload x t =
    let y : Station = record (sees n x) { handed = x.handed ++ payload ∷ [] } in
    cond_both (is_down x.phase) x (sends_waiting y) (Till n) (λ e. t) (λ e. till_same n (sees n x) (sends_waiting y) (waiting_same (sees n x) y refl) (till_seen n x t))

finishes_till : (n : ℕ) (x : Station) → Till n x → Till n (station.finishes x)
finishes_till n x t = cond_both (is_down x.phase) x (settles x) (Till n) (λ e. t) (λ e. cond_both x.owed _ x (Till n) (λ f. t) (λ f. t))

ticks_till : (n : ℕ) (x : Station) → Till n x → Till n (station.ticks n x)
ticks_till n x t =
    let y : Station = sees n x in
    cond_both (is_down x.phase) x (sends_waiting (expires_if_due y)) (Till n) (λ e. t)
    (λ e. till_same n y (sends_waiting (expires_if_due y)) (waiting_same y (expires_if_due y) (cond_both (is_due y.timer y.moment) (expires y) y (Same y) (λ f. expired y.phase y) (λ f. refl))) (till_seen n x t))

closes_till : (n : ℕ) (x : Station) → Till n x → Till n (station.closes x)
closes_till n x t =
    cond_both (is_down x.phase) x (record (closes_at x.phase x) { phase = Down; timer = None }) (Till n) (λ e. t) (λ e. till_same n x (closes_at x.phase x) (closed x.phase x) t)

-- ---- an end whose station saw no moment behind its own

pub record OnTime (n : ℕ) (x : Core) : Type 0 where
  pub line : x.line.moment ≤ n
  pub moment : x.moment ≡ n

module _ (n : ℕ) where
  -- the station did this
  with_line : (x : Core) (s : Station) → Till n s → OnTime n x → OnTime n (record x { line = s })
  with_line x s t o = record { line = t; moment = o.moment }

  on_if : (b : Bool) (x y : Core) → OnTime n x → OnTime n y → OnTime n (if b then x else y)
  on_if true x y g h = g
  on_if false x y g h = h

  -- at the end's own moment
  at_own : (x : Core) (f : ℕ → Station) → OnTime n x → Till n (f n) → Till n (f x.moment)
  at_own x f o t = subst (λ (k : ℕ). Till n (f k)) (sym o.moment) t

  on_gives : (g : GivenTpdu) (x : Core) → OnTime n x → OnTime n (hand_tpdu_if_may model g x)
  on_gives g x o =
      let payload : List ℕ = last_block (octets_given g) in
      on_if (model.may_send x.line) (hand_tpdu model g x) x
      (record { line = at_own x (λ k. station.hands k payload x.line) o (hands_till n payload x.line o.line); moment = o.moment }) o

  on_departs : (why : Release) (reason : ℕ) (user : List ℕ) (x : Core) → OnTime n x → OnTime n (send_dr model why reason user x)
  on_departs why reason user x o =
      let y : Core = hand_tpdu_if_may model (Dr reason user) x in
      let p = on_gives (Dr reason user) x o in
      record { line = closes_till n y.line p.line; moment = p.moment }

  on_cut_off : (why : Release) (x : Core) → OnTime n x → OnTime n (answer_dr model why x)
  on_cut_off why x o =
      let y : Core = hand_tpdu_if_may model Dc x in
      let p = on_gives Dc x o in
      record { line = finishes_till n y.line p.line; moment = p.moment }

  on_parts : (why : Release) (di : List ℕ) (x : Core) → OnTime n x → OnTime n (on_safety_release model why di x)
  on_parts why di x o =
      on_if why.by_peer (end_after_di model why x) (send_dr model why normal_disconnect di x)
      (record { line = closes_till n x.line o.line; moment = o.moment }) (on_departs why normal_disconnect di x o)

  on_says : (text : List ℕ) (x : Core) → OnTime n x → OnTime n (hand_text model text x)
  on_says text x o = on_if (is_some_octets text && model.may_hand x.upper) _ x (record { line = o.line; moment = o.moment }) o

  on_answers : (by : Carrier) (text : List ℕ) (x : Core) → OnTime n x → OnTime n (hand_answer model by text x)
  on_answers InCr text x o = on_if (is_some_octets text) _ x (record { line = o.line; moment = o.moment }) o
  on_answers InCc text x o = on_says text x o
  on_answers InDt text x o = on_says text (skip_message model x) (record { line = o.line; moment = o.moment })

  on_keeps : (by : Carrier) (user : List ℕ) (x : Core) → OnTime n x → OnTime n (keep_message model by user x)
  on_keeps InCr user x o = o
  on_keeps InCc user x o = o
  on_keeps InDt user x o = record { line = o.line; moment = o.moment }

  on_acts : (by : Carrier) (report : Report) (octets : List ℕ) (x : Core) → OnTime n x → OnTime n (on_safety_report model by report octets x)
  on_acts by ToldAnswered octets x o = on_answers by octets x o
  on_acts by (ToldConnected peer) octets x o = let p = on_answers by octets x o in record { line = p.line; moment = p.moment }
  on_acts by (ToldAccepted user) octets x o = on_keeps by user x o
  on_acts by (ToldReleased why) octets x o = on_parts why octets x o
  on_acts by ToldIgnored octets x o = o

  text_on_time : (finds : Finds) (by : Carrier) (text : List ℕ) (x : Core) → OnTime n x → OnTime n (on_text model finds by text x)
  text_on_time finds by text x o =
      let a : Safety × SafetyOutcome = safety.step (finds x.moment) x.safe.safety (Received text) in
      on_acts by (report_of a.1) (octets_sent_in_outcome a.1) (with_safety_step model (Received text) a x) (record { line = o.line; moment = o.moment })

  on_does : (finds : Finds) (d : ReceptionDeed) (x : Core) → OnTime n x → OnTime n (on_transport_deed model finds d x)
  on_does finds Nothing x o = o
  on_does finds (Called user) x o = text_on_time finds InCr user x o
  on_does finds (Confirmed user) x o = text_on_time finds InCc user x o
  on_does finds (Message message) x o = text_on_time finds InDt message x o
  on_does finds (Disconnected user) x o = on_cut_off (why_of (di_in user (peer_flag x.safe.safety))) x o
  on_does finds (transport.Refused sub reason) x o = on_departs (by_this_end 2 sub) reason [] x o

  block_on_time : (finds : Finds) (answer : joining.BlockJoiningResult) (x : Core) → OnTime n x → OnTime n (on_joined_block model finds answer x)
  block_on_time finds (Ok None) x o = o
  block_on_time finds (Ok (Some tpdu)) x o =
      on_does finds (reception x.upper.transport tpdu).1 (record x { upper = model.hears x.upper tpdu }) (record { line = o.line; moment = o.moment })
  block_on_time finds (Err fault) x o = on_departs (release_of BlockRefused) protocol_error [] x o

  on_up : (x : Core) → OnTime n x → OnTime n (on_link_up model x)
  on_up x o =
      let a : Safety × SafetyOutcome = safety.step no_keys x.safe.safety ConnectRequest in
      let z : Core = with_safety_step model ConnectRequest a x in
      on_if (model.may_connect x.upper && is_ready x.safe.safety.phase) (connect_with_text model (octets_sent_in_outcome a.1) z) x
      (on_if (is_some_octets (octets_sent_in_outcome a.1)) _ z (record { line = o.line; moment = o.moment }) (record { line = o.line; moment = o.moment })) o

  on_link : (finds : Finds) (payload : Option (List ℕ)) (up : Bool) (released : Option Release) (x : Core) → OnTime n x → OnTime n (on_link_told model finds payload up released x)
  on_link finds (Some payload) up released x o =
      block_on_time finds (joining.block_step x.joined payload).1 (record x { joined = (joining.block_step x.joined payload).0 }) (record { line = o.line; moment = o.moment })
  on_link finds None true released x o = on_up x o
  on_link finds None false (Some why) x o = record { line = o.line; moment = o.moment }
  on_link finds None false None x o = o

  on_next : (x : Core) → OnTime n x → OnTime n (hand_next_tpdu model x)
  on_next x o =
      let payload : List ℕ = last_block (model.next x.upper) in
      record { line = at_own x (λ k. station.hands k payload x.line) o (hands_till n payload x.line o.line); moment = o.moment }

  on_offers : (k : ℕ) (x : Core) → OnTime n x → OnTime n (hand_waiting_tpdus model k x)
  unfolding hand_waiting_tpdus
  on_offers zero x o = o
  on_offers (suc k) x o = on_if (has_next_tpdu model x) (hand_waiting_tpdus model k (hand_next_tpdu model x)) x (on_offers k (hand_next_tpdu model x) (on_next x o)) o

  on_concludes : (x : Core) → OnTime n x → OnTime n (conclude_event model x)
  on_concludes x o =
      let y : Core = hand_waiting_tpdus model most_offers x in
      let p = on_offers most_offers x o in
      on_if (is_some x.released) x (send_owed_answer model y) o (record { line = finishes_till n y.line p.line; moment = p.moment })

-- ---- the events

timely : (n : ℕ) (x : Core) → OnTime n x → IsTimely x
timely n x o = subst (λ (k : ℕ). x.line.moment ≤ k) (sym o.moment) o.line

begun : (now : ℕ) (x : Core) → IsTimely x → OnTime (max x.moment now) (new_event_at model now x)
begun now x t = record { line = omega (arith, t); moment = refl }

timely_if : (r : Option Release) (x y : Core) → IsTimely x → IsTimely y → IsTimely (if is_some r then x else y)
timely_if None x y g h = h
timely_if (Some why) x y g h = g

starts_timely : (now : ℕ) (x : Core) → IsTimely x → IsTimely (step_start model now x)
starts_timely now x t =
    let n : ℕ = max x.moment now in
    let b : Core = new_event_at model now x in
    let o = begun now x t in
    let z : Core = record b { line = model.starts b.moment b.line } in
    timely_if x.released b (conclude_event model z) (timely n b o) (timely n (conclude_event model z) (on_concludes n z (record { line = starts_till n b.line o.line; moment = refl })))

comes_timely : (finds : Finds) (now : ℕ) (verdict : Verdict) (x : Core) → IsTimely x → IsTimely (step_frame model finds now verdict x)
comes_timely finds now verdict x t =
    let n : ℕ = max x.moment now in
    let b : Core = new_event_at model now x in
    let o = begun now x t in
    let d = model.told b.moment verdict b.line in
    let z : Core = record b { line = model.receives b.moment verdict b.line } in
    let y : Core = on_link_told model finds d.payload d.up d.released z in
    timely_if x.released b (conclude_event model y) (timely n b o)
    (timely n (conclude_event model y) (on_concludes n y (on_link n finds d.payload d.up d.released z (record { line = receives_till n verdict b.line o.line; moment = refl }))))

sends_timely : (now : ℕ) (user : List ℕ) (x : Core) → IsTimely x → (r : Option SendRefusal) → IsTimely (step_send_unless model r now user x)
sends_timely now user x t (Some refusal) = t
sends_timely now user x t None =
    let n : ℕ = max x.moment now in
    let b : Core = new_event_at model now x in
    let o = begun now x t in
    let a : Safety × SafetyOutcome = safety.step no_keys x.safe.safety (DataRequest user) in
    let y : Core = with_safety_step model (DataRequest user) a b in
    let z : Core = record y { upper = model.sends y.upper user } in
    timely n (on_send model user b) (on_concludes n (hand_text model (octets_sent_in_outcome a.1) z) (on_says n (octets_sent_in_outcome a.1) z (record { line = o.line; moment = refl })))

uses_timely : (now : ℕ) (x : Core) → IsTimely x → IsTimely (step_take model now x)
uses_timely now x t =
    let n : ℕ = max x.moment now in
    let b : Core = new_event_at model now x in
    let o = begun now x t in
    let z : Core = record b { upper = model.uses b.upper } in
    timely n (step_take model now x) (on_if n (length x.upper.accepted - x.upper.used == 0) b (conclude_event model z) o (on_concludes n z (record { line = o.line; moment = refl })))

leaves_timely : (now sub : ℕ) (x : Core) → IsTimely x → IsTimely (step_release model now sub x)
leaves_timely now sub x t =
    let n : ℕ = max x.moment now in
    let b : Core = new_event_at model now x in
    let o = begun now x t in
    let a : Safety × SafetyOutcome = safety.step no_keys x.safe.safety (DisconnectRequest sub) in
    let z : Core = with_safety_step model (DisconnectRequest sub) a b in
    let y : Core = send_dr model (release_of (User sub)) normal_disconnect (octets_sent_in_outcome a.1) z in
    timely_if x.released b y (timely n b o) (timely n y (on_departs n (release_of (User sub)) normal_disconnect (octets_sent_in_outcome a.1) z (record { line = o.line; moment = refl })))

ticks_timely : (now : ℕ) (x : Core) → IsTimely x → IsTimely (step_tick model now x)
ticks_timely now x t =
    let n : ℕ = max x.moment now in
    let b : Core = new_event_at model now x in
    let o = begun now x t in
    let z : Core = record b { line = model.ticks b.moment b.line } in
    let y : Core = on_expiry model (model.given_up b.moment b.line) z in
    timely_if x.released b (conclude_event model y) (timely n b o)
    (timely n (conclude_event model y) (on_concludes n y (on_time n (model.given_up b.moment b.line) z (record { line = ticks_till n b.line o.line; moment = refl }))))
  where
    on_time : (n : ℕ) (g : Option Release) (z : Core) → OnTime n z → OnTime n (on_expiry model g z)
    on_time n (Some why) z o = record { line = o.line; moment = o.moment }
    on_time n None z o =
        let why : Release = release_of SetUpTimeSpent in
        on_if n (is_spent z) (send_dr model why normal_disconnect (di_of why z.safe.safety) z) z (on_departs n why normal_disconnect (di_of why z.safe.safety) z o) o

breaks_timely : (cause : Cause) (x : Core) → IsTimely x → IsTimely (step_break model cause x)
breaks_timely cause x t = timely_if x.released (new_event model x) (with_release (release_of cause) (new_event model x)) t t

hears_timely : (finds : Finds) (now : ℕ) (vs : List Verdict) (x : Core) → IsTimely x → IsTimely (hears_each finds now vs x)
hears_timely finds now [] x t = t
hears_timely finds now (v ∷ vs) x t = hears_timely finds now vs (step_frame model finds now v x) (comes_timely finds now v x t)

step_timely : (now : ℕ) (event : Event) (m : End) → IsTimely m.core → IsTimely (step_event now event m).0.core
step_timely now Start m t = starts_timely now m.core t
step_timely now (Come finds octets) m t =
    hears_timely finds now (news m.stream octets) (new_event_at model now m.core) (timely (max m.core.moment now) (new_event_at model now m.core) (begun now m.core t))
step_timely now (Send user) m t = sends_timely now user m.core t (refusal_of model user m.core)
step_timely now Take m t = uses_timely now m.core t
step_timely now (Leave sub) m t = leaves_timely now sub m.core t
step_timely now Tick m t = ticks_timely now m.core t
step_timely now Ended m t = breaks_timely LineEnded m.core t
step_timely now Fault m t = breaks_timely LineFailed m.core t
step_timely now Stalled m t = breaks_timely LineStalled m.core t

run_timely : (events : List Moment) (m : End) → IsTimely m.core → IsTimely (end_run events m).core
run_timely [] m t = t
run_timely (e ∷ events) m t = run_timely events (step_event e.now e.event m).0 (step_timely e.now e.event m t)

opened_timely : (opening : Opening) → IsTimely (opened opening).core
opened_timely (Call settings me peer kmac rb now) = omega arith
opened_timely (Answer settings me ra now) = omega arith

-- ---- the deadline

not_false : (b : Bool) → not b ≡ false → b ≡ true
not_false true e = refl
not_false false e = absurd cc

-- of what is looked at: whether the end is released, T1, whether the safe connection stands, the limit; at this moment
expired_of : (r : Option Release) (timer : Option ℕ) (connected : Bool) (limit n : ℕ) → Bool
expired_of r timer connected limit n = not (is_some r) && (is_due timer n || not connected && nat_le limit n)

deadline_of : (r : Option Release) (timer : Option ℕ) (connected : Bool) (limit : ℕ) → Option ℕ
deadline_of r timer connected limit = if is_some r then None else earlier_of_moments timer (if connected then None else Some limit)

abbrev Due : Option ℕ → ℕ → Type 0
Due o n = (due : ℕ) × (o ≡ Some due) × (due ≤ n)

abbrev Exactly : Option Release → Option ℕ → Bool → ℕ → ℕ → Type 0
Exactly r timer connected limit n =
    (expired_of r timer connected limit n ≡ true → Due (deadline_of r timer connected limit) n)
    × (Due (deadline_of r timer connected limit) n → expired_of r timer connected limit n ≡ true)

some_is : (a b : ℕ) → Some a ≡ Some b → a ≡ b
some_is a b e = cc

or_either : (a b : Bool) → (a || b) ≡ true → (a ≡ true) ⊎ (b ≡ true)
or_either true b e = inl refl
or_either false b e = inr e

or_left : (a b : Bool) → a ≡ true → (a || b) ≡ true
or_left a b e = ap (λ (c : Bool). c || b) e

or_right : (a b : Bool) → b ≡ true → (a || b) ≡ true
or_right true b e = refl
or_right false b e = e

exactly : (r : Option Release) (timer : Option ℕ) (connected : Bool) (limit n : ℕ) → Exactly r timer connected limit n
unfolding expired_of deadline_of
exactly (Some why) timer connected limit n = (λ e. absurd cc, λ d. absurd (let e = d.1 in cc))
exactly None None true limit n = (λ e. absurd cc, λ d. absurd (let e = d.1 in cc))
exactly None None false limit n =
    (λ e. (limit, refl, leb-true limit n e), λ d. le-leb limit n (subst (λ (k : ℕ). k ≤ n) (sym (some_is limit d.0 d.1)) d.2))
exactly None (Some t) true limit n = (
  λ e. elim (or_either (nat_le t n) false e) [ inl l ↦ (t, refl, leb-true t n l) | inr f ↦ absurd cc ],
  λ d. or_left (nat_le t n) false (le-leb t n (subst (λ (k : ℕ). k ≤ n) (sym (some_is t d.0 d.1)) d.2)),
)
exactly None (Some t) false limit n = (
  λ e. elim (or_either (nat_le t n) (nat_le limit n) e) [
    | inl l ↦ (min t limit, refl, let h = leb-true t n l in omega (arith, h))
    | inr l ↦ (min t limit, refl, let h = leb-true limit n l in omega (arith, h))
  ],
  λ d. elim (cases t limit (let e = some_is (min t limit) d.0 d.1 in let h = d.2 in subst (λ (k : ℕ). k ≤ n) (sym e) h)) [
    | inl l ↦ or_left (nat_le t n) (nat_le limit n) (le-leb t n l)
    | inr l ↦ or_right (nat_le t n) (nat_le limit n) (le-leb limit n l)
  ],
)
  where
    cases : (a b : ℕ) → min a b ≤ n → (a ≤ n) ⊎ (b ≤ n)
    cases a b h = by_test (nat_le a b) refl
      where
        by_test : (c : Bool) → nat_le a b ≡ c → (a ≤ n) ⊎ (b ≤ n)
        by_test true e = inl (let l = leb-true a b e in omega (arith, h, l))
        by_test false e = inr (let l = leb-false a b e in omega (arith, h, l))

deadline_exactly : (now : ℕ) (x : Core) → IsTimely x
    → (finds_expired (new_event_at model now x) ≡ true → IsDue now x) × (IsDue now x → finds_expired (new_event_at model now x) ≡ true)
unfolding expired_of deadline_of
deadline_exactly now x t =
    let n : ℕ = max x.moment now in
    let later : max x.line.moment n ≡ n = omega (arith, t) in
    let e = exactly x.released x.line.timer (is_connected x.safe.safety.phase) x.limit n in
    let same : finds_expired (new_event_at model now x) ≡ expired_of x.released x.line.timer (is_connected x.safe.safety.phase) x.limit n =
    ap (λ (k : ℕ). not (is_some x.released) && (is_due x.line.timer k || not (is_connected x.safe.safety.phase) && nat_le x.limit n)) later in
    (λ f. e.0 (sym same ∙ f), λ d. same ∙ e.1 d)

pub expires_at_deadline : ExpiresAtDeadline
expires_at_deadline opening events now =
    let m : End = end_run events (opened opening) in
    deadline_exactly now m.core (run_timely events (opened opening) (opened_timely opening))

pub timely_ends : TimelyEnds
timely_ends = record { made = opened_timely; kept = step_timely; exactly = deadline_exactly }
