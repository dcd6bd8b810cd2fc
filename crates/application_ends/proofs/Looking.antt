-- An end looks keys up at the moment of an event alone.
use Rattle.std.proofs.Common.{arith, ◌≡◌, ◌∙◌, ◌≤◌, ◌&&◌, ℕ, zero, suc, Bool, true, false, List, [], ◌∷◌, ◌++◌, Option, Some, None, Ok, Err, refl, sym, ap}
use Rattle.std.proofs.Common.{subst}
use Rattle.std.specs.Prelude.{is_some, ◌==◌, if◌then◌else◌}
use Rattle.er_base.specs.declared.release.Release.{Release}
use Rattle.er_base.specs.declared.cause.Cause.{Cause}
use Rattle.er_base.specs.declared.cause.Cause.TheVariants as cause
use Rattle.er_base.specs.Causes.{release_of}
use Rattle.er_settings.specs.Values.{Settings}
use Rattle.des_block.specs.declared.triple_key.TripleKey.{TripleKey}
use Rattle.hdlc_frames.specs.Framing.{Verdict}
use Rattle.hdlc_station_model.specs.Receiving.{is_some_octets}
use Rattle.hdlc_station_model.specs.Events.{news}
use Rattle.t70_header.specs.Joining as joining
use Rattle.x224_class2.specs.Refusals.{protocol_error}
use Rattle.x224_class2.specs.Tpdus.{GivenTpdu, Dr, Dc}
use Rattle.x224_class2.specs.Transport.{ReceptionDeed, Nothing, Called, Confirmed, Message, Disconnected}
use Rattle.x224_class2.specs.Transport as transport
use Rattle.safety_automaton.specs.Safety.{no_keys, ConnectRequest, Received, DataRequest, DisconnectRequest, octets_sent_in_outcome, peer_flag}
use Rattle.safety_automaton.specs.Safety as safety
use Rattle.safety_automaton.specs.Reports.{Report, ToldAnswered, ToldConnected, ToldAccepted, ToldReleased, ToldIgnored, report_of}
use Rattle.er_trace.specs.declared.event.Event.{Event}
use Rattle.er_trace.specs.declared.event.Event.TheVariants as event
use Rattle.er_end_model.specs.Outcomes.{Outcome, SendRefusal}
use Rattle.er_end_model.specs.Steps.{Finds, new_event_at, hand_tpdu, hand_tpdu_if_may, send_dr, end_after_di, on_safety_release, with_safety_step, hand_text}
use Rattle.er_end_model.specs.Steps.{skip_message, Carrier, InCr, InCc, InDt, hand_answer, keep_message, on_safety_report, on_text, on_transport_deed}
use Rattle.er_end_model.specs.Steps.{on_joined_block, is_ready, connect_with_text, on_link_up, on_link_told, hand_next_tpdu, has_next_tpdu}
use Rattle.er_end_model.specs.Steps.{hand_waiting_tpdus, most_offers, send_owed_answer, conclude_event, normal_disconnect, step_start, step_frame, refusal_of}
use Rattle.er_end_model.specs.Steps.{on_send, step_send_unless, step_take, step_release, on_expiry, is_spent, di_of, step_tick, step_break, outcomes_of}
use Rattle.er_end_model.specs.Layers.{Core, model}
use Rattle.er_end_model.specs.Ends as end
use Rattle.er_end_model.specs.Ends.{End, opened, hears_each, told_of_each, step_event}
use Rattle.trace_model.specs.Connections.{goes_on, end_behind_call}
use Rattle.application_ends.specs.StackEnds.{befalls_end}

-- ---- an end stands at a moment

abbrev At : ℕ → Core → Type 0
At n x = x.moment ≡ n

at_if : (n : ℕ) (b : Bool) (x y : Core) → At n x → At n y → At n (if b then x else y)
at_if n true x y p q = p
at_if n false x y p q = q

module _ (n : ℕ) where
  at_begins : (x : Core) → x.moment ≤ n → At n (new_event_at model n x)
  at_begins x p = omega (arith, p)

  at_offers : (k : ℕ) (x : Core) → At n x → At n (hand_waiting_tpdus model k x)
  unfolding hand_waiting_tpdus
  at_offers zero x p = p
  at_offers (suc k) x p = at_if n (has_next_tpdu model x) (hand_waiting_tpdus model k (hand_next_tpdu model x)) x (at_offers k (hand_next_tpdu model x) p) p

  at_concludes : (x : Core) → At n x → At n (conclude_event model x)
  at_concludes x p = at_if n (is_some x.released) x (send_owed_answer model (hand_waiting_tpdus model most_offers x)) p (at_offers most_offers x p)

  at_hands : (text : List ℕ) (x : Core) → At n x → At n (hand_text model text x)
  at_hands text x p = at_if n (is_some_octets text && model.may_hand x.upper) _ x p p

  at_answers : (by : Carrier) (text : List ℕ) (x : Core) → At n x → At n (hand_answer model by text x)
  at_answers InCr text x p = at_if n (is_some_octets text) _ x p p
  at_answers InCc text x p = at_hands text x p
  at_answers InDt text x p = at_hands text (skip_message model x) p

  at_keeps : (by : Carrier) (user : List ℕ) (x : Core) → At n x → At n (keep_message model by user x)
  at_keeps InCr user x p = p
  at_keeps InCc user x p = p
  at_keeps InDt user x p = p

  at_tpdu : (tpdu : GivenTpdu) (x : Core) → At n x → At n (hand_tpdu_if_may model tpdu x)
  at_tpdu tpdu x p = at_if n (model.may_send x.line) (hand_tpdu model tpdu x) x p p

  at_parts : (why : Release) (di : List ℕ) (x : Core) → At n x → At n (on_safety_release model why di x)
  at_parts why di x p =
      at_if n why.by_peer (end_after_di model why x) (send_dr model why normal_disconnect di x) p (at_tpdu (Dr normal_disconnect di) x p)

  at_report : (by : Carrier) (report : Report) (octets : List ℕ) (x : Core) → At n x → At n (on_safety_report model by report octets x)
  at_report by ToldAnswered octets x p = at_answers by octets x p
  at_report by (ToldConnected peer) octets x p = at_answers by octets x p
  at_report by (ToldAccepted user) octets x p = at_keeps by user x p
  at_report by (ToldReleased why) octets x p = at_parts why octets x p
  at_report by ToldIgnored octets x p = p

  at_text : (finds : Finds) (by : Carrier) (text : List ℕ) (x : Core) → At n x → At n (on_text model finds by text x)
  at_text finds by text x p =
      let a = safety.step (finds x.moment) x.safe.safety (Received text) in
      at_report by (report_of a.1) (octets_sent_in_outcome a.1) (with_safety_step model (Received text) a x) p

  at_deed : (finds : Finds) (d : ReceptionDeed) (x : Core) → At n x → At n (on_transport_deed model finds d x)
  at_deed finds Nothing x p = p
  at_deed finds (Called user) x p = at_text finds InCr user x p
  at_deed finds (Confirmed user) x p = at_text finds InCc user x p
  at_deed finds (Message message) x p = at_text finds InDt message x p
  at_deed finds (Disconnected user) x p = at_tpdu Dc x p
  at_deed finds (transport.Refused sub reason) x p = at_tpdu (Dr reason []) x p

  at_joined : (finds : Finds) (answer : joining.BlockJoiningResult) (x : Core) → At n x → At n (on_joined_block model finds answer x)
  at_joined finds (Ok None) x p = p
  at_joined finds (Ok (Some tpdu)) x p = at_deed finds (model.deed x.upper tpdu) (record x { upper = model.hears x.upper tpdu }) p
  at_joined finds (Err fault) x p = at_tpdu (Dr protocol_error []) x p

  at_up : (x : Core) → At n x → At n (on_link_up model x)
  at_up x p =
      let a = safety.step no_keys x.safe.safety ConnectRequest in
      let y : Core = with_safety_step model ConnectRequest a x in
      at_if n (model.may_connect x.upper && is_ready x.safe.safety.phase) (connect_with_text model (octets_sent_in_outcome a.1) y) x
      (at_if n (is_some_octets (octets_sent_in_outcome a.1)) _ y p p) p

  at_told : (finds : Finds) (payload : Option (List ℕ)) (up : Bool) (released : Option Release) (x : Core) → At n x
      → At n (on_link_told model finds payload up released x)
  at_told finds (Some payload) up released x p =
      let joined = joining.block_step x.joined payload in at_joined finds joined.1 (record x { joined = joined.0 }) p
  at_told finds None true released x p = at_up x p
  at_told finds None false (Some why) x p = p
  at_told finds None false None x p = p

  at_frame : (finds : Finds) (verdict : Verdict) (x : Core) → x.moment ≤ n → At n (step_frame model finds n verdict x)
  at_frame finds verdict x p =
      let y : Core = new_event_at model n x in
      let deed = model.told y.moment verdict y.line in
      let z : Core = record y { line = model.receives y.moment verdict y.line } in
      let here = at_begins x p in
      at_if n (is_some y.released) y (conclude_event model (on_link_told model finds deed.payload deed.up deed.released z)) here
      (at_concludes (on_link_told model finds deed.payload deed.up deed.released z) (at_told finds deed.payload deed.up deed.released z here))

  within : (x : Core) → At n x → x.moment ≤ n
  within x p = omega (arith, p)

  at_each : (finds : Finds) (verdicts : List Verdict) (x : Core) → At n x → At n (hears_each finds n verdicts x)
  at_each finds [] x p = p
  at_each finds (verdict ∷ verdicts) x p = at_each finds verdicts (step_frame model finds n verdict x) (at_frame finds verdict x (within x p))

  -- ---- the other events

  at_start : (x : Core) → x.moment ≤ n → At n (step_start model n x)
  at_start x p =
      let y : Core = new_event_at model n x in
      let z : Core = record y { line = model.starts y.moment y.line } in
      at_if n (is_some y.released) y (conclude_event model z) (at_begins x p) (at_concludes z (at_begins x p))

  until_send : (refusal : Option SendRefusal) (user : List ℕ) (x : Core) → x.moment ≤ n → (step_send_unless model refusal n user x).moment ≤ n
  until_send (Some refusal) user x p = p
  until_send None user x p =
      let y : Core = new_event_at model n x in
      let a = safety.step no_keys y.safe.safety (DataRequest user) in
      let z : Core = with_safety_step model (DataRequest user) a y in
      let sent : Core = record z { upper = model.sends z.upper user } in
      let handed : Core = hand_text model (octets_sent_in_outcome a.1) sent in
      within (on_send model user y) (at_concludes handed (at_hands (octets_sent_in_outcome a.1) sent (at_begins x p)))

  at_take : (x : Core) → x.moment ≤ n → At n (step_take model n x)
  at_take x p =
      let y : Core = new_event_at model n x in
      let z : Core = record y { upper = model.uses y.upper } in
      at_if n (model.untaken y.upper == 0) y (conclude_event model z) (at_begins x p) (at_concludes z (at_begins x p))

  at_release : (sub : ℕ) (x : Core) → x.moment ≤ n → At n (step_release model n sub x)
  at_release sub x p =
      let y : Core = new_event_at model n x in
      let a = safety.step no_keys y.safe.safety (DisconnectRequest sub) in
      let z : Core = with_safety_step model (DisconnectRequest sub) a y in
      at_if n (is_some y.released) y (send_dr model (release_of (cause.User sub)) normal_disconnect (octets_sent_in_outcome a.1) z) (at_begins x p)
      (at_tpdu (Dr normal_disconnect (octets_sent_in_outcome a.1)) z (at_begins x p))

  at_expiry : (given_up : Option Release) (x : Core) → At n x → At n (on_expiry model given_up x)
  at_expiry (Some why) x p = p
  at_expiry None x p =
      let why = release_of cause.SetUpTimeSpent in
      let di = di_of why x.safe.safety in
      at_if n (is_spent x) (send_dr model why normal_disconnect di x) x (at_tpdu (Dr normal_disconnect di) x p) p

  at_tick : (x : Core) → x.moment ≤ n → At n (step_tick model n x)
  at_tick x p =
      let y : Core = new_event_at model n x in
      let z : Core = record y { line = model.ticks y.moment y.line } in
      let w : Core = on_expiry model (model.given_up y.moment y.line) z in
      at_if n (is_some y.released) y (conclude_event model w) (at_begins x p) (at_concludes w (at_expiry (model.given_up y.moment y.line) z (at_begins x p)))

  until_break : (why : Cause) (x : Core) → x.moment ≤ n → (step_break model why x).moment ≤ n
  until_break why x p = break_if (is_some x.released) _ _ p p
    where
      break_if : (b : Bool) (y z : Core) → y.moment ≤ n → z.moment ≤ n → (if b then y else z).moment ≤ n
      break_if true y z p q = p
      break_if false y z p q = q

  until_event : (what : end.Event) (m : End) → m.core.moment ≤ n → (step_event n what m).0.core.moment ≤ n
  until_event end.Start m p = within (step_start model n m.core) (at_start m.core p)
  until_event (end.Come finds octets) m p =
      let x : Core = new_event_at model n m.core in
      let verdicts = news m.stream octets in
      within (hears_each finds n verdicts x) (at_each finds verdicts x (at_begins m.core p))
  until_event (end.Send user) m p = until_send (refusal_of model user m.core) user m.core p
  until_event end.Take m p = within (step_take model n m.core) (at_take m.core p)
  until_event (end.Leave sub) m p = within (step_release model n sub m.core) (at_release sub m.core p)
  until_event end.Tick m p = within (step_tick model n m.core) (at_tick m.core p)
  until_event end.Ended m p = until_break cause.LineEnded m.core p
  until_event end.Fault m p = until_break cause.LineFailed m.core p
  until_event end.Stalled m p = until_break cause.LineStalled m.core p

-- an end that saw no moment behind this one
abbrev pub IsUntil : ℕ → Option End → Type 0
IsUntil n None = Unit {0}
IsUntil n (Some m) = m.core.moment ≤ n

until_goes : (n : ℕ) (what : end.Event) (m : Option End) → IsUntil n m → IsUntil n (goes_on n what m).0
until_goes n what None p = tt
until_goes n what (Some m) p = until_event n what m p

until_call : (settings : Settings) (n engine rbc rb : ℕ) (found : Option TripleKey) → IsUntil n (end_behind_call settings n engine rbc rb found None).0
until_call settings n engine rbc rb None = tt
until_call settings n engine rbc rb (Some kmac) = until_event n end.Start (opened (end.Call settings engine rbc kmac rb n)) (omega arith)

pub until_befalls : (settings : Settings) (finds : Finds) (n : ℕ) (what : Event) (m : Option End) → IsUntil n m
    → IsUntil n (befalls_end settings finds n what m).0
until_befalls settings finds n (event.Call engine rbc rb) None p = until_call settings n engine rbc rb (finds n engine rbc)
until_befalls settings finds n (event.Call engine rbc rb) (Some m) p = p
until_befalls settings finds n (event.Answer rbc ra) None p = omega arith
until_befalls settings finds n (event.Answer rbc ra) (Some m) p = p
until_befalls settings finds n (event.Octets octets) None p = tt
until_befalls settings finds n (event.Octets octets) (Some m) p = until_event n (end.Come finds octets) m p
until_befalls settings finds n (event.Send text) None p = tt
until_befalls settings finds n (event.Send text) (Some m) p = until_event n (end.Send text) m p
until_befalls settings finds n event.Take None p = tt
until_befalls settings finds n event.Take (Some m) p = until_event n end.Take m p
until_befalls settings finds n (event.Release sub) None p = tt
until_befalls settings finds n (event.Release sub) (Some m) p = until_event n (end.Leave sub) m p
until_befalls settings finds n event.Tick None p = tt
until_befalls settings finds n event.Tick (Some m) p = until_event n end.Tick m p
until_befalls settings finds n event.Ended None p = tt
until_befalls settings finds n event.Ended (Some m) p = until_event n end.Ended m p
until_befalls settings finds n event.Fault None p = tt
until_befalls settings finds n event.Fault (Some m) p = until_event n end.Fault m p
until_befalls settings finds n event.Stalled None p = tt
until_befalls settings finds n event.Stalled (Some m) p = until_event n end.Stalled m p
until_befalls settings finds n (event.Full count) None p = tt
until_befalls settings finds n (event.Full count) (Some m) p = p
until_befalls settings finds n (event.Unserved count) None p = tt
until_befalls settings finds n (event.Unserved count) (Some m) p = p

-- ---- with look-ups that are the same at that moment

module _ (n : ℕ) (f g : Finds) (same : f n ≡ g n) where
  text_alike : (by : Carrier) (text : List ℕ) (x : Core) → At n x → on_text model f by text x ≡ on_text model g by text x
  text_alike by text x p =
      ap (λ (h : ℕ → ℕ → Option TripleKey). on_text model (λ (now : ℕ). h) by text x) (subst (λ (k : ℕ). f k ≡ g k) (sym p) same)

  deed_alike : (d : ReceptionDeed) (x : Core) → At n x → on_transport_deed model f d x ≡ on_transport_deed model g d x
  deed_alike Nothing x p = refl
  deed_alike (Called user) x p = text_alike InCr user x p
  deed_alike (Confirmed user) x p = text_alike InCc user x p
  deed_alike (Message message) x p = text_alike InDt message x p
  deed_alike (Disconnected user) x p = refl
  deed_alike (transport.Refused sub reason) x p = refl

  joined_alike : (answer : joining.BlockJoiningResult) (x : Core) → At n x → on_joined_block model f answer x ≡ on_joined_block model g answer x
  joined_alike (Ok None) x p = refl
  joined_alike (Ok (Some tpdu)) x p = deed_alike (model.deed x.upper tpdu) (record x { upper = model.hears x.upper tpdu }) p
  joined_alike (Err fault) x p = refl

  told_alike : (payload : Option (List ℕ)) (up : Bool) (released : Option Release) (x : Core) → At n x
      → on_link_told model f payload up released x ≡ on_link_told model g payload up released x
  told_alike (Some payload) up released x p =
      let joined = joining.block_step x.joined payload in joined_alike joined.1 (record x { joined = joined.0 }) p
  told_alike None true released x p = refl
  told_alike None false (Some why) x p = refl
  told_alike None false None x p = refl

  frame_alike : (verdict : Verdict) (x : Core) → At n x → step_frame model f n verdict x ≡ step_frame model g n verdict x
  frame_alike verdict x p =
      let y : Core = new_event_at model n x in
      let deed = model.told y.moment verdict y.line in
      let z : Core = record y { line = model.receives y.moment verdict y.line } in
      ap (λ (w : Core). if is_some y.released then y else conclude_event model w)
      (told_alike deed.payload deed.up deed.released z (at_begins n x (within n x p)))

  hears_alike : (verdicts : List Verdict) (x : Core) → At n x → hears_each f n verdicts x ≡ hears_each g n verdicts x
  hears_alike [] x p = refl
  hears_alike (verdict ∷ verdicts) x p =
      ap (hears_each f n verdicts) (frame_alike verdict x p)
      ∙ hears_alike verdicts (step_frame model g n verdict x) (at_frame n g verdict x (within n x p))

  tells_alike : (verdicts : List Verdict) (x : Core) → At n x → told_of_each f n verdicts x ≡ told_of_each g n verdicts x
  tells_alike [] x p = refl
  tells_alike (verdict ∷ verdicts) x p =
      let y : Core = step_frame model g n verdict x in
      ap (λ (z : Core). outcomes_of model z ++ told_of_each f n verdicts z) (frame_alike verdict x p)
      ∙ ap (λ (t : List Outcome). outcomes_of model y ++ t) (tells_alike verdicts y (at_frame n g verdict x (within n x p)))

  come_alike : (octets : List ℕ) (m : End) → m.core.moment ≤ n → step_event n (end.Come f octets) m ≡ step_event n (end.Come g octets) m
  come_alike octets m p =
      let x : Core = new_event_at model n m.core in
      let verdicts = news m.stream octets in
      let here = at_begins n m.core p in
      ap (λ (c : Core). (record { stream = m.stream ++ octets; core = c }, told_of_each f n verdicts x)) (hears_alike verdicts x here)
      ∙ ap (λ (t : List Outcome). (record { stream = m.stream ++ octets; core = hears_each g n verdicts x }, t)) (tells_alike verdicts x here)

  pub befalls_alike : (settings : Settings) (what : Event) (m : Option End) → IsUntil n m → befalls_end settings f n what m ≡ befalls_end settings g n what m
  befalls_alike settings (event.Call engine rbc rb) None p =
      ap (λ (h : ℕ → ℕ → Option TripleKey). end_behind_call settings n engine rbc rb (h engine rbc) None) same
  befalls_alike settings (event.Call engine rbc rb) (Some m) p = refl
  befalls_alike settings (event.Answer rbc ra) None p = refl
  befalls_alike settings (event.Answer rbc ra) (Some m) p = refl
  befalls_alike settings (event.Octets octets) None p = refl
  befalls_alike settings (event.Octets octets) (Some m) p =
      ap (λ (r : End × List Outcome). (Some r.0, r.1)) (come_alike octets m p)
  befalls_alike settings (event.Send text) None p = refl
  befalls_alike settings (event.Send text) (Some m) p = refl
  befalls_alike settings event.Take None p = refl
  befalls_alike settings event.Take (Some m) p = refl
  befalls_alike settings (event.Release sub) None p = refl
  befalls_alike settings (event.Release sub) (Some m) p = refl
  befalls_alike settings event.Tick None p = refl
  befalls_alike settings event.Tick (Some m) p = refl
  befalls_alike settings event.Ended None p = refl
  befalls_alike settings event.Ended (Some m) p = refl
  befalls_alike settings event.Fault None p = refl
  befalls_alike settings event.Fault (Some m) p = refl
  befalls_alike settings event.Stalled None p = refl
  befalls_alike settings event.Stalled (Some m) p = refl
  befalls_alike settings (event.Full count) None p = refl
  befalls_alike settings (event.Full count) (Some m) p = refl
  befalls_alike settings (event.Unserved count) None p = refl
  befalls_alike settings (event.Unserved count) (Some m) p = refl
