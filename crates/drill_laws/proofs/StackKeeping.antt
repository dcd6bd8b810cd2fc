-- What an event at a stack leaves of the count of messages that its user took; and no event but a send tells of a message that was sent.
use Rattle.std.proofs.Common.{◌≡◌, ℕ, zero, suc, ◌+◌, ◌-◌, ◌==◌, if◌then◌else◌, true, false, Bool, List, [], ◌∷◌, length, refl}
use Rattle.hdlc_station_model.specs.Receiving.{is_some_octets}
use Rattle.std.specs.Prelude.{◌&&◌, Option, Some, None, is_some, Ok, Err}
use Rattle.er_base.specs.declared.release.Release.{Release}
use Rattle.er_base.specs.declared.cause.Cause.TheVariants.{User, BlockRefused, SetUpTimeSpent}
use Rattle.er_base.specs.Causes.{release_of, by_this_end}
use Rattle.des_block.specs.declared.triple_key.TripleKey.{TripleKey}
use Rattle.hdlc_frames.specs.Framing.{Verdict}
use Rattle.hdlc_station_model.specs.Stations.{Deed as LinkDeed}
use Rattle.t70_header.specs.Joining as joining
use Rattle.x224_class2.specs.Tpdus.{Dr, Dc}
use Rattle.x224_class2.specs.Transport.{ReceptionDeed, Nothing, Called, Confirmed, Message, Disconnected}
use Rattle.x224_class2.specs.Transport as transport
use Rattle.x224_class2.specs.Refusals.{protocol_error}
use Rattle.sapdu.specs.Spelling.{di_in}
use Rattle.safety_automaton.specs.Safety.{no_keys, Safety, SafetyEvent, ConnectRequest, Received, DataRequest, DisconnectRequest, SafetyOutcome, peer_flag, octets_sent_in_outcome, step}
use Rattle.safety_automaton.specs.Rules.{StepsOnly}
use Rattle.safety_automaton.specs.Reports.{Report, ToldAnswered, ToldConnected, ToldAccepted, ToldReleased, ToldIgnored, report_of}
use Rattle.er_end_model.specs.Layers.{Core, model}
use Rattle.er_end_model.specs.Steps.{Finds, new_event_at, with_release, hand_tpdu, close_link, send_owed_answer, send_dr, answer_dr, end_after_di, on_safety_release, why_of, with_safety_step, hand_text, accept_text, skip_message, Carrier, InCr, InCc, InDt, hand_answer, keep_message, on_safety_report, on_text, on_transport_deed, on_joined_block, is_ready, connect_with_text, on_link_up, on_link_told, on_link_deed, hand_next_tpdu, has_next_tpdu, hand_waiting_tpdus, most_offers, conclude_event, step_start, step_frame, is_connected, refusal_of, step_send_unless, step_take, step_release, is_spent, di_of, on_expiry, step_tick, normal_disconnect}
use Rattle.drill_laws.proofs.StackSaying.{sent_in_step, sent_by_step, no_send, unrefused, send_step}

if_core : (P : Core → Type 0) (b : Bool) (x y : Core) → P x → P y → P (if b then x else y)
if_core P true x y hx hy = hx
if_core P false x y hx hy = hy

module _ (U : ℕ) (T : List (List ℕ)) where
  -- so many messages were taken, and the step of the safety side in this event sent these
  abbrev pub Keeps : Core → Type 0
  Keeps x = (x.upper.used ≡ U) × (sent_in_step x.upper.spoke ≡ T)

  departs_keep : (why : Release) (reason : ℕ) (user : List ℕ) (x : Core) → Keeps x → Keeps (send_dr model why reason user x)
  departs_keep why reason user x h = if_core (λ y. Keeps (with_release why (close_link model y))) (model.may_send x.line) (hand_tpdu model (Dr reason user) x) x h h

  cut_off_keeps : (why : Release) (x : Core) → Keeps x → Keeps (answer_dr model why x)
  cut_off_keeps why x h = if_core (λ y. Keeps (with_release why (send_owed_answer model y))) (model.may_send x.line) (hand_tpdu model Dc x) x h h

  parts_keep : (why : Release) (di : List ℕ) (x : Core) → Keeps x → Keeps (on_safety_release model why di x)
  parts_keep why di x h = if_core Keeps why.by_peer (end_after_di model why x) (send_dr model why normal_disconnect di x) h (departs_keep why normal_disconnect di x h)

  says_keep : (text : List ℕ) (x : Core) → Keeps x → Keeps (hand_text model text x)
  says_keep text x h = if_core Keeps (is_some_octets text && model.may_hand x.upper) (record x { upper = model.hands_message x.upper text }) x h h

  accepts_keep : (text : List ℕ) (x : Core) → Keeps x → Keeps (accept_text model text x)
  accepts_keep text x h = if_core Keeps (is_some_octets text) (record x { upper = model.accepts x.upper text }) x h h

  answers_keep : (carrier : Carrier) (text : List ℕ) (x : Core) → Keeps x → Keeps (hand_answer model carrier text x)
  answers_keep InCr text x h = accepts_keep text x h
  answers_keep InCc text x h = says_keep text x h
  answers_keep InDt text x h = says_keep text (skip_message model x) h

  keeps_keep : (carrier : Carrier) (user : List ℕ) (x : Core) → Keeps x → Keeps (keep_message model carrier user x)
  keeps_keep InCr user x h = h
  keeps_keep InCc user x h = h
  keeps_keep InDt user x h = h

  acts_keep : (carrier : Carrier) (report : Report) (octets : List ℕ) (x : Core) → Keeps x → Keeps (on_safety_report model carrier report octets x)
  acts_keep carrier ToldAnswered octets x h = answers_keep carrier octets x h
  acts_keep carrier (ToldConnected peer) octets x h = answers_keep carrier octets x h
  acts_keep carrier (ToldAccepted user) octets x h = keeps_keep carrier user x h
  acts_keep carrier (ToldReleased why) octets x h = parts_keep why octets x h
  acts_keep carrier ToldIgnored octets x h = h

  offers_keep : (n : ℕ) (x : Core) → Keeps x → Keeps (hand_waiting_tpdus model n x)
  unfolding hand_waiting_tpdus
  offers_keep zero x h = h
  offers_keep (suc n) x h = if_core Keeps (has_next_tpdu model x) (hand_waiting_tpdus model n (hand_next_tpdu model x)) x (offers_keep n (hand_next_tpdu model x) h) h

  concludes_keep : (x : Core) → Keeps x → Keeps (conclude_event model x)
  concludes_keep x h = if_core Keeps (is_some x.released) x (send_owed_answer model (hand_waiting_tpdus model most_offers x)) h (offers_keep most_offers x h)

  time_keeps : (why : Option Release) (x : Core) → Keeps x → Keeps (on_expiry model why x)
  time_keeps (Some why) x h = h
  time_keeps None x h =
      let why : Release = release_of SetUpTimeSpent in
      if_core Keeps (is_spent x) (send_dr model why normal_disconnect (di_of why x.safe.safety) x) x (departs_keep why normal_disconnect (di_of why x.safe.safety) x h) h

-- ---- the events that are no send

module _ (only : StepsOnly) where
  -- no step of the safety side but that of a send
  sends_none : (key_of : ℕ → ℕ → Option TripleKey) (s : Safety) (event : SafetyEvent) → ((user : List ℕ) → event ≡ DataRequest user → ⊥)
      → sent_by_step (step key_of s event).1 ≡ []
  sends_none key_of s event other = no_send key_of s event (step key_of s event).0 (step key_of s event).1 other (only key_of s event)

  -- the side took no step yet, and so many messages were taken
  abbrev Still : ℕ → Core → Type 0
  Still U x = Keeps U [] x

  text_keeps : (U : ℕ) (finds : Finds) (carrier : Carrier) (text : List ℕ) (x : Core) → Still U x → Keeps U [] (on_text model finds carrier text x)
  text_keeps U finds carrier text x h =
      let a : Safety × SafetyOutcome = step (finds x.moment) x.safe.safety (Received text) in
      acts_keep U [] carrier (report_of a.1) (octets_sent_in_outcome a.1) (with_safety_step model (Received text) a x)
      (h.0, sends_none (finds x.moment) x.safe.safety (Received text) (λ user e. cc))

  does_keep : (U : ℕ) (finds : Finds) (deed : ReceptionDeed) (x : Core) → Still U x → Keeps U [] (on_transport_deed model finds deed x)
  does_keep U finds Nothing x h = h
  does_keep U finds (Called user) x h = text_keeps U finds InCr user x h
  does_keep U finds (Confirmed user) x h = text_keeps U finds InCc user x h
  does_keep U finds (Message message) x h = text_keeps U finds InDt message x h
  does_keep U finds (Disconnected user) x h = cut_off_keeps U [] (why_of (di_in user (peer_flag x.safe.safety))) x h
  does_keep U finds (transport.Refused sub reason) x h = departs_keep U [] (by_this_end 2 sub) reason [] x h

  block_keeps : (U : ℕ) (finds : Finds) (answer : joining.BlockJoiningResult) (x : Core) → Still U x → Keeps U [] (on_joined_block model finds answer x)
  block_keeps U finds (Ok None) x h = h
  block_keeps U finds (Ok (Some tpdu)) x h = does_keep U finds (model.deed x.upper tpdu) (record x { upper = model.hears x.upper tpdu }) h
  block_keeps U finds (Err fault) x h = departs_keep U [] (release_of BlockRefused) protocol_error [] x h

  comes_up_keeps : (U : ℕ) (x : Core) → Still U x → Keeps U [] (on_link_up model x)
  comes_up_keeps U x h =
      let a : Safety × SafetyOutcome = step no_keys x.safe.safety ConnectRequest in
      let y : Core = with_safety_step model ConnectRequest a x in
      let now : Keeps U [] y = (h.0, sends_none no_keys x.safe.safety ConnectRequest (λ user e. cc)) in
      if_core (Keeps U []) (model.may_connect x.upper && is_ready x.safe.safety.phase) (connect_with_text model (octets_sent_in_outcome a.1) y) x
      (if_core (Keeps U []) (is_some_octets (octets_sent_in_outcome a.1)) (record y { upper = model.connects y.upper (octets_sent_in_outcome a.1) }) y now now) h

  link_keeps : (U : ℕ) (finds : Finds) (payload : Option (List ℕ)) (up : Bool) (why : Option Release) (x : Core) → Still U x
      → Keeps U [] (on_link_told model finds payload up why x)
  link_keeps U finds (Some payload) up why x h = block_keeps U finds (joining.block_step x.joined payload).1 (record x { joined = (joining.block_step x.joined payload).0 }) h
  link_keeps U finds None true why x h = comes_up_keeps U x h
  link_keeps U finds None false (Some why) x h = h
  link_keeps U finds None false None x h = h

  pub starts_keep : (now : ℕ) (x : Core) → Keeps x.upper.used [] (step_start model now x)
  starts_keep now x =
      let y : Core = new_event_at model now x in
      let z : Core = record y { line = model.starts y.moment y.line } in
      if_core (Keeps x.upper.used []) (is_some y.released) y (conclude_event model z) (refl, refl) (concludes_keep x.upper.used [] z (refl, refl))

  pub comes_keep : (finds : Finds) (now : ℕ) (verdict : Verdict) (x : Core) → Keeps x.upper.used [] (step_frame model finds now verdict x)
  comes_keep finds now verdict x =
      let y : Core = new_event_at model now x in
      let z : Core = record y { line = model.receives y.moment verdict y.line } in
      let deed : LinkDeed = model.told y.moment verdict y.line in
      if_core (Keeps x.upper.used []) (is_some y.released) y (conclude_event model (on_link_deed model finds deed z)) (refl, refl)
      (concludes_keep x.upper.used [] (on_link_deed model finds deed z) (link_keeps x.upper.used finds deed.payload deed.up deed.released z (refl, refl)))

  pub leaves_keep : (now sub : ℕ) (x : Core) → Keeps x.upper.used [] (step_release model now sub x)
  leaves_keep now sub x =
      let y : Core = new_event_at model now x in
      let a : Safety × SafetyOutcome = step no_keys y.safe.safety (DisconnectRequest sub) in
      let z : Core = with_safety_step model (DisconnectRequest sub) a y in
      if_core (Keeps x.upper.used []) (is_some y.released) y (send_dr model (release_of (User sub)) normal_disconnect (octets_sent_in_outcome a.1) z) (refl, refl)
      (departs_keep x.upper.used [] (release_of (User sub)) normal_disconnect (octets_sent_in_outcome a.1) z
      (refl, sends_none no_keys y.safe.safety (DisconnectRequest sub) (λ user e. cc)))

  pub ticks_keep : (now : ℕ) (x : Core) → Keeps x.upper.used [] (step_tick model now x)
  ticks_keep now x =
      let y : Core = new_event_at model now x in
      let z : Core = record y { line = model.ticks y.moment y.line } in
      let why : Option Release = model.given_up y.moment y.line in
      if_core (Keeps x.upper.used []) (is_some y.released) y (conclude_event model (on_expiry model why z)) (refl, refl)
      (concludes_keep x.upper.used [] (on_expiry model why z) (time_keeps x.upper.used [] why z (refl, refl)))

-- a message is taken where one waits
pub uses_none : (now : ℕ) (x : Core) → (length x.upper.accepted - x.upper.used == 0) ≡ true → Keeps x.upper.used [] (step_take model now x)
uses_none now x none = rw none (refl, refl)

pub uses_one : (now : ℕ) (x : Core) → (length x.upper.accepted - x.upper.used == 0) ≡ false → Keeps (x.upper.used + 1) [] (step_take model now x)
uses_one now x some =
    let y : Core = new_event_at model now x in
    let z : Core = record y { upper = model.uses y.upper } in
    rw some (concludes_keep (x.upper.used + 1) [] z (refl, refl))

-- a send that isn't refused
pub sends_keep : (now : ℕ) (user : List ℕ) (x : Core) → refusal_of model user x ≡ None → Keeps x.upper.used (user ∷ []) (step_send_unless model None now user x)
sends_keep now user x none =
    let on_safety_release = unrefused x.released (is_connected x.safe.safety.phase) user (model.waiting x.upper) none in
    let y : Core = new_event_at model now x in
    let a : Safety × SafetyOutcome = step no_keys y.safe.safety (DataRequest user) in
    let z : Core = record (with_safety_step model (DataRequest user) a y) { upper = model.sends (with_safety_step model (DataRequest user) a y).upper user } in
    let h : Keeps x.upper.used (user ∷ []) z = (refl, send_step y.safe.safety y.safe.safety.phase user on_safety_release.1.0 on_safety_release.1.1) in
    concludes_keep x.upper.used (user ∷ []) (hand_text model (octets_sent_in_outcome a.1) z) (says_keep x.upper.used (user ∷ []) (octets_sent_in_outcome a.1) z h)
