-- What an event adds to what an end accepted and sent.
use Rattle.std.proofs.Common.{◌≡◌, ◌∙◌, ℕ, zero, suc, ◌-◌, Bool, true, false, ◌&&◌, List, [], ◌∷◌, ◌++◌, length, Option, Some, None, Ok, Err, refl, sym, ap, subst, append-nil}
use Rattle.hdlc_station_model.specs.Receiving.{is_some_octets}
use Rattle.std.specs.Prelude.{◌==◌, is_some, if◌then◌else◌}
use Rattle.std.specs.Option.{option_to_list}
use Rattle.er_base.specs.declared.release.Release.{Release}
use Rattle.er_base.specs.declared.cause.Cause.{Cause}
use Rattle.er_base.specs.declared.cause.Cause.TheVariants.{User, BlockRefused, SetUpTimeSpent}
use Rattle.er_base.specs.Causes.{release_of, by_this_end}
use Rattle.hdlc_frames.specs.Framing.{Verdict}
use Rattle.hdlc_station_model.specs.Calls as station
use Rattle.t70_header.specs.Joining as joining
use Rattle.x224_class2.specs.Refusals.{protocol_error}
use Rattle.x224_class2.specs.Tpdus.{GivenTpdu, Dr, Dc}
use Rattle.x224_class2.specs.Transport.{ReceptionDeed, Nothing, Called, Confirmed, Message, Disconnected}
use Rattle.x224_class2.specs.Transport as transport
use Rattle.sapdu.specs.Spelling.{di_in}
use Rattle.safety_automaton.specs.Safety.{no_keys, Safety, SafetyOutcome, ConnectRequest, Received, DataRequest, DisconnectRequest, octets_sent_in_outcome, peer_flag, step}
use Rattle.safety_automaton.specs.Reports.{KeptSafe, Report, ToldAnswered, ToldConnected, ToldAccepted, ToldReleased, ToldIgnored, report_of}
use Rattle.er_end_model.specs.Steps.{Finds, new_event, new_event_at, hand_tpdu_if_may, send_dr, answer_dr, on_safety_release, why_of, normal_disconnect, with_safety_step, hand_text, skip_message, Carrier, InCr, InCc, InDt, hand_answer, keep_message, on_safety_report, on_text, on_transport_deed, on_joined_block, is_ready, connect_with_text, on_link_up, on_link_told, hand_next_tpdu, has_next_tpdu, hand_waiting_tpdus, most_offers, send_owed_answer, conclude_event, step_start, step_frame, on_send, step_take, step_release, is_spent, di_of, on_expiry, step_tick, step_break}
use Rattle.er_end_model.specs.Layers.{Core, model}
use Rattle.er_end_model.specs.Hearing.{station_behind}

-- what was accepted and sent, and the message that was accepted in this event
pub record Lists : Type 0 where
  pub accepted : List (List ℕ)
  pub sent : List (List ℕ)
  pub news : Option (List ℕ)

abbrev pub lists : Core → Lists
lists x = record { accepted = x.upper.accepted; sent = x.upper.sent; news = x.upper.news }

lists_if : (b : Bool) (x y : Core) (v : Lists) → lists x ≡ v → lists y ≡ v → lists (if b then x else y) ≡ v
lists_if true x y v h g = h
lists_if false x y v h g = g

offers_lists : (n : ℕ) (x : Core) → lists (hand_waiting_tpdus model n x) ≡ lists x
unfolding hand_waiting_tpdus
offers_lists zero x = refl
offers_lists (suc n) x = lists_if (has_next_tpdu model x) (hand_waiting_tpdus model n (hand_next_tpdu model x)) x (lists x) (offers_lists n (hand_next_tpdu model x)) refl

pub concludes_lists : (x : Core) → lists (conclude_event model x) ≡ lists x
concludes_lists x = lists_if (is_some x.released) x _ (lists x) refl (offers_lists most_offers x)

gives_lists : (g : GivenTpdu) (x : Core) → lists (hand_tpdu_if_may model g x) ≡ lists x
gives_lists g x = lists_if (model.may_send x.line) _ x (lists x) refl refl

departs_lists : (why : Release) (reason : ℕ) (user : List ℕ) (x : Core) → lists (send_dr model why reason user x) ≡ lists x
departs_lists why reason user x = gives_lists (Dr reason user) x

cut_off_lists : (why : Release) (x : Core) → lists (answer_dr model why x) ≡ lists x
cut_off_lists why x = gives_lists Dc x

parts_lists : (why : Release) (di : List ℕ) (x : Core) → lists (on_safety_release model why di x) ≡ lists x
parts_lists why di x = lists_if why.by_peer _ _ (lists x) refl (departs_lists why normal_disconnect di x)

says_lists : (text : List ℕ) (x : Core) → lists (hand_text model text x) ≡ lists x
says_lists text x = lists_if (is_some_octets text && model.may_hand x.upper) _ x (lists x) refl refl

answers_lists : (by : Carrier) (text : List ℕ) (x : Core) → lists (hand_answer model by text x) ≡ lists x
answers_lists InCr text x = lists_if (is_some_octets text) _ x (lists x) refl refl
answers_lists InCc text x = says_lists text x
answers_lists InDt text x = says_lists text (skip_message model x)

-- ---- what is claimed

-- behind an end with these lists
pub record Grows (accepted on_send : List (List ℕ)) (v : Lists) : Type 0 where
  pub accepted_is : v.accepted ≡ accepted ++ option_to_list v.news
  pub sent_is : v.sent ≡ on_send

module _ (a t : List (List ℕ)) where
  -- nothing new
  abbrev old : Lists
  old = record { accepted = a; sent = t; news = None }

  same : (v : Lists) → v ≡ old → Grows a t v
  same v e = subst (λ (w : Lists). Grows a t w) (sym e) (record { accepted_is = sym (append-nil a); sent_is = refl })

  like : (v w : Lists) → w ≡ v → Grows a t v → Grows a t w
  like v w e h = subst (λ (z : Lists). Grows a t z) (sym e) h

  keeps_grow : (by : Carrier) (user : List ℕ) (x : Core) → lists x ≡ old → Grows a t (lists (keep_message model by user x))
  keeps_grow InCr user x e = same (lists x) e
  keeps_grow InCc user x e = same (lists x) e
  keeps_grow InDt user x e = record { accepted_is = ap (λ (v : Lists). v.accepted ++ user ∷ []) e; sent_is = ap (λ (v : Lists). v.sent) e }

  acts_grow : (by : Carrier) (report : Report) (octets : List ℕ) (x : Core) → lists x ≡ old → Grows a t (lists (on_safety_report model by report octets x))
  acts_grow by ToldAnswered octets x e = same _ (answers_lists by octets x ∙ e)
  acts_grow by (ToldConnected peer) octets x e = same _ (answers_lists by octets x ∙ e)
  acts_grow by (ToldAccepted user) octets x e = keeps_grow by user x e
  acts_grow by (ToldReleased why) octets x e = same _ (parts_lists why octets x ∙ e)
  acts_grow by ToldIgnored octets x e = same _ e

  text_grows : (finds : Finds) (by : Carrier) (text : List ℕ) (x : Core) → lists x ≡ old → Grows a t (lists (on_text model finds by text x))
  text_grows finds by text x e =
      let s : Safety × SafetyOutcome = step (finds x.moment) x.safe.safety (Received text) in
      acts_grow by (report_of s.1) (octets_sent_in_outcome s.1) (with_safety_step model (Received text) s x) e

  deed_grows : (finds : Finds) (d : ReceptionDeed) (x : Core) → lists x ≡ old → Grows a t (lists (on_transport_deed model finds d x))
  deed_grows finds Nothing x e = same _ e
  deed_grows finds (Called user) x e = text_grows finds InCr user x e
  deed_grows finds (Confirmed user) x e = text_grows finds InCc user x e
  deed_grows finds (Message message) x e = text_grows finds InDt message x e
  deed_grows finds (Disconnected user) x e = same _ (cut_off_lists (why_of (di_in user (peer_flag x.safe.safety))) x ∙ e)
  deed_grows finds (transport.Refused sub reason) x e = same _ (departs_lists (by_this_end 2 sub) reason [] x ∙ e)

  block_grows : (finds : Finds) (answer : joining.BlockJoiningResult) (x : Core) → lists x ≡ old → Grows a t (lists (on_joined_block model finds answer x))
  block_grows finds (Ok None) x e = same _ e
  block_grows finds (Ok (Some tpdu)) x e =
      deed_grows finds (model.deed x.upper tpdu) (record x { upper = model.hears x.upper tpdu }) e
  block_grows finds (Err fault) x e = same _ (departs_lists (release_of BlockRefused) protocol_error [] x ∙ e)

  up_lists : (x : Core) → lists (on_link_up model x) ≡ lists x
  up_lists x =
      let s : Safety × SafetyOutcome = step no_keys x.safe.safety ConnectRequest in
      let z : Core = with_safety_step model ConnectRequest s x in
      lists_if (model.may_connect x.upper && is_ready x.safe.safety.phase) (connect_with_text model (octets_sent_in_outcome s.1) z) x (lists x)
      (lists_if (is_some_octets (octets_sent_in_outcome s.1)) _ z (lists x) refl refl) refl

  link_grows : (finds : Finds) (payload : Option (List ℕ)) (up : Bool) (released : Option Release) (x : Core) → lists x ≡ old
      → Grows a t (lists (on_link_told model finds payload up released x))
  link_grows finds (Some payload) up released x e =
      let joined = joining.block_step x.joined payload in block_grows finds joined.1 (record x { joined = joined.0 }) e
  link_grows finds None true released x e = same _ (up_lists x ∙ e)
  link_grows finds None false (Some why) x e = same _ e
  link_grows finds None false None x e = same _ e

  unless : (r : Option Release) (x y : Core) → Grows a t (lists x) → Grows a t (lists y) → Grows a t (lists (if is_some r then x else y))
  unless None x y h g = g
  unless (Some why) x y h g = h

-- ---- the events

module _ (now : ℕ) (x : Core) where
  abbrev b : Core
  b = new_event_at model now x

  abbrev Claim : Core → Type 0
  Claim y = Grows x.upper.accepted x.upper.sent (lists y)

  quiet : (y : Core) → lists y ≡ lists b → Claim y
  quiet y e = same x.upper.accepted x.upper.sent (lists y) e

  pub comes_grow : (finds : Finds) (v : Verdict) → Claim (step_frame model finds now v x)
  comes_grow finds v =
      let z : Core = record b { line = station_behind x now v } in
      let d = (station_behind x now v).deed in
      let y : Core = on_link_told model finds d.payload d.up d.released z in
      unless x.upper.accepted x.upper.sent x.released b (conclude_event model y) (quiet b refl)
      (like x.upper.accepted x.upper.sent (lists y) (lists (conclude_event model y)) (concludes_lists y) (link_grows x.upper.accepted x.upper.sent finds d.payload d.up d.released z refl))

  pub starts_grow : Claim (step_start model now x)
  starts_grow =
      let z : Core = record b { line = station.starts b.moment b.line } in
      quiet (step_start model now x) (lists_if (is_some x.released) b (conclude_event model z) (lists b) refl (concludes_lists z))

  pub uses_grow : Claim (step_take model now x)
  uses_grow =
      let z : Core = record b { upper = model.uses b.upper } in
      quiet (step_take model now x) (lists_if (length x.upper.accepted - x.upper.used == 0) b (conclude_event model z) (lists b) refl (concludes_lists z))

  pub leaves_grow : (sub : ℕ) → Claim (step_release model now sub x)
  leaves_grow sub =
      let s : Safety × SafetyOutcome = step no_keys x.safe.safety (DisconnectRequest sub) in
      let z : Core = with_safety_step model (DisconnectRequest sub) s b in
      let y : Core = send_dr model (release_of (User sub)) normal_disconnect (octets_sent_in_outcome s.1) z in
      quiet (step_release model now sub x) (lists_if (is_some x.released) b y (lists b) refl (departs_lists (release_of (User sub)) normal_disconnect (octets_sent_in_outcome s.1) z))

  time_lists : (given_up : Option Release) (z : Core) → lists (on_expiry model given_up z) ≡ lists z
  time_lists (Some why) z = refl
  time_lists None z =
      lists_if (is_spent z) _ z (lists z) (departs_lists (release_of SetUpTimeSpent) normal_disconnect (di_of (release_of SetUpTimeSpent) z.safe.safety) z) refl

  pub ticks_grow : Claim (step_tick model now x)
  ticks_grow =
      let z : Core = record b { line = station.ticks b.moment b.line } in
      let y : Core = on_expiry model (model.given_up b.moment b.line) z in
      quiet (step_tick model now x) (lists_if (is_some x.released) b (conclude_event model y) (lists b) refl (concludes_lists y ∙ time_lists (model.given_up b.moment b.line) z))

  pub breaks_grow : (cause : Cause) → Claim (step_break model cause x)
  breaks_grow cause = quiet (step_break model cause x) (lists_if (is_some x.released) (new_event model x) _ (lists b) refl refl)

  -- a send that isn't refused
  pub sent_grows : (user : List ℕ) → Grows x.upper.accepted (x.upper.sent ++ user ∷ []) (lists (on_send model user b))
  sent_grows user =
      let s : Safety × SafetyOutcome = step no_keys x.safe.safety (DataRequest user) in
      let y : Core = with_safety_step model (DataRequest user) s b in
      let z : Core = record y { upper = model.sends y.upper user } in
      same x.upper.accepted (x.upper.sent ++ user ∷ []) (lists (on_send model user b)) (concludes_lists (hand_text model (octets_sent_in_outcome s.1) z) ∙ says_lists (octets_sent_in_outcome s.1) z)

  -- its safety side took the step of the request, and nothing else
  safe_offers : (n : ℕ) (z : Core) → (hand_waiting_tpdus model n z).safe ≡ z.safe
  unfolding hand_waiting_tpdus
  safe_offers zero z = refl
  safe_offers (suc n) z = safe_if (has_next_tpdu model z) (hand_waiting_tpdus model n (hand_next_tpdu model z)) z (safe_offers n (hand_next_tpdu model z))
    where
      safe_if : (c : Bool) (v w : Core) → v.safe ≡ z.safe → (if c then v else z).safe ≡ z.safe
      safe_if true v w h = h
      safe_if false v w h = refl

  safe_unless : (r : Option Release) (v w : Core) → v.safe ≡ w.safe → (if is_some r then w else v).safe ≡ w.safe
  safe_unless None v w h = h
  safe_unless (Some why) v w h = refl

  safe_says : (text : List ℕ) (z : Core) → (hand_text model text z).safe ≡ z.safe
  safe_says text z = by (is_some_octets text && model.may_hand z.upper)
    where
      by : (c : Bool) → (if c then record z { upper = model.hands_message z.upper text } else z).safe ≡ z.safe
      by true = refl
      by false = refl

  pub sent_safe : (user : List ℕ) → (on_send model user b).safe.safety ≡ (step no_keys x.safe.safety (DataRequest user)).0
  sent_safe user =
      let s : Safety × SafetyOutcome = step no_keys x.safe.safety (DataRequest user) in
      let y : Core = with_safety_step model (DataRequest user) s b in
      let z : Core = record y { upper = model.sends y.upper user } in
      let w : Core = hand_text model (octets_sent_in_outcome s.1) z in
      let e : (conclude_event model w).safe ≡ z.safe = safe_unless w.released (send_owed_answer model (hand_waiting_tpdus model most_offers w)) w (safe_offers most_offers w) ∙ safe_says (octets_sent_in_outcome s.1) z in
      ap (λ (k : KeptSafe). k.safety) e
