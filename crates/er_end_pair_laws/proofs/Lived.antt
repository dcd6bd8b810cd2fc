-- An event at an end that lives on behind it, as calls of its station: one call, then payloads that are handed down, then the answer that is
-- owed. What outlasts these outlasts the event.
use Rattle.std.proofs.Common.{◌≡◌, ℕ, zero, suc, ◌-◌, Bool, true, false, ◌&&◌, List, length, Option, Some, None, refl, sym, ◌∙◌, subst}
use Rattle.hdlc_station_model.specs.Receiving.{is_some_octets}
use Rattle.std.specs.Prelude.{◌==◌, if◌then◌else◌, is_some, nat_lt}
use Rattle.std.proofs.lemmas.Bool.{cond_both}
use Rattle.er_base.specs.declared.release.Release.{Release}
use Rattle.er_base.specs.declared.cause.Cause.TheVariants.{SetUpTimeSpent}
use Rattle.er_base.specs.Causes.{release_of}
use Rattle.hdlc_frames.specs.Framing.{Verdict}
use Rattle.hdlc_station_model.specs.Stations.{Station}
use Rattle.hdlc_station_model.specs.Calls as station
use Rattle.t70_header.specs.Blocks.{last_block}
use Rattle.safety_automaton.specs.Safety.{no_keys, DataRequest, step, octets_sent_in_outcome}
use Rattle.x224_class2.specs.Transport.{is_open, waiting_count}
use Rattle.er_end_model.specs.Layers.{Core, model}
use Rattle.er_end_model.specs.Steps.{Finds, with_safety_step, on_link_deed, conclude_event, on_frame, on_tick, on_expiry, send_dr, di_of, is_spent, on_take, on_send, on_release, on_start, hand_next_tpdu, has_next_tpdu, hand_waiting_tpdus, most_offers, send_owed_answer}
use Rattle.er_end_pair_laws.specs.Openings.{EndLinkOpening}
use Rattle.er_end_pair_laws.proofs.Events.{with_line}
use Rattle.er_end_pair_laws.proofs.Stations.{link_stays, offered_released}

-- ---- an end that is live behind an event was so before it

some_none : (o : Option Release) (why : Release) → o ≡ Some why → o ≡ None → ⊥
some_none None why e h = cc
some_none (Some release) why e h = cc

pub concluded_released : (x : Core) → (conclude_event model x).released ≡ x.released
concluded_released x =
    cond_both (is_some x.released) x (send_owed_answer model (hand_waiting_tpdus model most_offers x)) (λ z. z.released ≡ x.released) (λ e. refl) (λ e. offered_released most_offers x)

-- what a released end leaves as it is
unless_before : (x z : Core) → (if is_some x.released then x else z).released ≡ None → x.released ≡ None
unless_before x z h = by x.released refl h
  where
    by : (o : Option Release) → x.released ≡ o → (if is_some o then x else z).released ≡ None → x.released ≡ None
    by None e h = e
    by (Some why) e h = h

pub received_before : (finds : Finds) (verdict : Verdict) (x : Core) → (on_frame model finds verdict x).released ≡ None → x.released ≡ None
received_before finds verdict x h = unless_before x _ h

pub sent_released : (user : List ℕ) (x : Core) → (on_send model user x).released ≡ x.released
sent_released user x =
    let a = step no_keys x.safe.safety (DataRequest user) in
    let z : Core = with_safety_step model (DataRequest user) a x in
    let z' : Core = record z { upper = model.sends z.upper user } in
    let told : Core = record z' { upper = model.hands_message z'.upper (octets_sent_in_outcome a.1) } in
    cond_both (is_some_octets (octets_sent_in_outcome a.1) && (is_open z'.upper.transport.stage && nat_lt (waiting_count z'.upper.transport) 16)) told z'
    (λ t. (conclude_event model t).released ≡ x.released) (λ e. concluded_released told) (λ e. concluded_released z')

pub ticked_before : (x : Core) → (on_tick model x).released ≡ None → x.released ≡ None
ticked_before x h = unless_before x _ h

pub left_never : (sub : ℕ) (x : Core) → (on_release model sub x).released ≡ None → ⊥
left_never sub x h = by x.released refl h
  where
    by : (o : Option Release) → x.released ≡ o → (on_release model sub (record x { released = o })).released ≡ None → ⊥
    by None e h = cc
    by (Some why) e h = cc

pub used_released : (x : Core) → (on_take model x).released ≡ x.released
used_released x =
    let z : Core = record x { upper = model.uses x.upper } in
    cond_both (length x.upper.accepted - x.upper.used == 0) x (conclude_event model z) (λ t. t.released ≡ x.released) (λ e. refl) (λ e. concluded_released z)

pub started_released : (x : Core) → (on_start model x).released ≡ x.released
started_released x =
    let z : Core = with_line x (station.starts x.moment x.line) in
    cond_both (is_some x.released) x (conclude_event model z) (λ t. t.released ≡ x.released) (λ e. refl) (λ e. concluded_released z)

-- where the station gave up or the time for the set-up is spent, the end is released
time_stays : (o : Option Release) (x : Core) → (on_expiry model o x).released ≡ None → (on_expiry model o x).line ≡ x.line
time_stays (Some why) x h = absurd (let u : ⊥ = cc in u)
time_stays None x h =
    let why : Release = release_of SetUpTimeSpent in
    let leaves : Core = send_dr model why 128 (di_of why x.safe.safety) x in
    by (is_spent x) leaves refl h
  where
    by : (b : Bool) (z : Core) → z.released ≡ Some (release_of SetUpTimeSpent) → (if b then z else x).released ≡ None → (if b then z else x).line ≡ x.line
    by true z e h = absurd (some_none z.released (release_of SetUpTimeSpent) e h)
    by false z e h = refl

-- ---- what outlasts the calls of its station

module _ (M D : Station → Type 0) (hands : (now : ℕ) (p : List ℕ) (x : Station) → M x → M (station.hands now p x)) (ends : (x : Station) → M x → D (station.finishes x)) where
  offered_lived : (m : ℕ) (x : Core) → M x.line → M (hand_waiting_tpdus model m x).line
  unfolding hand_waiting_tpdus
  offered_lived zero x h = h
  offered_lived (suc m) x h =
      cond_both (has_next_tpdu model x) (hand_waiting_tpdus model m (hand_next_tpdu model x)) x (λ z. M z.line)
      (λ e. offered_lived m (hand_next_tpdu model x) (hands x.moment (last_block (model.next x.upper)) x.line h)) (λ e. h)

  concluded_lived : (x : Core) → (conclude_event model x).released ≡ None → M x.line → D (conclude_event model x).line
  concluded_lived x live h =
      let z : Core = send_owed_answer model (hand_waiting_tpdus model most_offers x) in
      let none : x.released ≡ None = sym (concluded_released x) ∙ live in
      subst (λ (o : Option Release). D (if is_some o then x else z).line) (sym none) (ends (hand_waiting_tpdus model most_offers x).line (offered_lived most_offers x h))

  -- an event that a released end leaves as it is
  unless_lived : (x z : Core) → (if is_some x.released then x else conclude_event model z).released ≡ None → (z.released ≡ None → M z.line)
      → D (if is_some x.released then x else conclude_event model z).line
  unless_lived x z live mid =
      let none : x.released ≡ None = unless_before x (conclude_event model z) live in
      let behind : (conclude_event model z).released ≡ None = subst (λ (o : Option Release). (if is_some o then x else conclude_event model z).released ≡ None) none live in
      subst (λ (o : Option Release). D (if is_some o then x else conclude_event model z).line) (sym none)
      (concluded_lived z behind (mid (sym (concluded_released z) ∙ behind)))

  pub received_lived : (s : EndLinkOpening) (verdict : Verdict) (x : Core) → (on_frame model s.finder verdict x).released ≡ None → M (station.receives x.moment verdict x.line)
      → D (on_frame model s.finder verdict x).line
  received_lived s verdict x live h =
      let line : Station = station.receives x.moment verdict x.line in
      unless_lived x (on_link_deed model s.finder line.deed (with_line x line)) live
      (λ e. subst M (sym ((link_stays s.finder line.deed.payload line.deed.up line.deed.released (with_line x line)).line e)) h)

  pub ticked_lived : (x : Core) → (on_tick model x).released ≡ None → M (station.ticks x.moment x.line) → D (on_tick model x).line
  ticked_lived x live h =
      let line : Station = station.ticks x.moment x.line in
      unless_lived x (on_expiry model line.deed.released (with_line x line)) live (λ e. subst M (sym (time_stays line.deed.released (with_line x line) e)) h)

  pub started_lived : (x : Core) → (on_start model x).released ≡ None → M (station.starts x.moment x.line) → D (on_start model x).line
  started_lived x live h = unless_lived x (with_line x (station.starts x.moment x.line)) live (λ e. h)

  pub sent_lived : (user : List ℕ) (x : Core) → (on_send model user x).released ≡ None → M x.line → D (on_send model user x).line
  sent_lived user x live h =
      let a = step no_keys x.safe.safety (DataRequest user) in
      let z : Core = with_safety_step model (DataRequest user) a x in
      let z' : Core = record z { upper = model.sends z.upper user } in
      let told : Core = record z' { upper = model.hands_message z'.upper (octets_sent_in_outcome a.1) } in
      cond_both (is_some_octets (octets_sent_in_outcome a.1) && (is_open z'.upper.transport.stage && nat_lt (waiting_count z'.upper.transport) 16)) told z'
      (λ t. (conclude_event model t).released ≡ None → D (conclude_event model t).line) (λ e live. concluded_lived told live h) (λ e live. concluded_lived z' live h) live

  -- where none waits for the user nothing changes
  pub used_lived : (x : Core) → (on_take model x).released ≡ None → D x.line → M x.line → D (on_take model x).line
  used_lived x live rest h =
      let z : Core = record x { upper = model.uses x.upper } in
      cond_both (length x.upper.accepted - x.upper.used == 0) x (conclude_event model z) (λ t. t.released ≡ None → D t.line) (λ e l. rest) (λ e l. concluded_lived z l h) live
