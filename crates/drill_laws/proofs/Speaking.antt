-- In an event at a stack the safety side takes at most one step, and what the stack tells are the facts of that step.
use Rattle.std.proofs.Common.{◌≡◌, ℕ, zero, suc, if◌then◌else◌, true, false, Bool, List, [], ◌∷◌, ◌++◌, map, refl, sym, ap, subst, ◌∙◌, append-nil, append_assoc}
use Rattle.hdlc_station_model.specs.Receiving.{is_some_octets}
use Rattle.std.specs.Prelude.{◌&&◌, ◌==◌, Option, Some, None, is_some, Ok, Err}
use Rattle.std.proofs.lemmas.List.{map-append}
use Rattle.er_base.specs.declared.release.Release.{Release}
use Rattle.er_base.specs.declared.side.Side.{Side}
use Rattle.er_base.specs.declared.side.Side.TheVariants.{E, R}
use Rattle.er_base.specs.declared.cause.Cause.TheVariants.{User, BlockRefused, SetUpTimeSpent}
use Rattle.er_base.specs.Causes.{release_of, by_this_end}
use Rattle.des_block.specs.declared.triple_key.TripleKey.{TripleKey}
use Rattle.hdlc_frames.specs.Framing.{Verdict}
use Rattle.hdlc_station_model.specs.Stations.{Deed as LinkDeed}
use Rattle.hdlc_station_model.specs.Events.{said_octets, news}
use Rattle.t70_header.specs.Joining as joining
use Rattle.x224_class2.specs.Tpdus.{Dr, Dc}
use Rattle.x224_class2.specs.Transport.{ReceptionDeed, Nothing, Called, Confirmed, Message, Disconnected}
use Rattle.x224_class2.specs.Transport as transport
use Rattle.x224_class2.specs.Refusals.{protocol_error}
use Rattle.sapdu.specs.Spelling.{di_in}
use Rattle.safety_automaton.specs.Reports.{Report, ToldAnswered, ToldConnected, ToldAccepted, ToldReleased, ToldIgnored, report_of}
use Rattle.safety_automaton.specs.Safety.{Safety, SafetyEvent, ConnectRequest, Received, DataRequest, DisconnectRequest, SafetyOutcome, peer_flag, octets_sent_in_outcome, step}
use Rattle.safety_pair_laws.specs.Facts.{Fact, SideFact, at_side, facts_of}
use Rattle.safety_pair_laws.specs.Openings.{PairOpening, Pair, key_for, safety_of, with_safety}
use Rattle.safety_pair_laws.specs.Talks.{Talks, Goes}
use Rattle.er_end_model.specs.Outcomes.{SendRefusal}
use Rattle.er_end_model.specs.Layers.{Spoken, Core, model}
use Rattle.er_end_model.specs.Steps.{Finds, new_event_at, with_release, hand_tpdu, close_link, send_owed_answer, send_dr, answer_dr, end_after_di, on_safety_release, why_of, with_safety_step, hand_text, accept_text, skip_message, Carrier, InCr, InCc, InDt, hand_answer, keep_message, on_safety_report, on_text, on_transport_deed, on_joined_block, is_ready, connect_with_text, on_link_up, on_link_told, on_link_deed, hand_next_tpdu, has_next_tpdu, hand_waiting_tpdus, most_offers, conclude_event, step_start, step_frame, refusal_of, step_send_unless, step_take, step_release, is_spent, di_of, on_expiry, step_tick, normal_disconnect}
use Rattle.er_end_model.specs.Ends.{End as Stack, hears_each, finds_expired}
use Rattle.drill_model.specs.Outcomes.{DrillOutcome, OfSafety, Refused, Frame, at_end, facts_in}
use Rattle.drill_model.specs.Growth.{FactsGrow}
use Rattle.drill_model.specs.StationEnds.{if_released, if_expired}
use Rattle.drill_model.specs.StackEnds.{facts_told, outcomes_told_by_stack, stack_told, stack_start, stack_hear, told_unless, stack_send, told_of_take, stack_take, stack_release, stack_tick}

-- ---- one step at most

-- a safety side that looks KMACs up so took this step, or none
abbrev pub Speaks : (ℕ → ℕ → Option TripleKey) → (before : Safety) → Option Spoken → (after : Safety) → Type 0
Speaks key_of before None after = after ≡ before
Speaks key_of before (Some s) after = (s.outcome ≡ (step key_of before s.event).1) × (after ≡ (step key_of before s.event).0)

module _ (key_of : ℕ → ℕ → Option TripleKey) (before : Safety) where
  -- in the event that led to this core
  abbrev pub Spoke : Core → Type 0
  Spoke x = Speaks key_of before x.upper.spoke x.safe.safety

  -- the side took no step yet
  abbrev Silent : Core → Type 0
  Silent x = (x.upper.spoke ≡ None) × (x.safe.safety ≡ before)

  if_core : (P : Core → Type 0) (b : Bool) (x y : Core) → P x → P y → P (if b then x else y)
  if_core P true x y hx hy = hx
  if_core P false x y hx hy = hy

  speaks_none : (s : Option Spoken) (after : Safety) → s ≡ None → after ≡ before → Speaks key_of before s after
  speaks_none s after none same = subst (λ (o : Option Spoken). Speaks key_of before o after) (sym none) same

  silent : (x : Core) → Silent x → Spoke x
  silent x h = speaks_none x.upper.spoke x.safe.safety h.0 h.1

  -- what doesn't touch the safety side
  departs_spoke : (why : Release) (reason : ℕ) (user : List ℕ) (x : Core) → Spoke x → Spoke (send_dr model why reason user x)
  departs_spoke why reason user x h =
      if_core (λ y. Spoke (with_release why (close_link model y))) (model.may_send x.line) (hand_tpdu model (Dr reason user) x) x h h

  cut_off_spoke : (why : Release) (x : Core) → Spoke x → Spoke (answer_dr model why x)
  cut_off_spoke why x h = if_core (λ y. Spoke (with_release why (send_owed_answer model y))) (model.may_send x.line) (hand_tpdu model Dc x) x h h

  parts_spoke : (why : Release) (di : List ℕ) (x : Core) → Spoke x → Spoke (on_safety_release model why di x)
  parts_spoke why di x h = if_core Spoke why.by_peer (end_after_di model why x) (send_dr model why normal_disconnect di x) h (departs_spoke why normal_disconnect di x h)

  says_spoke : (text : List ℕ) (x : Core) → Spoke x → Spoke (hand_text model text x)
  says_spoke text x h = if_core Spoke (is_some_octets text && model.may_hand x.upper) _ x h h

  accepts_spoke : (text : List ℕ) (x : Core) → Spoke x → Spoke (accept_text model text x)
  accepts_spoke text x h = if_core Spoke (is_some_octets text) _ x h h

  answers_spoke : (carrier : Carrier) (text : List ℕ) (x : Core) → Spoke x → Spoke (hand_answer model carrier text x)
  answers_spoke InCr text x h = accepts_spoke text x h
  answers_spoke InCc text x h = says_spoke text x h
  answers_spoke InDt text x h = says_spoke text (skip_message model x) h

  keeps_spoke : (carrier : Carrier) (user : List ℕ) (x : Core) → Spoke x → Spoke (keep_message model carrier user x)
  keeps_spoke InCr user x h = h
  keeps_spoke InCc user x h = h
  keeps_spoke InDt user x h = h

  acts_spoke : (carrier : Carrier) (report : Report) (octets : List ℕ) (x : Core) → Spoke x → Spoke (on_safety_report model carrier report octets x)
  acts_spoke carrier ToldAnswered octets x h = answers_spoke carrier octets x h
  acts_spoke carrier (ToldConnected peer) octets x h = answers_spoke carrier octets x h
  acts_spoke carrier (ToldAccepted user) octets x h = keeps_spoke carrier user x h
  acts_spoke carrier (ToldReleased why) octets x h = parts_spoke why octets x h
  acts_spoke carrier ToldIgnored octets x h = h

  -- a step of the safety side
  steps_spoke : (event : SafetyEvent) (x : Core) → Silent x → Spoke (with_safety_step model event (step key_of x.safe.safety event) x)
  steps_spoke event x h =
      let same : step key_of x.safe.safety event ≡ step key_of before event = ap (λ (s : Safety). step key_of s event) h.1 in
      (ap (λ (a : Safety × SafetyOutcome). a.1) same, ap (λ (a : Safety × SafetyOutcome). a.0) same)

  abbrev finds : Finds
  finds now = key_of

  text_spoke : (carrier : Carrier) (text : List ℕ) (x : Core) → Silent x → Spoke (on_text model finds carrier text x)
  text_spoke carrier text x h =
      let a : Safety × SafetyOutcome = step key_of x.safe.safety (Received text) in
      acts_spoke carrier (report_of a.1) (octets_sent_in_outcome a.1) (with_safety_step model (Received text) a x) (steps_spoke (Received text) x h)

  does_spoke : (deed : ReceptionDeed) (x : Core) → Silent x → Spoke (on_transport_deed model finds deed x)
  does_spoke Nothing x h = silent x h
  does_spoke (Called user) x h = text_spoke InCr user x h
  does_spoke (Confirmed user) x h = text_spoke InCc user x h
  does_spoke (Message message) x h = text_spoke InDt message x h
  does_spoke (Disconnected user) x h = cut_off_spoke (why_of (di_in user (peer_flag x.safe.safety))) x (silent x h)
  does_spoke (transport.Refused sub reason) x h = departs_spoke (by_this_end 2 sub) reason [] x (silent x h)

  block_spoke : (answer : joining.BlockJoiningResult) (x : Core) → Silent x → Spoke (on_joined_block model finds answer x)
  block_spoke (Ok None) x h = silent x h
  block_spoke (Ok (Some tpdu)) x h = does_spoke (model.deed x.upper tpdu) (record x { upper = model.hears x.upper tpdu }) h
  block_spoke (Err fault) x h = departs_spoke (release_of BlockRefused) protocol_error [] x (silent x h)

  comes_up_spoke : (x : Core) → Silent x → Spoke (on_link_up model x)
  comes_up_spoke x h =
      let a : Safety × SafetyOutcome = step key_of x.safe.safety ConnectRequest in
      let y : Core = with_safety_step model ConnectRequest a x in
      let now : Spoke y = steps_spoke ConnectRequest x h in
      if_core Spoke (model.may_connect x.upper && is_ready x.safe.safety.phase) (connect_with_text model (octets_sent_in_outcome a.1) y) x
      (if_core Spoke (is_some_octets (octets_sent_in_outcome a.1)) (record y { upper = model.connects y.upper (octets_sent_in_outcome a.1) }) y now now) (silent x h)

  link_spoke : (payload : Option (List ℕ)) (up : Bool) (released : Option Release) (x : Core) → Silent x → Spoke (on_link_told model finds payload up released x)
  link_spoke (Some payload) up released x h =
      block_spoke (joining.block_step x.joined payload).1 (record x { joined = (joining.block_step x.joined payload).0 }) h
  link_spoke None true released x h = comes_up_spoke x h
  link_spoke None false (Some why) x h = silent x h
  link_spoke None false None x h = silent x h

  offers_spoke : (n : ℕ) (x : Core) → Spoke x → Spoke (hand_waiting_tpdus model n x)
  unfolding hand_waiting_tpdus
  offers_spoke zero x h = h
  offers_spoke (suc n) x h = if_core Spoke (has_next_tpdu model x) (hand_waiting_tpdus model n (hand_next_tpdu model x)) x (offers_spoke n (hand_next_tpdu model x) h) h

  concludes_spoke : (x : Core) → Spoke x → Spoke (conclude_event model x)
  concludes_spoke x h = if_core Spoke (is_some x.released) x (send_owed_answer model (hand_waiting_tpdus model most_offers x)) h (offers_spoke most_offers x h)

  -- ---- the events

  starts_spoke : (now : ℕ) (x : Core) → x.safe.safety ≡ before → Spoke (step_start model now x)
  starts_spoke now x same =
      let y : Core = new_event_at model now x in
      if_core Spoke (is_some y.released) y (conclude_event model (record y { line = model.starts y.moment y.line })) same
      (concludes_spoke (record y { line = model.starts y.moment y.line }) same)

  pub comes_spoke : (now : ℕ) (verdict : Verdict) (x : Core) → x.safe.safety ≡ before → Spoke (step_frame model finds now verdict x)
  comes_spoke now verdict x same =
      let y : Core = new_event_at model now x in
      let z : Core = record y { line = model.receives y.moment verdict y.line } in
      let deed : LinkDeed = model.told y.moment verdict y.line in
      if_core Spoke (is_some y.released) y (conclude_event model (on_link_deed model finds deed z)) same
      (concludes_spoke (on_link_deed model finds deed z) (link_spoke deed.payload deed.up deed.released z (refl, same)))

  pub sends_spoke : (now : ℕ) (user : List ℕ) (x : Core) → x.safe.safety ≡ before → Spoke (step_send_unless model None now user x)
  sends_spoke now user x same =
      let y : Core = new_event_at model now x in
      let a : Safety × SafetyOutcome = step key_of y.safe.safety (DataRequest user) in
      let z : Core = with_safety_step model (DataRequest user) a y in
      concludes_spoke _ (says_spoke (octets_sent_in_outcome a.1) (record z { upper = model.sends z.upper user }) (steps_spoke (DataRequest user) y (refl, same)))

  pub uses_silent : (now : ℕ) (x : Core) → x.safe.safety ≡ before → Spoke (step_take model now x)
  uses_silent now x same =
      let y : Core = new_event_at model now x in
      if_core Spoke (model.untaken y.upper == 0) y (conclude_event model (record y { upper = model.uses y.upper })) same
      (concludes_spoke (record y { upper = model.uses y.upper }) same)

  pub leaves_spoke : (now sub : ℕ) (x : Core) → x.safe.safety ≡ before → Spoke (step_release model now sub x)
  leaves_spoke now sub x same =
      let y : Core = new_event_at model now x in
      let a : Safety × SafetyOutcome = step key_of y.safe.safety (DisconnectRequest sub) in
      let z : Core = with_safety_step model (DisconnectRequest sub) a y in
      if_core Spoke (is_some y.released) y (send_dr model (release_of (User sub)) normal_disconnect (octets_sent_in_outcome a.1) z) same
      (departs_spoke (release_of (User sub)) normal_disconnect (octets_sent_in_outcome a.1) z (steps_spoke (DisconnectRequest sub) y (refl, same)))

  time_spoke : (why : Option Release) (x : Core) → Spoke x → Spoke (on_expiry model why x)
  time_spoke (Some why) x h = h
  time_spoke None x h =
      let why : Release = release_of SetUpTimeSpent in
      if_core Spoke (is_spent x) (send_dr model why normal_disconnect (di_of why x.safe.safety) x) x
      (departs_spoke why normal_disconnect (di_of why x.safe.safety) x h) h

  pub ticks_spoke : (now : ℕ) (x : Core) → x.safe.safety ≡ before → Spoke (step_tick model now x)
  ticks_spoke now x same =
      let y : Core = new_event_at model now x in
      let z : Core = record y { line = model.ticks y.moment y.line } in
      let why : Option Release = model.given_up y.moment y.line in
      if_core Spoke (is_some y.released) y (conclude_event model (on_expiry model why z)) same (concludes_spoke (on_expiry model why z) (time_spoke why z same))

-- ---- what two sides say

-- what is told at a side as it goes on so is a part of what the two say
abbrev pub Tells : PairOpening → Side → (before : Safety) → List DrillOutcome → (after : Safety) → Type 0
Tells opening side before os after =
    (facts : List SideFact) (pair : Pair) → safety_of pair side ≡ before → Talks opening facts pair
    → Talks opening (facts ++ facts_in (map (at_end side) os)) (with_safety pair side after)

-- a side that stays as it is
same_pair : (pair : Pair) (side : Side) (s : Safety) → safety_of pair side ≡ s → pair ≡ with_safety pair side s
same_pair pair E s same = rw (sym same) refl
same_pair pair R s same = rw (sym same) refl

with_twice : (pair : Pair) (side : Side) (s t : Safety) → with_safety (with_safety pair side s) side t ≡ with_safety pair side t
with_twice pair E s t = refl
with_twice pair R s t = refl

of_with : (pair : Pair) (side : Side) (s : Safety) → safety_of (with_safety pair side s) side ≡ s
of_with pair E s = refl
of_with pair R s = refl

module _ (grow : FactsGrow) (opening : PairOpening) (side : Side) where
  pub facts_append : (xs ys : List DrillOutcome) → facts_in (map (at_end side) (xs ++ ys)) ≡ facts_in (map (at_end side) xs) ++ facts_in (map (at_end side) ys)
  facts_append xs ys = ap facts_in (map-append (at_end side) xs ys) ∙ grow (map (at_end side) xs) (map (at_end side) ys)

  pub tells_silent : (s : Safety) (os : List DrillOutcome) → facts_in (map (at_end side) os) ≡ [] → Tells opening side s os s
  tells_silent s os none facts pair is talks =
      subst (λ (p : Pair). Talks opening (facts ++ facts_in (map (at_end side) os)) p) (same_pair pair side s is)
      (subst (λ (fs : List SideFact). Talks opening (facts ++ fs) pair) (sym none) (subst (λ (fs : List SideFact). Talks opening fs pair) (sym (append-nil facts)) talks))

  pub tells_then : (s t u : Safety) (os ps : List DrillOutcome) → Tells opening side s os t → Tells opening side t ps u → Tells opening side s (os ++ ps) u
  tells_then s t u os ps first second facts pair is talks =
      let fs : List SideFact = facts_in (map (at_end side) os) in
      let gs : List SideFact = facts_in (map (at_end side) ps) in
      let all : (facts ++ fs) ++ gs ≡ facts ++ facts_in (map (at_end side) (os ++ ps)) =
      append_assoc facts fs gs ∙ ap (λ (hs : List SideFact). facts ++ hs) (sym (facts_append os ps)) in
      let now : Talks opening ((facts ++ fs) ++ gs) (with_safety (with_safety pair side t) side u) =
      second (facts ++ fs) (with_safety pair side t) (of_with pair side t) (first facts pair is talks) in
      subst (λ (p : Pair). Talks opening (facts ++ facts_in (map (at_end side) (os ++ ps))) p) (with_twice pair side t u)
      (subst (λ (hs : List SideFact). Talks opening hs (with_safety (with_safety pair side t) side u)) all now)

  pub facts_of_facts : (fs : List Fact) → facts_in (map (at_end side) (map OfSafety fs)) ≡ map (at_side side) fs
  facts_of_facts [] = refl
  facts_of_facts (f ∷ fs) = ap (λ (gs : List SideFact). at_side side f ∷ gs) (facts_of_facts fs)

  frames_silent : (frames : List (List ℕ)) → facts_in (map (at_end side) (map Frame frames)) ≡ []
  frames_silent [] = refl
  frames_silent (f ∷ fs) = frames_silent fs

  pub rest_silent : (released : Option Release) (frames : List (List ℕ)) → facts_in (map (at_end side) (if_released released ++ map Frame frames)) ≡ []
  rest_silent None frames = frames_silent frames
  rest_silent (Some release) frames = frames_silent frames

  -- the facts of a step
  facts_tell : (s : Safety) (spoke : Option Spoken) (t : Safety) → Speaks (key_for opening) s spoke t → Tells opening side s (facts_told spoke) t
  facts_tell s None t same facts pair is talks =
      subst (λ (u : Safety). Talks opening (facts ++ []) (with_safety pair side u)) (sym same) (tells_silent s [] refl facts pair is talks)
  facts_tell s (Some a) t h facts pair is talks =
      let b : Safety × SafetyOutcome = step (key_for opening) (safety_of pair side) a.event in
      let now : Talks opening (facts ++ map (at_side side) (facts_of a.event b.1)) (with_safety pair side b.0) = Goes facts pair side a.event talks in
      let outcome : b.1 ≡ a.outcome = ap (λ (x : Safety). (step (key_for opening) x a.event).1) is ∙ sym h.0 in
      let after : b.0 ≡ t = ap (λ (x : Safety). (step (key_for opening) x a.event).0) is ∙ sym h.1 in
      let told : map (at_side side) (facts_of a.event b.1) ≡ facts_in (map (at_end side) (facts_told (Some a))) =
      ap (λ (o : SafetyOutcome). map (at_side side) (facts_of a.event o)) outcome ∙ sym (facts_of_facts (facts_of a.event a.outcome)) in
      subst (λ (x : Safety). Talks opening (facts ++ facts_in (map (at_end side) (facts_told (Some a)))) (with_safety pair side x)) after
      (subst (λ (fs : List SideFact). Talks opening (facts ++ fs) (with_safety pair side b.0)) told now)

  pub told_tell : (s : Safety) (x : Core) → Spoke (key_for opening) s x → Tells opening side s (outcomes_told_by_stack x) x.safe.safety
  told_tell s x h =
      tells_then s x.safe.safety x.safe.safety (facts_told x.upper.spoke) (if_released x.leaves ++ map Frame (said_octets x.line))
      (facts_tell s x.upper.spoke x.safe.safety h)
      (tells_silent x.safe.safety (if_released x.leaves ++ map Frame (said_octets x.line)) (rest_silent x.leaves (said_octets x.line)))

  -- ---- the events at a stack

  -- frame by frame
  each_tells : (moment : ℕ) (verdicts : List Verdict) (x : Core)
      → Tells opening side x.safe.safety (stack_told (λ now. key_for opening) moment verdicts x)
      (hears_each (λ now. key_for opening) moment verdicts x).safe.safety
  each_tells moment [] x = tells_silent x.safe.safety [] refl
  each_tells moment (verdict ∷ verdicts) x =
      let y : Core = step_frame model (λ now. key_for opening) moment verdict x in
      tells_then x.safe.safety y.safe.safety _ (outcomes_told_by_stack y) (stack_told (λ now. key_for opening) moment verdicts y)
      (told_tell x.safe.safety y (comes_spoke (key_for opening) x.safe.safety moment verdict x refl)) (each_tells moment verdicts y)

  -- of an event that leads from a stack to this one
  abbrev pub StackTells : Stack → Stack × List DrillOutcome → Type 0
  StackTells m a = Tells opening side m.core.safe.safety a.1 a.0.core.safe.safety

  pub begins_tells : (moment : ℕ) (m : Stack) → StackTells m (stack_start moment m)
  begins_tells moment m = told_tell m.core.safe.safety (step_start model moment m.core) (starts_spoke (key_for opening) m.core.safe.safety moment m.core refl)

  pub hears_tells : (moment : ℕ) (octets : List ℕ) (m : Stack) → StackTells m (stack_hear (λ now. key_for opening) moment octets m)
  hears_tells moment octets m = each_tells moment (news m.stream octets) (new_event_at model moment m.core)

  sends_tells_at : (moment : ℕ) (user : List ℕ) (m : Stack) (refusal : Option SendRefusal)
      → Tells opening side m.core.safe.safety (told_unless refusal (step_send_unless model refusal moment user m.core))
      (step_send_unless model refusal moment user m.core).safe.safety
  sends_tells_at moment user m (Some refusal) = tells_silent m.core.safe.safety (Refused refusal ∷ []) refl
  sends_tells_at moment user m None =
      told_tell m.core.safe.safety (step_send_unless model None moment user m.core) (sends_spoke (key_for opening) m.core.safe.safety moment user m.core refl)

  pub sends_tells : (moment : ℕ) (user : List ℕ) (m : Stack) → StackTells m (stack_send moment user m)
  sends_tells moment user m = sends_tells_at moment user m (refusal_of model user m.core)

  pub took_silent : (message : Option (List ℕ)) → facts_in (map (at_end side) (told_of_take message)) ≡ []
  took_silent None = refl
  took_silent (Some message) = refl

  pub takes_tells : (moment : ℕ) (m : Stack) → StackTells m (stack_take moment m)
  takes_tells moment m =
      let s : Safety = m.core.safe.safety in
      let x : Core = step_take model moment m.core in
      let message : Option (List ℕ) = model.oldest m.core.upper in
      tells_then s s x.safe.safety (told_of_take message) (outcomes_told_by_stack x) (tells_silent s (told_of_take message) (took_silent message))
      (told_tell s x (uses_silent (key_for opening) s moment m.core refl))

  pub releases_tells : (moment sub : ℕ) (m : Stack) → StackTells m (stack_release moment sub m)
  releases_tells moment sub m =
      told_tell m.core.safe.safety (step_release model moment sub m.core) (leaves_spoke (key_for opening) m.core.safe.safety moment sub m.core refl)

  pub expired_silent : (b : Bool) → facts_in (map (at_end side) (if_expired b)) ≡ []
  expired_silent true = refl
  expired_silent false = refl

  pub ticks_tells : (moment : ℕ) (m : Stack) → StackTells m (stack_tick moment m)
  ticks_tells moment m =
      let s : Safety = m.core.safe.safety in
      let x : Core = step_tick model moment m.core in
      let found : Bool = finds_expired (new_event_at model moment m.core) in
      tells_then s s x.safe.safety (if_expired found) (outcomes_told_by_stack x) (tells_silent s (if_expired found) (expired_silent found))
      (told_tell s x (ticks_spoke (key_for opening) s moment m.core refl))
