-- What each step of a link makes of the frames that wait: what was passed, and behind it what waits still, is what waited and what the ends told.
use Rattle.std.proofs.Common.{◌≡◌, inl, inr, ℕ, zero, suc, ◌≤◌, ◌==◌, nat_lt, max, if◌then◌else◌, true, false, Bool, List, [], ◌∷◌, ◌++◌, length, map, refl, sym, ap, ap₂, subst, ◌∙◌, append-nil, append_assoc, arith}
use Rattle.std.specs.Prelude.{Option, Some, None}
use Rattle.std.specs.List.{flat_map}
use Rattle.std.specs.Int.Bits.{xor_zero_r}
use Rattle.std.proofs.lemmas.Bool.{cases_Bool, eqb-true, ltb-false}
use Rattle.std.proofs.lemmas.List.Concat.{flat_map-append}
use Rattle.er_base.specs.declared.side.Side.{Side}
use Rattle.er_base.specs.declared.side.Side.TheVariants.{E, R}
use Rattle.er_base.specs.Sides.{other}
use Rattle.er_settings.specs.Values.{Settings}
use Rattle.safety_automaton.specs.Rules.{StepsOnly}
use Rattle.safety_pair_laws.specs.Facts.{is_side}
use Rattle.safety_pair_laws.specs.Openings.{OfFixed, OfKeys}
use Rattle.hdlc_station_model.specs.Stations.{made}
use Rattle.hdlc_station_model.specs.Lines.{altered}
use Rattle.er_end_model.specs.Ends as stacks
use Rattle.drill_model.specs.Outcomes.{DrillOutcome, OfSafety, UserReleased, Passed, NothingWaits, IsShort, Altered, Occurrence, at_end, frames_of_outcome, frames_in}
use Rattle.drill_model.specs.Ends.{EndAtLevel, OfSafe, OfStation, OfStack, EndEvent, end_step}
use Rattle.drill_model.specs.Ends as event
use Rattle.drill_model.specs.Waiting.{LineChange, Lose, Repeat, Alter, Put, change_first}
use Rattle.drill_model.specs.Links.{Link, LinkOpening, OfPair, OfStations, OfStacks, end_of, waiting_of, with_waiting, key_on, with_answer, give, link_of, joined_pair, opened_link, Send, Pass, Change, Take, Release as ReleaseStep, Tick, pass, link_step}
use Rattle.drill_model.specs.Worlds.{next_side, overfull_side, Drain, drain, drain_on}
use Rattle.drill_model.specs.Kinds.{passed_in}
use Rattle.drill_model.specs.Effects.{Effect, Sends, IsRefused, Passes, Releases, Expires, effect_of, effect_in, Effects, effects_in, of_first}
use Rattle.drill_model.specs.Line.{told_in, frames_told_by, frames_passed_by, octet_changed, first_altered, first_lost, first_doubled}
use Rattle.drill_laws.proofs.StepEffects.{opened_effects, send_effects, pass_effects, take_effects, release_effects, tick_effects}
use Rattle.safety_pair_laws.specs.Facts.{Fact, Sent, Sealed, Verified, Connected, Accepted}

abbrev pub Frames : Type 0
Frames = List (List ℕ)

-- ---- what was passed is told by the effects

abbrev passes_in : Effect → Frames
passes_in (Passes frame) = frame ∷ []
passes_in _ = []

abbrev pass_at : Side → Side × Effect → Frames
pass_at side e = if is_side side e.0 then passes_in e.1 else []

abbrev passes_by : Side → Effects → Frames
passes_by side effects = flat_map (pass_at side) effects

fact_passes : (fact : Fact) → flat_map passes_in (effect_of fact) ≡ []
fact_passes (Sent user key text) = refl
fact_passes (Sealed key text) = refl
fact_passes (Verified heard key text) = refl
fact_passes (Connected heard connection text) = refl
fact_passes (Accepted heard user key text) = refl

outcome_passes : (o : DrillOutcome) → passed_in o ≡ flat_map passes_in (effect_in o)
outcome_passes (OfSafety fact) = sym (fact_passes fact)
outcome_passes _ = refl

occurrence_passes : (s side : Side) (es : List Effect) → (if is_side s side then flat_map passes_in es else []) ≡ passes_by s (map (λ e. (side, e)) es)
occurrence_passes s side [] = none (is_side s side) []
  where
    none : (b : Bool) (xs : Frames) → (if b then xs else xs) ≡ xs
    none true xs = refl
    none false xs = refl
occurrence_passes E E (e ∷ es) = ap (λ (xs : Frames). passes_in e ++ xs) (occurrence_passes E E es)
occurrence_passes E R (e ∷ es) = occurrence_passes E R es
occurrence_passes R E (e ∷ es) = occurrence_passes R E es
occurrence_passes R R (e ∷ es) = ap (λ (xs : Frames). passes_in e ++ xs) (occurrence_passes R R es)

history_passes : (side : Side) (history : List Occurrence) → frames_passed_by side history ≡ passes_by side (effects_in history)
history_passes side [] = refl
history_passes side (o ∷ history) =
    ap₂ (λ (xs ys : Frames). xs ++ ys)
    (ap (λ (xs : Frames). if is_side side o.side then xs else []) (outcome_passes o.outcome) ∙ occurrence_passes side o.side (effect_in o.outcome))
    (history_passes side history)
    ∙ sym (flat_map-append (pass_at side) (map (λ e. (o.side, e)) (effect_in o.outcome)) (effects_in history))

-- what has these effects passed these
passed_is : (side : Side) (history : List Occurrence) (effects : Effects) (frames : Frames) → effects_in history ≡ effects → passes_by side effects ≡ frames → frames_passed_by side history ≡ frames
passed_is side history effects frames is these = history_passes side history ∙ ap (passes_by side) is ∙ these

-- ---- what ends told

told_of_outcome : (o : DrillOutcome) → told_in o ≡ frames_of_outcome o
told_of_outcome _ = refl

told_here : (os : List DrillOutcome) (side : Side) → is_side side side ≡ true → frames_told_by side (map (at_end side) os) ≡ frames_in os
told_here [] side own = refl
told_here (o ∷ os) side own = rw own (ap₂ (λ (xs ys : Frames). xs ++ ys) (told_of_outcome o) (told_here os side own))

told_there : (os : List DrillOutcome) (side at : Side) → is_side side at ≡ false → frames_told_by side (map (at_end at) os) ≡ []
told_there [] side at foreign = refl
told_there (o ∷ os) side at foreign = rw foreign (told_there os side at foreign)

pub told_append : (side : Side) (xs ys : List Occurrence) → frames_told_by side (xs ++ ys) ≡ frames_told_by side xs ++ frames_told_by side ys
told_append side xs ys = flat_map-append (λ (o : Occurrence). if is_side side o.side then told_in o.outcome else []) xs ys

pub passed_append : (side : Side) (xs ys : List Occurrence) → frames_passed_by side (xs ++ ys) ≡ frames_passed_by side xs ++ frames_passed_by side ys
passed_append side xs ys = flat_map-append (λ (o : Occurrence). if is_side side o.side then passed_in o.outcome else []) xs ys

-- behind an event at an end, what it told waits behind what waited
abbrev Adds : Side → Frames → Link × List Occurrence → Type 0
Adds side frames a = waiting_of a.0 side ≡ frames ++ frames_told_by side a.1

answer_adds : (l : Link) (side at : Side) (a : EndAtLevel × List DrillOutcome) → Adds side (waiting_of l side) (with_answer l at a)
answer_adds l E E a = ap (λ (xs : Frames). l.from_e ++ xs) (sym (told_here a.1 E refl))
answer_adds l E R a = sym (append-nil l.from_e) ∙ ap (λ (xs : Frames). l.from_e ++ xs) (sym (told_there a.1 E R refl))
answer_adds l R E a = sym (append-nil l.from_r) ∙ ap (λ (xs : Frames). l.from_r ++ xs) (sym (told_there a.1 R E refl))
answer_adds l R R a = ap (λ (xs : Frames). l.from_r ++ xs) (sym (told_here a.1 R refl))

give_adds : (l : Link) (side at : Side) (given : EndEvent) → Adds side (waiting_of l side) (give l at given)
give_adds l side at given = answer_adds l side at (end_step (key_on l.opening) l.moment (end_of l at) given)

-- ---- the law at one link

-- what was passed, and what waits still, is this and what was told
abbrev pub Flows : Side → Frames → Link × List Occurrence → Type 0
Flows side frames a = frames_passed_by side a.1 ++ waiting_of a.0 side ≡ frames ++ frames_told_by side a.1

-- a frame that nothing passes
none_passes : (side : Side) (frames : Frames) (a : Link × List Occurrence) → frames_passed_by side a.1 ≡ [] → Adds side frames a → Flows side frames a
none_passes side frames a none adds = ap (λ (xs : Frames). xs ++ waiting_of a.0 side) none ∙ adds

pub flows_append : (side : Side) (frames : Frames) (a b : Link × List Occurrence) → Flows side frames a → Flows side (waiting_of a.0 side) b → Flows side frames (b.0, a.1 ++ b.1)
flows_append side frames a b x y =
    ap (λ (xs : Frames). xs ++ waiting_of b.0 side) (passed_append side a.1 b.1)
    ∙ append_assoc (frames_passed_by side a.1) (frames_passed_by side b.1) (waiting_of b.0 side)
    ∙ ap (λ (xs : Frames). frames_passed_by side a.1 ++ xs) y
    ∙ sym (append_assoc (frames_passed_by side a.1) (waiting_of a.0 side) (frames_told_by side b.1))
    ∙ ap (λ (xs : Frames). xs ++ frames_told_by side b.1) x
    ∙ append_assoc frames (frames_told_by side a.1) (frames_told_by side b.1)
    ∙ ap (λ (xs : Frames). frames ++ xs) (sym (told_append side a.1 b.1))

-- ---- steps of a link

-- no frame is passed by an effect of another kind
none_of : (side at : Side) (e : Effect) → passes_in e ≡ [] → passes_by side ((at, e) ∷ []) ≡ []
none_of side at e none =
    elim (cases_Bool (is_side side at)) [
      | inl own ↦ rw (own, none) refl
      | inr foreign ↦ rw foreign refl
    ]

module _ (only : StepsOnly) (side : Side) where
  pub flows_sent : (l : Link) (at : Side) (octets : List ℕ) → Flows side (waiting_of l side) (link_step l (Send at octets))
  flows_sent l at octets =
      let a : Link × List Occurrence = link_step l (Send at octets) in
      let none : frames_passed_by side a.1 ≡ [] =
      elim (send_effects only l at octets) [
        | inl sends ↦ passed_is side a.1 ((at, Sends octets) ∷ []) [] sends (none_of side at (Sends octets) refl)
        | inr refused ↦ passed_is side a.1 ((at, IsRefused) ∷ []) [] refused (none_of side at IsRefused refl)
      ] in
      none_passes side (waiting_of l side) a none (give_adds l side at (event.Send octets))

  pub flows_taken : (l : Link) (at : Side) → Flows side (waiting_of l side) (link_step l (Take at))
  flows_taken l at =
      let a : Link × List Occurrence = link_step l (Take at) in
      none_passes side (waiting_of l side) a (passed_is side a.1 [] [] (take_effects only l at) refl) (give_adds l side at event.Take)

  -- an occurrence that tells no frame
  told_behind : (at : Side) (o : DrillOutcome) (later : List Occurrence) → told_in o ≡ [] → frames_told_by side (at_end at o ∷ later) ≡ frames_told_by side later
  told_behind at o later none =
      elim (cases_Bool (is_side side at)) [
        | inl own ↦ rw (own, none) refl
        | inr foreign ↦ rw foreign refl
      ]

  pub flows_released : (l : Link) (at : Side) (sub : ℕ) → Flows side (waiting_of l side) (link_step l (ReleaseStep at sub))
  flows_released l at sub =
      let a : Link × List Occurrence = link_step l (ReleaseStep at sub) in
      let later : List Occurrence = (give l at (event.Release sub)).1 in
      none_passes side (waiting_of l side) a
      (passed_is side a.1 ((at, Releases sub) ∷ []) [] (release_effects only l at sub) (none_of side at (Releases sub) refl))
      (give_adds l side at (event.Release sub) ∙ ap (λ (xs : Frames). waiting_of l side ++ xs) (sym (told_behind at (UserReleased sub) later refl)))

  ticked_none : (at : Side) (b : Bool) → passes_by side (if b then (at, Expires) ∷ [] else []) ≡ []
  ticked_none at true = none_of side at Expires refl
  ticked_none at false = refl

  pub flows_ticked : (l : Link) (moment : ℕ) → Flows side (waiting_of l side) (link_step l (Tick moment))
  flows_ticked l moment =
      let m : Link = record l { moment = max l.moment moment } in
      let a : Link × List Occurrence = give m E event.Tick in
      let b : Link × List Occurrence = give a.0 R event.Tick in
      let t = tick_effects only l moment in
      let none : frames_passed_by side (a.1 ++ b.1) ≡ [] =
      passed_is side (a.1 ++ b.1) ((if t.e then (E, Expires) ∷ [] else []) ++ (if t.r then (R, Expires) ∷ [] else [])) [] t.is
      (flat_map-append (pass_at side) (if t.e then (E, Expires) ∷ [] else []) (if t.r then (R, Expires) ∷ [] else [])
      ∙ ap₂ (λ (xs ys : Frames). xs ++ ys) (ticked_none E t.e) (ticked_none R t.r)) in
      none_passes side (waiting_of l side) (b.0, a.1 ++ b.1) none
      (give_adds a.0 side R event.Tick
      ∙ ap (λ (xs : Frames). xs ++ frames_told_by side b.1) (give_adds m side E event.Tick ∙ ap (λ (xs : Frames). xs ++ frames_told_by side a.1) (same_waiting side))
      ∙ append_assoc (waiting_of l side) (frames_told_by side a.1) (frames_told_by side b.1)
      ∙ ap (λ (xs : Frames). waiting_of l side ++ xs) (sym (told_append side a.1 b.1)))
    where
      same_waiting : (s : Side) → waiting_of (record l { moment = max l.moment moment }) s ≡ waiting_of l s
      same_waiting E = refl
      same_waiting R = refl

  -- ---- passes

  -- what waits of a side, where a frame of this one is passed
  left_by : (l : Link) (at : Side) (frame : List ℕ) (frames : Frames) → waiting_of l at ≡ frame ∷ frames
      → (if is_side side at then frame ∷ [] else []) ++ waiting_of (with_waiting l at frames) side ≡ waiting_of l side
  left_by l at frame frames is = by_sides side at is
    where
      by_sides : (s t : Side) → waiting_of l t ≡ frame ∷ frames → (if is_side s t then frame ∷ [] else []) ++ waiting_of (with_waiting l t frames) s ≡ waiting_of l s
      by_sides E E first = sym first
      by_sides E R first = refl
      by_sides R E first = refl
      by_sides R R first = sym first

  first_passed : (at : Side) (frame : List ℕ) (frames : Frames) → passes_by side (of_first at Passes (frame ∷ frames)) ≡ (if is_side side at then frame ∷ [] else [])
  first_passed at frame frames = append-nil (if is_side side at then frame ∷ [] else [])

  pass_flows : (l : Link) (at : Side) (frames : Frames) → waiting_of l at ≡ frames → effects_in (pass l at frames).1 ≡ of_first at Passes frames
      → Flows side (waiting_of l side) (pass l at frames)
  pass_flows l at [] is effects =
      none_passes side (waiting_of l side) (l, at_end at NothingWaits ∷ []) (passed_is side (at_end at NothingWaits ∷ []) [] [] effects refl)
      (sym (append-nil (waiting_of l side)) ∙ ap (λ (xs : Frames). waiting_of l side ++ xs) (sym (told_behind at NothingWaits [] refl)))
  pass_flows l at (frame ∷ frames) is effects =
      let left : Link = with_waiting l at frames in
      let a : Link × List Occurrence = give left (other at) (event.Receive frame) in
      let own : Frames = if is_side side at then frame ∷ [] else [] in
      ap (λ (xs : Frames). xs ++ waiting_of a.0 side) (passed_is side (at_end at (Passed frame) ∷ a.1) (of_first at Passes (frame ∷ frames)) own effects (first_passed at frame frames))
      ∙ ap (λ (xs : Frames). own ++ xs) (give_adds left side (other at) (event.Receive frame))
      ∙ sym (append_assoc own (waiting_of left side) (frames_told_by side a.1))
      ∙ ap (λ (xs : Frames). xs ++ frames_told_by side a.1) (left_by l at frame frames is)
      ∙ ap (λ (xs : Frames). waiting_of l side ++ xs) (sym (told_behind at (Passed frame) a.1 refl))

  pub flows_passed : (l : Link) (at : Side) → Flows side (waiting_of l side) (link_step l (Pass at))
  flows_passed l at = pass_flows l at (waiting_of l at) refl (pass_effects only l at)

  -- ---- drains

  stays : (l : Link) → Flows side (waiting_of l side) (l, [])
  stays l = sym (append-nil (waiting_of l side))

  drains_flow : (others : Link → Drain) → ((l : Link) → Flows side (waiting_of l side) ((others l).link, (others l).came)) → (l : Link) (next overfull : Option Side)
      → let d = drain_on others l next overfull in Flows side (waiting_of l side) (d.link, d.came)
  drains_flow others each l None overfull = stays l
  drains_flow others each l (Some at) (Some overfull) = stays l
  drains_flow others each l (Some at) None =
      let a : Link × List Occurrence = link_step l (Pass at) in
      flows_append side (waiting_of l side) a ((others a.0).link, (others a.0).came) (flows_passed l at) (each a.0)

  pub flows_drained : (most : ℕ) (l : Link) → Flows side (waiting_of l side) ((drain most l).link, (drain most l).came)
  unfolding drain
  flows_drained zero l = stays l
  flows_drained (suc most) l = drains_flow (drain most) (flows_drained most) l (next_side l) (overfull_side l)

  -- ---- openings

  -- no frame waits before the first event of a link
  opens_with : (l : Link) (given : EndEvent) → waiting_of l side ≡ [] → effects_in (give l E given).1 ≡ [] → Flows side [] (give l E given)
  opens_with l given none effects =
      none_passes side [] (give l E given) (passed_is side (give l E given).1 [] [] effects refl)
      (give_adds l side E given ∙ ap (λ (xs : Frames). xs ++ frames_told_by side (give l E given).1) none)

  empty_link : (opening : LinkOpening) (moment : ℕ) (e r : EndAtLevel) (s : Side) → waiting_of (link_of opening moment e r) s ≡ []
  empty_link opening moment e r E = refl
  empty_link opening moment e r R = refl

  pub flows_opened : (settings : Settings) (moment : ℕ) (opening : LinkOpening) → Flows side [] (opened_link settings moment opening)
  flows_opened settings moment (OfPair (OfFixed engine rbc ke kr)) =
      let l : Link = joined_pair (OfFixed engine rbc ke kr) moment in
      empty_link l.opening moment l.e l.r side
  flows_opened settings moment (OfPair (OfKeys engine rbc ke kr ra rb)) =
      let l : Link = joined_pair (OfKeys engine rbc ke kr ra rb) moment in
      opens_with l event.Start (empty_link l.opening moment l.e l.r side) (opened_effects only settings moment (OfPair (OfKeys engine rbc ke kr ra rb)))
  flows_opened settings moment (OfStations selective) =
      let e : EndAtLevel = OfStation selective (made true (settings.modulo == 128) settings.window settings.n2 settings.t1) [] in
      let r : EndAtLevel = OfStation selective (made false (settings.modulo == 128) settings.window settings.n2 settings.t1) [] in
      opens_with (link_of (OfStations selective) moment e r) event.Start (empty_link (OfStations selective) moment e r side)
      (opened_effects only settings moment (OfStations selective))
  flows_opened settings moment (OfStacks engine rbc ke kr ra rb) =
      let e : EndAtLevel = OfStack (stacks.opened (stacks.Call settings engine rbc ke rb moment)) in
      let r : EndAtLevel = OfStack (stacks.opened (stacks.Answer settings rbc ra moment)) in
      opens_with (link_of (OfStacks engine rbc ke kr ra rb) moment e r) event.Start (empty_link (OfStacks engine rbc ke kr ra rb) moment e r side)
      (opened_effects only settings moment (OfStacks engine rbc ke kr ra rb))

-- ---- changes

-- a change makes these of the frames that wait, and tells nothing that is a frame for the peer or a pass
pub record Makes (change : LineChange) (frames made_of : Frames) : Type 0 where
  pub waits : (change_first change frames).0 ≡ made_of
  pub tells : (side at : Side) → frames_told_by side (map (at_end at) (change_first change frames).1) ≡ []
  pub passes : (side at : Side) → frames_passed_by side (map (at_end at) (change_first change frames).1) ≡ []

-- one outcome that is neither
pub one_untold : (o : DrillOutcome) → told_in o ≡ [] → (side at : Side) → frames_told_by side (at_end at o ∷ []) ≡ []
one_untold o none side at =
    elim (cases_Bool (is_side side at)) [
      | inl own ↦ rw (own, none) refl
      | inr foreign ↦ rw foreign refl
    ]

pub one_unpassed : (o : DrillOutcome) → passed_in o ≡ [] → (side at : Side) → frames_passed_by side (at_end at o ∷ []) ≡ []
one_unpassed o none side at =
    elim (cases_Bool (is_side side at)) [
      | inl own ↦ rw (own, none) refl
      | inr foreign ↦ rw foreign refl
    ]

makes_one : (change : LineChange) (frames made_of : Frames) (o : DrillOutcome) → change_first change frames ≡ (made_of, o ∷ []) → told_in o ≡ [] → passed_in o ≡ []
    → Makes change frames made_of
makes_one change frames made_of o is none unpassed =
    record {
      waits = ap (λ (a : Frames × List DrillOutcome). a.0) is;
      tells = λ side at. ap (λ (a : Frames × List DrillOutcome). frames_told_by side (map (at_end at) a.1)) is ∙ one_untold o none side at;
      passes = λ side at. ap (λ (a : Frames × List DrillOutcome). frames_passed_by side (map (at_end at) a.1)) is ∙ one_unpassed o unpassed side at;
    }

pub makes_lost : (frames : Frames) → Makes Lose frames (first_lost frames)
makes_lost [] = makes_one Lose [] [] _ refl refl refl
makes_lost (frame ∷ frames) = makes_one Lose (frame ∷ frames) frames _ refl refl refl

pub makes_doubled : (frames : Frames) → Makes Repeat frames (first_doubled frames)
makes_doubled [] = makes_one Repeat [] [] _ refl refl refl
makes_doubled (frame ∷ frames) = makes_one Repeat (frame ∷ frames) (frame ∷ frame ∷ frames) _ refl refl refl

pub makes_put : (octets : List ℕ) (frames : Frames) → Makes (Put octets) frames (octets ∷ frames)
makes_put octets frames = makes_one (Put octets) frames (octets ∷ frames) _ refl refl refl

-- ---- an altered octet

changed_past : (place mask : ℕ) (frame : List ℕ) → length frame ≤ place → octet_changed place mask frame ≡ frame
changed_past place mask [] past = refl
changed_past zero mask (octet ∷ octets) past = absurd (omega arith)
changed_past (suc place) mask (octet ∷ octets) past = ap (λ (xs : List ℕ). octet ∷ xs) (changed_past place mask octets (omega arith))

changed_by_none : (place : ℕ) (frame : List ℕ) → octet_changed place 0 frame ≡ frame
changed_by_none place [] = refl
changed_by_none zero (octet ∷ octets) = ap (λ (x : ℕ). x ∷ octets) (xor_zero_r octet)
changed_by_none (suc place) (octet ∷ octets) = ap (λ (xs : List ℕ). octet ∷ xs) (changed_by_none place octets)

altered_is : (place mask : ℕ) (frame : List ℕ) → altered frame place mask ≡ octet_changed place mask frame
altered_is place mask [] = refl
altered_is zero mask (octet ∷ octets) = refl
altered_is (suc place) mask (octet ∷ octets) = ap (λ (xs : List ℕ). octet ∷ xs) (altered_is place mask octets)

pub makes_altered : (place mask : ℕ) (frames : Frames) → Makes (Alter place mask) frames (first_altered place mask frames)
makes_altered place mask [] = makes_one (Alter place mask) [] [] _ refl refl refl
makes_altered place mask (frame ∷ frames) =
    elim (cases_Bool (nat_lt place (length frame))) [
      | inr past ↦
          makes_one (Alter place mask) (frame ∷ frames) (octet_changed place mask frame ∷ frames) (IsShort (length frame))
          (rw past (ap (λ (x : List ℕ). (x ∷ frames, IsShort (length frame) ∷ [])) (sym (changed_past place mask frame (ltb-false place (length frame) past))))) refl refl
      | inl within ↦
          elim (cases_Bool (mask == 0)) [
            | inl none ↦
                let zero_mask : mask ≡ 0 = eqb-true mask 0 none in
                let same : octet_changed place mask frame ≡ frame = ap (λ (x : ℕ). octet_changed place x frame) zero_mask ∙ changed_by_none place frame in
                let is : change_first (Alter place mask) (frame ∷ frames) ≡ (octet_changed place mask frame ∷ frames, []) =
                rw (within, none) (ap (λ (x : List ℕ). (x ∷ frames, [])) (sym same)) in
                record {
                  waits = ap (λ (a : Frames × List DrillOutcome). a.0) is;
                  tells = λ side at. ap (λ (a : Frames × List DrillOutcome). frames_told_by side (map (at_end at) a.1)) is;
                  passes = λ side at. ap (λ (a : Frames × List DrillOutcome). frames_passed_by side (map (at_end at) a.1)) is;
                }
            | inr some ↦
                makes_one (Alter place mask) (frame ∷ frames) (octet_changed place mask frame ∷ frames) Altered
                (rw (within, some) (ap (λ (x : List ℕ). (x ∷ frames, Altered ∷ [])) (altered_is place mask frame))) refl refl
          ]
    ]

-- ---- a change at one link

-- what waits of a side, where that of this one was changed
change_flows : (l : Link) (side at : Side) (change : LineChange) (made_of : Frames) → Makes change (waiting_of l at) made_of
    → Flows side (if is_side at side then made_of else waiting_of l side) (link_step l (Change at change))
change_flows l side at change made_of h =
    let a : Frames × List DrillOutcome = change_first change (waiting_of l at) in
    let after : Link = with_waiting l at a.0 in
    let then' : Frames = if is_side at side then made_of else waiting_of l side in
    ap (λ (xs : Frames). xs ++ waiting_of after side) (h.passes side at)
    ∙ ap (λ (xs : Frames). waiting_of (with_waiting l at xs) side) h.waits
    ∙ by_sides side at
    ∙ sym (append-nil then')
    ∙ ap (λ (xs : Frames). then' ++ xs) (sym (h.tells side at))
  where
    by_sides : (s t : Side) → waiting_of (with_waiting l t made_of) s ≡ (if is_side t s then made_of else waiting_of l s)
    by_sides E E = refl
    by_sides E R = refl
    by_sides R E = refl
    by_sides R R = refl

-- a change at one side as each side sees it
pub flows_changed : (l : Link) (side at : Side) (change : LineChange) (f : Frames → Frames) → ((frames : Frames) → Makes change frames (f frames))
    → Flows side (if is_side at side then f (waiting_of l side) else waiting_of l side) (link_step l (Change at change))
flows_changed l side at change f each =
    subst (λ (xs : Frames). Flows side xs (link_step l (Change at change))) (by_sides side at) (change_flows l side at change (f (waiting_of l at)) (each (waiting_of l at)))
  where
    by_sides : (s t : Side) → (if is_side t s then f (waiting_of l t) else waiting_of l s) ≡ (if is_side t s then f (waiting_of l s) else waiting_of l s)
    by_sides E E = refl
    by_sides E R = refl
    by_sides R E = refl
    by_sides R R = refl
