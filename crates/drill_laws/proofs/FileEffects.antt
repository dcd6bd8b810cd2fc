-- What came at a link, in the words of the file: each send is a step's, and without the steps that disturb, nothing is disturbed.
use Rattle.std.proofs.Common.{◌≡◌, ◌⊎◌, inl, inr, ℕ, ◌==◌, ◌&&◌, ◌||◌, not, nat_lt, max, if◌then◌else◌, true, false, Bool, List, [], ◌∷◌, ◌++◌, length, map, refl, sym, ap, ap₂, subst, ◌∙◌, append-nil, append_assoc}
use Rattle.std.specs.Prelude.{Option, Some, None}
use Rattle.std.specs.List.{flat_map, list_any}
use Rattle.std.proofs.lemmas.Bool.{cases_eq, cases_Bool, eq-eqb, or_parts}
use Rattle.std.proofs.lemmas.List.Concat.{flat_map-append}
use Rattle.std.proofs.lemmas.List.Folds.{list_any-append}
use Rattle.er_base.specs.declared.side.Side.{Side}
use Rattle.er_base.specs.declared.side.Side.TheVariants.{E, R}
use Rattle.er_scenario.specs.declared.step.Step.{Step}
use Rattle.er_scenario.specs.declared.step.Step.TheVariants as does
use Rattle.safety_automaton.specs.Rules.{StepsOnly}
use Rattle.safety_pair_laws.specs.Facts.{Fact, Sent, Sealed, Verified, Connected, Accepted, is_side}
use Rattle.safety_pair_laws.specs.Messages as pair
use Rattle.drill_model.specs.Outcomes.{DrillOutcome, OfSafety, Occurrence}
use Rattle.drill_model.specs.Links.{Link, waiting_of, Pass, link_step}
use Rattle.drill_model.specs.Worlds.{DrillPlan, World, Came, link_at, history_on, world_step, world_run}
use Rattle.drill_model.specs.Kinds.{sent_in, sent_by, is_disorder, is_disturbance}
use Rattle.drill_model.specs.Growth.{FactsGrow, HistoryGrows, HistoryOfOwn, HistoryOfOther, RunGrows}
use Rattle.drill_model.specs.Effects.{Effect, Sends, IsRefused, Passes, Loses, Repeats, Alters, Inserts, Releases, Expires, effect_of, effect_in, Effects, effects_in, HasRunOut, At, of_first, of_alter, of_copy, OfTick, TickEffects, of_passes, HasEffects, StepsHaveEffects, IsPartOf, Nothing, LeavesOut, TakesIn, texts_sent_by_step, SendsAreSteps, disorders, disturbs, NoneRunsOut, QuietKeepsOrder, QuietIsLossFree, Steps}
use Rattle.drill_laws.proofs.LineKept.{line_is_kept}
use Rattle.drill_laws.proofs.Openings.{numbered}
use Rattle.drill_laws.proofs.StepEffects.{effects_append}
use Rattle.drill_laws.proofs.WorldEffects.{brought, step_effects, step_closed}

-- ---- what is judged of a history is judged of its effects

abbrev sends_in : Effect → List (List ℕ)
sends_in (Sends octets) = octets ∷ []
sends_in _ = []

abbrev sent_at : Side → Side × Effect → List (List ℕ)
sent_at side e = if is_side side e.0 then sends_in e.1 else []

abbrev sends_by : Side → Effects → List (List ℕ)
sends_by side effects = flat_map (sent_at side) effects

fact_sends : (fact : Fact) → pair.sent_in fact ≡ flat_map sends_in (effect_of fact)
fact_sends (Sent user key text) = refl
fact_sends (Sealed key text) = refl
fact_sends (Verified heard key text) = refl
fact_sends (Connected heard connection text) = refl
fact_sends (Accepted heard user key text) = refl

outcome_sends : (o : DrillOutcome) → sent_in o ≡ flat_map sends_in (effect_in o)
outcome_sends (OfSafety fact) = fact_sends fact
outcome_sends _ = refl

occurrence_sends : (s side : Side) (es : List Effect) → (if is_side s side then flat_map sends_in es else []) ≡ sends_by s (map (λ e. (side, e)) es)
occurrence_sends s side [] = none (is_side s side) []
  where
    none : (b : Bool) (xs : List (List ℕ)) → (if b then xs else xs) ≡ xs
    none true xs = refl
    none false xs = refl
occurrence_sends E E (e ∷ es) = ap (λ (xs : List (List ℕ)). sends_in e ++ xs) (occurrence_sends E E es)
occurrence_sends E R (e ∷ es) = occurrence_sends E R es
occurrence_sends R E (e ∷ es) = occurrence_sends R E es
occurrence_sends R R (e ∷ es) = ap (λ (xs : List (List ℕ)). sends_in e ++ xs) (occurrence_sends R R es)

history_sends : (side : Side) (history : List Occurrence) → sent_by side history ≡ sends_by side (effects_in history)
history_sends side [] = refl
history_sends side (o ∷ history) =
    ap₂ (λ (xs ys : List (List ℕ)). xs ++ ys)
    (ap (λ (xs : List (List ℕ)). if is_side side o.side then xs else []) (outcome_sends o.outcome) ∙ occurrence_sends side o.side (effect_in o.outcome))
    (history_sends side history)
    ∙ sym (flat_map-append (sent_at side) (map (λ e. (o.side, e)) (effect_in o.outcome)) (effects_in history))

-- a test of outcomes that is one of their effects
module _ (f : DrillOutcome → Bool) (g : Effect → Bool) (same : (o : DrillOutcome) → f o ≡ list_any g (effect_in o)) where
  at_a_side : (side : Side) (es : List Effect) → list_any g es ≡ list_any (λ (e : Side × Effect). g e.1) (map (λ e. (side, e)) es)
  at_a_side side [] = refl
  at_a_side side (e ∷ es) = ap (λ (b : Bool). g e || b) (at_a_side side es)

  history_tests : (history : List Occurrence) → list_any (λ (o : Occurrence). f o.outcome) history ≡ list_any (λ (e : Side × Effect). g e.1) (effects_in history)
  history_tests [] = refl
  history_tests (o ∷ history) =
      ap₂ (λ (a b : Bool). a || b) (same o.outcome ∙ at_a_side o.side (effect_in o.outcome)) (history_tests history)
      ∙ sym (list_any-append (λ (e : Side × Effect). g e.1) (map (λ e. (o.side, e)) (effect_in o.outcome)) (effects_in history))

abbrev upsets : Effect → Bool
upsets Alters = true
upsets Inserts = true
upsets _ = false

abbrev troubles : Effect → Bool
troubles (Sends octets) = false
troubles IsRefused = false
troubles (Passes frame) = false
troubles _ = true

no_fact : (g : Effect → Bool) → ((octets : List ℕ) → g (Sends octets) ≡ false) → (fact : Fact) → false ≡ list_any g (effect_of fact)
no_fact g sends (Sent user key text) = sym (ap (λ (b : Bool). b || false) (sends user))
no_fact g sends _ = refl

outcome_upsets : (o : DrillOutcome) → is_disorder o ≡ list_any upsets (effect_in o)
outcome_upsets (OfSafety fact) = no_fact upsets (λ octets. refl) fact
outcome_upsets _ = refl

outcome_troubles : (o : DrillOutcome) → is_disturbance o ≡ list_any troubles (effect_in o)
outcome_troubles (OfSafety fact) = no_fact troubles (λ octets. refl) fact
outcome_troubles _ = refl

-- ---- some elements of a list

pub none_of : (ys : List (List ℕ)) → IsPartOf [] ys
none_of [] = Nothing
none_of (y ∷ ys) = LeavesOut y [] ys (none_of ys)

part_append : (xs ys more rest : List (List ℕ)) → IsPartOf xs ys → IsPartOf more rest → IsPartOf (xs ++ more) (ys ++ rest)
part_append xs ys more rest Nothing b = b
part_append xs ys more rest (LeavesOut y part whole a) b = LeavesOut y (part ++ more) (whole ++ rest) (part_append part whole more rest a b)
part_append xs ys more rest (TakesIn y part whole a) b = TakesIn y (part ++ more) (whole ++ rest) (part_append part whole more rest a b)

-- ---- effects of each step

abbrev Q_any : (Effect → Bool) → Effects → Bool
Q_any g effects = list_any (λ (e : Side × Effect). g e.1) effects

-- at one link, or none
at_or_none : (P : Effects → Type 0) (m n : ℕ) (effects : Effects) (claim : Type 0) → At m n effects claim → P [] → ((m ≡ n) → claim → P effects) → P effects
at_or_none P m n effects claim h none some =
    elim (cases_eq m n) [
      | inl e ↦ some e (h.0 e)
      | inr apart ↦ subst P (sym (h.1 apart)) none
    ]

-- P of effects follows of P of these
of_these : (P : Effects → Type 0) (m n : ℕ) (effects these : Effects) → At m n effects (effects ≡ these) → P [] → P these → P effects
of_these P m n effects these h none some = at_or_none P m n effects (effects ≡ these) h none (λ e is. subst P (sym is) some)

module _ (g : Effect → Bool) where
  abbrev Quiet : Effects → Type 0
  Quiet effects = Q_any g effects ≡ false

  quiet_append : (xs ys : Effects) → Quiet xs → Quiet ys → Quiet (xs ++ ys)
  quiet_append xs ys x y = list_any-append (λ (e : Side × Effect). g e.1) xs ys ∙ ap₂ (λ (a b : Bool). a || b) x y

  quiet_one : (side : Side) (e : Effect) → g e ≡ false → Quiet ((side, e) ∷ [])
  quiet_one side e none = ap (λ (b : Bool). b || false) none

  quiet_first : (side : Side) (f : List ℕ → Effect) → ((frame : List ℕ) → g (f frame) ≡ false) → (frames : List (List ℕ)) → Quiet (of_first side f frames)
  quiet_first side f none [] = refl
  quiet_first side f none (frame ∷ frames) = quiet_one side (f frame) (none frame)

  quiet_passes : ((frame : List ℕ) → g (Passes frame) ≡ false) → (l : Link) (sides : List Side) → Quiet (of_passes l sides)
  quiet_passes none l [] = refl
  quiet_passes none l (side ∷ sides) =
      quiet_append (of_first side Passes (waiting_of l side)) (of_passes (link_step l (Pass side)).0 sides)
      (quiet_first side Passes none (waiting_of l side)) (quiet_passes none (link_step l (Pass side)).0 sides)

  quiet_if : (side : Side) (b : Bool) → (b ≡ true → g Expires ≡ false) → Quiet (if b then (side, Expires) ∷ [] else [])
  quiet_if side true none = quiet_one side Expires (none refl)
  quiet_if side false none = refl

  quiet_tick : (now : ℕ) (l : Link) (effects : Effects) → TickEffects now l effects → (HasRunOut now l.e → g Expires ≡ false) → (HasRunOut now l.r → g Expires ≡ false) → Quiet effects
  quiet_tick now l effects h e r =
      subst Quiet (sym h.is)
      (quiet_append (if h.e then (E, Expires) ∷ [] else []) (if h.r then (R, Expires) ∷ [] else [])
      (quiet_if E h.e (λ yes_e. e (h.e_ran_out yes_e))) (quiet_if R h.r (λ yes_r. r (h.r_ran_out yes_r))))

  quiet_at_tick : (back : Bool) (moment : ℕ) (l : Link) (effects : Effects) → OfTick back moment l effects → (HasRunOut (max l.moment moment) l.e → g Expires ≡ false)
      → (HasRunOut (max l.moment moment) l.r → g Expires ≡ false) → Quiet effects
  quiet_at_tick true moment l effects h e r = subst Quiet (sym h) refl
  quiet_at_tick false moment l effects h e r = quiet_tick (max l.moment moment) l effects h e r

  quiet_either : (effects one two : Effects) → (effects ≡ one) ⊎ (effects ≡ two) → Quiet one → Quiet two → Quiet effects
  quiet_either effects one two (inl is) a b = subst Quiet (sym is) a
  quiet_either effects one two (inr is) a b = subst Quiet (sym is) b

clash : (m n : ℕ) (b : Bool) → (m == n) ≡ false → m ≡ n → ⊥
clash m n b differs e = let same : (m == n) ≡ true = eq-eqb m n e in let f : true ≡ false = sym same ∙ differs in cc

-- a step that doesn't alter or insert
orderly_step : (w : World) (n : ℕ) (l : Link) (s : Step) (effects : Effects) → HasEffects w n l s effects → disorders n s ≡ false → Quiet upsets effects
orderly_step w n l (does.Send m s text) effects h none =
    at_or_none (Quiet upsets) m n effects _ h refl (λ e is. quiet_either upsets effects ((s, Sends text) ∷ []) ((s, IsRefused) ∷ []) is refl refl)
orderly_step w n l (does.Pass m s) effects h none = of_these (Quiet upsets) m n effects _ h refl (quiet_first upsets s Passes (λ frame. refl) (waiting_of l s))
orderly_step w n l (does.Lose m s) effects h none = of_these (Quiet upsets) m n effects _ h refl (quiet_first upsets s (λ frame. Loses) (λ frame. refl) (waiting_of l s))
orderly_step w n l (does.Repeat m s) effects h none = of_these (Quiet upsets) m n effects _ h refl (quiet_first upsets s (λ frame. Repeats) (λ frame. refl) (waiting_of l s))
orderly_step w n l (does.Alter m s place mask) effects h none = at_or_none (Quiet upsets) m n effects _ h refl (λ e is. absurd (clash m n true none e))
orderly_step w n l (does.Put m s text) effects h none = at_or_none (Quiet upsets) m n effects _ h refl (λ e is. absurd (clash m n true none e))
orderly_step w n l (does.Copy m s k t) effects h none = at_or_none (Quiet upsets) k n effects _ h refl (λ e is. absurd (clash k n true none e))
orderly_step w n l (does.Release m s sub) effects h none = of_these (Quiet upsets) m n effects _ h refl refl
orderly_step w n l (does.Tick moment) effects h none = quiet_at_tick upsets (nat_lt moment w.moment) moment l effects h (λ ran. refl) (λ ran. refl)
orderly_step w n l (does.Drain m most) effects h none =
    at_or_none (Quiet upsets) m n effects _ h refl (λ e d. subst (Quiet upsets) (sym d.are) (quiet_passes upsets (λ frame. refl) l d.sides))
orderly_step w n l _ effects h none = subst (Quiet upsets) (sym h) refl

-- at a tick of the file no timer had run out
abbrev Keeps : Step → Link → Type 0
Keeps (does.Tick moment) l = (HasRunOut (max l.moment moment) l.e → ⊥) × (HasRunOut (max l.moment moment) l.r → ⊥)
Keeps _ l = Unit {0}

-- one that doesn't disturb either
gentle_step : (w : World) (n : ℕ) (l : Link) (s : Step) (effects : Effects) → HasEffects w n l s effects → disorders n s ≡ false → disturbs n s ≡ false → Keeps s l
    → Quiet troubles effects
gentle_step w n l (does.Send m s text) effects h none calm keeps =
    at_or_none (Quiet troubles) m n effects _ h refl (λ e is. quiet_either troubles effects ((s, Sends text) ∷ []) ((s, IsRefused) ∷ []) is refl refl)
gentle_step w n l (does.Pass m s) effects h none calm keeps = of_these (Quiet troubles) m n effects _ h refl (quiet_first troubles s Passes (λ frame. refl) (waiting_of l s))
gentle_step w n l (does.Lose m s) effects h none calm keeps = at_or_none (Quiet troubles) m n effects _ h refl (λ e is. absurd (clash m n true calm e))
gentle_step w n l (does.Repeat m s) effects h none calm keeps = at_or_none (Quiet troubles) m n effects _ h refl (λ e is. absurd (clash m n true calm e))
gentle_step w n l (does.Alter m s place mask) effects h none calm keeps = at_or_none (Quiet troubles) m n effects _ h refl (λ e is. absurd (clash m n true none e))
gentle_step w n l (does.Put m s text) effects h none calm keeps = at_or_none (Quiet troubles) m n effects _ h refl (λ e is. absurd (clash m n true none e))
gentle_step w n l (does.Copy m s k t) effects h none calm keeps = at_or_none (Quiet troubles) k n effects _ h refl (λ e is. absurd (clash k n true none e))
gentle_step w n l (does.Release m s sub) effects h none calm keeps = at_or_none (Quiet troubles) m n effects _ h refl (λ e is. absurd (clash m n true calm e))
gentle_step w n l (does.Tick moment) effects h none calm keeps =
    quiet_at_tick troubles (nat_lt moment w.moment) moment l effects h (λ ran. absurd (keeps.0 ran)) (λ ran. absurd (keeps.1 ran))
gentle_step w n l (does.Drain m most) effects h none calm keeps =
    at_or_none (Quiet troubles) m n effects _ h refl (λ e d. subst (Quiet troubles) (sym d.are) (quiet_passes troubles (λ frame. refl) l d.sides))
gentle_step w n l _ effects h none calm keeps = subst (Quiet troubles) (sym h) refl

-- ---- sends

module _ (side : Side) where
  abbrev Mute : Effects → Type 0
  Mute effects = sends_by side effects ≡ []

  mute_append : (xs ys : Effects) → Mute xs → Mute ys → Mute (xs ++ ys)
  mute_append xs ys x y = flat_map-append (sent_at side) xs ys ∙ ap₂ (λ (a b : List (List ℕ)). a ++ b) x y

  mute_one : (s : Side) (e : Effect) → sends_in e ≡ [] → Mute ((s, e) ∷ [])
  mute_one s e none =
      elim (cases_Bool (is_side side s)) [
        | inl own ↦ rw (own, none) refl
        | inr foreign ↦ rw foreign refl
      ]

  mute_first : (s : Side) (f : List ℕ → Effect) → ((frame : List ℕ) → sends_in (f frame) ≡ []) → (frames : List (List ℕ)) → Mute (of_first s f frames)
  mute_first s f none [] = refl
  mute_first s f none (frame ∷ frames) = mute_one s (f frame) (none frame)

  mute_alter : (s : Side) (place mask : ℕ) (frames : List (List ℕ)) → Mute (of_alter s place mask frames)
  mute_alter s place mask [] = refl
  mute_alter s place mask (frame ∷ frames) = test (nat_lt place (length frame) && not (mask == 0))
    where
      test : (b : Bool) → Mute (if b then (s, Alters) ∷ [] else [])
      test true = mute_one s Alters refl
      test false = refl

  mute_copy : (from : Option Link) (s t : Side) → Mute (of_copy from s t)
  mute_copy None s t = refl
  mute_copy (Some l) s t = mute_first t (λ frame. Inserts) (λ frame. refl) (waiting_of l s)

  mute_passes : (l : Link) (sides : List Side) → Mute (of_passes l sides)
  mute_passes l [] = refl
  mute_passes l (s ∷ sides) =
      mute_append (of_first s Passes (waiting_of l s)) (of_passes (link_step l (Pass s)).0 sides)
      (mute_first s Passes (λ frame. refl) (waiting_of l s)) (mute_passes (link_step l (Pass s)).0 sides)

  mute_if : (s : Side) (b : Bool) → Mute (if b then (s, Expires) ∷ [] else [])
  mute_if s true = mute_one s Expires refl
  mute_if s false = refl

  mute_tick : (back : Bool) (moment : ℕ) (l : Link) (effects : Effects) → OfTick back moment l effects → Mute effects
  mute_tick true moment l effects h = subst Mute (sym h) refl
  mute_tick false moment l effects h =
      subst Mute (sym h.is) (mute_append (if h.e then (E, Expires) ∷ [] else []) (if h.r then (R, Expires) ∷ [] else []) (mute_if E h.e) (mute_if R h.r))

  -- what a step sends is its text
  abbrev Tells : List (List ℕ) → Effects → Type 0
  Tells texts effects = IsPartOf (sends_by side effects) texts

  mute_tells : (texts : List (List ℕ)) (effects : Effects) → Mute effects → Tells texts effects
  mute_tells texts effects mute = subst (λ (xs : List (List ℕ)). IsPartOf xs texts) (sym mute) (none_of texts)

  -- a send of this link
  sent_tells : (m n : ℕ) (s : Side) (text : List ℕ) → m ≡ n → Tells (if (m == n) && is_side s side then text ∷ [] else []) ((s, Sends text) ∷ [])
  sent_tells m n s text e = let same : (m == n) ≡ true = eq-eqb m n e in rw same (by_side side s)
    where
      by_side : (a b : Side) → IsPartOf (sends_by a ((b, Sends text) ∷ [])) (if is_side b a then text ∷ [] else [])
      by_side E E = TakesIn text [] [] Nothing
      by_side E R = Nothing
      by_side R E = Nothing
      by_side R R = TakesIn text [] [] Nothing

  step_tells : (w : World) (n : ℕ) (l : Link) (s : Step) (effects : Effects) → HasEffects w n l s effects → Tells (texts_sent_by_step n side s) effects
  step_tells w n l (does.Send m s text) effects h =
      let texts : List (List ℕ) = texts_sent_by_step n side (does.Send m s text) in
      at_or_none (Tells texts) m n effects _ h (none_of texts)
      (λ e is.
      elim is [
        | inl sends ↦ subst (Tells texts) (sym sends) (sent_tells m n s text e)
        | inr refused ↦ mute_tells texts effects (subst Mute (sym refused) (mute_one s IsRefused refl))
      ])
  step_tells w n l (does.Pass m s) effects h = mute_tells [] effects (of_these Mute m n effects _ h refl (mute_first s Passes (λ frame. refl) (waiting_of l s)))
  step_tells w n l (does.Lose m s) effects h = mute_tells [] effects (of_these Mute m n effects _ h refl (mute_first s (λ frame. Loses) (λ frame. refl) (waiting_of l s)))
  step_tells w n l (does.Repeat m s) effects h = mute_tells [] effects (of_these Mute m n effects _ h refl (mute_first s (λ frame. Repeats) (λ frame. refl) (waiting_of l s)))
  step_tells w n l (does.Alter m s place mask) effects h = mute_tells [] effects (of_these Mute m n effects _ h refl (mute_alter s place mask (waiting_of l s)))
  step_tells w n l (does.Put m s text) effects h = mute_tells [] effects (of_these Mute m n effects _ h refl (mute_one s Inserts refl))
  step_tells w n l (does.Copy m s k t) effects h = mute_tells [] effects (of_these Mute k n effects _ h refl (mute_copy (link_at w m) s t))
  step_tells w n l (does.Release m s sub) effects h = mute_tells [] effects (of_these Mute m n effects _ h refl (mute_one s (Releases sub) refl))
  step_tells w n l (does.Tick moment) effects h = mute_tells [] effects (mute_tick (nat_lt moment w.moment) moment l effects h)
  step_tells w n l (does.Drain m most) effects h =
      mute_tells [] effects (at_or_none Mute m n effects _ h refl (λ e d. subst Mute (sym d.are) (mute_passes l d.sides)))
  step_tells w n l _ effects h = mute_tells [] effects (subst Mute (sym h) refl)

-- ---- a list of steps

module _ (only : StepsOnly) (facts : FactsGrow) (grow : HistoryGrows) (own : HistoryOfOwn) (other : HistoryOfOther) (runs : RunGrows) where
  abbrev world : DrillPlan → List Step → World
  world plan steps = (world_run plan steps).0

  pub steps_have_effects : (plan : DrillPlan) (steps : List Step) → StepsHaveEffects plan steps
  steps_have_effects plan steps before after s n l split is =
      step_effects only grow own other plan (world plan before) n l is (numbered facts plan before n l is) s

  -- what a step behind others brings about at link n, whether it is open or not
  step_brings : (P : Effects → Type 0) (plan : DrillPlan) (before : List Step) (s : Step) (n : ℕ) → P []
      → ((l : Link) → link_at (world plan before) n ≡ Some l → (effects : Effects) → HasEffects (world plan before) n l s effects → P effects)
      → P (brought only grow own other plan (world plan before) n s)
  step_brings P plan before s n none some = by_place (link_at (world plan before) n) refl
    where
      by_place : (place : Option Link) → link_at (world plan before) n ≡ place → P (brought only grow own other plan (world plan before) n s)
      by_place None is = subst P (sym (step_closed only grow own other plan (world plan before) n is s)) none
      by_place (Some l) is =
          some l is (brought only grow own other plan (world plan before) n s)
          (step_effects only grow own other plan (world plan before) n l is (numbered facts plan before n l is) s)

  -- all effects behind one step more
  more_effects : (plan : DrillPlan) (before : List Step) (s : Step) (n : ℕ)
      → effects_in (history_on n (world_run plan (before ++ s ∷ [])).1)
      ≡ effects_in (history_on n (world_run plan before).1) ++ brought only grow own other plan (world plan before) n s
  more_effects plan before s n =
      ap (λ (a : World × List Came). effects_in (history_on n a.1)) (runs plan before s)
      ∙ ap effects_in (grow n (world_run plan before).1 (world_step plan (world plan before) s).1)
      ∙ effects_append (history_on n (world_run plan before).1) (history_on n (world_step plan (world plan before) s).1)

  -- what holds of no step, and behind each step more of these, holds of all of them
  step_by_step : (P : List Step → Type 0) (steps before rest : List Step) → steps ≡ before ++ rest → P before
      → ((early : List Step) (s : Step) (late : List Step) → steps ≡ early ++ s ∷ late → P early → P (early ++ s ∷ [])) → P steps
  step_by_step P steps before [] split now more = subst P (sym (split ∙ append-nil before)) now
  step_by_step P steps before (s ∷ rest) split now more =
      step_by_step P steps (before ++ s ∷ []) rest (split ∙ sym (append_assoc before (s ∷ []) rest)) (more before s rest split now) more

  pub sends_are_steps : (plan : DrillPlan) (steps : List Step) → SendsAreSteps plan steps
  sends_are_steps plan steps n side =
      let P : List Step → Type 0 = λ early.
      IsPartOf (sends_by side (effects_in (history_on n (world_run plan early).1))) (flat_map (texts_sent_by_step n side) early) in
      let all : P steps =
      step_by_step P steps [] steps refl Nothing
      (λ early s late split now.
      let more : Effects = brought only grow own other plan (world plan early) n s in
      let texts : List (List ℕ) = texts_sent_by_step n side s in
      let one : IsPartOf (sends_by side more) texts =
      step_brings (λ effects. IsPartOf (sends_by side effects) texts) plan early s n (none_of texts)
      (λ l is effects h. step_tells side (world plan early) n l s effects h) in
      let both = part_append (sends_by side (effects_in (history_on n (world_run plan early).1))) (flat_map (texts_sent_by_step n side) early) (sends_by side more) texts now one in
      let whole : sends_by side (effects_in (history_on n (world_run plan (early ++ s ∷ [])).1))
      ≡ sends_by side (effects_in (history_on n (world_run plan early).1)) ++ sends_by side more =
      ap (sends_by side) (more_effects plan early s n) ∙ flat_map-append (sent_at side) (effects_in (history_on n (world_run plan early).1)) more in
      let file : flat_map (texts_sent_by_step n side) (early ++ s ∷ []) ≡ flat_map (texts_sent_by_step n side) early ++ texts =
      flat_map-append (texts_sent_by_step n side) early (s ∷ []) ∙ ap (λ (xs : List (List ℕ)). flat_map (texts_sent_by_step n side) early ++ xs) (append-nil texts) in
      subst (λ (xs : List (List ℕ)). IsPartOf xs (flat_map (texts_sent_by_step n side) (early ++ s ∷ []))) (sym whole)
      (subst (λ (xs : List (List ℕ)).
      IsPartOf (sends_by side (effects_in (history_on n (world_run plan early).1)) ++ sends_by side more) xs) (sym file) both)) in
      subst (λ (xs : List (List ℕ)). IsPartOf xs (flat_map (texts_sent_by_step n side) steps)) (sym (history_sends side (history_on n (world_run plan steps).1))) all

  -- a test that no step of a list fits
  none_within : (f : Step → Bool) (steps early : List Step) (s : Step) (late : List Step) → steps ≡ early ++ s ∷ late → list_any f steps ≡ false → f s ≡ false
  none_within f steps early s late split none =
      let whole : (list_any f early || (f s || list_any f late)) ≡ false = sym (ap (list_any f) split ∙ list_any-append f early (s ∷ late)) ∙ none in
      (or_parts (f s) (list_any f late) (or_parts (list_any f early) (f s || list_any f late) whole).1).0

  -- effects that a test doesn't fit, step by step
  quiet_run : (g : Effect → Bool) (plan : DrillPlan) (steps : List Step) (n : ℕ)
      → ((early : List Step) (s : Step) (late : List Step) → steps ≡ early ++ s ∷ late
      → (l : Link) → link_at (world plan early) n ≡ Some l → (effects : Effects) → HasEffects (world plan early) n l s effects → Quiet g effects)
      → Quiet g (effects_in (history_on n (world_run plan steps).1))
  quiet_run g plan steps n each =
      step_by_step (λ early. Quiet g (effects_in (history_on n (world_run plan early).1))) steps [] steps refl refl
      (λ early s late split now.
      subst (Quiet g) (sym (more_effects plan early s n))
      (quiet_append g (effects_in (history_on n (world_run plan early).1)) (brought only grow own other plan (world plan early) n s) now
      (step_brings (Quiet g) plan early s n refl (each early s late split))))

  pub quiet_keeps_order : (plan : DrillPlan) (steps : List Step) → QuietKeepsOrder plan steps
  quiet_keeps_order plan steps n l is none is_numbered =
      record {
        numbered = is_numbered;
        ordered = history_tests is_disorder upsets outcome_upsets (history_on n (world_run plan steps).1)
            ∙ quiet_run upsets plan steps n
            (λ early s late split k at_k effects h. orderly_step (world plan early) n k s effects h (none_within (disorders n) steps early s late split none));
      }

  -- at a tick among these no timer had run out
  keeps_at : (plan : DrillPlan) (steps : List Step) (n : ℕ) → NoneRunsOut plan steps n → (early : List Step) (s : Step) (late : List Step) → steps ≡ early ++ s ∷ late
      → (l : Link) → link_at (world plan early) n ≡ Some l → Keeps s l
  keeps_at plan steps n none early (does.Tick moment) late split l is = none early late moment l split is
  keeps_at plan steps n none early _ late split l is = tt

  pub quiet_is_loss_free : (plan : DrillPlan) (steps : List Step) → QuietIsLossFree plan steps
  quiet_is_loss_free plan steps n l is none keeps agree =
      record {
        undisturbed = history_tests is_disturbance troubles outcome_troubles (history_on n (world_run plan steps).1)
            ∙ quiet_run troubles plan steps n
            (λ early s late split k at_k effects h.
            let parts = or_parts (disorders n s) (disturbs n s) (none_within (λ (t : Step). disorders n t || disturbs n t) steps early s late split none) in
            gentle_step (world plan early) n k s effects h parts.0 parts.1 (keeps_at plan steps n keeps early s late split k at_k));
        agree = agree;
      }

  pub all_steps : (plan : DrillPlan) (steps : List Step) → Steps plan steps
  all_steps plan steps = record {
    effects = steps_have_effects plan steps;
    sends = sends_are_steps plan steps;
    order = quiet_keeps_order plan steps;
    loss_free = quiet_is_loss_free plan steps;
    line = line_is_kept only grow own other plan steps;
  }
