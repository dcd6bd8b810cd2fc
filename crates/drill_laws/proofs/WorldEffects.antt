-- What each step of a file brings about at a link, from any world on.
use Rattle.std.proofs.Common.{◌≡◌, ◌⊎◌, inl, inr, ℕ, zero, suc, ◌+◌, ◌≤◌, ◌<◌, ◌==◌, nat_lt, max, true, List, [], ◌∷◌, ◌++◌, length, map, refl, sym, ap, ap₂, subst, ◌∙◌, append-nil, arith}
use Rattle.std.specs.Prelude.{Option, Some, None}
use Rattle.std.proofs.lemmas.Bool.{cases_eq, cases_Bool, and_parts, ltb-true}
use Rattle.er_base.specs.declared.side.Side.{Side}
use Rattle.er_base.specs.declared.side.Side.TheVariants.{E, R}
use Rattle.er_scenario.specs.declared.step.Step.{Step}
use Rattle.er_scenario.specs.declared.step.Step.TheVariants as does
use Rattle.safety_automaton.specs.Rules.{StepsOnly}
use Rattle.hdlc_station_model.specs.Lines.{next_of}
use Rattle.drill_model.specs.Outcomes.{NothingWaits, Occurrence, at_end}
use Rattle.drill_model.specs.Waiting.{Lose, Repeat, Alter, Put}
use Rattle.drill_model.specs.Links.{Link, LinkOpening, opened_link, waiting_of, LinkStep, Send, Pass, Change, Take, Release, Tick, link_step}
use Rattle.drill_model.specs.Worlds.{DrillPlan, World, Came, On, Drained, is_link, link_at, history_on, went_on, fixed_opening, link_opening, wire_opening, open_link, at_link, next_side, overfull_side, Drain, drain, drain_on, drain_link, copy_frame, copy_between, tick_each_link, tick_world, world_step}
use Rattle.drill_model.specs.Growth.{HistoryGrows, HistoryOfOwn, HistoryOfOther}
use Rattle.drill_model.specs.Effects.{Sends, IsRefused, Passes, Loses, Repeats, Inserts, Releases, Effects, effects_in, At, of_first, of_alter, of_copy, OfTick, TickEffects, IsNextToPass, DrainEffects, HasEffects}
use Rattle.drill_laws.proofs.Openings.{has_room, overfull_has_none}
use Rattle.drill_laws.proofs.OneLink.{drain_leads, other_rests, ticks_lead}
use Rattle.drill_laws.proofs.StepEffects.{effects_append, opened_effects, send_effects, pass_effects, take_effects, release_effects, tick_effects, lose_effects, repeat_effects, alter_effects, put_effects}

-- ---- where a drain goes on

none_next : (from_e from_r : List (List ℕ)) → next_of from_e from_r ≡ None → (from_e ≡ []) × (from_r ≡ [])
none_next [] [] is = (refl, refl)
none_next [] (frame ∷ frames) is = absurd cc
none_next (frame ∷ frames) from_r is = absurd cc

is_next : (l : Link) (side : Side) → next_side l ≡ Some side → IsNextToPass l side
is_next l E is = of_e l.from_e l.from_r is
  where
    of_e : (from_e from_r : List (List ℕ)) → next_of from_e from_r ≡ Some E → 1 ≤ length from_e
    of_e [] [] is = absurd cc
    of_e [] (frame ∷ frames) is = absurd cc
    of_e (frame ∷ frames) from_r is = omega arith
is_next l R is = of_r l.from_e l.from_r is
  where
    of_r : (from_e from_r : List (List ℕ)) → next_of from_e from_r ≡ Some R → (from_e ≡ []) × (1 ≤ length from_r)
    of_r [] [] is = absurd cc
    of_r [] (frame ∷ frames) is = (refl, omega arith)
    of_r (frame ∷ frames) from_r is = absurd cc

module _ (only : StepsOnly) (grow : HistoryGrows) (own : HistoryOfOwn) (other : HistoryOfOther) where
  -- ---- openings

  open_effects : (plan : DrillPlan) (w : World) (n m : ℕ) (place : Option Link) (opening : Option LinkOpening)
      → effects_in (history_on n (open_link plan w m place opening).1) ≡ []
  open_effects plan w n m (Some l) opening = refl
  open_effects plan w n m None None = refl
  open_effects plan w n m None (Some opening) =
      let a : Link × List Occurrence = opened_link plan.settings w.moment opening in
      let here : effects_in (history_on n (went_on w m a).1) ≡ [] =
      elim (cases_eq n m) [
        | inl e ↦ ap effects_in (ap (λ (i : ℕ). history_on n (map (On i) a.1)) (sym e) ∙ own n a.1) ∙ opened_effects only plan.settings w.moment opening
        | inr apart ↦ ap effects_in (other n m a.1 apart)
      ] in
      elim (cases_Bool (is_link m)) [
        | inl link ↦ rw link here
        | inr not_link ↦ rw not_link refl
      ]

  -- ---- steps of one link

  -- what comes of a step of the link at a place
  abbrev came_at : Option Link → LinkStep → List Occurrence
  came_at None s = []
  came_at (Some l) s = (link_step l s).1

  here : (w : World) (n : ℕ) (place : Option Link) (s : LinkStep) → history_on n (at_link w n place s).1 ≡ came_at place s
  here w n None s = refl
  here w n (Some l) s = own n (link_step l s).1

  elsewhere : (w : World) (n m : ℕ) (place : Option Link) (s : LinkStep) → (m ≡ n → ⊥) → history_on n (at_link w m place s).1 ≡ []
  elsewhere w n m None s apart = refl
  elsewhere w n m (Some l) s apart = other n m (link_step l s).1 (λ e. apart (sym e))

  at_open : (w : World) (n m : ℕ) (l : Link) (s : LinkStep) (claim : Effects → Type 0) → link_at w n ≡ Some l → claim (effects_in (link_step l s).1)
      → let effects = effects_in (history_on n (at_link w m (link_at w m) s).1) in At m n effects (claim effects)
  at_open w n m l s claim is holds = (
    λ e.
        let came : history_on n (at_link w m (link_at w m) s).1 ≡ (link_step l s).1 =
        ap (λ (i : ℕ). history_on n (at_link w i (link_at w i) s).1) e ∙ here w n (link_at w n) s ∙ ap (λ (place : Option Link). came_at place s) is in
        subst claim (sym (ap effects_in came)) holds,
    λ apart. ap effects_in (elsewhere w n m (link_at w m) s apart),
  )

  at_closed : (w : World) (n m : ℕ) (s : LinkStep) → link_at w n ≡ None → effects_in (history_on n (at_link w m (link_at w m) s).1) ≡ []
  at_closed w n m s none =
      elim (cases_eq m n) [
        | inl e ↦
            ap effects_in
            (ap (λ (i : ℕ). history_on n (at_link w i (link_at w i) s).1) e ∙ here w n (link_at w n) s ∙ ap (λ (place : Option Link). came_at place s) none)
        | inr apart ↦ ap effects_in (elsewhere w n m (link_at w m) s apart)
      ]

  -- ---- copies

  -- a copy where no frame waits tells no effect at any link
  none_copied : (n m : ℕ) (side : Side) → effects_in (history_on n (On m (at_end side NothingWaits) ∷ [])) ≡ []
  none_copied n m side =
      elim (cases_Bool (m == n)) [
        | inl same ↦ rw same refl
        | inr differs ↦ rw differs refl
      ]

  copied_here : (w : World) (n m : ℕ) (s t : Side) (frames : List (List ℕ)) (l : Link)
      → effects_in (history_on n (copy_frame w m s frames n t l).1) ≡ of_first t (λ frame. Inserts) frames
  copied_here w n m s t [] l = none_copied n m s
  copied_here w n m s t (frame ∷ frames) l = ap effects_in (own n (link_step l (Change t (Put frame))).1) ∙ put_effects l t frame

  copied_elsewhere : (w : World) (n m k : ℕ) (s t : Side) (frames : List (List ℕ)) (l : Link) → (k ≡ n → ⊥)
      → effects_in (history_on n (copy_frame w m s frames k t l).1) ≡ []
  copied_elsewhere w n m k s t [] l apart = none_copied n m s
  copied_elsewhere w n m k s t (frame ∷ frames) l apart = ap effects_in (other n k (link_step l (Change t (Put frame))).1 (λ e. apart (sym e)))

  copy_here : (w : World) (n m : ℕ) (s t : Side) (place : Option Link) (l : Link)
      → effects_in (history_on n (copy_between w m s place n t (Some l)).1) ≡ of_copy place s t
  copy_here w n m s t None l = refl
  copy_here w n m s t (Some from) l = copied_here w n m s t (waiting_of from s) l

  copy_elsewhere : (w : World) (n m k : ℕ) (s t : Side) (place to : Option Link) → (k ≡ n → ⊥)
      → effects_in (history_on n (copy_between w m s place k t to).1) ≡ []
  copy_elsewhere w n m k s t None to apart = refl
  copy_elsewhere w n m k s t (Some from) None apart = refl
  copy_elsewhere w n m k s t (Some from) (Some l) apart = copied_elsewhere w n m k s t (waiting_of from s) l apart

  copy_none : (w : World) (n m : ℕ) (s t : Side) (place : Option Link) → effects_in (history_on n (copy_between w m s place n t None).1) ≡ []
  copy_none w n m s t None = refl
  copy_none w n m s t (Some from) = refl

  abbrev copy_at : World → ℕ → ℕ → Side → ℕ → Side → Effects
  copy_at w n m s k t = effects_in (history_on n (copy_between w m s (link_at w m) k t (link_at w k)).1)

  copy_open : (w : World) (n m k : ℕ) (s t : Side) (l : Link) → link_at w n ≡ Some l → At k n (copy_at w n m s k t) (copy_at w n m s k t ≡ of_copy (link_at w m) s t)
  copy_open w n m k s t l is = (
    λ e.
        ap (λ (i : ℕ). copy_at w n m s i t) e ∙ ap (λ (to : Option Link). effects_in (history_on n (copy_between w m s (link_at w m) n t to).1)) is
        ∙ copy_here w n m s t (link_at w m) l,
    λ apart. copy_elsewhere w n m k s t (link_at w m) (link_at w k) apart,
  )

  copy_closed : (w : World) (n m k : ℕ) (s t : Side) → link_at w n ≡ None → copy_at w n m s k t ≡ []
  copy_closed w n m k s t none =
      elim (cases_eq k n) [
        | inl e ↦
            ap (λ (i : ℕ). copy_at w n m s i t) e ∙ ap (λ (to : Option Link). effects_in (history_on n (copy_between w m s (link_at w m) n t to).1)) none
            ∙ copy_none w n m s t (link_at w m)
        | inr apart ↦ copy_elsewhere w n m k s t (link_at w m) (link_at w k) apart
      ]

  -- ---- drains

  drains_on : (most : ℕ) (others : Link → Drain) → ((l : Link) → DrainEffects most l (effects_in (others l).came)) → (l : Link) (next overfull : Option Side)
      → next_side l ≡ next → overfull_side l ≡ overfull → DrainEffects (suc most) l (effects_in (drain_on others l next overfull).came)
  drains_on most others each l None overfull n o =
      record { sides = []; few = omega arith; exact = inr (inl (none_next l.from_e l.from_r n)); are = refl }
  drains_on most others each l (Some side) (Some at) n o =
      record { sides = []; few = omega arith; exact = inr (inr (overfull_has_none l at o)); are = refl }
  drains_on most others each l (Some side) None n o =
      let a : Link × List Occurrence = link_step l (Pass side) in
      let rest = each a.0 in
      record {
        sides = side ∷ rest.sides;
        few = more (length rest.sides) most rest.few;
        exact = (is_next l side n, has_room l o, rest.exact);
        are = effects_append a.1 (others a.0).came ∙ ap₂ (λ (xs ys : Effects). xs ++ ys) (pass_effects only l side) rest.are;
      }
    where
      more : (i j : ℕ) → i ≤ j → suc i ≤ suc j
      more i j within = omega arith

  drain_effects : (most : ℕ) (l : Link) → DrainEffects most l (effects_in (drain most l).came)
  unfolding drain
  drain_effects zero l = record { sides = []; few = omega arith; exact = inl refl; are = refl }
  drain_effects (suc most) l = drains_on most (drain most) (drain_effects most) l (next_side l) (overfull_side l) refl refl

  drained_elsewhere : (w : World) (n m most : ℕ) (place : Option Link) → (m ≡ n → ⊥) → history_on n (drain_link w m most place).1 ≡ []
  drained_elsewhere w n m most None apart = refl
  drained_elsewhere w n m most (Some l) apart =
      let d : Drain = drain most l in
      grow n (map (On m) d.came) (Drained m d.passes ∷ []) ∙ append-nil (history_on n (map (On m) d.came)) ∙ other n m d.came (λ e. apart (sym e))

  abbrev drain_at : World → ℕ → ℕ → ℕ → Effects
  drain_at w n m most = effects_in (history_on n (drain_link w m most (link_at w m)).1)

  drain_open : (w : World) (n m most : ℕ) (l : Link) → link_at w n ≡ Some l → At m n (drain_at w n m most) (DrainEffects most l (drain_at w n m most))
  drain_open w n m most l is = (
    λ e.
        let came : history_on n (drain_link w m most (link_at w m)).1 ≡ (drain most l).came =
        ap (λ (i : ℕ). history_on n (drain_link w i most (link_at w i)).1) e ∙ (drain_leads grow own other w n most l is).came in
        subst (λ (effects : Effects). DrainEffects most l effects) (sym (ap effects_in came)) (drain_effects most l),
    λ apart. ap effects_in (drained_elsewhere w n m most (link_at w m) apart),
  )

  drain_closed : (w : World) (n m most : ℕ) → link_at w n ≡ None → drain_at w n m most ≡ []
  drain_closed w n m most none =
      elim (cases_eq m n) [
        | inl e ↦
            ap (λ (i : ℕ). drain_at w n i most) e ∙ ap (λ (place : Option Link). effects_in (history_on n (drain_link w n most place).1)) none
        | inr apart ↦ ap effects_in (drained_elsewhere w n m most (link_at w m) apart)
      ]

  -- ---- ticks

  tick_open : (w : World) (n moment : ℕ) (l : Link) → link_at w n ≡ Some l → is_link n ≡ true → OfTick (nat_lt moment w.moment) moment l (effects_in (history_on n (tick_world w moment).1))
  tick_open w n moment l is link =
      let parts : (nat_lt 0 n ≡ true) × (nat_lt n 65 ≡ true) = and_parts (nat_lt 0 n) (nat_lt n 65) link in
      let least : 0 < n = ltb-true 0 n parts.0 in
      let most : n < 65 = ltb-true n 65 parts.1 in
      let v : World = record w { moment = moment } in
      let came : history_on n (tick_each_link moment v 1 64).1 ≡ (link_step l (Tick moment)).1 =
      (ticks_lead grow own other moment v n 1 64 l is (omega arith) (omega arith)).came in
      elim (cases_Bool (nat_lt moment w.moment)) [
        | inl back ↦ rw back refl
        | inr on ↦ rw on (subst (λ (effects : Effects). TickEffects (max l.moment moment) l effects) (sym (ap effects_in came)) (tick_effects only l moment))
      ]

  unticked_closed : (moment : ℕ) (w : World) (n i count : ℕ) → link_at w n ≡ None → history_on n (tick_each_link moment w i count).1 ≡ []
  unfolding tick_each_link
  unticked_closed moment w n i zero none = refl
  unticked_closed moment w n i (suc count) none =
      let a : World × List Came = at_link w i (link_at w i) (Tick moment) in
      let b : World × List Came = tick_each_link moment a.0 (i + 1) count in
      let first : (history_on n a.1 ≡ []) × (link_at a.0 n ≡ None) =
      elim (cases_eq n i) [
        | inl e ↦
            let closed : link_at w i ≡ None = ap (link_at w) (sym e) ∙ none in (
              ap (λ (place : Option Link). history_on n (at_link w i place (Tick moment)).1) closed,
              ap (λ (place : Option Link). link_at (at_link w i place (Tick moment)).0 n) closed ∙ none,
            )
        | inr apart ↦
            let rests = other_rests grow own other w n i (link_at w i) (Tick moment) apart in
            (rests.came, rests.link ∙ none)
      ] in
      grow n a.1 b.1 ∙ ap₂ (λ (xs ys : List Occurrence). xs ++ ys) first.0 (unticked_closed moment a.0 n (i + 1) count first.1)

  tick_closed : (w : World) (n moment : ℕ) → link_at w n ≡ None → effects_in (history_on n (tick_world w moment).1) ≡ []
  tick_closed w n moment none =
      elim (cases_Bool (nat_lt moment w.moment)) [
        | inl back ↦ rw back refl
        | inr on ↦ rw on (ap effects_in (unticked_closed moment (record w { moment = moment }) n 1 64 none))
      ]

  -- ---- steps of the world

  abbrev pub brought : DrillPlan → World → ℕ → Step → Effects
  brought plan w n s = effects_in (history_on n (world_step plan w s).1)

  -- at a link that is open
  pub step_effects : (plan : DrillPlan) (w : World) (n : ℕ) (l : Link) → link_at w n ≡ Some l → is_link n ≡ true → (s : Step) → HasEffects w n l s (brought plan w n s)
  step_effects plan w n l is link (does.Fixed m engine rbc ke kr) = open_effects plan w n m (link_at w m) (fixed_opening plan.level engine rbc ke kr)
  step_effects plan w n l is link (does.Link m engine rbc ke kr ra rb) = open_effects plan w n m (link_at w m) (link_opening plan.level engine rbc ke kr ra rb)
  step_effects plan w n l is link (does.Wire m) = open_effects plan w n m (link_at w m) (wire_opening plan.level)
  step_effects plan w n l is link (does.Send m s text) =
      at_open w n m l (Send s text) (λ effects. (effects ≡ (s, Sends text) ∷ []) ⊎ (effects ≡ (s, IsRefused) ∷ [])) is (send_effects only l s text)
  step_effects plan w n l is link (does.Pass m s) = at_open w n m l (Pass s) (λ effects. effects ≡ of_first s Passes (waiting_of l s)) is (pass_effects only l s)
  step_effects plan w n l is link (does.Lose m s) = at_open w n m l (Change s Lose) (λ effects. effects ≡ of_first s (λ frame. Loses) (waiting_of l s)) is (lose_effects l s)
  step_effects plan w n l is link (does.Repeat m s) =
      at_open w n m l (Change s Repeat) (λ effects. effects ≡ of_first s (λ frame. Repeats) (waiting_of l s)) is (repeat_effects l s)
  step_effects plan w n l is link (does.Alter m s place mask) =
      at_open w n m l (Change s (Alter place mask)) (λ effects. effects ≡ of_alter s place mask (waiting_of l s)) is (alter_effects l s place mask)
  step_effects plan w n l is link (does.Put m s text) = at_open w n m l (Change s (Put text)) (λ effects. effects ≡ (s, Inserts) ∷ []) is (put_effects l s text)
  step_effects plan w n l is link (does.Copy m s k t) = copy_open w n m k s t l is
  step_effects plan w n l is link (does.Take m s) =
      let both = at_open w n m l (Take s) (λ effects. effects ≡ []) is (take_effects only l s) in
      elim (cases_eq m n) [
        | inl e ↦ both.0 e
        | inr apart ↦ both.1 apart
      ]
  step_effects plan w n l is link (does.Release m s sub) =
      at_open w n m l (Release s sub) (λ effects. effects ≡ (s, Releases sub) ∷ []) is (release_effects only l s sub)
  step_effects plan w n l is link (does.Tick moment) = tick_open w n moment l is link
  step_effects plan w n l is link (does.Drain m most) = drain_open w n m most l is

  -- and at one that isn't
  pub step_closed : (plan : DrillPlan) (w : World) (n : ℕ) → link_at w n ≡ None → (s : Step) → brought plan w n s ≡ []
  step_closed plan w n none (does.Fixed m engine rbc ke kr) = open_effects plan w n m (link_at w m) (fixed_opening plan.level engine rbc ke kr)
  step_closed plan w n none (does.Link m engine rbc ke kr ra rb) = open_effects plan w n m (link_at w m) (link_opening plan.level engine rbc ke kr ra rb)
  step_closed plan w n none (does.Wire m) = open_effects plan w n m (link_at w m) (wire_opening plan.level)
  step_closed plan w n none (does.Send m s text) = at_closed w n m (Send s text) none
  step_closed plan w n none (does.Pass m s) = at_closed w n m (Pass s) none
  step_closed plan w n none (does.Lose m s) = at_closed w n m (Change s Lose) none
  step_closed plan w n none (does.Repeat m s) = at_closed w n m (Change s Repeat) none
  step_closed plan w n none (does.Alter m s place mask) = at_closed w n m (Change s (Alter place mask)) none
  step_closed plan w n none (does.Put m s text) = at_closed w n m (Change s (Put text)) none
  step_closed plan w n none (does.Copy m s k t) = copy_closed w n m k s t none
  step_closed plan w n none (does.Take m s) = at_closed w n m (Take s) none
  step_closed plan w n none (does.Release m s sub) = at_closed w n m (Release s sub) none
  step_closed plan w n none (does.Tick moment) = tick_closed w n moment none
  step_closed plan w n none (does.Drain m most) = drain_closed w n m most none
