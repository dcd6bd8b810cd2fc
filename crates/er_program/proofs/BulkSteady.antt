-- No step of a bulk run is refused: the one link was opened by the first step, and moments don't fall.
use Rattle.std.proofs.Common.{◌≡◌, ℕ, zero, suc, ◌+◌, ◌*◌, ◌≤◌, Bool, true, false, List, [], ◌∷◌, take, slice_get, Option, Some, None, option_map, if◌then◌else◌, refl, ap, sym, subst, ◌∙◌}
use Rattle.std.proofs.lemmas.Bool.{le-ltb}
use Rattle.std.proofs.lemmas.Option.{same_Some}
use Rattle.er_base.specs.declared.side.Side.{Side}
use Rattle.er_scenario.specs.declared.step.Step.{Step}
use Rattle.er_scenario.specs.declared.step.Step.TheVariants as does
use Rattle.drill_model.specs.declared.world_fault.WorldFault.{WorldFault}
use Rattle.drill_model.specs.declared.world_fault.WorldFault.TheVariants.{Overfull}
use Rattle.drill_model.specs.Links.{Link, LinkOpening, LinkStep}
use Rattle.drill_model.specs.Worlds.{DrillPlan, World, Came, new_world, is_link, link_at, overfull_side, at_link, open_link, drain_link, tick_each_link, tick_world, world_step, world_run_from, world_run, link_opening}
use Rattle.drill_model.specs.Faults.{or_else, refusal_of_step, overfull_fault, overfull_at, first_overfull, overfull_of, fault_behind}
use Rattle.drill_laws.specs.Laws.{OpensAlways}
use Rattle.drill_model.specs.Opened.{opening_by, or_opening, opening_of}
use Rattle.drill_bulk.specs.Turns.{kmac}
use Rattle.er_program.specs.BulkTexts.{bulk_plan, steps_of_bulk}
use Rattle.er_program.proofs.BulkSteps.{IsGood, AreGood, moment_after, first_step, later_steps, steps_are, later_good}

-- ---- moments

at_link_moment : (w : World) (n : ℕ) (o : Option Link) (s : LinkStep) → (at_link w n o s).0.moment ≡ w.moment
at_link_moment w n None s = refl
at_link_moment w n (Some l) s = refl

drain_moment : (w : World) (n most : ℕ) (o : Option Link) → (drain_link w n most o).0.moment ≡ w.moment
drain_moment w n most None = refl
drain_moment w n most (Some l) = refl

either_moment : (m : ℕ) (b : Bool) (x y : World × List Came) → x.0.moment ≡ m → y.0.moment ≡ m → (if b then x else y).0.moment ≡ m
either_moment m true x y one two = one
either_moment m false x y one two = two

open_moment : (plan : DrillPlan) (w : World) (n : ℕ) (o : Option Link) (opening : Option LinkOpening) → (open_link plan w n o opening).0.moment ≡ w.moment
open_moment plan w n (Some l) opening = refl
open_moment plan w n None None = refl
open_moment plan w n None (Some opening) = either_moment w.moment (is_link n) _ _ refl refl

ticks_moment : (moment : ℕ) (w : World) (n count : ℕ) → (tick_each_link moment w n count).0.moment ≡ w.moment
unfolding tick_each_link
ticks_moment moment w n zero = refl
ticks_moment moment w n (suc count) =
    ticks_moment moment (at_link w n (link_at w n) _).0 (n + 1) count ∙ at_link_moment w n (link_at w n) _

ticked_moment : (w : World) (moment : ℕ) → w.moment ≤ moment → (tick_world w moment).0.moment ≡ moment
ticked_moment w moment le = rw (le-ltb moment w.moment le) (ticks_moment moment (record w { moment = moment }) 1 64)

step_moment : (plan : DrillPlan) (most : ℕ) (w : World) (s : Step) → IsGood most w.moment s → (world_step plan w s).0.moment ≡ moment_after w.moment s
step_moment plan most w (does.Fixed n engine rbc ke kr) good = absurd good
step_moment plan most w (does.Link n engine rbc ke kr ra rb) good = absurd good
step_moment plan most w (does.Wire n) good = absurd good
step_moment plan most w (does.Send n s text) good = at_link_moment w n (link_at w n) _
step_moment plan most w (does.Pass n s) good = absurd good
step_moment plan most w (does.Lose n s) good = at_link_moment w n (link_at w n) _
step_moment plan most w (does.Repeat n s) good = at_link_moment w n (link_at w n) _
step_moment plan most w (does.Alter n s place mask) good = absurd good
step_moment plan most w (does.Put n s text) good = absurd good
step_moment plan most w (does.Copy n s k t) good = absurd good
step_moment plan most w (does.Take n s) good = at_link_moment w n (link_at w n) _
step_moment plan most w (does.Release n s sub) good = absurd good
step_moment plan most w (does.Tick moment) good = ticked_moment w moment good.0
step_moment plan most w (does.Drain n passes) good = drain_moment w n passes (link_at w n)

-- behind the first steps the next one is good
run_good : (plan : DrillPlan) (most : ℕ) (w : World) (steps : List Step) (k : ℕ) (s : Step) → AreGood most w.moment steps → slice_get steps k ≡ Some s
    → IsGood most (world_run_from plan w (take k steps)).0.moment s
run_good plan most w [] k s good at = absurd (cc)
run_good plan most w (x ∷ xs) zero s good at = subst (λ (y : Step). IsGood most w.moment y) (same_Some x s at) good.0
run_good plan most w (x ∷ xs) (suc k) s good at =
    run_good plan most (world_step plan w x).0 xs k s (subst (λ m. AreGood most m xs) (sym (step_moment plan most w x good.0)) good.1) at

-- ---- refusals

-- a good step isn't refused where link 1 was opened
good_unrefused : (most : ℕ) (w : World) (s : Step) → IsGood most w.moment s → (l : Link) × (link_at w 1 ≡ Some l) → refusal_of_step w s ≡ None
good_unrefused most w (does.Fixed n engine rbc ke kr) good stands = absurd good
good_unrefused most w (does.Link n engine rbc ke kr ra rb) good stands = absurd good
good_unrefused most w (does.Wire n) good stands = absurd good
good_unrefused most w (does.Send n s text) good stands = rw (good.0, stands.1) refl
good_unrefused most w (does.Pass n s) good stands = absurd good
good_unrefused most w (does.Lose n s) good stands = rw (good, stands.1) refl
good_unrefused most w (does.Repeat n s) good stands = rw (good, stands.1) refl
good_unrefused most w (does.Alter n s place mask) good stands = absurd good
good_unrefused most w (does.Put n s text) good stands = absurd good
good_unrefused most w (does.Copy n s k t) good stands = absurd good
good_unrefused most w (does.Take n s) good stands = rw (good, stands.1) refl
good_unrefused most w (does.Release n s sub) good stands = absurd good
good_unrefused most w (does.Tick moment) good stands = rw (le-ltb moment w.moment good.0) refl
good_unrefused most w (does.Drain n passes) good stands = rw (good, stands.1) refl

opened_so : (o : Option Link) (opening : LinkOpening) → option_map (λ l. l.opening) o ≡ Some opening → (l : Link) × (o ≡ Some l)
opened_so None opening is = absurd (cc)
opened_so (Some l) opening is = (l, refl)

-- behind a step that opens link 1
then_unrefused : OpensAlways → (plan : DrillPlan) (most : ℕ) (first : Step) (opening : LinkOpening) (rest : List Step) → opening_by plan 1 first ≡ Some opening
    → refusal_of_step new_world first ≡ None → (world_step plan new_world first).0.moment ≡ 0 → AreGood most 0 rest
    → (k : ℕ) (s : Step) → slice_get (first ∷ rest) k ≡ Some s → refusal_of_step (world_run plan (take k (first ∷ rest))).0 s ≡ None
then_unrefused opens plan most first opening rest by new still good zero s at =
    subst (λ (x : Step). refusal_of_step new_world x ≡ None) (same_Some first s at) new
then_unrefused opens plan most first opening rest by new still good (suc k) s at =
    let w : World = (world_run plan (first ∷ take k rest)).0 in
    let is_good : IsGood most w.moment s =
    run_good plan most (world_step plan new_world first).0 rest k s (subst (λ m. AreGood most m rest) (sym still) good) at in
    let is : opening_of plan 1 (first ∷ take k rest) ≡ Some opening = ap (λ o. or_opening o (opening_of plan 1 (take k rest))) by in
    good_unrefused most w s is_good (opened_so (link_at w 1) opening (opens plan (first ∷ take k rest) 1 ∙ is))

pub unrefused : OpensAlways → (seed count k : ℕ) (s : Step) → slice_get (steps_of_bulk seed count) k ≡ Some s
    → refusal_of_step (world_run bulk_plan (take k (steps_of_bulk seed count))).0 s ≡ None
unrefused opens seed count k s =
    let Holds : List Step → Type 0 = λ steps. slice_get steps k ≡ Some s → refusal_of_step (world_run bulk_plan (take k steps)).0 s ≡ None in
    subst Holds (sym (steps_are seed count))
    (then_unrefused opens bulk_plan (1000 * count) first_step _ (later_steps seed count) refl refl (open_moment bulk_plan new_world 1 None (link_opening bulk_plan.level 1 2 kmac (Some kmac) 1 2)) (later_good seed count) k s)

-- ---- other faults

-- too many frames wait somewhere
pub record IsOverfull (fault : WorldFault) : Type 0 where
  pub link : ℕ
  pub side : Side
  pub most : ℕ
  pub is : fault ≡ Overfull link side most

side_overfull : (n : ℕ) (o : Option Side) (fault : WorldFault) → overfull_fault n o ≡ Some fault → IsOverfull fault
side_overfull n None fault is = absurd (cc)
side_overfull n (Some side) fault is = record { link = n; side = side; most = 4096; is = sym (same_Some (Overfull n side 4096) fault is) }

link_overfull : (n : ℕ) (o : Option Link) (fault : WorldFault) → overfull_at n o ≡ Some fault → IsOverfull fault
link_overfull n None fault is = absurd (cc)
link_overfull n (Some l) fault is = side_overfull n (overfull_side l) fault is

one_overfull : (a b : Option WorldFault) (fault : WorldFault) → (a ≡ Some fault → IsOverfull fault) → (b ≡ Some fault → IsOverfull fault)
    → or_else a b ≡ Some fault → IsOverfull fault
one_overfull None b fault one two is = two is
one_overfull (Some x) b fault one two is = one is

some_overfull : (w : World) (n count : ℕ) (fault : WorldFault) → first_overfull w n count ≡ Some fault → IsOverfull fault
unfolding first_overfull
some_overfull w n zero fault is = absurd (cc)
some_overfull w n (suc count) fault is =
    one_overfull (overfull_at n (link_at w n)) (first_overfull w (n + 1) count) fault (link_overfull n (link_at w n) fault) (some_overfull w (n + 1) count fault) is

-- a step that isn't refused has no other fault
pub only_overfull : (plan : DrillPlan) (before : List Step) (s : Step) (fault : WorldFault) → refusal_of_step (world_run plan before).0 s ≡ None
    → fault_behind plan before s ≡ Some fault → IsOverfull fault
only_overfull plan before s fault none is =
    let w : World = (world_run plan before).0 in
    let so : overfull_of (world_step plan w s).0 ≡ Some fault = sym (ap (λ o. or_else o (overfull_of (world_step plan w s).0)) none) ∙ is in
    some_overfull (world_step plan w s).0 1 64 fault so
