-- The script of a bulk run: the first fault among its steps, how the code comes to it, and what it did.
use Rattle.std.proofs.Common.{◌≡◌, ◌<◌, ℕ, zero, suc, List, [], ◌∷◌, ◌++◌, take, length, slice_get, Option, Some, None, Result, IsFalse, refl, sym, ap, subst, ◌∙◌, append_assoc, append-nil, arith}
use Rattle.std.specs.List.{list_any}
use Rattle.std.proofs.lemmas.List.{take_all}
use Rattle.std.proofs.lemmas.Option.{same_Some, none-some, slice_get_within}
use Rattle.er_scenario.specs.declared.step.Step.{Step}
use Rattle.drill_model.specs.declared.totals.Totals.{Totals}
use Rattle.drill_model.specs.declared.world_fault.WorldFault.{WorldFault}
use Rattle.drill_model.specs.declared.world_fault.WorldFault.TheVariants.{NoLink, LinkTwice, MomentBack, Overfull, NoMemory}
use Rattle.drill_model.specs.Worlds.{DrillPlan, world_run}
use Rattle.drill_model.specs.Faults.{or_else, fault_behind}
use Rattle.drill_model.specs.Totals.{totals_of}
use Rattle.drill_laws.specs.Laws.{OpensAlways}
use Rattle.er_world.specs.Standing.{KeptWorld, Ran}
use Rattle.outside.specs.Acts.{Act, is_fetch}
use Rattle.outside.specs.Doings.{Told}
use Rattle.outside.specs.Scripts.{End, OutOfMemory, Ends, Does, says_last, RunsScript}
use Rattle.outside.specs.ScriptSteps.{does_spent}
use Rattle.outside.specs.SinkTexts.{fetches_none}
use Rattle.er_statuses.specs.Answers.{Answer}
use Rattle.er_statuses.specs.LastLines.{overfull_line}
use Rattle.er_statuses.specs.FileScripts.{answers}
use Rattle.er_statuses.specs.ScriptEnds.{end_of_run}
use Rattle.er_statuses.specs.declared.status.Status.{Status}
use Rattle.er_statuses.specs.declared.stop.Stop.{Stop}
use Rattle.er_program.specs.Answers.{IsBulkAnswer, AllAreCounted, TooManyWait, fault_answer}
use Rattle.er_program.specs.BulkTexts.{bulk_plan, steps_of_bulk, totals_of_bulk, totals_line}
use Rattle.er_program.specs.BulkRuns.{DidFirst, HaltedAt}
use Rattle.er_program.specs.KeyWriting.{GivesOne}
use Rattle.er_program.specs.StepScripts.{first_step_fault, counts_steps, bulks}
use Rattle.er_program.specs.StepWriting.{TellsFault}
use Rattle.er_program.proofs.BulkSteady.{IsOverfull, unrefused, only_overfull}
use Rattle.er_program.proofs.FileActs.{Sinks, gives_print}

-- ---- the first fault among steps

-- where a step isn't done behind those before it, the first such
record FaultAt (plan : DrillPlan) (done steps : List Step) (fault : WorldFault) : Type 0 where
  pub count : ℕ
  pub step : Step
  pub next : slice_get steps count ≡ Some step
  pub are_done : (k : ℕ) (s : Step) → k < count → slice_get steps k ≡ Some s → fault_behind plan (done ++ take k steps) s ≡ None
  pub is : fault_behind plan (done ++ take count steps) step ≡ Some fault

neither : (a b : Option WorldFault) → or_else a b ≡ None → (a ≡ None) × (b ≡ None)
neither None b is = (refl, is)
neither (Some fault) b is = absurd (none-some fault (sym is))

module _ (plan : DrillPlan) where
  -- behind a step and others
  after : (done rest : List Step) (s y : Step) (f : Option WorldFault) → fault_behind plan ((done ++ s ∷ []) ++ rest) y ≡ f → fault_behind plan (done ++ s ∷ rest) y ≡ f
  after done rest s y f is = subst (λ (steps : List Step). fault_behind plan steps y ≡ f) (append_assoc done (s ∷ []) rest) is

  after_all : (done rest : List Step) (s y : Step) (f : Option WorldFault) → fault_behind plan (done ++ s ∷ rest) y ≡ f → fault_behind plan ((done ++ s ∷ []) ++ rest) y ≡ f
  after_all done rest s y f is = subst (λ (steps : List Step). fault_behind plan steps y ≡ f) (sym (append_assoc done (s ∷ []) rest)) is

  first_of : (done : List Step) (s : Step) (f : Option WorldFault) → fault_behind plan (done ++ []) s ≡ f → fault_behind plan done s ≡ f
  first_of done s f is = subst (λ (steps : List Step). fault_behind plan steps s ≡ f) (append-nil done) is

  as_first : (done : List Step) (s : Step) (f : Option WorldFault) → fault_behind plan done s ≡ f → fault_behind plan (done ++ []) s ≡ f
  as_first done s f is = subst (λ (steps : List Step). fault_behind plan steps s ≡ f) (sym (append-nil done)) is

  -- none: all are done
  each_done : (done steps : List Step) → first_step_fault plan done steps ≡ None → (k : ℕ) (y : Step) → slice_get steps k ≡ Some y → fault_behind plan (done ++ take k steps) y ≡ None
  unfolding first_step_fault
  each_done done [] is k y at = absurd (let u : ⊥ = cc in u)
  each_done done (s ∷ rest) is zero y at =
      let both = neither (fault_behind plan done s) (first_step_fault plan (done ++ s ∷ []) rest) is in
      subst (λ (z : Step). fault_behind plan (done ++ []) z ≡ None) (same_Some s y at) (as_first done s None both.0)
  each_done done (s ∷ rest) is (suc k) y at =
      let both = neither (fault_behind plan done s) (first_step_fault plan (done ++ s ∷ []) rest) is in
      after done (take k rest) s y None (each_done (done ++ s ∷ []) rest both.1 k y at)

  -- all are done: none
  none_first : (done steps : List Step) → ((k : ℕ) (y : Step) → slice_get steps k ≡ Some y → fault_behind plan (done ++ take k steps) y ≡ None) → first_step_fault plan done steps ≡ None
  unfolding first_step_fault
  none_first done [] all = refl
  none_first done (s ∷ rest) all =
      ap (λ (f : Option WorldFault). or_else f (first_step_fault plan (done ++ s ∷ []) rest)) (first_of done s None (all zero s refl))
      ∙ none_first (done ++ s ∷ []) rest (λ k y at. after_all done (take k rest) s y None (all (suc k) y at))

  -- a fault: where it is
  fault_more : (done rest : List Step) (s : Step) (fault : WorldFault) → fault_behind plan done s ≡ None → FaultAt plan (done ++ s ∷ []) rest fault → FaultAt plan done (s ∷ rest) fault
  fault_more done rest s fault none at = record {
    count = suc at.count;
    step = at.step;
    next = at.next;
    are_done = earlier;
    is = after done (take at.count rest) s at.step (Some fault) at.is;
  }
    where
      earlier : (k : ℕ) (y : Step) → k < suc at.count → slice_get (s ∷ rest) k ≡ Some y → fault_behind plan (done ++ take k (s ∷ rest)) y ≡ None
      earlier zero y lt is = subst (λ (z : Step). fault_behind plan (done ++ []) z ≡ None) (same_Some s y is) (as_first done s None none)
      earlier (suc k) y lt is = after done (take k rest) s y None (at.are_done k y (omega (arith, lt)) is)

  by_head : (done rest : List Step) (s : Step) (fault : WorldFault) (f : Option WorldFault) → fault_behind plan done s ≡ f
      → or_else f (first_step_fault plan (done ++ s ∷ []) rest) ≡ Some fault
      → (first_step_fault plan (done ++ s ∷ []) rest ≡ Some fault → FaultAt plan (done ++ s ∷ []) rest fault) → FaultAt plan done (s ∷ rest) fault
  by_head done rest s fault None none is more = fault_more done rest s fault none (more is)
  by_head done rest s fault (Some other) some is more = record {
    count = zero;
    step = s;
    next = refl;
    are_done = λ k y lt at. absurd (omega (arith, lt));
    is = as_first done s (Some fault) (some ∙ is);
  }

  fault_at : (done steps : List Step) (fault : WorldFault) → first_step_fault plan done steps ≡ Some fault → FaultAt plan done steps fault
  unfolding first_step_fault
  fault_at done [] fault is = absurd (none-some fault is)
  fault_at done (s ∷ rest) fault is = by_head done rest s fault (fault_behind plan done s) refl is (λ more. fault_at (done ++ s ∷ []) rest fault more)

  -- where it is: that fault
  fault_first : (done steps : List Step) (k : ℕ) (x : Step) (fault : WorldFault) → slice_get steps k ≡ Some x
      → ((j : ℕ) (y : Step) → j < k → slice_get steps j ≡ Some y → fault_behind plan (done ++ take j steps) y ≡ None)
      → fault_behind plan (done ++ take k steps) x ≡ Some fault → first_step_fault plan done steps ≡ Some fault
  unfolding first_step_fault
  fault_first done [] k x fault at earlier is = absurd (let u : ⊥ = cc in u)
  fault_first done (s ∷ rest) zero x fault at earlier is =
      let here : fault_behind plan done s ≡ Some fault =
      first_of done s (Some fault) (subst (λ (z : Step). fault_behind plan (done ++ []) z ≡ Some fault) (sym (same_Some s x at)) is) in
      ap (λ (f : Option WorldFault). or_else f (first_step_fault plan (done ++ s ∷ []) rest)) here
  fault_first done (s ∷ rest) (suc k) x fault at earlier is =
      let none : fault_behind plan done s ≡ None = first_of done s None (earlier zero s (omega arith) refl) in
      ap (λ (f : Option WorldFault). or_else f (first_step_fault plan (done ++ s ∷ []) rest)) none
      ∙ fault_first (done ++ s ∷ []) rest k x fault at (λ j y lt is_y. after_all done (take j rest) s y None (earlier (suc j) y (omega (arith, lt)) is_y))
      (after_all done (take k rest) s x (Some fault) is)

-- ---- how the code comes to it

-- memory may run out before the last line
pub spent_counting : (seed count : ℕ) (f : Option WorldFault) (t : Told) → Does (counts_steps seed count f) t t OutOfMemory
unfolding counts_steps
spent_counting seed count None t = does_spent (λ text. text ≡ totals_line seed count (totals_of_bulk seed count)) (Ends 0) t
spent_counting seed count (Some fault) t = does_spent (λ text. text ≡ (fault_answer 0 fault).text) (Ends (fault_answer 0 fault).status) t

abbrev bulk_fault : (seed count : ℕ) → Option WorldFault
bulk_fault seed count = first_step_fault bulk_plan [] (steps_of_bulk seed count)

so_counts : (seed count : ℕ) (f g : Option WorldFault) (before now : Told) (end : End) → f ≡ g → Does (counts_steps seed count g) before now end → Does (counts_steps seed count f) before now end
so_counts seed count f g before now end is does = subst (λ (x : Option WorldFault). Does (counts_steps seed count x) before now end) (sym is) does

-- all steps were done, and their totals were said
pub ends_counted : (seed count : ℕ) (plan : DrillPlan) (steps : List Step) (kept : KeptWorld) (totals : Totals) (before now : Told) (end : End)
    → plan ≡ bulk_plan → steps ≡ steps_of_bulk seed count → DidFirst plan steps (length steps) kept
    → ((plan : DrillPlan) (done : List Step) → Ran kept plan done → totals ≡ totals_of (world_run plan done).1)
    → Does (says_last 0 (totals_line seed count totals)) before now end → Does (bulks seed count) before now end
unfolding counts_steps
ends_counted seed count plan steps kept totals before now end plan_is is did counted does =
    let P : List Step → Type 0 = λ xs. DidFirst bulk_plan xs (length xs) kept in
    let so : DidFirst bulk_plan (steps_of_bulk seed count) (length (steps_of_bulk seed count)) kept =
    subst P is (subst (λ (p : DrillPlan). DidFirst p steps (length steps) kept) plan_is did) in
    let all : take (length (steps_of_bulk seed count)) (steps_of_bulk seed count) ≡ steps_of_bulk seed count =
    take_all (length (steps_of_bulk seed count)) (steps_of_bulk seed count) (omega arith) in
    let are : totals ≡ totals_of_bulk seed count = counted bulk_plan (steps_of_bulk seed count) (subst (λ (first : List Step). Ran kept bulk_plan first) all so.ran) in
    let none : bulk_fault seed count ≡ None =
    none_first bulk_plan [] (steps_of_bulk seed count) (λ k y at. so.are_done k y (slice_get_within (steps_of_bulk seed count) k y at) at) in
    so_counts seed count (bulk_fault seed count) None before now end none
    (subst (λ (t : Totals). Does (says_last 0 (totals_line seed count t)) before now end) are does)

-- a step wasn't done, and its fault was told
told : (seed count : ℕ) (plan : DrillPlan) (steps : List Step) (fault : WorldFault) (before now : Told) (end : End)
    → plan ≡ bulk_plan → steps ≡ steps_of_bulk seed count → (halted : HaltedAt plan steps fault) → fault_behind plan (take halted.count steps) halted.step ≡ Some fault
    → Does (answers (fault_answer 0 fault)) before now end → Does (bulks seed count) before now end
unfolding counts_steps
told seed count plan steps fault before now end plan_is is halted some does =
    let first : first_step_fault plan [] steps ≡ Some fault = fault_first plan [] steps halted.count halted.step fault halted.next halted.are_done some in
    let so : bulk_fault seed count ≡ Some fault =
    subst (λ (xs : List Step). first_step_fault bulk_plan [] xs ≡ Some fault) is (subst (λ (p : DrillPlan). first_step_fault p [] steps ≡ Some fault) plan_is first) in
    so_counts seed count (bulk_fault seed count) (Some fault) before now end so does

wanted : (seed count : ℕ) (before now : Told) (end : End) → now ≡ before → end ≡ OutOfMemory → Does (bulks seed count) before now end
wanted seed count before now end rests is =
    subst (λ (t : Told). Does (bulks seed count) before t end) (sym rests)
    (subst (λ (e : End). Does (bulks seed count) before before e) (sym is) (spent_counting seed count (bulk_fault seed count) before))

pub ends_halted : (seed count : ℕ) (plan : DrillPlan) (steps : List Step) (fault : WorldFault) (before now : Told) (end : End)
    → plan ≡ bulk_plan → steps ≡ steps_of_bulk seed count → HaltedAt plan steps fault → TellsFault 0 fault before now end → Does (bulks seed count) before now end
ends_halted seed count plan steps (NoLink n) before now end plan_is is halted tells = told seed count plan steps (NoLink n) before now end plan_is is halted halted.is tells
ends_halted seed count plan steps (LinkTwice n) before now end plan_is is halted tells = told seed count plan steps (LinkTwice n) before now end plan_is is halted halted.is tells
ends_halted seed count plan steps (MomentBack was moment) before now end plan_is is halted tells =
    told seed count plan steps (MomentBack was moment) before now end plan_is is halted halted.is tells
ends_halted seed count plan steps (Overfull n side most) before now end plan_is is halted tells =
    told seed count plan steps (Overfull n side most) before now end plan_is is halted halted.is tells
ends_halted seed count plan steps (NoMemory want) before now end plan_is is halted tells = wanted seed count before now end tells.0 tells.1

-- ---- what it did

module _ (seed count : ℕ) where
  abbrev steps : List Step
  steps = steps_of_bulk seed count

  -- a fault is no other than that too many frames wait
  is_overfull : OpensAlways → (fault : WorldFault) → FaultAt bulk_plan [] steps fault → IsOverfull fault
  is_overfull opens fault at = only_overfull bulk_plan (take at.count steps) at.step fault (unrefused opens seed count at.count at.step at.next) at.is

  gives_overfull : (fault : WorldFault) → FaultAt bulk_plan [] steps fault → IsOverfull fault → (a b : Option (List ℕ)) (f g : ℕ) (acts : List Act) (r : Result Status Stop)
      → RunsScript (answers (fault_answer 0 fault)) acts (end_of_run r) → Sinks a b f g acts → GivesOne (IsBulkAnswer seed count) a b f g r
  gives_overfull fault at so a b f g acts r runs sinks =
      let line : List ℕ = overfull_line so.link so.side so.most in
      gives_print (λ text. text ≡ line) 8 (IsBulkAnswer seed count) a b f g acts r
      (λ text is. TooManyWait (record {
        count = at.count;
        step = at.step;
        next = at.next;
        are_done = at.are_done;
        link = so.link;
        side = so.side;
        most = so.most;
        is_overfull = at.is ∙ ap (λ (x : WorldFault). Some x) so.is;
      }) (ap (λ (t : List ℕ). let x : Answer = record { status = 8; text = t } in x) is))
      (subst (λ (x : WorldFault). RunsScript (answers (fault_answer 0 x)) acts (end_of_run r)) so.is runs) sinks

  gives_counted : OpensAlways → (fault : Option WorldFault) → bulk_fault seed count ≡ fault → (a b : Option (List ℕ)) (f g : ℕ) (acts : List Act) (r : Result Status Stop)
      → RunsScript (counts_steps seed count fault) acts (end_of_run r) → Sinks a b f g acts → GivesOne (IsBulkAnswer seed count) a b f g r
  unfolding counts_steps
  gives_counted opens None is a b f g acts r runs sinks =
      gives_print (λ text. text ≡ totals_line seed count (totals_of_bulk seed count)) 0 (IsBulkAnswer seed count) a b f g acts r
      (λ text same. AllAreCounted (λ k s lt at. each_done bulk_plan [] steps is k s at) (ap (λ (t : List ℕ). let x : Answer = record { status = 0; text = t } in x) same)) runs sinks
  gives_counted opens (Some fault) is a b f g acts r runs sinks =
      let at : FaultAt bulk_plan [] steps fault = fault_at bulk_plan [] steps fault is in
      gives_overfull fault at (is_overfull opens fault at) a b f g acts r runs sinks

  pub gives_bulk : OpensAlways → (a b : Option (List ℕ)) (f g : ℕ) (acts : List Act) (r : Result Status Stop) → RunsScript (bulks seed count) acts (end_of_run r) → Sinks a b f g acts
      → GivesOne (IsBulkAnswer seed count) a b f g r
  gives_bulk opens a b f g acts r runs sinks = gives_counted opens (bulk_fault seed count) refl a b f g acts r runs sinks

  quiet_counting : (fault : Option WorldFault) (acts : List Act) (end : End) → RunsScript (counts_steps seed count fault) acts end → IsFalse (list_any is_fetch acts)
  unfolding counts_steps
  quiet_counting None acts end runs = fetches_none (λ text. text ≡ totals_line seed count (totals_of_bulk seed count)) 0 acts end runs
  quiet_counting (Some fault) acts end runs = fetches_none (λ text. text ≡ (fault_answer 0 fault).text) (fault_answer 0 fault).status acts end runs

  pub quiet_bulk : (acts : List Act) (end : End) → RunsScript (bulks seed count) acts end → IsFalse (list_any is_fetch acts)
  quiet_bulk acts end runs = quiet_counting (bulk_fault seed count) acts end runs
