-- The loop of a drill in its script: before the first step, one step more, a step that breaks off, and the end.
use Rattle.std.proofs.Common.{◌≡◌, ℕ, zero, suc, ◌+◌, ◌≤◌, false, List, [], ◌∷◌, ◌++◌, drop, length, slice_get, Option, Some, None, refl, ap, sym, subst, ◌∙◌, arith}
use Rattle.std.proofs.lemmas.List.{drop_all}
use Rattle.std.proofs.lemmas.Option.{same_Some, none-some}
use Rattle.er_scenario.specs.declared.step.Step.{Step}
use Rattle.er_scenario.specs.declared.numbered.Numbered.{Numbered}
use Rattle.er_scenario.specs.declared.scenario.Scenario.{Scenario}
use Rattle.drill_model.specs.declared.world_fault.WorldFault.{WorldFault}
use Rattle.drill_model.specs.declared.world_fault.WorldFault.TheVariants.{NoLink, LinkTwice, MomentBack, Overfull, NoMemory}
use Rattle.drill_model.specs.Worlds.{DrillPlan, plan_of}
use Rattle.drill_model.specs.Faults.{fault_behind}
use Rattle.drill_model.specs.Texts.{step_lines, last_lines}
use Rattle.er_world.specs.Standing.{KeptWorld, Ran}
use Rattle.outside.specs.Acts.{Wrote}
use Rattle.outside.specs.Doings.{Told, Did}
use Rattle.outside.specs.Scripts.{End, Sunk, OutOfMemory, Script, Ends, Does, printing, says_last}
use Rattle.outside.specs.ScriptSteps.{does_spent, does_printed, does_sank}
use Rattle.er_statuses.specs.FileScripts.{answers}
use Rattle.er_program.specs.Answers.{first_steps, fault_behind_first, fault_answer}
use Rattle.er_program.specs.StepScripts.{prints_or_ends, drills_steps}
use Rattle.er_program.specs.StepWriting.{TellsFault, WentOne, FailedOne, HaltsOne, DrilledTo}
use Rattle.er_program.proofs.DrillSteps.{first_more}

-- ---- one step in the script, by its fault

spent_at : (f : Option WorldFault) (line : ℕ) (lines : List ℕ) (next : Script) (t : Told) → Does (prints_or_ends f line lines next) t t OutOfMemory
spent_at None line lines next t = does_spent (λ text. text ≡ lines) next t
spent_at (Some fault) line lines next t = does_spent (λ text. text ≡ (fault_answer line fault).text) (Ends (fault_answer line fault).status) t

done_at : (f : Option WorldFault) (line : ℕ) (lines : List ℕ) (next : Script) (mid now behind : Told) (end : End)
    → f ≡ None → Did mid now (printing lines) → Does next now behind end → Does (prints_or_ends f line lines next) mid behind end
done_at None line lines next mid now behind end none did does = does_printed (λ text. text ≡ lines) next lines mid now behind end refl did does
done_at (Some fault) line lines next mid now behind end none did does = absurd (none-some fault (sym none))

sank_at : (f : Option WorldFault) (line : ℕ) (lines : List ℕ) (next : Script) (mid now : Told)
    → f ≡ None → Did mid now (Wrote lines false ∷ []) → Does (prints_or_ends f line lines next) mid now Sunk
sank_at None line lines next mid now none did = does_sank (λ text. text ≡ lines) next lines mid now refl did
sank_at (Some fault) line lines next mid now none did = absurd (none-some fault (sym none))

told_at : (f : Option WorldFault) (fault : WorldFault) (line : ℕ) (lines : List ℕ) (next : Script) (mid now : Told) (end : End)
    → f ≡ Some fault → Does (answers (fault_answer line fault)) mid now end → Does (prints_or_ends f line lines next) mid now end
told_at None fault line lines next mid now end is does = absurd (none-some fault is)
told_at (Some other) fault line lines next mid now end is does =
    subst (λ (x : WorldFault). Does (answers (fault_answer line x)) mid now end) (sym (same_Some other fault is)) does

-- memory may run out before a step and before the end
pub spent_steps : (plan : DrillPlan) (done : List Step) (steps : List Numbered) (t : Told) → Does (drills_steps plan done steps) t t OutOfMemory
unfolding drills_steps
spent_steps plan done [] t = does_spent (λ text. text ≡ last_lines plan done) (Ends 0) t
spent_steps plan done (x ∷ rest) t =
    spent_at (fault_behind plan done x.step) x.line (step_lines plan done x.step) (drills_steps plan (done ++ x.step ∷ []) rest) t

-- ---- the steps that are left

drop_next : (xs : List Numbered) (i : ℕ) (x : Numbered) → slice_get xs i ≡ Some x → drop i xs ≡ x ∷ drop (suc i) xs
drop_next [] i x at = absurd (let u : ⊥ = cc in u)
drop_next (y ∷ ys) zero x at = ap (λ (z : Numbered). z ∷ ys) (same_Some y x at)
drop_next (y ∷ ys) (suc i) x at = drop_next ys i x at

drop_here : (xs : List Numbered) (i : ℕ) (x : Numbered) → slice_get xs i ≡ Some x → drop i xs ≡ x ∷ drop (i + 1) xs
drop_here xs i x at =
    let plus : suc i ≡ i + 1 = omega arith in
    subst (λ (n : ℕ). drop i xs ≡ x ∷ drop n xs) plus (drop_next xs i x at)

-- ---- the loop

pub went_none : (s : Scenario) (k : KeptWorld) (t : Told) → Ran k (plan_of s) [] → k.plan ≡ plan_of s → k.spent ≡ false → DrilledTo s 0 k t t
went_none s k t ran plan_is unspent = record { ran = ran; plan_is = plan_is; unspent = unspent; leads = λ behind end does. does }

module _ (s : Scenario) (i : ℕ) (x : Numbered) where
  abbrev Whole : Script
  Whole = drills_steps (plan_of s) [] s.steps

  abbrev here : List ℕ
  here = step_lines (plan_of s) (first_steps s i) x.step

  abbrev left : Script
  left = drills_steps (plan_of s) (first_steps s i ++ x.step ∷ []) (drop (i + 1) s.steps)

  -- what is left begins with this step
  begins : (mid now : Told) (end : End) → slice_get s.steps i ≡ Some x → Does (prints_or_ends (fault_behind_first s i x.step) x.line here left) mid now end
      → Does (drills_steps (plan_of s) (first_steps s i) (drop i s.steps)) mid now end
  unfolding drills_steps
  begins mid now end at does =
      subst (λ (xs : List Numbered). Does (drills_steps (plan_of s) (first_steps s i) xs) mid now end) (sym (drop_here s.steps i x at)) does

  one_done : (mid now behind : Told) (end : End) → slice_get s.steps i ≡ Some x → fault_behind_first s i x.step ≡ None → Did mid now (printing here)
      → Does (drills_steps (plan_of s) (first_steps s (i + 1)) (drop (i + 1) s.steps)) now behind end
      → Does (drills_steps (plan_of s) (first_steps s i) (drop i s.steps)) mid behind end
  one_done mid now behind end at none did does =
      begins mid behind end at (done_at (fault_behind_first s i x.step) x.line here left mid now behind end none did
      (subst (λ (steps : List Step). Does (drills_steps (plan_of s) steps (drop (i + 1) s.steps)) now behind end) (first_more s i x at) does))

  -- one step more
  pub went_more : (k m : KeptWorld) (before mid now : Told) → DrilledTo s i k before mid → slice_get s.steps i ≡ Some x → WentOne (plan_of s) (first_steps s i) k x.step m mid now
      → DrilledTo s (i + 1) m before now
  went_more k m before mid now to at one = record {
    ran = subst (λ (steps : List Step). Ran m (plan_of s) steps) (sym (first_more s i x at)) one.ran;
    plan_is = one.plan_is ∙ to.plan_is;
    unspent = one.unspent;
    leads = λ behind end does. to.leads behind end (one_done mid now behind end at one.none one.printed does);
  }

  -- the write of its lines failed
  pub went_sink : (k : KeptWorld) (before mid now : Told) → DrilledTo s i k before mid → slice_get s.steps i ≡ Some x → FailedOne (plan_of s) (first_steps s i) x.step mid now
      → Does Whole before now Sunk
  went_sink k before mid now to at one =
      to.leads now Sunk (begins mid now Sunk at (sank_at (fault_behind_first s i x.step) x.line here left mid now one.none one.sank))

  told : (k : KeptWorld) (fault : WorldFault) (before mid still now : Told) (end : End) → DrilledTo s i k before mid → slice_get s.steps i ≡ Some x
      → fault_behind_first s i x.step ≡ Some fault → still ≡ mid → Does (answers (fault_answer x.line fault)) still now end → Does Whole before now end
  told k fault before mid still now end to at is rests does =
      to.leads now end (begins mid now end at (told_at (fault_behind_first s i x.step) fault x.line here left mid now end is
      (subst (λ (t : Told). Does (answers (fault_answer x.line fault)) t now end) rests does)))

  -- memory ran out in it
  wanted : (k : KeptWorld) (before mid still now : Told) (end : End) → DrilledTo s i k before mid → still ≡ mid → now ≡ still → end ≡ OutOfMemory → Does Whole before now end
  wanted k before mid still now end to rests none is =
      let behind : Script = drills_steps (plan_of s) (first_steps s i) (drop i s.steps) in
      to.leads now end (subst (λ (t : Told). Does behind mid t end) (sym (none ∙ rests))
      (subst (λ (e : End). Does behind mid mid e) (sym is) (spent_steps (plan_of s) (first_steps s i) (drop i s.steps) mid)))

  -- it wasn't done
  pub went_halt : (k : KeptWorld) (fault : WorldFault) (before mid still now : Told) (end : End) → DrilledTo s i k before mid → slice_get s.steps i ≡ Some x
      → HaltsOne (plan_of s) (first_steps s i) x.step mid still fault → TellsFault x.line fault still now end → Does Whole before now end
  went_halt k (NoLink n) before mid still now end to at one tells = told k (NoLink n) before mid still now end to at one.is one.rests tells
  went_halt k (LinkTwice n) before mid still now end to at one tells = told k (LinkTwice n) before mid still now end to at one.is one.rests tells
  went_halt k (MomentBack was moment) before mid still now end to at one tells = told k (MomentBack was moment) before mid still now end to at one.is one.rests tells
  went_halt k (Overfull n side most) before mid still now end to at one tells = told k (Overfull n side most) before mid still now end to at one.is one.rests tells
  went_halt k (NoMemory want) before mid still now end to at one tells = wanted k before mid still now end to one.rests tells.0 tells.1

-- all steps were done, and the closing lines were said
pub went_end : (s : Scenario) (i : ℕ) (k : KeptWorld) (before mid now : Told) (end : End) → DrilledTo s i k before mid → length s.steps ≤ i
    → Does (says_last 0 (last_lines (plan_of s) (first_steps s i))) mid now end → Does (drills_steps (plan_of s) [] s.steps) before now end
unfolding drills_steps
went_end s i k before mid now end to over does =
    to.leads now end (subst (λ (xs : List Numbered). Does (drills_steps (plan_of s) (first_steps s i) xs) mid now end) (sym (drop_all i s.steps over)) does)
