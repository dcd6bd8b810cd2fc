-- A run, its marks and its text grow by steps.
use Rattle.std.proofs.Common.{◌≡◌, ℕ, Bool, true, false, ◌==◌, List, [], ◌∷◌, ◌++◌, map, refl, sym, ap, ◌∙◌, append_assoc, append-nil}
use Rattle.std.proofs.lemmas.Bool.{eq-eqb, ne_eqb}
use Rattle.std.proofs.lemmas.List.Concat.{flat_map-append}
use Rattle.er_scenario.specs.declared.step.Step.{Step}
use Rattle.safety_pair_laws.specs.Facts.{SideFact, MarkedFact, marked, marked_from}
use Rattle.safety_pair_laws.specs.Marks.{MarksGrow}
use Rattle.drill_model.specs.Outcomes.{Occurrence, facts_at, facts_in}
use Rattle.drill_model.specs.Worlds.{DrillPlan, World, Came, On, history_at, history_on, facts_on, then_world, world_step, new_world, world_run_from, world_run}
use Rattle.drill_model.specs.Marks.{MarkedOccurrence, MarkedCame, occurrence_with_mark, marks_behind, mark_came, marks_from}
use Rattle.drill_model.specs.Texts.{came_line, marked_line, lines, link_lines, step_lines, first_lines}

-- ---- runs

run_grows : (plan : DrillPlan) (w : World) (before : List Step) (s : Step)
    → world_run_from plan w (before ++ s ∷ []) ≡ then_world (world_run_from plan w before) (λ v. world_step plan v s)
run_grows plan w [] s = ap (λ (xs : List Came). ((world_step plan w s).0, xs)) (append-nil (world_step plan w s).1)
run_grows plan w (t ∷ before) s =
    let now : World × List Came = world_step plan w t in
    let mid : World × List Came = world_run_from plan now.0 before in
    let last : World × List Came = world_step plan mid.0 s in
    ap (λ (a : World × List Came). (a.0, now.1 ++ a.1)) (run_grows plan now.0 before s)
    ∙ ap (λ (xs : List Came). (last.0, xs)) (sym (append_assoc now.1 mid.1 last.1))

pub world_run_grows : (plan : DrillPlan) (before : List Step) (s : Step)
    → world_run plan (before ++ s ∷ []) ≡ then_world (world_run plan before) (λ w. world_step plan w s)
world_run_grows plan before s = run_grows plan new_world before s

-- ---- what came at a link

pub history_grows : (n : ℕ) (xs ys : List Came) → history_on n (xs ++ ys) ≡ history_on n xs ++ history_on n ys
history_grows n xs ys = flat_map-append (history_at n) xs ys

pub facts_grow : (xs ys : List Occurrence) → facts_in (xs ++ ys) ≡ facts_in xs ++ facts_in ys
facts_grow xs ys = flat_map-append (λ (o : Occurrence). facts_at o.side o.outcome) xs ys

pub history_of_own : (n : ℕ) (history : List Occurrence) → history_on n (map (On n) history) ≡ history
history_of_own n [] = refl
history_of_own n (o ∷ history) = let same : (n == n) ≡ true = eq-eqb n n refl in rw same (ap (λ (xs : List Occurrence). o ∷ xs) (history_of_own n history))

pub history_of_other : (n m : ℕ) (history : List Occurrence) → (n ≡ m → ⊥) → history_on n (map (On m) history) ≡ []
history_of_other n m [] apart = refl
history_of_other n m (o ∷ history) apart = let other : (m == n) ≡ false = ne_eqb m n (λ e. apart (sym e)) in rw other (history_of_other n m history apart)

-- ---- marks

pub world_marks_grow : (seen xs ys : List Came) → marks_from seen (xs ++ ys) ≡ marks_from seen xs ++ marks_from (seen ++ xs) ys
world_marks_grow seen [] ys = ap (λ (zs : List Came). marks_from zs ys) (sym (append-nil seen))
world_marks_grow seen (c ∷ xs) ys =
    let rest : List MarkedCame = marks_from (seen ++ c ∷ []) xs in
    ap (λ (ms : List MarkedCame). mark_came seen c ∷ ms) (
    world_marks_grow (seen ++ c ∷ []) xs ys ∙ ap (λ (zs : List Came). rest ++ marks_from zs ys) (append_assoc seen (c ∷ []) xs)
    )

pub text_grows : (plan : DrillPlan) (before : List Step) (s : Step) → first_lines plan (before ++ s ∷ []) ≡ first_lines plan before ++ step_lines plan before s
text_grows plan before s =
    let a : World × List Came = world_run plan before in
    let now : World × List Came = world_step plan a.0 s in
    ap (λ (b : World × List Came). lines plan.show (marks_from [] b.1)) (world_run_grows plan before s)
    ∙ ap (λ (ms : List MarkedCame). lines plan.show ms) (world_marks_grow [] a.1 now.1)
    ∙ flat_map-append (came_line plan.show) (marks_from [] a.1) (marks_from a.1 now.1)

module _ (grow : MarksGrow) where
  pub link_marks_grow : (before : List MarkedFact) (xs ys : List Occurrence)
      → marks_behind before (xs ++ ys) ≡ marks_behind before xs ++ marks_behind (before ++ marked_from before (facts_in xs)) ys
  link_marks_grow before [] ys = ap (λ (ms : List MarkedFact). marks_behind ms ys) (sym (append-nil before))
  link_marks_grow before (o ∷ xs) ys =
      let first : List SideFact = facts_at o.side o.outcome in
      let next : List MarkedFact = before ++ marked_from before first in
      let rest : List MarkedOccurrence = marks_behind next xs in
      let same : next ++ marked_from next (facts_in xs) ≡ before ++ marked_from before (first ++ facts_in xs) =
      append_assoc before (marked_from before first) (marked_from next (facts_in xs))
      ∙ ap (λ (ms : List MarkedFact). before ++ ms) (sym (grow before first (facts_in xs))) in
      ap (λ (ms : List MarkedOccurrence). occurrence_with_mark before o ∷ ms) (
      link_marks_grow next xs ys ∙ ap (λ (ms : List MarkedFact). rest ++ marks_behind ms ys) same
      )

  -- the facts of link n behind one occurrence more of it
  pub facts_of_own : (n : ℕ) (seen : List Came) (o : Occurrence)
      → marked (facts_on n (seen ++ On n o ∷ [])) ≡ marked (facts_on n seen) ++ marked_from (marked (facts_on n seen)) (facts_at o.side o.outcome)
  facts_of_own n seen o =
      let one : history_on n (On n o ∷ []) ≡ o ∷ [] = history_of_own n (o ∷ []) in
      let facts : facts_on n (seen ++ On n o ∷ []) ≡ facts_on n seen ++ facts_at o.side o.outcome =
      ap facts_in (history_grows n seen (On n o ∷ []) ∙ ap (λ (xs : List Occurrence). history_on n seen ++ xs) one)
      ∙ facts_grow (history_on n seen) (o ∷ [])
      ∙ ap (λ (fs : List SideFact). facts_on n seen ++ fs) (append-nil (facts_at o.side o.outcome)) in
      ap marked facts ∙ grow [] (facts_on n seen) (facts_at o.side o.outcome)

  pub link_text : (show : Bool) (n : ℕ) (seen : List Came) (history : List Occurrence)
      → lines show (marks_from seen (map (On n) history)) ≡ link_lines show n (marks_behind (marked (facts_on n seen)) history)
  link_text show n seen [] = refl
  link_text show n seen (o ∷ history) =
      let line : List ℕ = marked_line show n (occurrence_with_mark (marked (facts_on n seen)) o) in
      ap (λ (xs : List ℕ). line ++ xs) (
      link_text show n (seen ++ On n o ∷ []) history
      ∙ ap (λ (ms : List MarkedFact). link_lines show n (marks_behind ms history)) (facts_of_own n seen o)
      )
