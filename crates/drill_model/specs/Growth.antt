-- How a run, its marks and its text grow by steps: what the definitions imply, for whoever follows a run step by step.
use Rattle.std.specs.Prelude.{ℕ, ◌≡◌, Bool, List, [], ◌∷◌, ◌++◌, map}
use Rattle.er_scenario.specs.declared.step.Step.{Step}
use Rattle.safety_pair_laws.specs.Facts.{MarkedFact, marked, marked_from}
use Rattle.drill_model.specs.Outcomes.{Occurrence, facts_in}
use Rattle.drill_model.specs.Worlds.{DrillPlan, Came, On, history_on, facts_on, then_world, world_step, world_run}
use Rattle.drill_model.specs.Marks.{marks_behind, marks_from}
use Rattle.drill_model.specs.Texts.{lines, link_lines, step_lines, first_lines}

-- a step behind others
abbrev pub RunGrows : Type 0
RunGrows =
    (plan : DrillPlan) (before : List Step) (s : Step)
    → world_run plan (before ++ s ∷ []) ≡ then_world (world_run plan before) (λ w. world_step plan w s)

abbrev pub TextGrows : Type 0
TextGrows =
    (plan : DrillPlan) (before : List Step) (s : Step)
    → first_lines plan (before ++ s ∷ []) ≡ first_lines plan before ++ step_lines plan before s

-- what came at a link, and its facts
abbrev pub HistoryGrows : Type 0
HistoryGrows = (n : ℕ) (xs ys : List Came) → history_on n (xs ++ ys) ≡ history_on n xs ++ history_on n ys

abbrev pub FactsGrow : Type 0
FactsGrow = (xs ys : List Occurrence) → facts_in (xs ++ ys) ≡ facts_in xs ++ facts_in ys

-- what came at link n alone
abbrev pub HistoryOfOwn : Type 0
HistoryOfOwn = (n : ℕ) (history : List Occurrence) → history_on n (map (On n) history) ≡ history

abbrev pub HistoryOfOther : Type 0
HistoryOfOther = (n m : ℕ) (history : List Occurrence) → (n ≡ m → ⊥) → history_on n (map (On m) history) ≡ []

-- marks of what came behind other things, in a world and at a link
abbrev pub WorldMarksGrow : Type 0
WorldMarksGrow = (seen xs ys : List Came) → marks_from seen (xs ++ ys) ≡ marks_from seen xs ++ marks_from (seen ++ xs) ys

abbrev pub LinkMarksGrow : Type 0
LinkMarksGrow =
    (before : List MarkedFact) (xs ys : List Occurrence)
    → marks_behind before (xs ++ ys) ≡ marks_behind before xs ++ marks_behind (before ++ marked_from before (facts_in xs)) ys

-- what came at link n alone is printed by the facts of that link
abbrev pub LinkText : Type 0
LinkText =
    (show : Bool) (n : ℕ) (seen : List Came) (history : List Occurrence)
    → lines show (marks_from seen (map (On n) history)) ≡ link_lines show n (marks_behind (marked (facts_on n seen)) history)
