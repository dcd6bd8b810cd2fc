-- Which occurrences are forged: one scan over all that came, by the facts of each link (this profile).
use Rattle.std.specs.Prelude.{ℕ, Bool, false, List, [], ◌∷◌, ◌++◌}
use Rattle.er_base.specs.declared.side.Side.{Side}
use Rattle.safety_pair_laws.specs.Facts.{MarkedFact, marked, marked_from, is_forged}
use Rattle.drill_model.specs.Outcomes.{DrillOutcome, OfSafety, Occurrence, facts_at}
use Rattle.drill_model.specs.Worlds.{Came, On, Drained, facts_on}

-- whether an outcome is forged, behind these facts of its link
abbrev pub outcome_forged : (before : List MarkedFact) → Side → DrillOutcome → Bool
outcome_forged before side (OfSafety fact) = is_forged before side fact
outcome_forged before side other = false

-- an occurrence with its mark
pub record MarkedOccurrence : Type 0 where
  pub side : Side
  pub outcome : DrillOutcome
  pub forged : Bool

abbrev pub occurrence_with_mark : (before : List MarkedFact) → Occurrence → MarkedOccurrence
occurrence_with_mark before o = record { side = o.side; outcome = o.outcome; forged = outcome_forged before o.side o.outcome }

-- the occurrences of one link, each behind the facts before it
abbrev pub marks_behind : (before : List MarkedFact) → List Occurrence → List MarkedOccurrence
marks_behind before [] = []
marks_behind before (o ∷ history) =
    occurrence_with_mark before o ∷ marks_behind (before ++ marked_from before (facts_at o.side o.outcome)) history

-- what came in a world, with marks
pub data MarkedCame : Type 0 where
  MarkedOn : (link : ℕ) (m : MarkedOccurrence) → MarkedCame
  MarkedDrain : (link passes : ℕ) → MarkedCame

-- behind all that came before
abbrev pub mark_came : (seen : List Came) → Came → MarkedCame
mark_came seen (On link o) = MarkedOn link (occurrence_with_mark (marked (facts_on link seen)) o)
mark_came seen (Drained link passes) = MarkedDrain link passes

abbrev pub marks_from : (seen : List Came) → List Came → List MarkedCame
marks_from seen [] = []
marks_from seen (c ∷ came) = mark_came seen c ∷ marks_from (seen ++ c ∷ []) came
