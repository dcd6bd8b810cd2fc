-- What is left to be told leads to where all lead.
use Rattle.std.specs.Prelude.{List, length}
use Rattle.safety_pair_laws.specs.Facts.{MarkedFact}
use Rattle.drill_model.specs.Outcomes.{DrillOutcome}
use Rattle.drill_ends.specs.Tellings.{AreTold, told_outcomes_in}
use Rattle.er_world.specs.Ledgers.{HoldsLedger, Telling}
use Rattle.er_world.proofs.ledger.Ledger.tell_all.Given as goal

abbrev pub invariant-loop-one : goal.invariant-loop-one
invariant-loop-one l =
    (outcomes : List DrillOutcome) (before : List MarkedFact) → AreTold outcomes l.fn.told.items → HoldsLedger l.fn.self before
    → Telling l.place before (told_outcomes_in outcomes) l.told.items l.self l.fn.waiting l.waiting l.fn.out.items l.out.items

abbrev pub decreases-loop-one : goal.decreases-loop-one
decreases-loop-one l = length l.told.items
