-- Representation: one end of a link as the code keeps it; no claim rests on it.
use Rattle.std.specs.Prelude.{ℕ, ◌≡◌, List, length}
use Rattle.std.specs.List.{flat_map}
use Rattle.safety_pair_laws.specs.Facts.{MarkedFact}
use Rattle.drill_model.specs.declared.totals.Totals.{Totals}
use Rattle.drill_model.specs.Outcomes.{DrillOutcome}
use Rattle.drill_model.specs.Ends.{EndAtLevel, EndEvent}
use Rattle.drill_model.specs.Kinds.{sent_in}
use Rattle.er_world.specs.declared.place.Place.{Place}
use Rattle.er_world.specs.declared.port.Port.{Port}
use Rattle.er_world.specs.declared.ledger.Ledger.{Ledger}
use Rattle.drill_ends.specs.declared.told.Told.{Told}
use Rattle.drill_ends.specs.Tellings.{AreTold}
use Rattle.drill_ends.specs.KeptEnds.{StandsEnd}
use Rattle.er_world.specs.Ledgers.{TellsAll}
use Rattle.drill_ends.specs.SendCounts.{sent_at}
use Rattle.er_world.specs.Counts.{counted_told}

-- an end went on so at an event, behind these facts of its link
pub record PortWent (place : Place) (facts : List MarkedFact) (event : EndEvent) (a : EndAtLevel × List DrillOutcome) (waited : List (List ℕ)) (new : Port)
    (ledger : Ledger) (counted counts : Totals) (before now : List ℕ) : Type 0 where
  pub stands : StandsEnd new.end a.0
  pub list : List Told
  pub told : AreTold a.1 list
  pub all : TellsAll place facts a.1 ledger waited new.waiting before now
  pub counts_are : counts ≡ counted_told event list counted
  pub sent_are : sent_at event list ≡ length (flat_map sent_in a.1)
