-- Contract: an end of a link as the code keeps it, whatever its level.
use Rattle.std.specs.Prelude.{◌≡◌, List}
use Rattle.drill_model.specs.Outcomes.{DrillOutcome}
use Rattle.drill_model.specs.Ends.{EndAtLevel, OfSafe, OfStation, OfStack}
use Rattle.drill_ends.specs.declared.told.Told.{Told}
use Rattle.drill_ends.specs.declared.drill_end.DrillEnd.{DrillEnd}
use Rattle.drill_ends.specs.declared.drill_end.DrillEnd.TheVariants as code
use Rattle.drill_ends.specs.Tellings.{AreTold}
use Rattle.drill_ends.specs.KeptStations.{StandsStation}
use Rattle.drill_ends.specs.KeptStacks.{StandsStack}

-- an end of the code stands where an end of the model does
abbrev pub StandsEnd : DrillEnd → EndAtLevel → Type 0
StandsEnd (code.Safe kept) (OfSafe s) = kept.safety ≡ s
StandsEnd (code.Safe kept) (OfStation selective s stream) = ⊥
StandsEnd (code.Station kept) (OfSafe s) = ⊥
StandsEnd (code.Station kept) (OfStation selective s stream) = StandsStation kept selective s stream
StandsEnd (code.Safe kept) (OfStack m) = ⊥
StandsEnd (code.Station kept) (OfStack m) = ⊥
StandsEnd (code.Stack kept) (OfSafe s) = ⊥
StandsEnd (code.Stack kept) (OfStation selective s stream) = ⊥
StandsEnd (code.Stack kept) (OfStack m) = StandsStack kept m

-- an end went on so, and told its outcomes
pub record EndWent (new : DrillEnd) (list : List Told) (a : EndAtLevel × List DrillOutcome) : Type 0 where
  pub stands : StandsEnd new a.0
  pub told : AreTold a.1 list
