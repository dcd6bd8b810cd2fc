-- Contract: an end of level full as the code keeps it.
use Rattle.std.specs.Prelude.{◌≡◌, ◌≤◌}
use Rattle.er_end_model.specs.Layers.{model}
use Rattle.er_end_model.specs.Steps.{new_event}
use Rattle.er_end_model.specs.Ends.{End as Stack}
use Rattle.drill_model.specs.StackReports.{IsOrderly}
use Rattle.er_end.specs.KeptEnds.{KEnd}
use Rattle.er_end.specs.Standing.{EndStands}

-- a stack of the code stands where one of the model does, but for what was told of the newest event
pub record StandsStack (k : KEnd) (m : Stack) : Type 0 where
  pub at : Stack
  pub stands : EndStands k at
  pub stream : at.stream ≡ m.stream
  pub same : new_event model at.core ≡ new_event model m.core
  pub orderly : IsOrderly at.core
  pub moment : at.core.moment ≤ 1000000000000000
