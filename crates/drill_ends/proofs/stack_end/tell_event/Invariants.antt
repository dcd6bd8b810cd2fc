use Rattle.std.proofs.Common.{length}
use Rattle.er_end_model.specs.Ends.{End as Stack}
use Rattle.drill_ends.specs.Events.{event_of}
use Rattle.drill_ends.specs.KeptStacks.{StandsStack}
use Rattle.drill_ends.specs.StackEnds.{octets_of_event, StackReading}
use Rattle.drill_ends.proofs.stack_end.tell_event.Given as goal

abbrev pub invariant-loop-rest : goal.invariant-loop-rest
invariant-loop-rest l =
    (m : Stack) → StandsStack l.fn.end m → StackReading l.keys l.now m (octets_of_event (event_of l.event)) l.rest l.end l.fn.told.items l.told.items

abbrev pub decreases-loop-rest : goal.decreases-loop-rest
decreases-loop-rest l = length l.rest
