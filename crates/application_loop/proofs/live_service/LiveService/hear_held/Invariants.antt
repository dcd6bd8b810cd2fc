-- Piece by piece.
use Rattle.application_serving.specs.Going.{ServiceRun}
use Rattle.application_loop.specs.Living.{Resting}
use Rattle.application_loop.proofs.live_service.LiveService.hear_held.Given as goal

abbrev pub invariant-loop : goal.invariant-loop
invariant-loop g l =
    (run : ServiceRun) → Resting run (g.O.Outside.told l.fn.outside) l.fn.self → Resting run (g.O.Outside.told l.outside) l.self
