-- All turns.
use Rattle.std.proofs.Common.{◌≡◌}
use Rattle.application_serving.specs.Going.{ServiceRun}
use Rattle.application_loop.specs.Living.{Resting}
use Rattle.application_loop.proofs.live_service.LiveService.run.Given as goal

abbrev pub invariant-loop : goal.invariant-loop
invariant-loop g l =
    (run : ServiceRun) → run.settings ≡ l.fn.plan.settings → Resting run (g.O.Outside.told l.fn.outside) l.fn.self
    → Resting run (g.O.Outside.told l.outside) l.self
