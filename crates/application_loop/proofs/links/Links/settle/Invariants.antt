-- As many connections stay before the place as were visited, or fewer; all that came is done, wherever that was so before.
use Rattle.std.proofs.Common.{◌≡◌, ◌≤◌}
use Rattle.application_serving.specs.Going.{ServiceRun}
use Rattle.application_loop.specs.Standing.{Beside, scene, AtRest}
use Rattle.application_loop.proofs.links.Links.settle.Given as goal

abbrev pub invariant-loop : goal.invariant-loop
invariant-loop g l = record {
  few : l.place ≤ l.counter;
  rests : (run : ServiceRun) (beside : Beside) → beside.moment ≡ l.when.moment
      → AtRest run beside (scene (g.O.Outside.told l.fn.outside) l.fn.self.list.items l.fn.desk)
      → AtRest run beside (scene (g.O.Outside.told l.outside) l.self.list.items l.desk);
}
