-- All that came is done, wherever that was so before; and the same connections are there.
use Rattle.std.proofs.Common.{◌≡◌, map}
use Rattle.application_serving.specs.Going.{ServiceRun}
use Rattle.application_loop.specs.Standing.{Beside, scene, AtRest, number_of_link}
use Rattle.application_loop.proofs.links.Links.tick.Given as goal

abbrev pub invariant-loop-place : goal.invariant-loop-place
invariant-loop-place g l = record {
  rests : (run : ServiceRun) (beside : Beside) → beside.moment ≡ l.when.moment
      → AtRest run beside (scene (g.O.Outside.told l.fn.outside) l.fn.self.list.items l.fn.desk)
      → AtRest run beside (scene (g.O.Outside.told l.outside) l.self.list.items l.desk);
  numbers : map number_of_link l.self.list.items ≡ map number_of_link l.fn.self.list.items;
}
