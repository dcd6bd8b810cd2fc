-- The octets that weren't heard are left; each part that was heard had one at least, and the same connections are there.
use Rattle.std.proofs.Common.{◌≡◌, ◌≤◌, ◌+◌, length, map, Some}
use Rattle.std.specs.List.{slice_get}
use Rattle.safety_automaton.specs.Keys.{key_at}
use Rattle.application_serving.specs.Going.{ServiceRun}
use Rattle.application_loop.specs.Standing.{Beside, scene, AtRest, pouring, number_of_link}
use Rattle.application_loop.specs.declared.link.Link.{Link}
use Rattle.application_loop.proofs.links.Links.pour.Given as goal

abbrev pub invariant-loop : goal.invariant-loop
invariant-loop g l = record {
  few : length l.rest + l.counter ≤ length l.octets;
  numbers : map number_of_link l.self.list.items ≡ map number_of_link l.fn.self.list.items;
  left : (link : Link) (run : ServiceRun) (beside : Beside) → slice_get l.fn.self.list.items l.place ≡ Some link → beside.moment ≡ l.when.moment
      → key_at (g.K.KeyFinder.entries l.keys) ≡ beside.finds
      → AtRest run (pouring beside link.number l.octets) (scene (g.O.Outside.told l.fn.outside) l.fn.self.list.items l.fn.desk)
      → AtRest run (pouring beside link.number l.rest) (scene (g.O.Outside.told l.outside) l.self.list.items l.desk);
}
