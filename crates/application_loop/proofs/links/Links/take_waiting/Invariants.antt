-- What waits behind this place is left to be taken, and nothing waits before it.
use Rattle.std.proofs.Common.{◌≡◌, true, [], map, take, drop}
use Rattle.std.specs.List.{All}
use Rattle.er_end.specs.KeptEnds.{waiting_in}
use Rattle.application_model.specs.Services.{has_room, takes_waiting, takes_at}
use Rattle.application_port.specs.Ports.{attendance_of}
use Rattle.application_serving.specs.Going.{ServiceRun, ToDo, and_then}
use Rattle.application_loop.specs.Standing.{Beside, scene, Serving, number_of_link}
use Rattle.application_loop.specs.declared.link.Link.{Link}
use Rattle.application_loop.proofs.links.Links.take_waiting.Given as goal

abbrev pub invariant-loop-place : goal.invariant-loop-place
invariant-loop-place g l = record {
  takes : (run : ServiceRun) (beside : Beside) (rest : ToDo) → beside.moment ≡ l.fn.when.moment
      → Serving run beside (and_then (λ kind s. takes_waiting kind l.fn.when.moment s) rest)
      (scene (g.O.Outside.told l.fn.outside) l.fn.self.list.items l.fn.desk)
      → Serving run beside (and_then (λ kind s. takes_at kind l.fn.when.moment (map number_of_link (drop l.place l.self.list.items)) s) rest)
      (scene (g.O.Outside.told l.outside) l.self.list.items l.desk);
  rests : has_room (attendance_of l.desk.port) ≡ true → All (λ (link : Link). waiting_in link.end.value ≡ []) (take l.place l.self.list.items);
  numbers : map number_of_link l.self.list.items ≡ map number_of_link l.fn.self.list.items;
}
