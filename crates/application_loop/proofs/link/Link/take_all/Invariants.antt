-- What waits is left to be taken.
use Rattle.std.proofs.Common.{◌≡◌, List, true, length, ◌++◌, ◌+◌, ◌∷◌}
use Rattle.er_end.specs.KeptEnds.{waiting_in}
use Rattle.loop_session.specs.Parts.{OnlyPrints}
use Rattle.application_model.specs.Services.{has_room, takes_most}
use Rattle.application_port.specs.Ports.{attendance_of}
use Rattle.application_serving.specs.Going.{ServiceRun, ToDo, and_then}
use Rattle.application_loop.specs.Standing.{Beside, scene, Serving}
use Rattle.application_loop.specs.declared.link.Link.{Link}
use Rattle.application_loop.proofs.link.Link.take_all.Given as goal

abbrev pub invariant-loop : goal.invariant-loop
invariant-loop g l = record {
  takes : (front back : List Link) (run : ServiceRun) (beside : Beside) (rest : ToDo) → beside.moment ≡ l.fn.when.moment
      → Serving run beside (and_then (λ kind s. takes_most kind l.fn.when.moment l.fn.self.number (length (waiting_in l.fn.self.end.value)) s) rest)
      (scene (g.O.Outside.told l.fn.outside) (front ++ l.fn.self ∷ back) l.fn.desk)
      → Serving run beside (and_then (λ kind s. takes_most kind l.fn.when.moment l.self.number (length (waiting_in l.self.end.value)) s) rest)
      (scene (g.O.Outside.told l.outside) (front ++ l.self ∷ back) l.desk);
  waits : length (waiting_in l.self.end.value) + l.counter ≡ length (waiting_in l.fn.self.end.value);
  room : has_room (attendance_of l.desk.port) ≡ true → has_room (attendance_of l.fn.desk.port) ≡ true;
  number : l.self.number ≡ l.fn.self.number;
  only : OnlyPrints (g.O.Outside.told l.fn.outside) (g.O.Outside.told l.outside);
}
