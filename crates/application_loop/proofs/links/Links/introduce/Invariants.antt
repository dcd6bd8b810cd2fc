-- Of those who are connected the application is still to be told of the ones that weren't visited.
use Rattle.std.proofs.Common.{drop}
use Rattle.outside.specs.Doings.{Told}
use Rattle.application_model.specs.Lines.{connected_lines}
use Rattle.application_model.specs.Services.{informs}
use Rattle.application_serving.specs.Going.{ServiceRun, ToDo, and_then}
use Rattle.application_loop.specs.Standing.{Beside, scene, Serving}
use Rattle.application_loop.proofs.Introducing.{introduces}
use Rattle.application_loop.proofs.links.Links.introduce.Given as goal

abbrev pub invariant-loop-link : goal.invariant-loop-link
invariant-loop-link l =
    (told : Told) (run : ServiceRun) (beside : Beside) (rest : ToDo)
    → Serving run beside (and_then (λ kind s. informs (connected_lines s.known) s) rest) (scene told l.fn.self.list.items l.fn.desk)
    → Serving run beside (and_then (introduces (drop l.link-index l.self.list.items)) rest) (scene told l.self.list.items l.desk)
