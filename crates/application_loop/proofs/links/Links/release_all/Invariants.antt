-- Of the connections whose ends weren't released those are still to be released that weren't visited; and these stay as they were.
use Rattle.std.proofs.Common.{◌≡◌, ◌≤◌, ℕ, drop}
use Rattle.std.specs.List.{slice_get}
use Rattle.application_model.specs.Ends.{numbers_unparted}
use Rattle.application_model.specs.Services.{releases_all}
use Rattle.application_serving.specs.Going.{ServiceRun, ToDo, and_then}
use Rattle.application_loop.specs.Standing.{Beside, scene, Serving}
use Rattle.application_loop.proofs.Releasing.{releases}
use Rattle.application_loop.proofs.links.Links.release_all.Given as goal

abbrev pub invariant-loop-place : goal.invariant-loop-place
invariant-loop-place g l = record {
  left : (run : ServiceRun) (beside : Beside) (rest : ToDo) → beside.moment ≡ l.when.moment
      → Serving run beside (and_then (λ kind s. releases_all kind l.when.moment (numbers_unparted s.known) s) rest)
      (scene (g.O.Outside.told l.fn.outside) l.fn.self.list.items l.fn.desk)
      → Serving run beside (and_then (releases l.when.moment (drop l.place l.fn.self.list.items)) rest)
      (scene (g.O.Outside.told l.outside) l.self.list.items l.desk);
  others : (at : ℕ) → l.place ≤ at → slice_get l.self.list.items at ≡ slice_get l.fn.self.list.items at;
}
