-- So many turns were done, and the loop goes on.
use Rattle.std.specs.Prelude.{◌≤◌, ℕ, List, map}
use Rattle.readiness_loop.specs.Courses.{plan_of_loop, loop_of, course_of, around}
use Rattle.readiness_loop.specs.Lives.{IsBookInOrder}
use Rattle.readiness_loop.proofs.Running.{RanSome}
use Rattle.readiness_loop.proofs.live_loop.LiveLoop.run.Given as goal

abbrev pub invariant-loop : goal.invariant-loop
invariant-loop g l = record {
  ran : (asked : List ℕ) → RanSome (plan_of_loop (g.K.KeyFinder.entries l.keys) l.plan)
      (around (g.O.Outside.told l.fn.outside))
      (around (g.O.Outside.told l.outside))
      (course_of (loop_of l.fn.self.book.slots l.fn.self.book.places (map g.U.SafeUser.mind l.fn.self.users.items) l.fn.self.moment (g.O.Outside.told l.fn.outside).words) 0 asked)
      (loop_of l.self.book.slots l.self.book.places (map g.U.SafeUser.mind l.self.users.items) l.self.moment (g.O.Outside.told l.outside).words)
      l.self.turns l.counter;
  order : IsBookInOrder (g.O.Outside.told l.outside).wires.opened l.self.book;
  turns : l.self.turns ≤ l.counter;
}
