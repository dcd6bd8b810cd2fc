use Rattle.std.proofs.Common.{map, ap, arith}
use Rattle.std.proofs.lemmas.Result.{err_from_is_err_and}
use Rattle.loop_model.specs.Loops.{OnEnded, OnClosed}
use Rattle.readiness_loop.specs.Courses.{plan_of_loop, loop_of, course_of, around, halt_of}
use Rattle.readiness_loop.proofs.Running.{ran_start, run_goes, run_halts, run_stops, ran_all}
use Rattle.readiness_loop.proofs.live_loop.LiveLoop.run.Goals as goal

pub loop-init : goal.loop-init
loop-init g c = record {
  ran = λ asked. ran_start (plan_of_loop (g.K.KeyFinder.entries c.args.keys.now) c.args.plan.now) (around (g.O.Outside.told c.args.outside.now)) (loop_of c.args.self.now.book.slots c.args.self.now.book.places (map g.U.SafeUser.mind c.args.self.now.users.items) c.args.self.now.moment (g.O.Outside.told c.args.outside.now).words) _ asked c.requires.turns;
  order = c.requires.order;
  turns = omega (arith, c.requires.turns);
}

pub loop-preserved : goal.loop-preserved
loop-preserved g c = record {
  ran = λ asked.
      run_goes (plan_of_loop (g.K.KeyFinder.entries c.args.keys.now) c.args.plan.now)
      (around (g.O.Outside.told c.args.outside.now))
      (around (g.O.Outside.told c.loop.outside))
      (around (g.O.Outside.told c.go.new.outside))
      (course_of (loop_of c.args.self.now.book.slots c.args.self.now.book.places (map g.U.SafeUser.mind c.args.self.now.users.items) c.args.self.now.moment (g.O.Outside.told c.args.outside.now).words) 0 asked)
      (loop_of c.loop.self.book.slots c.loop.self.book.places (map g.U.SafeUser.mind c.loop.self.users.items) c.loop.self.moment (g.O.Outside.told c.loop.outside).words)
      (loop_of c.go.new.self.book.slots c.go.new.self.book.places (map g.U.SafeUser.mind c.go.new.self.users.items) c.go.new.self.moment (g.O.Outside.told c.go.new.outside).words) c.loop.self.turns c.go.new.self.turns c.loop.counter c.in_ok-go.field-0 (c.loop.invariant.ran asked) (ap halt_of c.in-GoesOn.is) c.in_ok-go.ensures.does;
  order = c.in_ok-go.ensures.order;
  turns = omega (arith, c.go.ensures.turns, c.loop.invariant.turns);
}

pub returns-in-Ended : goal.returns-in-Ended
returns-in-Ended g c = λ asked.
    run_halts (plan_of_loop (g.K.KeyFinder.entries c.args.keys.now) c.args.plan.now)
    (around (g.O.Outside.told c.args.outside.now))
    (around (g.O.Outside.told c.loop.outside))
    (around (g.O.Outside.told c.go.new.outside))
    (course_of (loop_of c.args.self.now.book.slots c.args.self.now.book.places (map g.U.SafeUser.mind c.args.self.now.users.items) c.args.self.now.moment (g.O.Outside.told c.args.outside.now).words) 0 asked)
    (loop_of c.loop.self.book.slots c.loop.self.book.places (map g.U.SafeUser.mind c.loop.self.users.items) c.loop.self.moment (g.O.Outside.told c.loop.outside).words)
    (loop_of c.go.new.self.book.slots c.go.new.self.book.places (map g.U.SafeUser.mind c.go.new.self.users.items) c.go.new.self.moment (g.O.Outside.told c.go.new.outside).words) c.loop.self.turns c.go.new.self.turns c.loop.counter c.in_ok-go.field-0 OnEnded (c.loop.invariant.ran asked) c.loop-test.true (ap halt_of c.in-Ended.is) c.in_ok-go.ensures.does

pub returns-in-Closed : goal.returns-in-Closed
returns-in-Closed g c = λ asked.
    run_halts (plan_of_loop (g.K.KeyFinder.entries c.args.keys.now) c.args.plan.now)
    (around (g.O.Outside.told c.args.outside.now))
    (around (g.O.Outside.told c.loop.outside))
    (around (g.O.Outside.told c.go.new.outside))
    (course_of (loop_of c.args.self.now.book.slots c.args.self.now.book.places (map g.U.SafeUser.mind c.args.self.now.users.items) c.args.self.now.moment (g.O.Outside.told c.args.outside.now).words) 0 asked)
    (loop_of c.loop.self.book.slots c.loop.self.book.places (map g.U.SafeUser.mind c.loop.self.users.items) c.loop.self.moment (g.O.Outside.told c.loop.outside).words)
    (loop_of c.go.new.self.book.slots c.go.new.self.book.places (map g.U.SafeUser.mind c.go.new.self.users.items) c.go.new.self.moment (g.O.Outside.told c.go.new.outside).words) c.loop.self.turns c.go.new.self.turns c.loop.counter c.in_ok-go.field-0 OnClosed (c.loop.invariant.ran asked) c.loop-test.true (ap halt_of c.in-Closed.is) c.in_ok-go.ensures.does

pub returns-in_err-go : goal.returns-in_err-go
returns-in_err-go g c = λ asked.
    let p = err_from_is_err_and c.from_residual.result c.from_residual.ensures.1 in
    rw (p.1, p.2)
    (run_stops (plan_of_loop (g.K.KeyFinder.entries c.args.keys.now) c.args.plan.now)
    (around (g.O.Outside.told c.args.outside.now))
    (around (g.O.Outside.told c.loop.outside))
    (around (g.O.Outside.told c.go.new.outside))
    (course_of (loop_of c.args.self.now.book.slots c.args.self.now.book.places (map g.U.SafeUser.mind c.args.self.now.users.items) c.args.self.now.moment (g.O.Outside.told c.args.outside.now).words) 0 asked)
    (loop_of c.loop.self.book.slots c.loop.self.book.places (map g.U.SafeUser.mind c.loop.self.users.items) c.loop.self.moment (g.O.Outside.told c.loop.outside).words)
    (loop_of c.go.new.self.book.slots c.go.new.self.book.places (map g.U.SafeUser.mind c.go.new.self.users.items) c.go.new.self.moment (g.O.Outside.told c.go.new.outside).words) c.loop.self.turns c.go.new.self.turns c.loop.counter c.in_err-go.field-0.0 (c.loop.invariant.ran asked) c.loop-test.true c.in_err-go.ensures.does)

pub returns : goal.returns
returns g c = λ asked.
    ran_all (plan_of_loop (g.K.KeyFinder.entries c.args.keys.now) c.args.plan.now)
    (around (g.O.Outside.told c.args.outside.now))
    (around (g.O.Outside.told c.loop.outside))
    (course_of (loop_of c.args.self.now.book.slots c.args.self.now.book.places (map g.U.SafeUser.mind c.args.self.now.users.items) c.args.self.now.moment (g.O.Outside.told c.args.outside.now).words) 0 asked)
    (loop_of c.loop.self.book.slots c.loop.self.book.places (map g.U.SafeUser.mind c.loop.self.users.items) c.loop.self.moment (g.O.Outside.told c.loop.outside).words) c.loop.self.turns c.loop.counter (c.loop.invariant.ran asked) (omega (arith, c.loop-test.false, c.loop.auto.counter-end))
