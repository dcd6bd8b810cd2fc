-- A moment that goes back, an event that isn't taken, and one that is.
use Rattle.std.proofs.Common.{refl}
use Rattle.std.proofs.lemmas.Result.{err_from_is_err_and}
use Rattle.safety_automaton.specs.Keys.{key_at}
use Rattle.trace_replay.proofs.Running.{back_refuses, not_back, connections_hold, refuses, takes}
use Rattle.trace_replay.proofs.run.Replaying.take.Goals as goal

pub returns-then-get : goal.returns-then-get
returns-then-get g c = λ before stands.
    rw (c.get-then-get.ensures.same, c.get-then-get-2.ensures.same)
    (back_refuses c.args.settings.now (key_at (g.K.KeyFinder.entries c.args.keys.now)) before c.args.entry.now c.args.self.now c.args.self.now c.args.out.now.items c.args.out.now.items
    stands (rw (c.get.ensures.same, c.get-2.ensures.same) at c.if-get.true))

pub returns-in_err-take : goal.returns-in_err-take
returns-in_err-take g c = λ before stands.
    let p = err_from_is_err_and c.from_residual.result c.from_residual.ensures.1 in
    let on_time = not_back c.args.settings.now (key_at (g.K.KeyFinder.entries c.args.keys.now)) before c.args.entry.now c.args.self.now stands (rw (c.get.ensures.same, c.get-2.ensures.same) at c.if-get.false) in
    rw (p.1, p.2)
    (refuses c.args.settings.now (key_at (g.K.KeyFinder.entries c.args.keys.now)) before c.args.entry.now c.take.new.self
    (record { connections = c.take.new.self; last = c.args.self.now.last }) c.args.out.now.items c.take.new.out.items c.in_err-take.field-0.0 on_time
    (c.in_err-take.ensures before
    (connections_hold c.args.settings.now (key_at (g.K.KeyFinder.entries c.args.keys.now)) before c.args.entry.now c.args.self.now stands) on_time))

pub returns : goal.returns
returns g c = λ before stands.
    let on_time = not_back c.args.settings.now (key_at (g.K.KeyFinder.entries c.args.keys.now)) before c.args.entry.now c.args.self.now stands (rw (c.get.ensures.same, c.get-2.ensures.same) at c.if-get.false) in
    takes c.args.settings.now (key_at (g.K.KeyFinder.entries c.args.keys.now)) before c.args.entry.now _ c.args.out.now.items c.take.new.out.items on_time refl
    (c.in_ok-take.ensures before
    (connections_hold c.args.settings.now (key_at (g.K.KeyFinder.entries c.args.keys.now)) before c.args.entry.now c.args.self.now stands) on_time)
