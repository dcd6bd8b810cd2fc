use Rattle.std.proofs.Common.{map}
use Rattle.std.proofs.lemmas.Result.{err_from_is_err_and}
use Rattle.readiness_loop.specs.Courses.{plan_of_loop, loop_of}
use Rattle.readiness_loop.proofs.Acceptings.{length_sessions}
use Rattle.readiness_loop.proofs.Turning.{ready_from, turn_goes_on, turn_stops_so}
use Rattle.readiness_loop.proofs.live_loop.LiveLoop.turn.Goals as goal

pub react-requires-clause-ready : goal.react-requires-clause-ready
react-requires-clause-ready g c =
    ready_from (g.O.Outside.told c.args.outside.now) (g.O.Outside.told c.turn-happening.new.self) (g.O.Outside.told c.moment_of.new.outside) c.args.until c.turn-happening.result c.moment_of.result c.args.self.now.book.slots c.args.self.now.book.places.entries c.turn-happening.ensures.does c.moment_of.ensures.asks c.turn-happening.ensures.number c.requires.order.seated

pub returns-clause-does : goal.returns-clause-does
returns-clause-does g c = λ asked.
    turn_goes_on (plan_of_loop (g.K.KeyFinder.entries c.args.keys.now) c.args.plan.now) (g.O.Outside.told c.args.outside.now) (g.O.Outside.told c.turn-happening.new.self) (g.O.Outside.told c.moment_of.new.outside) (g.O.Outside.told c.react.new.outside)
    c.args.self.now.book.slots c.args.self.now.book.places (map g.U.SafeUser.mind c.args.self.now.users.items) c.args.self.now.moment (loop_of c.react.new.self.book.slots c.react.new.self.book.places (map g.U.SafeUser.mind c.react.new.self.users.items) c.react.new.self.moment (g.O.Outside.told c.react.new.outside).words) c.args.self.now.turns c.react.new.self.turns c.later-self.result asked c.args.until c.turn-happening.result c.moment_of.result c.has_closed.result _ c.next_behind.result
    c.requires.until c.turn-happening.ensures.does c.moment_of.ensures.asks c.later-self.ensures c.in_ok-react.ensures.does c.react.ensures.leaves
    c.turn-happening.ensures.number c.turn-happening.ensures.accepted
    c.react.ensures.rests.turns c.has_closed.ensures (length_sessions _ c.react.new.self.book.slots c.react.new.self.book.places.entries c.in_ok-react.ensures.seated) c.next_behind.ensures

pub returns-in_err-react-clause-does : goal.returns-in_err-react-clause-does
returns-in_err-react-clause-does g c = λ asked.
    let p = err_from_is_err_and c.from_residual.result c.from_residual.ensures.1 in
    rw (p.1, p.2)
    (turn_stops_so (plan_of_loop (g.K.KeyFinder.entries c.args.keys.now) c.args.plan.now) (g.O.Outside.told c.args.outside.now) (g.O.Outside.told c.turn-happening.new.self) (g.O.Outside.told c.moment_of.new.outside) (g.O.Outside.told c.react.new.outside)
    c.args.self.now.book.slots c.args.self.now.book.places (map g.U.SafeUser.mind c.args.self.now.users.items) c.args.self.now.moment (loop_of c.react.new.self.book.slots c.react.new.self.book.places (map g.U.SafeUser.mind c.react.new.self.users.items) c.react.new.self.moment (g.O.Outside.told c.react.new.outside).words) c.args.self.now.turns c.react.new.self.turns c.later-self.result asked c.args.until c.turn-happening.result c.moment_of.result c.in_err-react.field-0.0
    c.requires.until c.turn-happening.ensures.does c.moment_of.ensures.asks c.later-self.ensures c.in_err-react.ensures.does c.turn-happening.ensures.number)
