-- By what happened.
use Rattle.std.proofs.Common.{Result, Ok, Err, OnOk}
use Rattle.std.proofs.lemmas.Result.{err_from_is_err_and}
use Rattle.relay_loop.proofs.RelayTurns.{turns, turn_due_broken, turn_breaks, turn_result, newest_at_most}
use Rattle.relay_loop.proofs.live_relay.LiveRelay.turn.Goals as goal

on_ok_of : {T E P : Type 0} (r : Result T E) → P → OnOk r P
on_ok_of (Ok value) p = p
on_ok_of (Err fault) p = tt

pub returns-clause-turns : goal.returns-clause-turns
returns-clause-turns g c =
    rw (c.react.ensures.accepted, c.give_due.ensures.accepted, c.see_moment.ensures.accepted)
    (turn_result c.goes_on.result c.turn-happening.result c.args.script.now c.args.dial.now c.args.self.now.accepted _ _ _ _ _ _ _ c.goes_on.ensures
    (turns c.closed_stays.ensures (Ok c.in_ok-react.field-0) c.args.script.now c.args.dial.now c.args.self.now.accepted c.until.result c.turn-happening.result c.see_moment.result _ _ _ _ _ _ _ _ _ _ _
    c.until.ensures c.turn-happening.ensures.does c.turn-happening.ensures.number c.see_moment.ensures.asks
    (rw (c.see_moment.ensures.links, c.see_moment.ensures.workspace) at (c.in_ok-give_due.ensures.goes c.args.dial.now))
    (rw (c.give_due.ensures.accepted, c.see_moment.ensures.accepted) at c.in_ok-react.ensures.reacts)))

pub returns-clause-accepted : goal.returns-clause-accepted
returns-clause-accepted g c =
    on_ok_of c.goes_on.result
    (rw (c.react.ensures.accepted, c.give_due.ensures.accepted, c.see_moment.ensures.accepted) (newest_at_most c.turn-happening.result c.args.self.now.accepted))

pub returns-in_err-give_due-clause-turns : goal.returns-in_err-give_due-clause-turns
returns-in_err-give_due-clause-turns g c =
    let p = err_from_is_err_and c.from_residual.result c.from_residual.ensures.1 in
    rw (p.1, p.2)
    (turn_breaks _ c.turn-happening.result c.args.script.now c.args.dial.now c.args.self.now.accepted _ _ _ _ _ _ _
    (turn_due_broken c.closed_stays.ensures _ c.args.script.now c.args.dial.now c.args.self.now.accepted c.until.result c.turn-happening.result c.see_moment.result _ _ _ _ _ _
    c.until.ensures c.turn-happening.ensures.does c.turn-happening.ensures.number c.see_moment.ensures.asks
    (rw (c.see_moment.ensures.links, c.see_moment.ensures.workspace) at (c.in_err-give_due.ensures.goes c.args.dial.now))))

pub returns-in_err-react-clause-turns : goal.returns-in_err-react-clause-turns
returns-in_err-react-clause-turns g c =
    let p = err_from_is_err_and c.from_residual-in_err-react.result c.from_residual-in_err-react.ensures.1 in
    rw (p.1, p.2)
    (turn_breaks _ c.turn-happening.result c.args.script.now c.args.dial.now c.args.self.now.accepted _ _ _ _ _ _ _
    (turns {T = Unit {0}} c.closed_stays.ensures (Err c.in_err-react.field-0.0) c.args.script.now c.args.dial.now c.args.self.now.accepted c.until.result c.turn-happening.result c.see_moment.result _ _ _ _ _ _ _ _ _ _ _
    c.until.ensures c.turn-happening.ensures.does c.turn-happening.ensures.number c.see_moment.ensures.asks
    (rw (c.see_moment.ensures.links, c.see_moment.ensures.workspace) at (c.in_ok-give_due.ensures.goes c.args.dial.now))
    (rw (c.give_due.ensures.accepted, c.see_moment.ensures.accepted) at c.in_err-react.ensures.reacts)))
