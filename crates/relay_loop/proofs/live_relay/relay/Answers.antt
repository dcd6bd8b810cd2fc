-- All turns.
use Rattle.std.proofs.lemmas.Result.{err_from_is_err_and}
use Rattle.relay_loop.proofs.RelayMoments.{relays_end}
use Rattle.relay_loop.proofs.RelayCauses.{ends_by_cause}
use Rattle.relay_loop.proofs.live_relay.relay.Goals as goal

pub returns-clause-relays : goal.returns-clause-relays
returns-clause-relays g c =
    relays_end c.run.result c.args.listen.now c.args.turns c.args.script.now c.args.dial.now _ _
    (c.run.ensures _ c.args.listen.now
    (rw (c.new-live.ensures.links, c.new-live.ensures.accepted, c.new-live.ensures.lines) (c.in_ok-begin.ensures c.args.script.now c.args.dial.now)))

pub returns-clause-ends : goal.returns-clause-ends
returns-clause-ends g c =
    ends_by_cause c.run.result c.args.listen.now c.args.turns c.args.script.now c.args.dial.now _ _
    (c.run.ensures _ c.args.listen.now
    (rw (c.new-live.ensures.links, c.new-live.ensures.accepted, c.new-live.ensures.lines) (c.in_ok-begin.ensures c.args.script.now c.args.dial.now)))

pub returns-in_err-begin-clause-relays : goal.returns-in_err-begin-clause-relays
returns-in_err-begin-clause-relays g c =
    relays_end _ c.args.listen.now c.args.turns c.args.script.now c.args.dial.now _ _ (c.in_err-begin.ensures c.args.script.now c.args.dial.now c.args.turns)

pub returns-in_err-begin-clause-ends : goal.returns-in_err-begin-clause-ends
returns-in_err-begin-clause-ends g c =
    let p = err_from_is_err_and c.from_residual.result c.from_residual.ensures.1 in
    rw (p.1, p.2)
    (ends_by_cause _ c.args.listen.now c.args.turns c.args.script.now c.args.dial.now _ _ (c.in_err-begin.ensures c.args.script.now c.args.dial.now c.args.turns))
