use Rattle.std.proofs.Common.{◌≡◌, length, ap, rules}
use Rattle.readiness_loop.specs.Claims.{dialling, caller_of}
use Rattle.readiness_loop.proofs.Dials.{dials_on}
use Rattle.readiness_loop.proofs.dialling.dial.Goals as goal

pub returns-clause-ends : goal.returns-clause-ends
returns-clause-ends g c =
    let many : c.len.result ≡ length c.args.users.items = search rules in
    dials_on (g.O.Outside.told c.args.outside.now) (g.O.Outside.told c.dial_users.new.outside)
    (dialling c.args.pair.now.kmac c.args.plan.now c.args.pair.now.engine c.args.pair.now.rbc c.len.result) (dialling c.args.pair.now.kmac c.args.plan.now c.args.pair.now.engine c.args.pair.now.rbc (length c.args.users.items)) (caller_of c.args.pair.now.engine c.args.pair.now.kmac)
    c.args.address.now _ c.dial_users.result
    (ap (λ z. dialling c.args.pair.now.kmac c.args.plan.now c.args.pair.now.engine c.args.pair.now.rbc z) many) (rw c.rbc.ensures at c.dial_users.ensures.does) c.dial_users.ensures.recorded.did.sink.faults.later
