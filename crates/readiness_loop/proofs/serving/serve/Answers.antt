use Rattle.std.proofs.Common.{◌≡◌, length, ap, rules}
use Rattle.readiness_loop.specs.Claims.{serving}
use Rattle.readiness_loop.proofs.Listening.{serves_on}
use Rattle.readiness_loop.proofs.serving.serve.Goals as goal

pub returns-clause-ends : goal.returns-clause-ends
returns-clause-ends g c =
    let many : c.len.result ≡ length c.args.users.items = search rules in
    serves_on (g.O.Outside.told c.args.outside.now) (g.O.Outside.told c.serve_users.new.outside)
    (serving c.args.keys.now c.args.plan.now c.args.rbc c.len.result) (serving c.args.keys.now c.args.plan.now c.args.rbc (length c.args.users.items))
    c.args.address.now _ c.serve_users.result
    (ap (λ z. serving c.args.keys.now c.args.plan.now c.args.rbc z) many) c.serve_users.ensures.does c.serve_users.ensures.recorded.did.sink.faults.later
