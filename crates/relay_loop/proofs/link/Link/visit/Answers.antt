-- The connection stays, or is closed behind.
use Rattle.std.proofs.lemmas.Result.{err_from_is_err_and}
use Rattle.relay_loop.proofs.LinkCalls.{stays_settled, visit_breaks}
use Rattle.relay_loop.proofs.Finishing.{leaves}
use Rattle.relay_loop.proofs.link.Link.visit.Goals as goal

pub returns : goal.returns
returns g c = leaves c.closed_stays.ensures c.args.script.now _ _ _ _ _ _ _ _ (c.is_over.ensures c.if-not-is_over.false) c.in_ok-go_on.ensures (c.in_ok-close.ensures c.args.script.now)

pub returns-then-not-is_over : goal.returns-then-not-is_over
returns-then-not-is_over g c = stays_settled c.args.script.now _ _ _ _ _ _ c.in_ok-go_on.ensures

pub returns-in_err-go_on : goal.returns-in_err-go_on
returns-in_err-go_on g c =
    let p = err_from_is_err_and c.from_residual.result c.from_residual.ensures.1 in
    rw (p.1, p.2) c.in_err-go_on.ensures

pub returns-in_err-close : goal.returns-in_err-close
returns-in_err-close g c =
    let p = err_from_is_err_and c.from_residual-in_err-close.result c.from_residual-in_err-close.ensures.1 in
    rw (p.1, p.2) (visit_breaks _ c.args.script.now _ _ _ _ _ _ _ c.in_ok-go_on.ensures.visit.visits (c.in_err-close.ensures c.args.script.now))
