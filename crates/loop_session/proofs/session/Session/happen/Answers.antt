use Rattle.std.proofs.lemmas.Result.{err_from_is_err_and}
use Rattle.loop_session.proofs.session.Session.happen.Goals as goal

pub returns-in_err-handle-clause-chooses : goal.returns-in_err-handle-clause-chooses
returns-in_err-handle-clause-chooses g c = λ entries same.
    let p = err_from_is_err_and c.from_residual.result c.from_residual.ensures.1 in
    rw (p.1, p.2) (c.in_err-handle.ensures.chooses entries same)
