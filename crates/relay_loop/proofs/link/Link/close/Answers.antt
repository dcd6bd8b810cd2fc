-- The line is written, and both are closed.
use Rattle.std.proofs.Common.{refl}
use Rattle.std.proofs.lemmas.Result.{err_from_is_err_and}
use Rattle.relay_loop.proofs.LinkCalls.{visit_breaks, breaks_at_once, breaks_first}
use Rattle.relay_loop.proofs.LinkGives.{closing_waits, closes_on}
use Rattle.relay_loop.proofs.link.Link.close.Goals as goal

pub returns : goal.returns
returns g c = λ script.
    closes_on script c.args.at c.args.self.now _ _ _ _ _ _ _ c.requires.number c.in_ok-put_closed.ensures c.in_ok-write_lines.ensures.told
    c.in_ok-write_lines.ensures.none c.close.ensures.does c.close-2.ensures.does

pub returns-in_err-put_closed : goal.returns-in_err-put_closed
returns-in_err-put_closed g c = λ script.
    let p = err_from_is_err_and c.from_residual.result c.from_residual.ensures.1 in
    rw (p.1, p.2) (breaks_at_once _ script c.args.self.now _ _ refl)

pub returns-in_err-write_lines : goal.returns-in_err-write_lines
returns-in_err-write_lines g c = λ script.
    let p = err_from_is_err_and c.from_residual-in_err-write_lines.result c.from_residual-in_err-write_lines.ensures.1 in
    rw (p.1, p.2)
    (visit_breaks _ script c.args.self.now c.args.self.now _ _ _ _ _ (closing_waits script c.args.at c.args.self.now _ _ _ c.requires.number c.in_ok-put_closed.ensures)
    (breaks_first _ script c.args.self.now _ _ _ c.in_err-write_lines.ensures.broke))
