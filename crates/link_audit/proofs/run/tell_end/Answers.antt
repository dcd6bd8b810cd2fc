-- No line is empty; and want of memory before the write.
use Rattle.std.proofs.lemmas.Result.{err_from_is_err_and}
use Rattle.link_audit.proofs.Printed.{line_some}
use Rattle.link_audit.proofs.Written.{spent_before, told_none, told_one}
use Rattle.link_audit.proofs.run.tell_end.Goals as goal

pub write_line-requires : goal.write_line-requires
write_line-requires g c = rw (c.as_slice-2.ensures.value, c.in_ok-put_end.ensures, c.clear.ensures.items) (line_some _ _)

pub returns-in_err-put_end-clause-writes : goal.returns-in_err-put_end-clause-writes
returns-in_err-put_end-clause-writes g c =
    let p = err_from_is_err_and c.from_residual.result c.from_residual.ensures.1 in
    rw (p.1, p.2) (spent_before _ _)

pub returns-in_err-put_text-clause-writes : goal.returns-in_err-put_text-clause-writes
returns-in_err-put_text-clause-writes g c =
    let p = err_from_is_err_and c.from_residual-in_err-put_text.result c.from_residual-in_err-put_text.ensures.1 in
    rw (p.1, p.2) (spent_before _ _)

pub returns-then-not-ends-clause-writes : goal.returns-then-not-ends-clause-writes
returns-then-not-ends-clause-writes g c = told_none c.args.ends c.args.link c.args.side c.args.end.now _ c.if-not-ends.true

pub returns-clause-writes : goal.returns-clause-writes
returns-clause-writes g c =
    told_one c.args.ends c.args.link c.args.side c.args.end.now _ _ c.write_line.result c.if-not-ends.false
    (rw (c.as_slice-2.ensures.value, c.in_ok-put_end.ensures, c.clear.ensures.items) at c.write_line.ensures.writes)
