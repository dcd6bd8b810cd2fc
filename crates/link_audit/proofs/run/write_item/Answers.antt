-- No line is empty; and want of memory before the write.
use Rattle.std.proofs.lemmas.Result.{err_from_is_err_and}
use Rattle.link_audit.proofs.Printed.{line_some}
use Rattle.link_audit.proofs.Written.{spent_before}
use Rattle.link_audit.proofs.run.write_item.Goals as goal

pub write_line-requires : goal.write_line-requires
write_line-requires g c = rw (c.as_slice.ensures.value, c.in_ok-put_item.ensures, c.clear.ensures.items) (line_some _ _)

pub returns-in_err-put_item-clause-writes : goal.returns-in_err-put_item-clause-writes
returns-in_err-put_item-clause-writes g c =
    let p = err_from_is_err_and c.from_residual.result c.from_residual.ensures.1 in
    rw (p.1, p.2) (spent_before _ _)
