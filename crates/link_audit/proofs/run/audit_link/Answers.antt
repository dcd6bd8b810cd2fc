-- One side behind the other.
use Rattle.std.proofs.Common.{Err}
use Rattle.std.proofs.lemmas.Result.{err_from_is_err_and, on_ok_weaker}
use Rattle.er_base.specs.declared.side.Side.TheVariants.{E, R}
use Rattle.link_audit.proofs.Written.{writes_then, writes_part, writes_as, did_as}
use Rattle.link_audit.proofs.Printed.{side_told, link_told}
use Rattle.link_audit.proofs.run.audit_link.Goals as goal

pub returns-clause-writes : goal.returns-clause-writes
returns-clause-writes g c =
    let known = rw (c.new-of_e.ensures.left, c.new-of_r.ensures.left) at c.known_of-known.ensures in
    writes_then _ _ _ _ _ c.write_side-2.result
    (did_as _ _ _ _ (side_told c.args.ends c.args.lines.now c.args.link E _ _ _ known c.new-of_e.ensures.left c.new-of_e.ensures.told) c.in_ok-write_side.ensures.writes)
    (writes_as _ _ _ _ c.write_side-2.result (side_told c.args.ends c.args.lines.now c.args.link R _ _ _ known c.new-of_r.ensures.left c.new-of_r.ensures.told)
    c.write_side-2.ensures.writes)

pub returns-clause-told : goal.returns-clause-told
returns-clause-told g c =
    on_ok_weaker c.write_side-2.result
    (λ told. link_told c.args.lines.now c.args.link c.new-of_e.result.told c.new-of_r.result.told c.args.made.now.ends.items c.write_side.new.made.ends.items c.write_side-2.new.made.ends.items
    c.new-of_e.ensures.told c.new-of_r.ensures.told c.in_ok-write_side.ensures.told told)
    c.write_side-2.ensures.told

pub returns-in_err-write_side-clause-writes : goal.returns-in_err-write_side-clause-writes
returns-in_err-write_side-clause-writes g c =
    let known = rw (c.new-of_e.ensures.left, c.new-of_r.ensures.left) at c.known_of-known.ensures in
    let p = err_from_is_err_and c.from_residual.result c.from_residual.ensures.1 in
    rw (p.1, p.2)
    (writes_part _ _ _ _ c.in_err-write_side.field-0.0
    (writes_as _ _ _ _ (Err c.in_err-write_side.field-0.0)
    (side_told c.args.ends c.args.lines.now c.args.link E _ _ _ known c.new-of_e.ensures.left c.new-of_e.ensures.told) c.in_err-write_side.ensures.writes))
