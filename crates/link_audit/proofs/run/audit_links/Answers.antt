-- One link more, one that isn't written, and the end.
use Rattle.std.proofs.Common.{arith}
use Rattle.std.proofs.lemmas.Result.{err_from_is_err_and}
use Rattle.link_audit.proofs.Written.{leads_then, leads_fault, leads_end}
use Rattle.link_audit.proofs.Printed.{links_more, links_none, ends_told, all_told}
use Rattle.link_audit.proofs.run.audit_links.Goals as goal

pub loop-link-preserved : goal.loop-link-preserved
loop-link-preserved g c =
    let most = c.loop-link-test.true in
    record {
      leads =
          leads_then _ _ _ _ _ _ (links_more c.args.ends _ c.args.lines.now c.args.openings.now c.loop-link.link most) c.loop-link.invariant.leads _ c.in_ok-audit_number.ensures.writes;
      told = ends_told c.args.lines.now c.args.openings.now c.loop-link.link _ _ _ most c.in_ok-audit_number.ensures.told c.loop-link.invariant.told;
      least = omega arith;
      most = omega (arith, most);
    }

pub returns-in_err-audit_number-clause-writes : goal.returns-in_err-audit_number-clause-writes
returns-in_err-audit_number-clause-writes g c =
    let p = err_from_is_err_and c.from_residual.result c.from_residual.ensures.1 in
    rw (p.1, p.2)
    (leads_fault _ _ _ _ _ _ (links_more c.args.ends _ c.args.lines.now c.args.openings.now c.loop-link.link c.loop-link-test.true) c.loop-link.invariant.leads _ c.in_err-audit_number.field-0.0 c.in_err-audit_number.ensures.writes)

pub returns-clause-writes : goal.returns-clause-writes
returns-clause-writes g c =
    let past = c.loop-link-test.false in
    leads_end _ _ _ _ (links_none c.args.ends _ c.args.lines.now c.args.openings.now c.loop-link.link (omega (arith, past))) c.loop-link.invariant.leads

pub returns-clause-told : goal.returns-clause-told
returns-clause-told g c =
    let past = c.loop-link-test.false in
    all_told c.args.lines.now c.args.openings.now c.loop-link.link _ _ (omega (arith, past)) c.loop-link.invariant.told
