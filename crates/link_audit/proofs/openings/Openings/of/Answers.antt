-- By what stands at its place.
use Rattle.std.proofs.Common.{None, arith, sym}
use Rattle.link_audit.proofs.Opened.{kept_at}
use Rattle.link_audit.proofs.openings.Openings.of.Goals as goal

pub returns-in-Some : goal.returns-in-Some
returns-in-Some c =
    kept_at c.args.self.now c.args.link c.saturating_sub.result c.in-Some.opening.now c.saturating_sub.ensures (sym (c.in-Some.ensures.lookup.4 (omega arith) None))

pub returns-in-None : goal.returns-in-None
returns-in-None c = kept_at c.args.self.now c.args.link c.saturating_sub.result None c.saturating_sub.ensures (sym (c.in-None.ensures.lookup.4 (omega arith) None))
