-- By the lemma on where the search stops.
use Rattle.std.proofs.Common.{sym}
use Rattle.link_audit.proofs.Marking.{searched}
use Rattle.link_audit.proofs.marked_lines.MarkedLines.before_mark.Goals as goal

pub returns-clause-stream : goal.returns-clause-stream
returns-clause-stream c =
    rw (sym c.self.view_is)
    (searched c.args.link c.args.side c.self.inside.lines.now c.self.inside.marks.now c.self.invariant c.memchr.result (rw c.mark_of.ensures at c.memchr.ensures)).0

pub returns-clause-within : goal.returns-clause-within
returns-clause-within c =
    rw (sym c.self.view_is)
    (searched c.args.link c.args.side c.self.inside.lines.now c.self.inside.marks.now c.self.invariant c.memchr.result (rw c.mark_of.ensures at c.memchr.ensures)).1
