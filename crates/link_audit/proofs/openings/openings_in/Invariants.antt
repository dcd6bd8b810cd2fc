-- What the lines that are left do behind those that passed is what all lines do.
use Rattle.std.proofs.Common.{drop}
use Rattle.link_audit.proofs.Opened.{Checked}
use Rattle.link_audit.proofs.openings.openings_in.Given as goal

abbrev pub invariant-loop-line : goal.invariant-loop-line
invariant-loop-line l = Checked l.lines (drop l.line-index l.lines) l.openings
