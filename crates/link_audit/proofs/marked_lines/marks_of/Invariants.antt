-- The marks so far.
use Rattle.std.proofs.Common.{◌≡◌, take}
use Rattle.link_audit.specs.Marks.{marks_in}
use Rattle.link_audit.proofs.marked_lines.marks_of.Given as goal

abbrev pub invariant-loop-line : goal.invariant-loop-line
invariant-loop-line l = l.marks.items ≡ marks_in (take l.line-index l.lines)
