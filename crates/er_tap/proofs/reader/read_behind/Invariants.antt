-- The lines so far and what those that are left say are what all lines say.
use Rattle.std.proofs.Common.{◌≡◌, length}
use Rattle.er_base.specs.Lines.{lines_of, rows_of}
use Rattle.er_tap.specs.Files.{lines_said}
use Rattle.er_tap.specs.Ranges.{AreInRange}
use Rattle.er_tap.proofs.TapLines.{behind}
use Rattle.er_tap.proofs.reader.read_behind.Given as goal

abbrev pub invariant-loop-line : goal.invariant-loop-line
invariant-loop-line l = record {
  said : behind l.lines.items (lines_said (rows_of l.rest.before (lines_of l.rest.text))) ≡ lines_said (rows_of l.fn.rest.before (lines_of l.fn.rest.text));
  ranged : AreInRange l.lines.items;
}

abbrev pub decreases-loop-line : goal.decreases-loop-line
decreases-loop-line l = length l.rest.text
