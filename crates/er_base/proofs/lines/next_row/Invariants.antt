-- The lines so far were skipped.
use Rattle.std.proofs.Common.{◌≡◌, ◌+◌, ◌≤◌, length}
use Rattle.er_base.specs.Lines.{lines_of, rows_of}
use Rattle.er_base.proofs.lines.next_row.Given as goal

abbrev pub invariant-loop-line : goal.invariant-loop-line
invariant-loop-line l = record {
  rows : rows_of l.number (lines_of l.rest) ≡ rows_of l.lines_before (lines_of l.text);
  shorter : length l.rest ≤ length l.text;
  room : l.number + length l.rest ≤ l.lines_before + length l.text;
}

abbrev pub decreases-loop-line : goal.decreases-loop-line
decreases-loop-line l = length l.rest
