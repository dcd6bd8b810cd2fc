-- The lines so far and what those that are left say are what all lines say.
use Rattle.std.proofs.Common.{◌≡◌, ◌+◌, ◌≤◌, length}
use Rattle.er_base.specs.Lines.{lines_of, rows_of}
use Rattle.relay_script.specs.Files.{script_lines_said}
use Rattle.relay_script.specs.ScriptRanges.{AreLinesInRange}
use Rattle.relay_script.proofs.ScriptLines.{behind}
use Rattle.relay_script.proofs.reader.read_behind.Given as goal

abbrev pub invariant-loop-row : goal.invariant-loop-row
invariant-loop-row l = record {
  said : behind l.lines.items (script_lines_said (rows_of l.number (lines_of l.rest))) ≡ script_lines_said (rows_of l.header (lines_of l.text));
  ranged : AreLinesInRange l.lines.items;
  room : l.number + length l.rest ≤ 16777216;
}

abbrev pub decreases-loop-row : goal.decreases-loop-row
decreases-loop-row l = length l.rest
