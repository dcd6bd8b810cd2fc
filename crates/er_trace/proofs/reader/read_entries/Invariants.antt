-- The events so far and those of the lines that are left are the events of all lines.
use Rattle.std.proofs.Common.{◌≡◌, ◌+◌, ◌≤◌, length}
use Rattle.er_base.specs.Lines.{lines_of, rows_of}
use Rattle.er_trace.specs.Files.{entries_of}
use Rattle.er_trace.specs.Texts.{AreReadableEntries}
use Rattle.er_trace.proofs.EntryLines.{behind}
use Rattle.er_trace.proofs.reader.read_entries.Given as goal

abbrev pub invariant-loop-row : goal.invariant-loop-row
invariant-loop-row l = record {
  said : behind l.entries.items (entries_of (rows_of l.number (lines_of l.rest))) ≡ entries_of (rows_of l.header (lines_of l.text));
  readable : AreReadableEntries l.entries.items;
  room : l.number + length l.rest ≤ 16777216;
}

abbrev pub decreases-loop-row : goal.decreases-loop-row
decreases-loop-row l = length l.rest
