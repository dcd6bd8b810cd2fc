-- The first row, and what it says by the words that are kept.
use Rattle.std.proofs.Common.{sym, ap, ◌∙◌}
use Rattle.er_tap.specs.Files.{lines_said}
use Rattle.er_tap.proofs.TapLines.{one_line, line_refused}
use Rattle.er_tap.proofs.KeptLines.{said_by_kept, refused_by_kept}
use Rattle.er_tap.proofs.reader.any_line.Goals as goal

pub returns-in-Ok-clause-line : goal.returns-in-Ok-clause-line
returns-in-Ok-clause-line c =
    let cut = rw c.in-Some.is at c.next_row.ensures.cut in
    let kept = rw (sym c.as_slice.ensures.value) at cut.kept in
    let said = said_by_kept _ cut.words _ kept (rw c.in-Ok.is at c.read_line.ensures.said) in
    let number = rw c.in-Some.is at c.next_row.ensures.number in
    record {
      said = rw number (ap lines_said cut.rows ∙ one_line _ _ _ said);
      range = rw c.in-Ok.is at c.read_line.ensures.range;
      less = rw c.in-Some.is at c.next_row.ensures.less;
    }

pub returns-in-Err-clause-fault : goal.returns-in-Err-clause-fault
returns-in-Err-clause-fault c =
    let cut = rw c.in-Some.is at c.next_row.ensures.cut in
    let kept = rw (sym c.as_slice.ensures.value) at cut.kept in
    let refused = refused_by_kept _ cut.words c.in-Err.fault kept (rw c.in-Err.is at c.read_line.ensures.said) in
    rw (c.at.ensures, cut.rows) (line_refused c.in-Err.fault _ _ refused)
