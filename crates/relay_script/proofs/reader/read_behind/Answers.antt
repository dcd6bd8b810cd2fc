-- One line more, a line that is refused, and the end of the text, by the lemmas on what lines say.
use Rattle.std.proofs.Common.{sym, ◌∙◌, arith}
use Rattle.relay_script.proofs.ScriptLines.{one_line, none_left, refused_answers, ranged_more}
use Rattle.relay_script.proofs.KeptLines.{said_by_kept, refused_by_kept}
use Rattle.relay_script.proofs.reader.read_behind.Goals as goal

pub loop-row-preserved : goal.loop-row-preserved
loop-row-preserved c =
    let cut = rw c.in-Some.is at c.next_row.ensures.cut in
    let all = rw cut.rows at c.loop-row.invariant.said in
    let count = rw c.in-Some.is at c.next_row.ensures.count in
    let room = c.loop-row.invariant.room in
    let kept = rw (sym c.as_slice.ensures.value) at cut.kept in
    let said = said_by_kept _ cut.words _ kept (rw c.in-Ok.is at c.read_line.ensures.said) in
    record {
      said = rw c.in_ok-push-in-Ok.ensures.items (sym (one_line c.loop-row.lines.items _ _ _ said) ∙ all);
      ranged = rw c.in_ok-push-in-Ok.ensures.items (ranged_more _ _ c.loop-row.invariant.ranged (rw c.in-Ok.is at c.read_line.ensures.range));
      room = omega (arith, count, room);
    }

pub returns-in-Err-clause-exact : goal.returns-in-Err-clause-exact
returns-in-Err-clause-exact c =
    let cut = rw c.in-Some.is at c.next_row.ensures.cut in
    let all = rw cut.rows at c.loop-row.invariant.said in
    let kept = rw (sym c.as_slice.ensures.value) at cut.kept in
    let refused = refused_by_kept _ cut.words c.in-Err.fault kept (rw c.in-Err.is at c.read_line.ensures.said) in
    rw c.at.ensures (refused_answers _ c.in-Err.fault _ _ _ refused all)

pub returns-clause-exact : goal.returns-clause-exact
returns-clause-exact c =
    let none = rw c.in_default.is at c.next_row.ensures.cut in
    let all = rw none at c.loop-row.invariant.said in
    rw c.new.ensures (none_left _ _ all)
