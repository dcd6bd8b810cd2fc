-- One line more, a line that is refused, and the end of the text, by the lemmas on what lines say.
use Rattle.std.proofs.Common.{sym, ◌∙◌, arith}
use Rattle.er_trace.proofs.EntryLines.{one_entry, one_outcome, none_left, refused_answers, readable_more}
use Rattle.er_trace.proofs.KeptLines.{said_by_kept, refused_by_kept}
use Rattle.er_trace.proofs.reader.read_entries.Goals as goal

pub loop-row-preserved : goal.loop-row-preserved
loop-row-preserved c =
    let cut = rw c.in-Some.is at c.next_row.ensures.cut in
    let all = rw cut.rows at c.loop-row.invariant.said in
    let count = rw c.in-Some.is at c.next_row.ensures.count in
    let room = c.loop-row.invariant.room in
    let kept = rw (sym c.as_slice.ensures.value) at cut.kept in
    let said = said_by_kept _ cut.words _ kept (rw (c.in-Ok-Tells.is, c.in-Ok-Tells.field-0-is) at c.read_line.ensures.said) in
    record {
      said = sym (one_outcome _ _ _ said) ∙ all;
      readable = c.loop-row.invariant.readable;
      room = omega (arith, count, room);
    }

pub loop-row-preserved-in-Continue-1 : goal.loop-row-preserved-in-Continue-1
loop-row-preserved-in-Continue-1 c =
    let cut = rw c.in-Some.is at c.next_row.ensures.cut in
    let all = rw cut.rows at c.loop-row.invariant.said in
    let count = rw c.in-Some.is at c.next_row.ensures.count in
    let room = c.loop-row.invariant.room in
    let kept = rw (sym c.as_slice.ensures.value) at cut.kept in
    let said = said_by_kept _ cut.words _ kept (rw (c.in-Ok-Happens.is, c.in-Ok-Happens.field-0-is) at c.read_line.ensures.said) in
    let range = rw (c.in-Ok-Happens.is, c.in-Ok-Happens.field-0-is) at c.read_line.ensures.range in
    record {
      said = rw (c.in_ok-push-in-Ok-Happens.ensures.items, c.new-moment.ensures) (sym (one_entry c.loop-row.entries.items _ _ _ _ _ said) ∙ all);
      readable =
          rw (c.in_ok-push-in-Ok-Happens.ensures.items, c.new-moment.ensures)
          (readable_more _ _ c.loop-row.invariant.readable (record { moment = range.0; conn = range.1; event = range.2 }));
      room = omega (arith, count, room);
    }

pub returns-in-Err-clause-exact : goal.returns-in-Err-clause-exact
returns-in-Err-clause-exact c =
    let cut = rw c.in-Some.is at c.next_row.ensures.cut in
    let all = rw cut.rows at c.loop-row.invariant.said in
    let kept = rw (sym c.as_slice.ensures.value) at cut.kept in
    let refused = refused_by_kept _ cut.words c.in-Err.fault kept (rw c.in-Err.is at c.read_line.ensures.said) in
    rw c.at.ensures (refused_answers _ c.in-Err.fault _ _ _ refused all)

pub returns-clause-exact : goal.returns-clause-exact
returns-clause-exact c =
    let none = rw c.in_default.is at c.next_row.ensures.cut in
    let all = rw none at c.loop-row.invariant.said in
    rw c.new.ensures (none_left _ _ all)
