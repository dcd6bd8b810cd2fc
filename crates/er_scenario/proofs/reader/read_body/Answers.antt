-- One line more, a line that is refused, and the end of the text, by the lemmas on what lines say.
use Rattle.std.proofs.Common.{sym, ◌∙◌, ap, arith}
use Rattle.er_scenario.proofs.BodyLines.{one_choice, one_step, none_left, refused_answers, readable_more, behind}
use Rattle.er_scenario.proofs.KeptLines.{said_by_kept, refused_by_kept}
use Rattle.er_scenario.proofs.reader.read_body.Goals as goal

pub loop-row-preserved-in-Ok-Chooses : goal.loop-row-preserved-in-Ok-Chooses
loop-row-preserved-in-Ok-Chooses c =
    let cut = rw c.in-Some.is at c.next_row.ensures.cut in
    let all = rw cut.rows at c.loop-row.invariant.said in
    let count = rw c.in-Some.is at c.next_row.ensures.count in
    let room = c.loop-row.invariant.room in
    let kept = rw (sym c.as_slice.ensures.value) at cut.kept in
    let said = said_by_kept _ _ _ _ cut.words _ kept (rw (c.in-Ok-Chooses.is, c.in-Ok-Chooses.field-0-is) at c.read_line.ensures.said) in
    let chosen = rw (c.in-Ok-Chooses.is, c.in-Ok-Chooses.field-0-is) at c.read_line.ensures.range in
    record {
      said = sym (ap (behind c.loop-row.steps.items) (one_choice _ _ _ _ _ _ said)) ∙ all;
      allowed = chosen.0;
      narrow = chosen.1;
      readable = c.loop-row.invariant.readable;
      room = omega (arith, count, room);
    }

pub loop-row-preserved : goal.loop-row-preserved
loop-row-preserved c =
    let cut = rw c.in-Some.is at c.next_row.ensures.cut in
    let all = rw cut.rows at c.loop-row.invariant.said in
    let count = rw c.in-Some.is at c.next_row.ensures.count in
    let room = c.loop-row.invariant.room in
    let kept = rw (sym c.as_slice.ensures.value) at cut.kept in
    let said = said_by_kept _ _ _ _ cut.words _ kept (rw (c.in-Ok-Does.is, c.in-Ok-Does.field-0-is) at c.read_line.ensures.said) in
    record {
      said = rw c.in_ok-push-in-Ok-Does.ensures.items (sym (one_step _ _ _ c.loop-row.steps.items _ _ _ said) ∙ all);
      allowed = c.loop-row.invariant.allowed;
      narrow = c.loop-row.invariant.narrow;
      readable =
          rw c.in_ok-push-in-Ok-Does.ensures.items
          (readable_more _ _ _ c.loop-row.invariant.readable (rw (c.in-Ok-Does.is, c.in-Ok-Does.field-0-is) at c.read_line.ensures.range));
      room = omega (arith, count, room);
    }

pub returns-in-Err-clause-exact : goal.returns-in-Err-clause-exact
returns-in-Err-clause-exact c =
    let cut = rw c.in-Some.is at c.next_row.ensures.cut in
    let all = rw cut.rows at c.loop-row.invariant.said in
    let kept = rw (sym c.as_slice.ensures.value) at cut.kept in
    let refused = refused_by_kept _ _ _ _ cut.words c.in-Err.fault kept (rw c.in-Err.is at c.read_line.ensures.said) in
    rw c.at.ensures (refused_answers _ _ _ _ c.in-Err.fault _ _ _ refused all)

pub returns-clause-exact : goal.returns-clause-exact
returns-clause-exact c =
    let none = rw c.in_default.is at c.next_row.ensures.cut in
    let all = rw none at c.loop-row.invariant.said in
    rw c.new.ensures (none_left _ _ _ _ _ all)
