-- One mark more.
use Rattle.std.proofs.Common.{ℕ, [], ◌∷◌, ◌++◌, ap, ◌∙◌}
use Rattle.link_audit.proofs.Marking.{no_marks, mark_more}
use Rattle.link_audit.proofs.marked_lines.marks_of.Goals as goal

pub loop-line-init : goal.loop-line-init
loop-line-init c = no_marks _ c.in_ok-marks.ensures.items

pub loop-line-preserved : goal.loop-line-preserved
loop-line-preserved c =
    c.in_ok-push.ensures.items
    ∙ ap (λ (mark : ℕ). c.loop-line.marks.items ++ mark ∷ []) c.mark_in.ensures
    ∙ mark_more c.args.lines.now c.loop-line.marks.items c.loop-line.line-index c.line-item.result c.loop-line-test.true c.line-item.is c.loop-line.invariant
