-- One line more, a line that is refused, and the end, by the lemmas on what lines say.
use Rattle.std.proofs.Common.{List, sym, ap, ◌∙◌}
use Rattle.er_base.specs.Lines.{Row, rows_of, lines_of}
use Rattle.er_tap.specs.Files.{lines_said}
use Rattle.er_tap.proofs.TapLines.{behind, line_more, none_left, ranged_more}
use Rattle.er_tap.proofs.reader.read_behind.Goals as goal

pub loop-line-preserved : goal.loop-line-preserved
loop-line-preserved c =
    let before = c.loop-line.invariant in
    let first = rw c.in-Ok-Some.field-0-is at c.in-Ok-Some.ensures.line in
    record {
      said =
          rw c.in_ok-push-in-Ok-Some.ensures.items
          (sym (line_more c.loop-line.lines.items c.in-Ok-Some.line (lines_said (rows_of c.next_line.new.rest.before (lines_of c.next_line.new.rest.text))))
          ∙ ap (behind c.loop-line.lines.items) (sym first.said)
          ∙ before.said);
      ranged = rw c.in_ok-push-in-Ok-Some.ensures.items (ranged_more _ _ before.ranged first.range);
    }

pub returns-in-Ok-None-clause-exact : goal.returns-in-Ok-None-clause-exact
returns-in-Ok-None-clause-exact c =
    let none = rw c.in-Ok-None.field-0-is at c.in-Ok-None.ensures.line in
    rw c.new.ensures
    (none_left c.loop-line.lines.items _ (ap (λ (rows : List Row). behind c.loop-line.lines.items (lines_said rows)) (sym none) ∙ c.loop-line.invariant.said))
