-- The header, the choices and the steps in a row.
use Rattle.std.proofs.Common.{append_assoc}
use Rattle.er_scenario.specs.Texts.{text_printed}
use Rattle.er_scenario.proofs.LineTexts.{lines_text_append}
use Rattle.er_scenario.proofs.printer.put_text.Goals as goal

pub returns-clause-ok : goal.returns-clause-ok
unfolding text_printed
returns-clause-ok c =
    rw (c.in_ok-put_steps.ensures.ok, c.as_slice.ensures, c.in_ok-put_choices.ensures.ok, c.in_ok-put_line.ensures.ok, c.word.ensures)
    (simp (lines_text_append, append_assoc))
