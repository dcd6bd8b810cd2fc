-- The lemma on the first line, at what the two cuts gave.
use Rattle.std.proofs.Common.{◌∙◌, sym}
use Rattle.std.proofs.lemmas.Bool.{eqb-true, eqb-false}
use Rattle.trace_replay.proofs.TextLines.{no_line, cut_none, cut_some}
use Rattle.trace_replay.proofs.text_lines.next_line.Goals as goal

pub returns-then-is_empty-clause-cut : goal.returns-then-is_empty-clause-cut
returns-then-is_empty-clause-cut c = no_line c.args.text.now (eqb-true _ _ (sym c.is_empty.ensures ∙ c.if-is_empty.true))

pub returns-in-None-clause-cut : goal.returns-in-None-clause-cut
returns-in-None-clause-cut c =
    cut_none _ _ _ (eqb-false _ _ (sym c.is_empty.ensures ∙ c.if-is_empty.false))
    (rw c.line_length.ensures.value at c.split_at.ensures.front) (rw c.line_length.ensures.value at c.split_at.ensures.back) c.in-None.ensures.cases

pub returns-in-Some-clause-cut : goal.returns-in-Some-clause-cut
returns-in-Some-clause-cut c =
    cut_some _ _ _ _ _ (eqb-false _ _ (sym c.is_empty.ensures ∙ c.if-is_empty.false))
    (rw c.line_length.ensures.value at c.split_at.ensures.front) (rw c.line_length.ensures.value at c.split_at.ensures.back) c.in-Some.ensures.cases.0
