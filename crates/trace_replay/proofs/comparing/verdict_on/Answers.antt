-- A line that is skipped, differs or is the same, and the end of the lines.
use Rattle.std.proofs.Common.{arith, ◌≡◌, ◌+◌, [], true, false, length, nat_lt, sym, ap, ◌∙◌, Bool, List, ℕ}
use Rattle.std.proofs.lemmas.Bool.{lt-ltb, le-ltb}
use Rattle.er_base.specs.Lines.{lines_of}
use Rattle.trace_model.specs.Recordings.{ended_part}
use Rattle.trace_replay.specs.Compared.{verdict_left}
use Rattle.trace_replay.proofs.Compares.{skipped_left, more_left, other_left, same_left, outcome_counted, event_counted, cut_left, missing_left, all_left, first_left}
use Rattle.trace_replay.proofs.comparing.verdict_on.Goals as goal

pub loop-line-init : goal.loop-line-init
loop-line-init c = record {
  verdict = rw c.ended_part-ended.ensures (first_left c.args.file.now c.args.printed.now);
  room = omega arith;
  few = omega arith;
}

pub returns-in_default-next_line : goal.returns-in_default-next_line
returns-in_default-next_line c =
    sym (more_left c.loop-line.number c.loop-line.outcomes c.in-Some.line.now (lines_of c.in-Some.behind.now) [] _ (sym c.is_skipped.ensures ∙ c.if-not-is_skipped.true))
    ∙ (rw (c.in-Some.ensures.cut, c.in_default-next_line.ensures.cut) at c.loop-line.invariant.verdict)

pub returns-then-not-is_same : goal.returns-then-not-is_same
returns-then-not-is_same c =
    sym (other_left c.loop-line.number c.loop-line.outcomes c.in-Some.line.now (lines_of c.in-Some.behind.now) (lines_of c.in-Some-next_line.more.now) _ c.in-Some-next_line.text.now
    (sym c.is_skipped.ensures ∙ c.if-not-is_skipped.true) (sym c.is_same.ensures ∙ c.if-not-is_same.true))
    ∙ (rw (c.in-Some.ensures.cut, c.in-Some-next_line.ensures.cut) at c.loop-line.invariant.verdict)

pub loop-line-preserved-then-is_outcome : goal.loop-line-preserved-then-is_outcome
loop-line-preserved-then-is_outcome c =
    let less = c.in-Some.ensures.less in
    let room = c.loop-line.invariant.room in
    let few = c.loop-line.invariant.few in
    record {
      verdict =
          sym (same_left c.loop-line.number c.loop-line.outcomes c.in-Some.line.now (lines_of c.in-Some.behind.now) (lines_of c.in-Some-next_line.more.now) _ c.in-Some-next_line.text.now
          (c.loop-line.outcomes + 1) (sym c.is_skipped.ensures ∙ c.if-not-is_skipped.true) (sym c.is_same.ensures ∙ c.if-not-is_same.false)
          (outcome_counted c.loop-line.outcomes c.in-Some-next_line.text.now (lines_of c.in-Some-next_line.more.now) (sym c.is_outcome.ensures ∙ c.if-is_outcome.true)))
          ∙ (rw (c.in-Some.ensures.cut, c.in-Some-next_line.ensures.cut) at c.loop-line.invariant.verdict);
      room = omega (arith, less, room);
      few = omega (arith, few);
    }

pub loop-line-preserved-else-is_outcome : goal.loop-line-preserved-else-is_outcome
loop-line-preserved-else-is_outcome c =
    let less = c.in-Some.ensures.less in
    let room = c.loop-line.invariant.room in
    let few = c.loop-line.invariant.few in
    record {
      verdict =
          sym (same_left c.loop-line.number c.loop-line.outcomes c.in-Some.line.now (lines_of c.in-Some.behind.now) (lines_of c.in-Some-next_line.more.now) _ c.in-Some-next_line.text.now
          c.loop-line.outcomes (sym c.is_skipped.ensures ∙ c.if-not-is_skipped.true) (sym c.is_same.ensures ∙ c.if-not-is_same.false)
          (event_counted c.loop-line.outcomes c.in-Some-next_line.text.now (lines_of c.in-Some-next_line.more.now) (sym c.is_outcome.ensures ∙ c.if-is_outcome.false)))
          ∙ (rw (c.in-Some.ensures.cut, c.in-Some-next_line.ensures.cut) at c.loop-line.invariant.verdict);
      room = omega (arith, less, room);
      few = omega (arith, few);
    }

pub loop-line-preserved : goal.loop-line-preserved
loop-line-preserved c =
    let less = c.in-Some.ensures.less in
    let room = c.loop-line.invariant.room in
    let few = c.loop-line.invariant.few in
    record {
      verdict =
          sym (skipped_left c.loop-line.number c.loop-line.outcomes c.in-Some.line.now (lines_of c.in-Some.behind.now) (lines_of c.loop-line.left.now) _
          (sym c.is_skipped.ensures ∙ c.if-not-is_skipped.false))
          ∙ (rw c.in-Some.ensures.cut at c.loop-line.invariant.verdict);
      room = omega (arith, less, room);
      few = omega (arith, few);
    }

pub returns-then-ended-file : goal.returns-then-ended-file
returns-then-ended-file c =
    let cut : nat_lt (length (ended_part c.args.file.now)) (length c.args.file.now) ≡ true = lt-ltb _ _ (rw c.ended_part-ended.ensures at c.if-ended-file.true) in
    sym (cut_left c.loop-line.number c.loop-line.outcomes (lines_of c.loop-line.left.now))
    ∙ ap (λ (b : Bool). verdict_left c.loop-line.number c.loop-line.outcomes [] (lines_of c.loop-line.left.now) b) (sym cut)
    ∙ (rw c.in_default.ensures.cut at c.loop-line.invariant.verdict)

pub returns-then-not-is_empty : goal.returns-then-not-is_empty
returns-then-not-is_empty c =
    let past = c.if-ended-file.false in
    let whole : nat_lt (length (ended_part c.args.file.now)) (length c.args.file.now) ≡ false = le-ltb _ _ (rw c.ended_part-ended.ensures at past) in
    sym (missing_left c.loop-line.number c.loop-line.outcomes c.loop-line.left.now (sym c.is_empty.ensures ∙ c.if-not-is_empty.true))
    ∙ ap (λ (b : Bool). verdict_left c.loop-line.number c.loop-line.outcomes [] (lines_of c.loop-line.left.now) b) (sym whole)
    ∙ (rw c.in_default.ensures.cut at c.loop-line.invariant.verdict)

pub returns-else-not-is_empty : goal.returns-else-not-is_empty
returns-else-not-is_empty c =
    let past = c.if-ended-file.false in
    let whole : nat_lt (length (ended_part c.args.file.now)) (length c.args.file.now) ≡ false = le-ltb _ _ (rw c.ended_part-ended.ensures at past) in
    sym (all_left c.loop-line.number c.loop-line.outcomes c.loop-line.left.now (sym c.is_empty.ensures ∙ c.if-not-is_empty.false))
    ∙ ap (λ (b : Bool). verdict_left c.loop-line.number c.loop-line.outcomes [] (lines_of c.loop-line.left.now) b) (sym whole)
    ∙ (rw c.in_default.ensures.cut at c.loop-line.invariant.verdict)
