-- The words behind the outcome's are arguments of its kinds.
use Rattle.std.proofs.Common.{rules}
use Rattle.er_trace.proofs.OutcomeLines.{outcome_gives}
use Rattle.er_trace.proofs.reader.check_outcome_line.Goals as goal

pub returns : goal.returns
returns c =
    outcome_gives c.check_arguments.result c.in-Some-named.name c.in-Some.conn.now c.in_ok-read_any_number.field-0 c.in-Some-split_first.name.now c.in-Some-split_first.arguments.now
    c.in-Some.behind.now c.args.words.now c.kinds.result.now c.kinds-2.result.now c.in-Some.ensures.cases.0 c.in-Some-split_first.ensures.cases.0 (search rules)
    c.in-Some-named.ensures c.if-arguments-kinds.false c.kinds.ensures c.kinds-2.ensures c.in_ok-read_any_number.ensures.value c.check_arguments.ensures
