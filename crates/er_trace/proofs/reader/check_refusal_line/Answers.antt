-- The words behind the refusal's are arguments of its kinds.
use Rattle.er_trace.proofs.OutcomeLines.{refusal_gives}
use Rattle.er_trace.proofs.reader.check_refusal_line.Goals as goal

pub returns : goal.returns
returns c =
    refusal_gives c.check_arguments.result c.in-Some-named.name c.args.conn.now c.in_ok-read_any_number.field-0 c.in-Some.name.now c.in-Some.arguments.now c.args.words.now
    c.kinds.result.now c.kinds-2.result.now c.in-Some.ensures.cases.0 c.in-Some-named.ensures c.if-arguments-kinds.false c.kinds.ensures c.kinds-2.ensures
    c.in_ok-read_any_number.ensures.value c.check_arguments.ensures
