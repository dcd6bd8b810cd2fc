-- The place of the first LF.
use Rattle.trace_replay.proofs.TextLines.{found, none}
use Rattle.trace_replay.proofs.text_lines.line_length.Goals as goal

pub returns-in-Some-clause-value : goal.returns-in-Some-clause-value
returns-in-Some-clause-value c = found c.args.text.now c.in-Some.place c.in-Some.ensures

pub returns-in-None-clause-value : goal.returns-in-None-clause-value
returns-in-None-clause-value c = none c.args.text.now c.in-None.ensures
