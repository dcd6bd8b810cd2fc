-- Up to the last LF, or nothing.
use Rattle.std.proofs.Common.{sym, ◌∙◌}
use Rattle.trace_replay.proofs.TextLines.{ended_last, ended_none}
use Rattle.trace_replay.proofs.text_lines.ended_part.Goals as goal

pub returns-in-Some : goal.returns-in-Some
returns-in-Some c = c.split_at.ensures.front ∙ sym (ended_last c.args.text.now c.in-Some.place c.in-Some.ensures)

pub returns-in-None : goal.returns-in-None
returns-in-None c = sym (ended_none c.args.text.now c.in-None.ensures)
