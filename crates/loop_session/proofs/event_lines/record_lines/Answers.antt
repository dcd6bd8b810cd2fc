use Rattle.std.proofs.Common.{true, false}
use Rattle.loop_session.proofs.Written.{nothing_put, only_write}
use Rattle.loop_session.proofs.event_lines.record_lines.Goals as goal

pub returns-then-is_empty-clause-puts : goal.returns-then-is_empty-clause-puts
returns-then-is_empty-clause-puts g c = nothing_put _ c.args.lines.now (rw c.is_empty.ensures at c.if-is_empty.true)

pub returns-in-Ok-clause-only : goal.returns-in-Ok-clause-only
returns-in-Ok-clause-only g c = only_write _ _ c.args.lines.now true c.in-Ok.ensures.does

pub returns-in-Err-clause-only : goal.returns-in-Err-clause-only
returns-in-Err-clause-only g c = only_write _ _ c.args.lines.now false c.in-Err.ensures.does
