-- Behind a line that closes the connection, and else.
use Rattle.std.proofs.Common.{sym, ◌∙◌}
use Rattle.relay_loop.proofs.WayCalls.{ends_seen, closed_ends}
use Rattle.relay_loop.proofs.way.Way.end.Goals as goal

pub returns-then-is_closed-clause-ends : goal.returns-then-is_closed-clause-ends
returns-then-is_closed-clause-ends c = λ script. closed_ends script c.args.self.now c.requires.unended (sym c.is_closed.ensures ∙ c.if-is_closed.true)

pub returns-clause-ends : goal.returns-clause-ends
returns-clause-ends c = λ script.
    ends_seen script c.args.self.now c.see.new.self c.keep_held.new.self _ c.args.moment _ _ c.see.ensures.new c.see.ensures.later c.see.ensures.at
    c.requires.unended (sym c.is_closed.ensures ∙ c.if-is_closed.false) (c.in_ok-due.ensures.given script) c.in_ok-due.ensures.prompt c.in_ok-due.ensures.closed c.in_ok-keep_held.ensures.side
    c.in_ok-keep_held.ensures.lost c.in_ok-keep_held.ensures.closing c.in_ok-keep_held.ensures.keeps
