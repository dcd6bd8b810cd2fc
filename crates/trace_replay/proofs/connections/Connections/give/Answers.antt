-- A live end, one that is over, or none.
use Rattle.trace_replay.proofs.Taking.{given_live, live_taken, shut_given, over_given}
use Rattle.trace_replay.proofs.connections.Connections.give.Goals as goal

pub returns-then-branch : goal.returns-then-branch
returns-then-branch g c = λ settings before h le.
    let live = given_live settings _ before c.args.entry.now c.args.self.now c.give_live.new.self _ _ c.in_ok-give_live.field-0 c.give_live.result c.give_live.ensures c.in_ok-give_live.was c.if-branch.true in
    live_taken settings _ before c.args.entry.now c.standing.ensures.shows c.args.self.now c.give_live.new.self _ _ _ h le c.requires live (c.in_ok-settle.ensures live.behind live.here)

pub returns-in_default : goal.returns-in_default
returns-in_default g c = λ settings before h le.
    shut_given settings _ before c.args.entry.now c.args.self.now c.give_live.new.self _ _ c.in_ok-give_live.field-0 c.give_live.result c.why_over.result h c.requires c.give_live.ensures
    c.in_ok-give_live.was c.if-branch.false c.why_over.ensures c.in_default.is

pub returns : goal.returns
returns g c = λ settings before h le.
    over_given settings _ before c.args.entry.now c.args.self.now c.give_live.new.self _ _ c.print_entry.new.out.items _ c.in_ok-give_live.field-0 c.give_live.result c.why_over.result c.in-Some.why
    h le c.requires c.give_live.ensures c.in_ok-give_live.was c.if-branch.false c.why_over.ensures c.in-Some.is c.in_ok-print_entry.ensures.ok c.in_ok-tell_over.ensures
