-- A send that was refused, and all else.
use Rattle.std.proofs.Common.{◌∙◌, refl}
use Rattle.safety_automaton.specs.Keys.{key_at}
use Rattle.drill_ends.specs.Events.{event_of}
use Rattle.drill_ends.proofs.StackCalls.{used_within, used_moves, call_refused, call_done}
use Rattle.drill_ends.proofs.stack_end.tell_one.Goals as goal

pub returns-in-Some-clause-tells : goal.returns-in-Some-clause-tells
returns-in-Some-clause-tells c =
    call_refused c.standing.ensures.steps c.stacks_report.ensures.calls c.goes_on.ensures c.kept_stands_for_stream.ensures c.args.keys.now c.is_steady.ensures
    c.args.end.now c.apply.follows.lender-at-none c.args.now c.args.now refl (rw c.get-within.ensures.same at c.get-within.ensures.within) c.apply.result (event_of c.args.event.now)
    _ (c.given_at.ensures.event (key_at c.args.keys.now)) c.apply.follows.holds-at-none c.apply.ensures.told
    c.in-Some.refused c.in-Some.is c.of_stack.result c.of_stack.ensures c.args.told.now.items c.push_back.new.self.items c.in_ok-push_back.ensures.items

pub returns-in-Some-clause-within : goal.returns-in-Some-clause-within
returns-in-Some-clause-within c =
    used_within c.used_octets.ensures c.args.end.now (event_of c.args.event.now) c.apply.result.used (c.apply.ensures.used ∙ c.given_at.ensures.used c.args.end.now)

pub returns-in-Some-clause-moves : goal.returns-in-Some-clause-moves
returns-in-Some-clause-moves c =
    used_moves c.used_octets.ensures c.args.end.now (event_of c.args.event.now) c.apply.result.used (c.apply.ensures.used ∙ c.given_at.ensures.used c.args.end.now)

pub returns-clause-tells : goal.returns-clause-tells
returns-clause-tells c =
    call_done c.standing.ensures.steps c.stacks_report.ensures.calls c.goes_on.ensures c.kept_stands_for_stream.ensures c.args.keys.now c.is_steady.ensures
    c.args.end.now c.apply.follows.lender-at-none c.args.now c.args.now refl (rw c.get-within.ensures.same at c.get-within.ensures.within) c.apply.result (event_of c.args.event.now)
    _ (c.given_at.ensures.event (key_at c.args.keys.now)) c.apply.follows.holds-at-none c.apply.ensures.told
    c.args.told.now.items c.tell_taken.new.told.items c.tell_call.new.told.items c.in_ok-tell_taken.ensures c.in_ok-tell_call.ensures
    (c.apply.ensures.used ∙ c.given_at.ensures.used c.args.end.now) c.in_default.not-Some

pub returns-clause-within : goal.returns-clause-within
returns-clause-within c =
    used_within c.used_octets.ensures c.args.end.now (event_of c.args.event.now) c.apply.result.used (c.apply.ensures.used ∙ c.given_at.ensures.used c.args.end.now)

pub returns-clause-moves : goal.returns-clause-moves
returns-clause-moves c =
    used_moves c.used_octets.ensures c.args.end.now (event_of c.args.event.now) c.apply.result.used (c.apply.ensures.used ∙ c.given_at.ensures.used c.args.end.now)
