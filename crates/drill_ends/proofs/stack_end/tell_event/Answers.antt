-- An event that brings no octets; of octets: the first call, one more, and all.
use Rattle.std.proofs.Common.{◌≡◌, [], sym, ◌∙◌}
use Rattle.std.proofs.lemmas.Bool.{eqb-true}
use Rattle.std.proofs.lemmas.List.{nil_from_length}
use Rattle.drill_ends.specs.Events.{event_of}
use Rattle.drill_ends.specs.StackEnds.{octets_of_event}
use Rattle.drill_ends.proofs.StackOctets.{reading_begins, reading_goes_on, reading_ends}
use Rattle.drill_ends.proofs.StackCalls.{one_does}
use Rattle.drill_ends.proofs.stack_end.tell_event.Goals as goal

pub returns-in_default : goal.returns-in_default
returns-in_default c =
    one_does c.args.keys.now c.args.now c.args.end.now c.tell_one.new.end c.in_ok-used.used c.args.told.now.items c.tell_one.new.told.items c.args.event.now
    c.in_default.not-Receive c.in_ok-used.ensures.tells

pub split_at-requires : goal.split_at-requires
split_at-requires c = rw c.in-Receive.is at c.in_ok-used.ensures.within

pub loop-rest-init : goal.loop-rest-init
loop-rest-init c =
    rw c.in-Receive.is
    (λ m s.
    reading_begins c.args.keys.now c.args.now m c.args.end.now c.tell_one.new.end c.in-Receive.octets.now c.split_at.result.1.now c.in_ok-used.used
    c.args.told.now.items c.tell_one.new.told.items c.split_at.ensures.back s (rw c.in-Receive.is at c.in_ok-used.ensures.tells))

pub loop-rest-preserved : goal.loop-rest-preserved
loop-rest-preserved c =
    λ m s.
    reading_goes_on c.args.keys.now c.args.now m c.loop-rest.end c.tell_one-in-loop-rest.new.end (octets_of_event (event_of c.args.event.now)) c.loop-rest.rest.now
    c.split_at-in-loop-rest.result.1.now c.in_ok-used-2.used c.args.told.now.items c.loop-rest.told.items c.tell_one-in-loop-rest.new.told.items
    c.split_at-in-loop-rest.ensures.back (c.loop-rest.invariant m s) c.in_ok-used-2.ensures.tells

pub returns : goal.returns
returns c =
    rw c.in-Receive.is
    (λ m s.
    let none : c.loop-rest.rest.now ≡ [] = nil_from_length c.loop-rest.rest.now (eqb-true _ 0 (sym c.is_empty.ensures ∙ c.loop-rest-test.false)) in
    reading_ends c.args.keys.now c.args.now m c.loop-rest.end c.in-Receive.octets.now c.loop-rest.rest.now c.args.told.now.items c.loop-rest.told.items none
    (rw c.in-Receive.is at (c.loop-rest.invariant m s)))
