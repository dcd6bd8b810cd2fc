use Rattle.drill_ends.specs.Tellings.{told_outcomes_in}
use Rattle.er_world.proofs.Tells.{telling_begins, telling_goes_on, telling_ends}
use Rattle.er_world.proofs.ledger.Ledger.tell_all.Goals as goal

pub loop-one-init : goal.loop-one-init
loop-one-init c =
    λ outcomes before are h. telling_begins c.args.place before (told_outcomes_in outcomes) c.args.told.items c.args.self.now c.args.waiting.now c.args.out.now.items are h

pub loop-one-preserved : goal.loop-one-preserved
loop-one-preserved c =
    λ outcomes before are h.
    telling_goes_on c.marks_grow.ensures c.args.place before (told_outcomes_in outcomes) c.in-Some.one c.loop-one.told.items c.next_told.new.list.items c.loop-one.self c.tell.new.self
    c.args.waiting.now c.loop-one.waiting c.tell.new.waiting c.args.out.now.items c.loop-one.out.items c.tell.new.out.items
    c.in-Some.ensures (c.loop-one.invariant outcomes before are h) c.in_ok-tell.ensures

pub returns : goal.returns
returns c =
    λ outcomes before are h.
    telling_ends c.args.place before outcomes c.loop-one.told.items c.loop-one.self c.args.waiting.now c.loop-one.waiting c.args.out.now.items c.loop-one.out.items
    c.in_default.ensures.0 (c.loop-one.invariant outcomes before are h)
