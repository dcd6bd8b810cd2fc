use Rattle.std.proofs.lemmas.Result.{on_ok_weaker}
use Rattle.er_world.proofs.LinkRows.{ticks_so}
use Rattle.er_world.proofs.link.Link.tick.Goals as goal

pub returns : goal.returns
returns c =
    on_ok_weaker c.give-2.result
    (λ two.
    ticks_so (record { marks = c.marks_grow.ensures.marks; facts = c.marks_grow.ensures.facts; lines = c.marks_grow.ensures.lines }) c.args.number c.args.show c.args.moment c.later-self.result c.args.self.now c.give.new.self c.give-2.new.self c.args.out.now.items c.give.new.out.items c.give-2.new.out.items
    c.later-self.ensures c.in_ok-give.ensures (rw c.other.ensures at two))
    c.give-2.ensures
