use Rattle.std.proofs.Common.{Some, ap, ◌∙◌}
use Rattle.er_world.proofs.WorldRows.{copies_nothing, copies_put}
use Rattle.er_world.proofs.world.World.copy.Goals as goal

pub returns-in_default-2-clause-does : goal.returns-in_default-2-clause-does
returns-in_default-2-clause-does c =
    copies_nothing (λ l. l.now) c.link-2.result (record { links = record { marks = c.world_grows.ensures.marks; facts = c.world_grows.ensures.facts; lines = c.world_grows.ensures.lines }; history = c.world_grows.ensures.history; own = c.world_grows.ensures.own; other = c.world_grows.ensures.other; marks = c.world_grows.ensures.world; text = c.world_grows.ensures.text }) c.args.self.now c.args.from.number c.args.to.number c.args.from.side c.args.to.side c.in-Some.source.now _ _
    c.in-Some.ensures c.if-is_none.ensures c.link-2.ensures
    (rw c.in_default-2.is at c.in_ok-frame.ensures) c.in_ok-print_empty.ensures.ok

pub returns-clause-does : goal.returns-clause-does
returns-clause-does c =
    copies_put c.args.self.now c.args.from.number c.args.to.number c.args.from.side c.args.to.side c.in-Some.source.now c.as_slice.result.now c.at.new.self _ _ c.at.result
    c.in-Some.ensures (ap (λ f. Some f) c.as_slice.ensures ∙ (rw c.in-Some-2.is at c.in_ok-frame.ensures))
    c.at.ensures.does
