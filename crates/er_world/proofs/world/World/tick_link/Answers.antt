use Rattle.std.proofs.Common.{ap, sym}
use Rattle.std.proofs.lemmas.Result.{on_ok_weaker}
use Rattle.er_world.proofs.Places.{link_below}
use Rattle.er_world.proofs.Ticks.{ticks_none, ticks_some, ticks_outside}
use Rattle.er_world.proofs.world.World.tick_link.Goals as goal

pub returns-in_default-clause-went : goal.returns-in_default-clause-went
returns-in_default-clause-went c =
    ticks_none (record { links = record { marks = c.world_grows.ensures.marks; facts = c.world_grows.ensures.facts; lines = c.world_grows.ensures.lines }; history = c.world_grows.ensures.history; own = c.world_grows.ensures.own; other = c.world_grows.ensures.other; marks = c.world_grows.ensures.world; text = c.world_grows.ensures.text }) _ c.args.self.now c.args.number c.args.moment c.index_mut.result.now c.args.out.now.items c.self.view_is c.self.invariant.0 (link_below c.args.number (sym c.if-not-is_link.ensures))
    c.index_mut.ensures.value c.in_default.is

pub returns-clause-went : goal.returns-clause-went
returns-clause-went c =
    on_ok_weaker c.tick.result
    (λ does.
    ticks_some (record { links = record { marks = c.world_grows.ensures.marks; facts = c.world_grows.ensures.facts; lines = c.world_grows.ensures.lines }; history = c.world_grows.ensures.history; own = c.world_grows.ensures.own; other = c.world_grows.ensures.other; marks = c.world_grows.ensures.world; text = c.world_grows.ensures.text }) _ c.args.self.now c.args.number c.args.moment c.index_mut.result.now c.in-Some.link c.tick.new.self c.args.out.now.items c.tick.new.out.items
    c.self.view_is c.self.invariant.0 (link_below c.args.number (sym c.if-not-is_link.ensures)) c.index_mut.ensures.value c.in-Some.is (rw (ap (λ w. w.plan.show) c.self.view_is) at does))
    c.tick.ensures

pub returns-then-not-is_link-clause-went : goal.returns-then-not-is_link-clause-went
returns-then-not-is_link-clause-went c = ticks_outside (record { links = record { marks = c.world_grows.ensures.marks; facts = c.world_grows.ensures.facts; lines = c.world_grows.ensures.lines }; history = c.world_grows.ensures.history; own = c.world_grows.ensures.own; other = c.world_grows.ensures.other; marks = c.world_grows.ensures.world; text = c.world_grows.ensures.text }) c.args.self.now c.args.number c.args.moment c.args.out.now.items (sym c.if-not-is_link.ensures)
