use Rattle.std.proofs.Common.{sym, ap}
use Rattle.er_world.proofs.Places.{link_below}
use Rattle.er_world.proofs.WorldRows.{drain_does, no_link_there}
use Rattle.er_world.proofs.world.World.drain.Goals as goal

pub returns-in_default-clause-does : goal.returns-in_default-clause-does
returns-in_default-clause-does c =
    no_link_there _ c.args.self.now c.args.number c.index_mut.result.now c.self.view_is c.self.invariant.0 (link_below c.args.number (sym c.if-not-is_link.ensures))
    c.index_mut.ensures.value c.in_default.is

pub returns-clause-does : goal.returns-clause-does
returns-clause-does c =
    drain_does (record { links = record { marks = c.world_grows.ensures.marks; facts = c.world_grows.ensures.facts; lines = c.world_grows.ensures.lines }; history = c.world_grows.ensures.history; own = c.world_grows.ensures.own; other = c.world_grows.ensures.other; marks = c.world_grows.ensures.world; text = c.world_grows.ensures.text }) _ c.args.self.now c.args.number c.args.most c.in_ok-passes.passes c.index_mut.result.now c.in-Some.link c.drain.new.self _ _ _
    c.self.view_is c.self.invariant.0 (link_below c.args.number (sym c.if-not-is_link.ensures)) c.index_mut.ensures.value c.in-Some.is
    (rw (ap (λ w. w.plan.show) c.self.view_is) at c.in_ok-passes.ensures) c.in_ok-print_passes.ensures.ok
