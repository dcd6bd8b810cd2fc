use Rattle.std.proofs.Common.{refl, sym, ap, ◌∙◌, subst, Option}
use Rattle.drill_model.specs.Links.{LinkOpening, OfStations}
use Rattle.er_world.proofs.WorldRows.{OpenDone, opens_does, opens_nothing, no_stations, some_stations}
use Rattle.er_world.proofs.world.World.open_wire.Goals as goal

pub returns-in_default-clause-does : goal.returns-in_default-clause-does
returns-in_default-clause-does c =
    opens_nothing (λ l. l.now) c.link.result (record { links = record { marks = c.world_grows.ensures.marks; facts = c.world_grows.ensures.facts; lines = c.world_grows.ensures.lines }; history = c.world_grows.ensures.history; own = c.world_grows.ensures.own; other = c.world_grows.ensures.other; marks = c.world_grows.ensures.world; text = c.world_grows.ensures.text }) c.args.self.now c.args.number _ c.args.out.now.items
    c.if-is_some.ensures c.link.ensures (sym c.if-not-is_link.ensures)
    (no_stations _ _ c.in_default.is c.stations.ensures.kind)

pub returns-clause-does : goal.returns-clause-does
returns-clause-does c =
    let level_is = some_stations c.in-Some.plan _ _ c.in-Some.is c.stations.ensures.kind in
    subst (λ (o : Option LinkOpening). OpenDone c.args.self.now.plan c.args.self.now c.args.number o c.open.new.self c.args.out.now.items c.wired.new.out.items) (sym level_is)
    (opens_does (λ l. l.now) c.link.result (record { links = record { marks = c.world_grows.ensures.marks; facts = c.world_grows.ensures.facts; lines = c.world_grows.ensures.lines }; history = c.world_grows.ensures.history; own = c.world_grows.ensures.own; other = c.world_grows.ensures.other; marks = c.world_grows.ensures.world; text = c.world_grows.ensures.text }) c.args.self.now c.open.new.self c.args.number
    (OfStations c.in-Some.plan.selective) c.in_ok-link.link _ _
    c.if-is_some.ensures c.link.ensures (sym c.if-not-is_link.ensures) c.open.ensures.placed c.open.ensures.inside
    (λ moment at. (rw (c.place-place.ensures, c.in-Some.ensures.settings) at c.in_ok-link.ensures) refl moment (ap (λ w. w.moment) c.self.view_is ∙ at)))
