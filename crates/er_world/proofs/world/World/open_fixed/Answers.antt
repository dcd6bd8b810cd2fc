use Rattle.std.proofs.Common.{◌≡◌, sym, ap, ◌∙◌, subst, Option, Some}
use Rattle.safety_pair_laws.specs.Openings.{OfFixed}
use Rattle.drill_model.specs.Links.{LinkOpening, OfPair}
use Rattle.drill_model.specs.Worlds.{fixed_opening}
use Rattle.er_world.proofs.WorldRows.{OpenDone, opens_does, opens_nothing}
use Rattle.er_world.proofs.world.World.open_fixed.Goals as goal

pub returns-in-Safe-clause-does : goal.returns-in-Safe-clause-does
returns-in-Safe-clause-does c =
    let level_is : fixed_opening c.args.self.now.plan.level c.args.engine c.args.rbc c.args.ke c.args.kr ≡ Some (OfPair (OfFixed c.args.engine c.args.rbc c.args.ke c.args.kr)) =
    ap (λ w. fixed_opening w.plan.level c.args.engine c.args.rbc c.args.ke c.args.kr) (sym c.self.view_is)
    ∙ ap (λ l. fixed_opening l c.args.engine c.args.rbc c.args.ke c.args.kr) c.in-Safe.is in
    subst (λ (o : Option LinkOpening). OpenDone c.args.self.now.plan c.args.self.now c.args.number o c.open.new.self c.args.out.now.items c.args.out.now.items) (sym level_is)
    (opens_does (λ l. l.now) c.link.result (record { links = record { marks = c.world_grows.ensures.marks; facts = c.world_grows.ensures.facts; lines = c.world_grows.ensures.lines }; history = c.world_grows.ensures.history; own = c.world_grows.ensures.own; other = c.world_grows.ensures.other; marks = c.world_grows.ensures.world; text = c.world_grows.ensures.text }) c.args.self.now c.open.new.self c.args.number
    (OfPair (OfFixed c.args.engine c.args.rbc c.args.ke c.args.kr)) c.fixed-link.result _ _
    c.if-is_some.ensures c.link.ensures (sym c.if-not-is_link.ensures) c.open.ensures.placed c.open.ensures.inside
    (λ moment at.
    c.fixed-link.ensures c.args.self.now.plan.settings moment c.args.self.now.plan.show c.args.number c.args.out.now.items (ap (λ w. w.moment) c.self.view_is ∙ at)))

pub returns-in-Link-clause-does : goal.returns-in-Link-clause-does
returns-in-Link-clause-does c =
    opens_nothing (λ l. l.now) c.link.result (record { links = record { marks = c.world_grows.ensures.marks; facts = c.world_grows.ensures.facts; lines = c.world_grows.ensures.lines }; history = c.world_grows.ensures.history; own = c.world_grows.ensures.own; other = c.world_grows.ensures.other; marks = c.world_grows.ensures.world; text = c.world_grows.ensures.text }) c.args.self.now c.args.number _ c.args.out.now.items
    c.if-is_some.ensures c.link.ensures (sym c.if-not-is_link.ensures)
    (ap (λ w. fixed_opening w.plan.level c.args.engine c.args.rbc c.args.ke c.args.kr) (sym c.self.view_is)
    ∙ ap (λ l. fixed_opening l c.args.engine c.args.rbc c.args.ke c.args.kr) c.in-Link.is)

pub returns-in-LinkSr-clause-does : goal.returns-in-LinkSr-clause-does
returns-in-LinkSr-clause-does c =
    opens_nothing (λ l. l.now) c.link.result (record { links = record { marks = c.world_grows.ensures.marks; facts = c.world_grows.ensures.facts; lines = c.world_grows.ensures.lines }; history = c.world_grows.ensures.history; own = c.world_grows.ensures.own; other = c.world_grows.ensures.other; marks = c.world_grows.ensures.world; text = c.world_grows.ensures.text }) c.args.self.now c.args.number _ c.args.out.now.items
    c.if-is_some.ensures c.link.ensures (sym c.if-not-is_link.ensures)
    (ap (λ w. fixed_opening w.plan.level c.args.engine c.args.rbc c.args.ke c.args.kr) (sym c.self.view_is)
    ∙ ap (λ l. fixed_opening l c.args.engine c.args.rbc c.args.ke c.args.kr) c.in-LinkSr.is)

pub returns-in-Full-clause-does : goal.returns-in-Full-clause-does
returns-in-Full-clause-does c =
    opens_nothing (λ l. l.now) c.link.result (record { links = record { marks = c.world_grows.ensures.marks; facts = c.world_grows.ensures.facts; lines = c.world_grows.ensures.lines }; history = c.world_grows.ensures.history; own = c.world_grows.ensures.own; other = c.world_grows.ensures.other; marks = c.world_grows.ensures.world; text = c.world_grows.ensures.text }) c.args.self.now c.args.number _ c.args.out.now.items
    c.if-is_some.ensures c.link.ensures (sym c.if-not-is_link.ensures)
    (ap (λ w. fixed_opening w.plan.level c.args.engine c.args.rbc c.args.ke c.args.kr) (sym c.self.view_is)
    ∙ ap (λ l. fixed_opening l c.args.engine c.args.rbc c.args.ke c.args.kr) c.in-Full.is)
