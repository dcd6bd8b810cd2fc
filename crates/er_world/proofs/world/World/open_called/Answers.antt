use Rattle.std.proofs.Common.{◌≡◌, refl, sym, ap, ◌∙◌, subst, Option, Some}
use Rattle.safety_pair_laws.specs.Openings.{OfKeys}
use Rattle.drill_model.specs.Links.{LinkOpening, OfPair, OfStacks}
use Rattle.drill_model.specs.Worlds.{link_opening}
use Rattle.er_world.proofs.WorldRows.{OpenDone, opens_does, opens_nothing}
use Rattle.er_world.proofs.world.World.open_called.Goals as goal

pub returns-in-Link-clause-does : goal.returns-in-Link-clause-does
returns-in-Link-clause-does c =
    opens_nothing (λ l. l.now) c.link.result (record { links = record { marks = c.world_grows.ensures.marks; facts = c.world_grows.ensures.facts; lines = c.world_grows.ensures.lines }; history = c.world_grows.ensures.history; own = c.world_grows.ensures.own; other = c.world_grows.ensures.other; marks = c.world_grows.ensures.world; text = c.world_grows.ensures.text }) c.args.self.now c.args.number _ c.args.out.now.items
    c.if-is_some.ensures c.link.ensures (sym c.if-not-is_link.ensures)
    (ap (λ w. link_opening w.plan.level c.args.engine c.args.rbc c.args.ke c.args.kr c.args.ra c.args.rb) (sym c.self.view_is)
    ∙ ap (λ l. link_opening l c.args.engine c.args.rbc c.args.ke c.args.kr c.args.ra c.args.rb) c.in-Link.is)

pub returns-in-LinkSr-clause-does : goal.returns-in-LinkSr-clause-does
returns-in-LinkSr-clause-does c =
    opens_nothing (λ l. l.now) c.link.result (record { links = record { marks = c.world_grows.ensures.marks; facts = c.world_grows.ensures.facts; lines = c.world_grows.ensures.lines }; history = c.world_grows.ensures.history; own = c.world_grows.ensures.own; other = c.world_grows.ensures.other; marks = c.world_grows.ensures.world; text = c.world_grows.ensures.text }) c.args.self.now c.args.number _ c.args.out.now.items
    c.if-is_some.ensures c.link.ensures (sym c.if-not-is_link.ensures)
    (ap (λ w. link_opening w.plan.level c.args.engine c.args.rbc c.args.ke c.args.kr c.args.ra c.args.rb) (sym c.self.view_is)
    ∙ ap (λ l. link_opening l c.args.engine c.args.rbc c.args.ke c.args.kr c.args.ra c.args.rb) c.in-LinkSr.is)

pub returns-in_ok-link-in-Safe-clause-does : goal.returns-in_ok-link-in-Safe-clause-does
returns-in_ok-link-in-Safe-clause-does c =
    let level_is : link_opening c.args.self.now.plan.level c.args.engine c.args.rbc c.args.ke c.args.kr c.args.ra c.args.rb
    ≡ Some (OfPair (OfKeys c.args.engine c.args.rbc c.args.ke c.args.kr c.args.ra c.args.rb)) =
    ap (λ w. link_opening w.plan.level c.args.engine c.args.rbc c.args.ke c.args.kr c.args.ra c.args.rb) (sym c.self.view_is)
    ∙ ap (λ l. link_opening l c.args.engine c.args.rbc c.args.ke c.args.kr c.args.ra c.args.rb) c.in-Safe.is in
    subst (λ (o : Option LinkOpening). OpenDone c.args.self.now.plan c.args.self.now c.args.number o c.open.new.self c.args.out.now.items c.called.new.out.items) (sym level_is)
    (opens_does (λ l. l.now) c.link.result (record { links = record { marks = c.world_grows.ensures.marks; facts = c.world_grows.ensures.facts; lines = c.world_grows.ensures.lines }; history = c.world_grows.ensures.history; own = c.world_grows.ensures.own; other = c.world_grows.ensures.other; marks = c.world_grows.ensures.world; text = c.world_grows.ensures.text }) c.args.self.now c.open.new.self c.args.number
    (OfPair (OfKeys c.args.engine c.args.rbc c.args.ke c.args.kr c.args.ra c.args.rb)) c.in_ok-link-in-Safe.link _ _
    c.if-is_some.ensures c.link.ensures (sym c.if-not-is_link.ensures) c.open.ensures.placed c.open.ensures.inside
    (λ moment at. (rw c.place.ensures at c.in_ok-link-in-Safe.ensures) refl c.args.self.now.plan.settings moment (ap (λ w. w.moment) c.self.view_is ∙ at)))

pub returns-in_ok-link-in-Full-clause-does : goal.returns-in_ok-link-in-Full-clause-does
returns-in_ok-link-in-Full-clause-does c =
    let level_is : link_opening c.args.self.now.plan.level c.args.engine c.args.rbc c.args.ke c.args.kr c.args.ra c.args.rb
    ≡ Some (OfStacks c.args.engine c.args.rbc c.args.ke c.args.kr c.args.ra c.args.rb) =
    ap (λ w. link_opening w.plan.level c.args.engine c.args.rbc c.args.ke c.args.kr c.args.ra c.args.rb) (sym c.self.view_is)
    ∙ ap (λ l. link_opening l c.args.engine c.args.rbc c.args.ke c.args.kr c.args.ra c.args.rb) c.in-Full.is in
    subst (λ (o : Option LinkOpening). OpenDone c.args.self.now.plan c.args.self.now c.args.number o c.open-in-Full.new.self c.args.out.now.items c.stacked.new.out.items) (sym level_is)
    (opens_does (λ l. l.now) c.link.result (record { links = record { marks = c.world_grows.ensures.marks; facts = c.world_grows.ensures.facts; lines = c.world_grows.ensures.lines }; history = c.world_grows.ensures.history; own = c.world_grows.ensures.own; other = c.world_grows.ensures.other; marks = c.world_grows.ensures.world; text = c.world_grows.ensures.text }) c.args.self.now c.open-in-Full.new.self c.args.number
    (OfStacks c.args.engine c.args.rbc c.args.ke c.args.kr c.args.ra c.args.rb) c.in_ok-link-in-Full.link _ _
    c.if-is_some.ensures c.link.ensures (sym c.if-not-is_link.ensures) c.open-in-Full.ensures.placed c.open-in-Full.ensures.inside
    (λ moment at. (rw (c.place-in-Full.ensures, ap (λ w. w.plan.settings) c.self.view_is) at c.in_ok-link-in-Full.ensures) refl moment (ap (λ w. w.moment) c.self.view_is ∙ at)))
