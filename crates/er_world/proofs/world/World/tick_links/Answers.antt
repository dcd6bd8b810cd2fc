use Rattle.std.proofs.Common.{refl, ap, ◌∙◌, arith}
use Rattle.er_world.proofs.Ticks.{ticking_begins, ticking_goes_on, ticking_ends}
use Rattle.er_world.proofs.world.World.tick_links.Goals as goal

pub loop-number-init : goal.loop-number-init
loop-number-init c =
    (omega arith, refl, refl, λ w came st. ticking_begins (record { links = record { marks = c.world_grows.ensures.marks; facts = c.world_grows.ensures.facts; lines = c.world_grows.ensures.lines }; history = c.world_grows.ensures.history; own = c.world_grows.ensures.own; other = c.world_grows.ensures.other; marks = c.world_grows.ensures.world; text = c.world_grows.ensures.text }) c.args.moment w came c.args.self.now c.args.out.now.items st)

pub loop-number-preserved : goal.loop-number-preserved
loop-number-preserved c =
    let i = c.loop-number.invariant in (
      omega (arith, c.loop-number-test.true),
      c.in_ok-tick_link.ensures.plan ∙ i.1,
      c.in_ok-tick_link.ensures.spent ∙ i.2,
      λ w came st.
          ticking_goes_on (record { links = record { marks = c.world_grows.ensures.marks; facts = c.world_grows.ensures.facts; lines = c.world_grows.ensures.lines }; history = c.world_grows.ensures.history; own = c.world_grows.ensures.own; other = c.world_grows.ensures.other; marks = c.world_grows.ensures.world; text = c.world_grows.ensures.text }) c.args.moment w c.args.self.now.plan.show came c.loop-number.number c.loop-number.self c.tick_link.new.self
          c.args.out.now.items c.loop-number.out.items c.tick_link.new.out.items
          (i.3 w came st) c.loop-number-test.true (ap (λ p. p.show) i.1) c.in_ok-tick_link.ensures.went,
    )

pub returns-clause-went : goal.returns-clause-went
returns-clause-went c =
    λ w came st.
    ticking_ends c.args.moment w c.args.self.now.plan.show came c.loop-number.number c.loop-number.self c.args.out.now.items c.loop-number.out.items
    (c.loop-number.invariant.3 w came st) c.loop-number-test.false
