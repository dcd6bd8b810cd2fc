use Rattle.std.proofs.Common.{suc, ap, ◌∙◌, ◌-◌, ◌+◌, ◌≡◌, arith}
use Rattle.er_world.specs.Counts.{sum}
use Rattle.er_world.specs.WorldSteps.{summed}
use Rattle.er_world.proofs.WorldTotals.{sums_on, sums_up, totals_ran}
use Rattle.er_world.proofs.world.World.totals.Goals as goal

pub loop-number-init : goal.loop-number-init
loop-number-init c = (omega arith, ap (summed c.args.self.now 1 64) c.no_totals-totals.ensures)

pub loop-number-preserved : goal.loop-number-preserved
loop-number-preserved c =
    let few = c.loop-number-test.true in
    let is : 65 - c.loop-number.number ≡ suc (65 - (c.loop-number.number + 1)) = omega (arith, few) in (
      omega (arith, few),
      sums_on c.args.self.now c.loop-number.number (65 - c.loop-number.number) (65 - (c.loop-number.number + 1)) c.loop-number.totals c.sum-totals.result _
          is c.loop-number.invariant.1 (c.sum-totals.ensures ∙ ap (sum c.loop-number.totals) c.totals_at.ensures),
    )

pub returns : goal.returns
returns c =
    λ plan steps ran.
    let over = c.loop-number-test.false in
    let none : 65 - c.loop-number.number ≡ 0 = omega (arith, over) in
    sums_up c.args.self.now c.loop-number.number (65 - c.loop-number.number) c.loop-number.totals _ none c.loop-number.invariant.1
    ∙ totals_ran c.args.self.now plan steps ran
