use Rattle.std.proofs.Common.{refl, suc, ◌-◌, ◌+◌, ◌≡◌, arith, None}
use Rattle.er_world.proofs.Overfull.{finds_on, finds_here, finds_none}
use Rattle.er_world.proofs.world.World.first_overfull.Goals as goal

pub loop-number-init : goal.loop-number-init
loop-number-init c = (omega arith, refl)

pub loop-number-preserved : goal.loop-number-preserved
loop-number-preserved c =
    let few = c.loop-number-test.true in
    let is : 65 - c.loop-number.number ≡ suc (65 - (c.loop-number.number + 1)) = omega (arith, few) in (
      omega (arith, few),
      finds_on c.args.self.now c.loop-number.number _ None few c.in_default.ensures (65 - c.loop-number.number) (65 - (c.loop-number.number + 1)) is c.loop-number.invariant.1,
    )

pub returns-in-Some : goal.returns-in-Some
returns-in-Some c =
    let few = c.loop-number-test.true in
    let is : 65 - c.loop-number.number ≡ suc (65 - (c.loop-number.number + 1)) = omega (arith, few) in
    finds_here c.args.self.now c.loop-number.number _ c.in-Some.side c.in-Some.ensures (65 - c.loop-number.number) (65 - (c.loop-number.number + 1)) is c.loop-number.invariant.1

pub returns : goal.returns
returns c =
    let over = c.loop-number-test.false in
    let none : 65 - c.loop-number.number ≡ 0 = omega (arith, over) in
    finds_none c.args.self.now c.loop-number.number _ (65 - c.loop-number.number) none c.loop-number.invariant.1
