use Rattle.std.proofs.Common.{refl, suc, ◌-◌, ◌+◌, ◌≡◌, arith}
use Rattle.er_world.proofs.WorldEnds.{closes_on, closes}
use Rattle.er_world.proofs.world.World.close.Goals as goal

pub loop-number-init : goal.loop-number-init
loop-number-init c = (omega arith, refl)

pub loop-number-preserved : goal.loop-number-preserved
loop-number-preserved c =
    let few = c.loop-number-test.true in
    let is : 65 - c.loop-number.number ≡ suc (65 - (c.loop-number.number + 1)) = omega (arith, few) in (
      omega (arith, few),
      closes_on c.args.self.now c.loop-number.number (65 - c.loop-number.number) (65 - (c.loop-number.number + 1)) c.loop-number.text.items c.close_link.new.text.items _
          is c.loop-number.invariant.1 c.in_ok-close_link.ensures,
    )

pub returns : goal.returns
returns c =
    let over = c.loop-number-test.false in
    let none : 65 - c.loop-number.number ≡ 0 = omega (arith, over) in
    closes c.args.self.now c.loop-number.number (65 - c.loop-number.number) c.loop-number.text.items _ none c.loop-number.invariant.1
