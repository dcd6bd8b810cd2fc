-- The bits picked so far are those of the table's front.
use Rattle.std.proofs.Common.{refl, arith}
use Rattle.bit_lists.specs.Bits.{bits, pick}
use Rattle.des_block.proofs.PlainSteps.{select_step}
use Rattle.des_block.proofs.plain.select.Goals as goal

pub loop-place-init : goal.loop-place-init
unfolding bits pick
loop-place-init c = record { value = refl; small = omega arith }

pub loop-place-preserved : goal.loop-place-preserved
loop-place-preserved c =
    let s = select_step c.args.table.now c.args.width c.args.x c.loop-place.out c.loop-place.place-index c.requires.places (omega arith) (omega arith) c.loop-place.invariant.value c.loop-place.invariant.small in
    record { value = s.0; small = s.1 }
