-- What the boxes so far give is what stands in the word so far.
use Rattle.std.proofs.Common.{refl, arith}
use Rattle.bit_lists.specs.Bits.{bits}
use Rattle.des_block.specs.Des.{substituted}
use Rattle.des_block.proofs.PlainSteps.{substitute_step}
use Rattle.des_block.proofs.plain.substitute.Goals as goal

pub loop-j-init : goal.loop-j-init
unfolding bits substituted
loop-j-init c = record { value = refl; small = omega arith }

pub loop-j-preserved : goal.loop-j-preserved
loop-j-preserved c =
    let s = substitute_step c.args.x c.loop-j.out c.box_output.result c.loop-j.j (omega arith) c.loop-j.invariant.value c.loop-j.invariant.small c.box_output.ensures.value c.box_output.ensures.small in
    record { value = s.0; small = s.1 }
