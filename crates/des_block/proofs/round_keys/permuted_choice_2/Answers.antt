-- The word so far is PC-2 of the bits so far, with zeros behind.
use Rattle.std.proofs.Common.{◌≡◌, ◌+◌, ◌*◌, ◌++◌, arith, ◌∙◌}
use Rattle.bit_lists.specs.Bits.{bits}
use Rattle.des_block.proofs.KeyChoices.{none_chosen, c_step, d_step, all_chosen}
use Rattle.des_block.proofs.round_keys.permuted_choice_2.Goals as goal

pub loop-j-init : goal.loop-j-init
loop-j-init c = none_chosen (bits 28 c.args.c ++ bits 28 c.args.d)

pub loop-j-preserved : goal.loop-j-preserved
loop-j-preserved c = c_step c.args.c c.args.d c.loop-j.word c.loop-j.j (omega arith) c.loop-j.invariant

pub loop-j-2-init : goal.loop-j-2-init
loop-j-2-init c =
    let all_of_c : 7 * c.loop-j.j ≡ 28 + 7 * 0 = omega arith in
    rw all_of_c at c.loop-j.invariant

pub loop-j-2-preserved : goal.loop-j-2-preserved
loop-j-2-preserved c = d_step c.args.c c.args.d c.loop-j-2.word c.loop-j-2.j (omega arith) c.loop-j-2.invariant

pub returns : goal.returns
returns c = c.loop-j-2.invariant ∙ all_chosen c.args.c c.args.d (28 + 7 * c.loop-j-2.j) (omega arith)
