use Rattle.std.proofs.Common.{◌≡◌, refl, arith}
use Rattle.des_block.proofs.Exchanges.{backward, backward_is}
use Rattle.des_block.proofs.permutations.inverse_initial_permutation.Goals as goal

pub returns : goal.returns
returns c =
    let made : c.swap.result ≡ backward c.args.block = rw (c.swap.ensures, c.swap-x-4.ensures, c.swap-x-3.ensures, c.swap-x-2.ensures, c.swap-x.ensures) refl in
    rw made (backward_is c.args.block (omega arith))
