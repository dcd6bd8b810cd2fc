use Rattle.std.proofs.Common.{◌≡◌, refl, arith}
use Rattle.des_block.proofs.Exchanges.{onward, onward_is}
use Rattle.des_block.proofs.permutations.initial_permutation.Goals as goal

pub returns : goal.returns
returns c =
    let made : c.swap.result ≡ onward c.args.block = rw (c.swap.ensures, c.swap-x-4.ensures, c.swap-x-3.ensures, c.swap-x-2.ensures, c.swap-x.ensures) refl in
    rw made (onward_is c.args.block (omega arith))
