use Rattle.std.proofs.Common.{◌≡◌, map, reverse}
use Rattle.bit_lists.specs.Bits.{bits}
use Rattle.des_block.specs.Des.{rounds}
use Rattle.des_block.specs.Representation.{kept_key}
use Rattle.des_block.proofs.rounds.rounds_backward.Given as goal

abbrev pub invariant-loop-key : goal.invariant-loop-key
invariant-loop-key l =
    rounds (map kept_key (reverse l.key-iterator.iter.rest.now)) (bits 32 l.left) (bits 32 l.right)
    ≡ rounds (map kept_key (reverse l.keys)) (bits 32 l.initial.left) (bits 32 l.initial.right)
