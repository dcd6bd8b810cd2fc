use Rattle.std.proofs.Common.{◌≡◌, map, drop}
use Rattle.bit_lists.specs.Bits.{bits}
use Rattle.des_block.specs.Des.{rounds}
use Rattle.des_block.specs.Representation.{kept_key}
use Rattle.des_block.proofs.rounds.rounds_onward.Given as goal

abbrev pub invariant-loop-key : goal.invariant-loop-key
invariant-loop-key l =
    rounds (map kept_key (drop l.key-index l.keys)) (bits 32 l.left) (bits 32 l.right)
    ≡ rounds (map kept_key l.keys) (bits 32 l.initial.left) (bits 32 l.initial.right)
