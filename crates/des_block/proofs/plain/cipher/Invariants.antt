use Rattle.std.proofs.Common.{◌≡◌, ◌^◌, ◌<◌, map, drop}
use Rattle.bit_lists.specs.Bits.{bits}
use Rattle.des_block.specs.Des.{rounds}
use Rattle.des_block.proofs.plain.cipher.Given as goal

abbrev pub invariant-loop-key : goal.invariant-loop-key
invariant-loop-key l = record {
  value : rounds (map (bits 48) (drop l.key-index l.keys)) (bits 32 l.left) (bits 32 l.right)
      ≡ rounds (map (bits 48) l.keys) (bits 32 l.initial.left) (bits 32 l.initial.right);
  small_left : l.left < 2 ^ 32;
  small_right : l.right < 2 ^ 32;
}
