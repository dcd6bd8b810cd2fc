use Rattle.std.proofs.Common.{◌≡◌, ◌^◌, ◌<◌, ◌++◌, length, map, take, drop}
use Rattle.bit_lists.specs.Bits.{bits}
use Rattle.des_block.specs.Tables.{left_shifts}
use Rattle.des_block.specs.Des.{keys_from, round_keys}
use Rattle.des_block.proofs.plain.round_keys.Given as goal

abbrev pub invariant-loop-i : goal.invariant-loop-i
invariant-loop-i l = record {
  size : length l.keys ≡ 16;
  value : map (bits 48) (take l.i l.keys) ++ keys_from (drop l.i left_shifts) (bits 28 l.c) (bits 28 l.d) ≡ round_keys (bits 64 l.fn.key);
  small_c : l.c < 2 ^ 28;
  small_d : l.d < 2 ^ 28;
}
