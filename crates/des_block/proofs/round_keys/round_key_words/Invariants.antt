use Rattle.std.proofs.Common.{◌≡◌, ◌+◌, ◌++◌, length, map, take, drop}
use Rattle.bit_lists.specs.Bits.{bits, pick, left_shift}
use Rattle.des_block.specs.Tables.{left_shifts, permuted_choice_1}
use Rattle.des_block.specs.Des.{keys_from, round_keys}
use Rattle.des_block.specs.Representation.{kept_key}
use Rattle.des_block.proofs.LeftShifts.{total}
use Rattle.des_block.proofs.round_keys.round_key_words.Given as goal

abbrev pub invariant-loop-i : goal.invariant-loop-i
invariant-loop-i l = record {
  size : length l.words ≡ 16;
  value : map kept_key (take l.i l.words)
      ++ keys_from (drop l.i left_shifts) (left_shift l.shifted (take 28 (pick permuted_choice_1 (bits 64 l.fn.key))))
      (left_shift l.shifted (drop 28 (pick permuted_choice_1 (bits 64 l.fn.key))))
      ≡ round_keys (bits 64 l.fn.key);
  once_round : l.shifted + total (drop l.i left_shifts) ≡ 28;
}
