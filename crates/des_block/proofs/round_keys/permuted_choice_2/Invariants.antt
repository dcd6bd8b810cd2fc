use Rattle.std.proofs.Common.{◌≡◌, ◌+◌, ◌*◌, ◌++◌}
use Rattle.bit_lists.specs.Bits.{bits}
use Rattle.des_block.specs.Representation.{kept_key}
use Rattle.des_block.proofs.KeyChoices.{front_chosen}
use Rattle.des_block.proofs.round_keys.permuted_choice_2.Given as goal

abbrev pub invariant-loop-j : goal.invariant-loop-j
invariant-loop-j l = kept_key l.word ≡ front_chosen (7 * l.j) (bits 28 l.c ++ bits 28 l.d)

abbrev pub invariant-loop-j-2 : goal.invariant-loop-j-2
invariant-loop-j-2 l = kept_key l.word ≡ front_chosen (28 + 7 * l.j) (bits 28 l.c ++ bits 28 l.d)
