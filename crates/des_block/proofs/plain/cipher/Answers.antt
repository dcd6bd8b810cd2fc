-- The rounds that are left, from the halves as they stand, give what all rounds give.
use Rattle.std.proofs.Common.{◌≡◌, ℕ, ◌+◌, ◌*◌, ◌%◌, ◌^◌, ◌++◌, List, [], ◌∷◌, drop, refl, arith, get_or}
use Rattle.std.specs.Prelude.{bit_or}
use Rattle.std.proofs.lemmas.Nat.{xor_of_32}
use Rattle.std.proofs.lemmas.List.{drop_more, drop_all}
use Rattle.bit_lists.specs.Bits.{bits, pick}
use Rattle.bit_lists.proofs.Xors.{bits-xor}
use Rattle.bit_lists.proofs.Widths.{bits_or}
use Rattle.des_block.specs.Tables.{initial_permutation, inverse_initial_permutation}
use Rattle.des_block.specs.Des.{cipher, rounds, cipher_function}
use Rattle.des_block.proofs.PlainSteps.{first_half, second_half}
use Rattle.des_block.proofs.plain.cipher.Goals as goal

pub loop-key-preserved : goal.loop-key-preserved
unfolding rounds
loop-key-preserved c =
    let keys : List ℕ = c.args.keys.now in
    let left : ℕ = c.loop-key.left in
    let right : ℕ = c.loop-key.right in
    let i : ℕ = c.loop-key.key-index in
    let next : drop i keys ≡ get_or keys i 0 ∷ drop (i + 1) keys = drop_more keys i 0 (omega arith) in
    let mixed = bits-xor 32 left c.cipher_function.result in
    let given : bits 32 c.cipher_function.result ≡ cipher_function (bits 32 right) (bits 48 (get_or keys i 0)) = c.cipher_function.ensures.value in
    let held = rw next at c.loop-key.invariant.value in
    record {
      value = rw (mixed, given) held;
      small_left = c.loop-key.invariant.small_right;
      small_right = xor_of_32 left c.cipher_function.result c.loop-key.invariant.small_left c.cipher_function.ensures.small;
    }

pub returns : goal.returns
unfolding rounds cipher
returns c =
    let keys : List ℕ = c.args.keys.now in
    let left : ℕ = c.loop-key.left in
    let right : ℕ = c.loop-key.right in
    let start : ℕ = c.select-permuted.result in
    let over : drop c.loop-key.key-index keys ≡ [] = drop_all c.loop-key.key-index keys (omega arith) in
    let held = rw over at c.loop-key.invariant.value in
    let permuted : bits 64 start ≡ pick initial_permutation (bits 64 c.args.block) = c.select-permuted.ensures.value in
    let final : bits 64 c.select.result ≡ pick inverse_initial_permutation (bits 64 (bit_or (right * 2 ^ 32 % 2 ^ 64) left)) = c.select.ensures.value in
    let joined : bits 64 (bit_or (right * 2 ^ 32 % 2 ^ 64) left) ≡ bits 32 right ++ bits 32 left = bits_or 64 32 32 right left (omega arith) c.loop-key.invariant.small_right c.loop-key.invariant.small_left in
    rw (final, joined, held, first_half start, second_half start, permuted) refl
