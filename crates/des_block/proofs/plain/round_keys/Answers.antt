-- The keys made so far, and those that the definition makes of the halves as they stand, are the whole schedule.
use Rattle.std.proofs.Common.{◌≡◌, ℕ, ◌+◌, ◌-◌, ◌/◌, ◌%◌, ◌^◌, List, [], ◌∷◌, map, drop, take, refl, ◌∙◌, sym, arith, get_or}
use Rattle.std.specs.Prelude.{bit_and}
use Rattle.std.proofs.lemmas.Nat.{shr_below, and_mask}
use Rattle.std.proofs.lemmas.List.{drop_more, drop_all, take_all, append-nil, length-set}
use Rattle.bit_lists.specs.Bits.{bits, pick}
use Rattle.bit_lists.proofs.Widths.{take-bits, drop-bits, bits_masked}
use Rattle.des_block.specs.Tables.{left_shifts, permuted_choice_1}
use Rattle.des_block.specs.Des.{round_keys, keys_from}
use Rattle.des_block.proofs.PlainSteps.{keys_step}
use Rattle.des_block.proofs.plain.round_keys.Goals as goal

pub loop-i-init : goal.loop-i-init
unfolding round_keys
loop-i-init c =
    let chosen : ℕ = c.select-chosen.result in
    let first : bits 28 (chosen / 2 ^ 28) ≡ take 28 (bits 56 chosen) = sym (take-bits 28 28 chosen) in
    let second : bits 28 (bit_and chosen (2 ^ 28 - 1)) ≡ drop 28 (bits 56 chosen) = bits_masked 28 chosen ∙ sym (drop-bits 28 28 chosen) in
    let whole : bits 56 chosen ≡ pick permuted_choice_1 (bits 64 c.args.key) = c.select-chosen.ensures.value in
    let masked : bit_and chosen (2 ^ 28 - 1) ≡ chosen % 2 ^ 28 = and_mask chosen 28 in
    record {
      size = refl;
      value = rw (first, second, whole) refl;
      small_c = shr_below chosen 28 28 c.select-chosen.ensures.small;
      small_d = rw masked (omega arith);
    }

pub loop-i-preserved : goal.loop-i-preserved
loop-i-preserved c =
    let i : ℕ = c.loop-i.i in
    let next : drop i left_shifts ≡ get_or left_shifts i 0 ∷ drop (i + 1) left_shifts = drop_more left_shifts i 0 (omega arith) in
    let held = rw next at c.loop-i.invariant.value in
    record {
      size = length-set c.loop-i.keys i c.select.result ∙ c.loop-i.invariant.size;
      value = keys_step (bits 48) c.loop-i.keys c.loop-i.c c.loop-i.d c.select.result i (get_or left_shifts i 0) (drop (i + 1) left_shifts) (round_keys (bits 64 c.args.key)) c.shifted_half-c.result c.shifted_half-d.result (omega arith) held c.shifted_half-c.ensures.value c.shifted_half-d.ensures.value c.shifted_half-c.ensures.small c.shifted_half-d.ensures.small c.select.ensures.value;
      small_c = c.shifted_half-c.ensures.small;
      small_d = c.shifted_half-d.ensures.small;
    }

pub returns : goal.returns
unfolding keys_from
returns c =
    let keys : List ℕ = c.loop-i.keys in
    let i : ℕ = c.loop-i.i in
    let over : drop i left_shifts ≡ [] = drop_all i left_shifts (omega arith) in
    let full : take i keys ≡ keys = take_all i keys (omega arith) in
    let all = rw (over, full) at c.loop-i.invariant.value in
    sym (append-nil (map (bits 48) keys)) ∙ all
