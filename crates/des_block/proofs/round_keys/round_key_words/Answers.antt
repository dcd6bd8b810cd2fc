-- The keys made so far, and those that the definition makes of the halves as they are shifted, are the whole schedule.
use Rattle.std.proofs.Common.{◌≡◌, ℕ, ◌+◌, List, [], ◌∷◌, map, drop, take, refl, ◌∙◌, sym, arith, get_or, length}
use Rattle.std.proofs.lemmas.List.{drop_more, drop_all, take_all, append-nil, length-set}
use Rattle.bit_lists.specs.Bits.{bits, pick}
use Rattle.bit_lists.proofs.Widths.{length-bits}
use Rattle.des_block.specs.Tables.{left_shifts, permuted_choice_1}
use Rattle.des_block.specs.Des.{round_keys, keys_from}
use Rattle.des_block.specs.Representation.{kept_key}
use Rattle.des_block.proofs.LeftShifts.{total, total_more, shifted_part, shifted_keys_step}
use Rattle.des_block.proofs.round_keys.round_key_words.Goals as goal

pub loop-i-init : goal.loop-i-init
unfolding round_keys total
loop-i-init c =
    let chosen : List ℕ = pick permuted_choice_1 (bits 64 c.args.key) in
    record { size = refl; value = rw (append-nil (take 28 chosen), append-nil (drop 28 chosen)) refl; once_round = refl }

pub overflow_sub-shifted : goal.overflow_sub-shifted
overflow_sub-shifted c =
    let fits = total_more left_shifts c.loop-i.i c.loop-i.shifted (omega arith) c.loop-i.invariant.once_round in
    omega arith

pub overflow_sub-shifted-in-loop-i : goal.overflow_sub-shifted-in-loop-i
overflow_sub-shifted-in-loop-i c =
    let fits = total_more left_shifts c.loop-i.i c.loop-i.shifted (omega arith) c.loop-i.invariant.once_round in
    omega arith

pub loop-i-preserved : goal.loop-i-preserved
loop-i-preserved c =
    let key : List ℕ = bits 64 c.args.key in
    let i : ℕ = c.loop-i.i in
    let s : ℕ = c.loop-i.shifted in
    let x : ℕ = get_or left_shifts i 0 in
    let left : List ℕ = take 28 (pick permuted_choice_1 key) in
    let right : List ℕ = drop 28 (pick permuted_choice_1 key) in
    let half_c : bits 28 c.permuted_choice_1-c.result.0 ≡ left = c.permuted_choice_1-c.ensures.c in
    let half_d : bits 28 c.permuted_choice_1-c.result.1 ≡ right = c.permuted_choice_1-c.ensures.d in
    let long_c : length left ≡ 28 = rw half_c at (length-bits 28 c.permuted_choice_1-c.result.0) in
    let long_d : length right ≡ 28 = rw half_d at (length-bits 28 c.permuted_choice_1-c.result.1) in
    let round : s + x + total (drop (i + 1) left_shifts) ≡ 28 = total_more left_shifts i s (omega arith) c.loop-i.invariant.once_round in
    let next : drop i left_shifts ≡ x ∷ drop (i + 1) left_shifts = drop_more left_shifts i 0 (omega arith) in
    let held = rw next at c.loop-i.invariant.value in
    let part_c = shifted_part c.permuted_choice_1-c.result.0 (s + x) c.permuted_choice_1-c.ensures.small_c (omega arith) in
    let part_d = shifted_part c.permuted_choice_1-c.result.1 (s + x) c.permuted_choice_1-c.ensures.small_d (omega arith) in
    let chosen = rw (part_c, part_d, half_c, half_d) at c.permuted_choice_2.ensures in
    record {
      size = length-set c.loop-i.words i c.permuted_choice_2.result ∙ c.loop-i.invariant.size;
      value = shifted_keys_step kept_key c.loop-i.words left right c.permuted_choice_2.result i s x (drop (i + 1) left_shifts) (round_keys key) (omega arith) long_c long_d (omega arith) held chosen;
      once_round = round;
    }

pub returns : goal.returns
unfolding keys_from
returns c =
    let words : List ℕ = c.loop-i.words in
    let i : ℕ = c.loop-i.i in
    let over : drop i left_shifts ≡ [] = drop_all i left_shifts (omega arith) in
    let full : take i words ≡ words = take_all i words (omega arith) in
    let all = rw (over, full) at c.loop-i.invariant.value in
    sym (append-nil (map kept_key words)) ∙ all
