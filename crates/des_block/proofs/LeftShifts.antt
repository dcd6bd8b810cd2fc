-- Left shifts one after another, and as parts of a half that stands twice in a row.
use Rattle.std.proofs.Common.{◌≡◌, ℕ, ◌+◌, ◌-◌, ◌*◌, ◌/◌, ◌%◌, ◌^◌, ◌<◌, ◌≤◌, List, [], ◌∷◌, ◌++◌, length, get_or, take, drop, map, sym, ap, ◌∙◌, arith}
use Rattle.std.specs.Prelude.{bit_or, slice_set}
use Rattle.std.proofs.lemmas.List.{append_assoc, drop-append-le, take-append-le, length-drop, drop-drop, drop_more, take_more_set, map_push}
use Rattle.std.proofs.Math.Seq.{take-append-add}
use Rattle.bit_lists.specs.Bits.{bits, pick, left_shift}
use Rattle.bit_lists.proofs.Widths.{length-bits, middle-bits, bits_or}
use Rattle.bit_lists.proofs.Linear.{take_chunk}
use Rattle.des_block.specs.Tables.{permuted_choice_2}
use Rattle.des_block.specs.Des.{keys_from}

-- what the left shifts that are still to come add up to
unfoldable pub total : List ℕ → ℕ
total [] = 0
total (x ∷ xs) = x + total xs

-- the next left shift is one of those that lead once round
pub total_more : (xs : List ℕ) (i s : ℕ) → i < length xs → s + total (drop i xs) ≡ 28 → s + get_or xs i 0 + total (drop (i + 1) xs) ≡ 28
unfolding total
total_more xs i s h held =
    let next : drop i xs ≡ get_or xs i 0 ∷ drop (i + 1) xs = drop_more xs i 0 h in
    let split : s + (get_or xs i 0 + total (drop (i + 1) xs)) ≡ 28 = rw next at held in
    omega arith

-- a left shift after another is one by both
pub shifted_more : (s x : ℕ) (half : List ℕ) → s + x ≤ length half → left_shift x (left_shift s half) ≡ left_shift (s + x) half
shifted_more s x half fits =
    let inside : x ≤ length (drop s half) = omega (arith, length-drop s half) in
    let behind : drop x (drop s half ++ take s half) ≡ drop x (drop s half) ++ take s half = drop-append-le x (drop s half) (take s half) inside in
    let front : take x (drop s half ++ take s half) ≡ take x (drop s half) = take-append-le x (drop s half) (take s half) inside in
    let cut : drop x (drop s half) ≡ drop (s + x) half = drop-drop x s half in
    let whole : take (s + x) half ≡ take s half ++ take x (drop s half) = take_chunk half s x in
    rw (behind, front, cut, whole) (append_assoc (drop (s + x) half) (take s half) (take x (drop s half)))

-- a left shift of a half, as a part of the half twice in a row
pub shifted_part : (half s : ℕ) → half < 2 ^ 28 → s ≤ 28 → bits 28 (bit_or (half * 2 ^ 28 % 2 ^ 64) half / 2 ^ (28 - s)) ≡ left_shift s (bits 28 half)
shifted_part half s small fits =
    let xs : List ℕ = bits 28 half in
    let twice : ℕ = bit_or (half * 2 ^ 28 % 2 ^ 64) half in
    let both : bits 56 twice ≡ xs ++ xs = bits_or 64 28 28 half half (omega arith) small small in
    let width : s + (28 + (28 - s)) ≡ 56 = omega arith in
    let part : take 28 (drop s (bits 56 twice)) ≡ bits 28 (twice / 2 ^ (28 - s)) = rw width at (middle-bits s 28 (28 - s) twice) in
    let behind : drop s (xs ++ xs) ≡ drop s xs ++ xs = drop-append-le s xs xs (omega (arith, length-bits 28 half)) in
    let size : length (drop s xs) + s ≡ 28 = omega (arith, length-drop s xs, length-bits 28 half) in
    let front : take 28 (drop s xs ++ xs) ≡ drop s xs ++ take s xs = rw size at (take-append-add (drop s xs) xs s) in
    sym part ∙ ap (λ (ys : List ℕ). take 28 (drop s ys)) both ∙ ap (take 28) behind ∙ front

-- one round key more
pub shifted_keys_step : (view : ℕ → List ℕ) (keys : List ℕ) (c d : List ℕ) (key i s x : ℕ) (rest : List ℕ) (all : List (List ℕ))
    → i < length keys → length c ≡ 28 → length d ≡ 28 → s + x ≤ 28
    → map view (take i keys) ++ keys_from (x ∷ rest) (left_shift s c) (left_shift s d) ≡ all
    → view key ≡ pick permuted_choice_2 (left_shift (s + x) c ++ left_shift (s + x) d)
    → map view (take (i + 1) (slice_set keys i key)) ++ keys_from rest (left_shift (s + x) c) (left_shift (s + x) d) ≡ all
unfolding keys_from
shifted_keys_step view keys c d key i s x rest all h long_c long_d fits held chosen =
    let set = take_more_set keys i key h in
    let pushed : map view (take i keys ++ key ∷ []) ≡ map view (take i keys) ++ view key ∷ [] = map_push view (take i keys) key in
    let next_c : left_shift x (left_shift s c) ≡ left_shift (s + x) c = shifted_more s x c (omega arith) in
    let next_d : left_shift x (left_shift s d) ≡ left_shift (s + x) d = shifted_more s x d (omega arith) in
    let before : List (List ℕ) = map view (take i keys) in
    let behind : List (List ℕ) = keys_from rest (left_shift (s + x) c) (left_shift (s + x) d) in
    let regroup : (before ++ view key ∷ []) ++ behind ≡ before ++ (view key ∷ behind) = append_assoc before (view key ∷ []) behind in
    let given = rw (next_c, next_d) at held in
    rw (set, pushed, regroup, chosen) given
