-- The steps of the loops of the bit by bit cipher.
use Rattle.std.proofs.Common.{◌≡◌, ℕ, zero, suc, ◌+◌, ◌-◌, ◌*◌, ◌/◌, ◌%◌, ◌^◌, ◌<◌, ◌≤◌, List, [], ◌∷◌, ◌++◌, length, get_or, take, drop, map, reverse, refl, sym, ap, ◌∙◌, arith, true, Bool}
use Rattle.std.specs.Prelude.{bit_and, bit_or, slice_index_or, slice_set, nat_lt, ◌&&◌}
use Rattle.std.specs.List.{list_all}
use Rattle.std.specs.Int.{bit_at}
use Rattle.std.proofs.lemmas.Bool.{and_parts, ltb-true}
use Rattle.std.proofs.lemmas.Nat.{shr_below}
use Rattle.std.proofs.lemmas.Nat.Bits.{shr_and_one, bit_at-lt}
use Rattle.std.proofs.lemmas.Grind.{pow_more}
use Rattle.std.proofs.lemmas.List.{append-nil, append_assoc, drop-drop, drop-append-le, take_more_set, map_push, map-append, reverse-append}
use Rattle.bit_lists.specs.Bits.{bits, pick, left_shift}
use Rattle.bit_lists.proofs.Widths.{length-bits, get_or-bits, bits_push, bits_masked, take-bits, drop-bits, middle-bits, or_joined, or_joined_small, bits_or}
use Rattle.bit_lists.proofs.Picks.{pick_more}
use Rattle.des_block.specs.Boxes.{boxes}
use Rattle.des_block.specs.Tables.{permuted_choice_2}
use Rattle.des_block.specs.Des.{substituted, box_output, keys_from}

all_at : (p : ℕ → Bool) (xs : List ℕ) (i : ℕ) → list_all p xs ≡ true → i < length xs → p (get_or xs i 0) ≡ true
all_at p [] i h lt = absurd (omega arith)
all_at p (x ∷ xs) zero h lt = (and_parts (p x) (list_all p xs) h).0
all_at p (x ∷ xs) (suc i) h lt = all_at p xs i (and_parts (p x) (list_all p xs) h).1 (omega arith)

-- one place more of a table
pub select_step : (table : List ℕ) (w x out i : ℕ) → list_all (λ place. nat_lt 0 place && nat_lt (place - 1) w) table ≡ true → i < length table → i < 64
    → bits i out ≡ pick (take i table) (bits w x) → out < 2 ^ i
    → (bits (i + 1) (bit_or (out * 2 ^ 1 % 2 ^ 64) (bit_and (x / 2 ^ (w - get_or table i 0)) 1)) ≡ pick (take (i + 1) table) (bits w x))
    × (bit_or (out * 2 ^ 1 % 2 ^ 64) (bit_and (x / 2 ^ (w - get_or table i 0)) 1) < 2 ^ (i + 1))
select_step table w x out i places within narrow held small =
    let p : ℕ = get_or table i 0 in
    let inside = and_parts (nat_lt 0 p) (nat_lt (p - 1) w) (all_at (λ place. nat_lt 0 place && nat_lt (place - 1) w) table i places within) in
    let low : 0 < p = ltb-true 0 p inside.0 in
    let high : p - 1 < w = ltb-true (p - 1) w inside.1 in
    let one : bit_and (x / 2 ^ (w - p)) 1 ≡ bit_at x (w - p) = shr_and_one x (w - p) in
    let bit : bit_at x (w - p) < 2 = bit_at-lt x (w - p) in
    let shifted : bit_or (out * 2 ^ 1 % 2 ^ 64) (bit_at x (w - p)) ≡ out * 2 ^ 1 + bit_at x (w - p) = or_joined 64 i 1 out (bit_at x (w - p)) (omega arith) small bit in
    let pushed : bits (i + 1) (out * 2 + bit_at x (w - p)) ≡ bits i out ++ bit_at x (w - p) ∷ [] = bits_push i out (bit_at x (w - p)) bit in
    let same : w - 1 - (p - 1) ≡ w - p = omega arith in
    let place : get_or (bits w x) (p - 1) 0 ≡ bit_at x (w - p) = rw same at (get_or-bits w x (p - 1) high) in
    let more : pick (take (i + 1) table) (bits w x) ≡ pick (take i table) (bits w x) ++ get_or (bits w x) (p - 1) 0 ∷ [] = pick_more table (bits w x) i within in
    (rw (one, shifted, pushed, held, more, place) refl, rw (one, shifted) (omega (arith, pow_more 2 i)))

substituted_more : (bs : List (List ℕ)) (j : ℕ) (xs : List ℕ) → j < length bs
    → substituted (take (j + 1) bs) xs ≡ substituted (take j bs) xs ++ box_output (slice_index_or bs j []) (take 6 (drop (6 * j) xs))
unfolding substituted
substituted_more [] j xs h = absurd (omega arith)
substituted_more (b ∷ bs) zero xs h = append-nil (box_output b (take 6 xs))
substituted_more (b ∷ bs) (suc j) xs h =
    let e : suc j + 1 ≡ suc (j + 1) = omega arith in
    let six : 6 * suc j ≡ 6 + 6 * j = omega arith in
    let tail = substituted_more bs j (drop 6 xs) (omega arith) in
    let first : List ℕ = box_output b (take 6 xs) in
    let rest : List ℕ = substituted (take j bs) (drop 6 xs) in
    let last : List ℕ = box_output (slice_index_or bs j []) (take 6 (drop (6 * j) (drop 6 xs))) in
    let cut : drop (6 * j) (drop 6 xs) ≡ drop (6 + 6 * j) xs = drop-drop (6 * j) 6 xs in
    rw (e, six, ← cut) (ap (λ (ys : List ℕ). first ++ ys) tail ∙ sym (append_assoc first rest last))

-- one box more
pub substitute_step : (x out r j : ℕ) → j < 8
    → bits (4 * j) out ≡ substituted (take j boxes) (bits 48 x) → out < 2 ^ (4 * j)
    → bits 4 r ≡ box_output (slice_index_or boxes j []) (bits 6 (bit_and (x / 2 ^ (42 - 6 * j)) 63)) → r < 2 ^ 4
    → (bits (4 * (j + 1)) (bit_or (out * 2 ^ 4 % 2 ^ 64) r) ≡ substituted (take (j + 1) boxes) (bits 48 x)) × (bit_or (out * 2 ^ 4 % 2 ^ 64) r < 2 ^ (4 * (j + 1)))
substitute_step x out r j h held small four low =
    let more : 4 * (j + 1) ≡ 4 * j + 4 = omega arith in
    let width : 6 * j + (6 + (42 - 6 * j)) ≡ 48 = omega arith in
    let masked : bits 6 (bit_and (x / 2 ^ (42 - 6 * j)) 63) ≡ bits 6 (x / 2 ^ (42 - 6 * j)) = bits_masked 6 (x / 2 ^ (42 - 6 * j)) in
    let group : take 6 (drop (6 * j) (bits 48 x)) ≡ bits 6 (x / 2 ^ (42 - 6 * j)) = rw width at (middle-bits (6 * j) 6 (42 - 6 * j) x) in
    let joined : bits (4 * j + 4) (bit_or (out * 2 ^ 4 % 2 ^ 64) r) ≡ bits (4 * j) out ++ bits 4 r = bits_or 64 (4 * j) 4 out r (omega arith) small low in
    let step = substituted_more boxes j (bits 48 x) h in
    (rw (more, joined, held, four, masked, step, group) refl, rw more (or_joined_small 64 (4 * j) 4 out r (omega arith) small low))

-- 28 bits turned
pub turn_step : (half by : ℕ) → half < 2 ^ 28 → by ≤ 28
    → bits 28 (bit_and (bit_or (half * 2 ^ by % 2 ^ 64) (half / 2 ^ (28 - by))) (2 ^ 28 - 1)) ≡ left_shift by (bits 28 half)
turn_step half by small fits =
    let rest : ℕ = 28 - by in
    let top : ℕ = half / 2 ^ (28 - by) in
    let word : ℕ = bit_or (half * 2 ^ by % 2 ^ 64) top in
    let width : by + (28 - by) ≡ 28 = omega arith in
    let bound : half < 2 ^ (by + (28 - by)) = rw width small in
    let high : top < 2 ^ by = shr_below half by (28 - by) bound in
    let turned : by + 28 ≡ 28 + by = omega arith in
    let joined : bits (28 + by) word ≡ bits 28 half ++ bits by top = bits_or 64 28 by half top (omega arith) small high in
    let last : drop by (bits (by + 28) word) ≡ bits 28 word = drop-bits by 28 word in
    let front : take by (bits 28 half) ≡ bits by top = rw width at (take-bits by (28 - by) half) in
    let cut : drop by (bits 28 half ++ bits by top) ≡ drop by (bits 28 half) ++ bits by top = drop-append-le by (bits 28 half) (bits by top) (omega (arith, length-bits 28 half)) in
    bits_masked 28 word ∙ sym last ∙ ap (λ n. drop by (bits n word)) turned ∙ ap (drop by) joined ∙ cut ∙ ap (λ (xs : List ℕ). drop by (bits 28 half) ++ xs) (sym front)

-- one round key more
pub keys_step : (view : ℕ → List ℕ) (keys : List ℕ) (c d key i shift : ℕ) (rest : List ℕ) (all : List (List ℕ)) (c' d' : ℕ)
    → i < length keys
    → map view (take i keys) ++ keys_from (shift ∷ rest) (bits 28 c) (bits 28 d) ≡ all
    → bits 28 c' ≡ left_shift shift (bits 28 c) → bits 28 d' ≡ left_shift shift (bits 28 d) → c' < 2 ^ 28 → d' < 2 ^ 28
    → view key ≡ pick permuted_choice_2 (bits 56 (bit_or (c' * 2 ^ 28 % 2 ^ 64) d'))
    → map view (take (i + 1) (slice_set keys i key)) ++ keys_from rest (bits 28 c') (bits 28 d') ≡ all
unfolding keys_from
keys_step view keys c d key i shift rest all c' d' h held turned_c turned_d small_c small_d chosen =
    let set = take_more_set keys i key h in
    let pushed : map view (take i keys ++ key ∷ []) ≡ map view (take i keys) ++ view key ∷ [] = map_push view (take i keys) key in
    let joined : bits 56 (bit_or (c' * 2 ^ 28 % 2 ^ 64) d') ≡ bits 28 c' ++ bits 28 d' = bits_or 64 28 28 c' d' (omega arith) small_c small_d in
    let before : List (List ℕ) = map view (take i keys) in
    let behind : List (List ℕ) = keys_from rest (bits 28 c') (bits 28 d') in
    let regroup : (before ++ view key ∷ []) ++ behind ≡ before ++ (view key ∷ behind) = append_assoc before (view key ∷ []) behind in
    rw (set, pushed, regroup, chosen, joined, turned_c, turned_d) held

-- the first half and the second half of a permuted word
pub first_half : (word : ℕ) → bits 32 (word / 2 ^ 32) ≡ take 32 (bits 64 word)
first_half word = sym (take-bits 32 32 word)

pub second_half : (word : ℕ) → bits 32 (bit_and word (2 ^ 32 - 1)) ≡ drop 32 (bits 64 word)
second_half word = bits_masked 32 word ∙ sym (drop-bits 32 32 word)

pub map-reverse : {X Y : Type 0} (f : X → Y) (xs : List X) → map f (reverse xs) ≡ reverse (map f xs)
map-reverse f [] = refl
map-reverse {X} {Y} f (x ∷ xs) =
    let turned : reverse (x ∷ xs) ≡ reverse xs ++ x ∷ [] = reverse-append (x ∷ []) xs in
    let images : reverse (map f (x ∷ xs)) ≡ reverse (map f xs) ++ f x ∷ [] = reverse-append (f x ∷ []) (map f xs) in
    let tail = map-reverse f xs in
    rw (turned, images, ← tail) (map-append f (reverse xs) (x ∷ []))
