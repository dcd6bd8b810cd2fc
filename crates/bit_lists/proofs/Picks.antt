-- Bits picked by a table: lengths, parts, one place more, two tables after one another, and the exclusive or.
use Rattle.std.proofs.Common.{◌≡◌, ℕ, zero, suc, ◌+◌, ◌-◌, ◌<◌, List, [], ◌∷◌, ◌++◌, length, get_or, take, drop, refl, sym, ap, ◌∙◌, arith, true}
use Rattle.std.specs.Prelude.{slice_index, nat_lt}
use Rattle.std.specs.List.{list_all, range_with_len}
use Rattle.std.proofs.lemmas.Bool.{and_parts, and_from, ltb-true}
use Rattle.std.proofs.lemmas.List.{length-map, take-map, drop-map, map-append, map_more, get_or-map}
use Rattle.std.proofs.lemmas.List.FromFn.{get_or-range_with_len, length-range_with_len}
use Rattle.std.proofs.lemmas.Grind.{same_number_lists}
use Rattle.bit_lists.specs.Bits.{pick, xor, all_bits}
use Rattle.bit_lists.proofs.Xors.{get_or-xor}

pub length-pick : (t xs : List ℕ) → length (pick t xs) ≡ length t
unfolding pick
length-pick t xs = length-map t (λ place. slice_index xs (place - 1))

pub get_or-pick : (t xs : List ℕ) (i : ℕ) → i < length t → get_or (pick t xs) i 0 ≡ get_or xs (get_or t i 0 - 1) 0
unfolding pick
get_or-pick t xs i h = get_or-map (λ place. slice_index xs (place - 1)) t i 0 0 h

pub pick-take : (n : ℕ) (t xs : List ℕ) → take n (pick t xs) ≡ pick (take n t) xs
unfolding pick
pick-take n t xs = take-map (λ place. slice_index xs (place - 1)) n t

pub pick-drop : (n : ℕ) (t xs : List ℕ) → drop n (pick t xs) ≡ pick (drop n t) xs
unfolding pick
pick-drop n t xs = drop-map (λ place. slice_index xs (place - 1)) n t

pub pick-append : (t u xs : List ℕ) → pick (t ++ u) xs ≡ pick t xs ++ pick u xs
unfolding pick
pick-append t u xs = map-append (λ place. slice_index xs (place - 1)) t u

pub pick_more : (t xs : List ℕ) (i : ℕ) → i < length t → pick (take (i + 1) t) xs ≡ pick (take i t) xs ++ slice_index xs (get_or t i 0 - 1) ∷ []
unfolding pick
pick_more t xs i h = map_more (λ place. slice_index xs (place - 1)) t i 0 h

pub pick-xor : (t xs ys : List ℕ) → length xs ≡ length ys → pick t (xor xs ys) ≡ xor (pick t xs) (pick t ys)
unfolding pick xor
pick-xor [] xs ys h = refl
pick-xor (p ∷ t) xs ys h =
    let head = get_or-xor xs ys (p - 1) h in
    let tail = pick-xor t xs ys h in
    cc

-- a table after another is one table, where the first names places that the other has
pub pick-pick : (t u xs : List ℕ) → list_all (λ p. nat_lt (p - 1) (length u)) t ≡ true → pick t (pick u xs) ≡ pick (pick t u) xs
unfolding pick
pick-pick [] u xs h = refl
pick-pick (p ∷ t) u xs h =
    let parts = and_parts (nat_lt (p - 1) (length u)) (list_all (λ p. nat_lt (p - 1) (length u)) t) h in
    let head = get_or-map (λ place. slice_index xs (place - 1)) u (p - 1) 0 0 (ltb-true (p - 1) (length u) parts.0) in
    let tail = pick-pick t u xs parts.1 in
    cc

-- the table of all places changes nothing
pub pick_all : (xs : List ℕ) (n : ℕ) → length xs ≡ n → pick (range_with_len 1 n) xs ≡ xs
unfolding pick
pick_all xs n h =
    same_number_lists (pick (range_with_len 1 n) xs) xs
    (length-pick (range_with_len 1 n) xs ∙ length-range_with_len 1 n ∙ sym h)
    (λ k lt.
    let size : length (pick (range_with_len 1 n) xs) ≡ n = length-pick (range_with_len 1 n) xs ∙ length-range_with_len 1 n in
    let inside : k < n = omega arith in
    let long : k < length (range_with_len 1 n) = omega (arith, length-range_with_len 1 n) in
    let place : get_or (range_with_len 1 n) k 0 ≡ 1 + k = get_or-range_with_len 1 n k 0 inside in
    let back : 1 + k - 1 ≡ k = omega arith in
    get_or-pick (range_with_len 1 n) xs k long ∙ ap (λ i. get_or xs (i - 1) 0) place ∙ ap (λ i. get_or xs i 0) back)

bit_at_place : (xs : List ℕ) (i : ℕ) → all_bits xs ≡ true → nat_lt (get_or xs i 0) 2 ≡ true
unfolding all_bits
bit_at_place [] i h = refl
bit_at_place (x ∷ xs) zero h = (and_parts (nat_lt x 2) (list_all (λ b. nat_lt b 2) xs) h).0
bit_at_place (x ∷ xs) (suc i) h = bit_at_place xs i (and_parts (nat_lt x 2) (list_all (λ b. nat_lt b 2) xs) h).1

pub all_bits-pick : (t xs : List ℕ) → all_bits xs ≡ true → all_bits (pick t xs) ≡ true
unfolding pick all_bits
all_bits-pick [] xs h = refl
all_bits-pick (p ∷ t) xs h =
    and_from (nat_lt (slice_index xs (p - 1)) 2) (list_all (λ b. nat_lt b 2) (pick t xs)) (bit_at_place xs (p - 1) h) (all_bits-pick t xs h)

pub all_bits-take : (n : ℕ) (xs : List ℕ) → all_bits xs ≡ true → all_bits (take n xs) ≡ true
unfolding all_bits
all_bits-take zero xs h = refl
all_bits-take (suc n) [] h = refl
all_bits-take (suc n) (x ∷ xs) h =
    let parts = and_parts (nat_lt x 2) (list_all (λ b. nat_lt b 2) xs) h in
    and_from (nat_lt x 2) (list_all (λ b. nat_lt b 2) (take n xs)) parts.0 (all_bits-take n xs parts.1)

pub all_bits-drop : (n : ℕ) (xs : List ℕ) → all_bits xs ≡ true → all_bits (drop n xs) ≡ true
unfolding all_bits
all_bits-drop zero xs h = h
all_bits-drop (suc n) [] h = refl
all_bits-drop (suc n) (x ∷ xs) h = all_bits-drop n xs (and_parts (nat_lt x 2) (list_all (λ b. nat_lt b 2) xs) h).1
