-- PC-1 and PC-2 as the code computes them.
use Rattle.std.proofs.Common.{◌≡◌, ℕ, zero, suc, ◌+◌, ◌-◌, ◌*◌, ◌/◌, ◌%◌, ◌^◌, ◌<◌, ◌≤◌, List, [], ◌++◌, length, take, drop, refl, sym, ap, ◌∙◌, arith}
use Rattle.std.specs.Prelude.{bit_and, bit_or, bit_xor, slice_index, slice_index_or, replicate}
use Rattle.std.proofs.lemmas.Nat.{and_mask, mod_below, shr_below, pow_pos}
use Rattle.std.proofs.lemmas.List.{length-take-le, length-append, length-drop, take-append-le, drop-append-le, append-nil, take_all}
use Rattle.std.proofs.Math.Seq.{drop-append-add}
use Rattle.bit_lists.specs.Bits.{bits, pick, xor}
use Rattle.bit_lists.proofs.Widths.{length-bits, bits_masked, middle-bits, bits_or, or_joined_small, take-bits, drop-bits}
use Rattle.bit_lists.proofs.Linear.{Carries, same_values, carries-append, carries-bits_shr, chunk_joined, take_chunk}
use Rattle.des_block.specs.Representation.{kept_key}
use Rattle.des_block.specs.Tables.{initial_permutation, permuted_choice_1, permuted_choice_2}
use Rattle.des_block.specs.declared.c_choices.TheConstants.{C_CHOICES}
use Rattle.des_block.specs.declared.d_choices.TheConstants.{D_CHOICES}

-- a kept key carries the exclusive or
carries-groups : (k : ℕ) (g : ℕ → List ℕ) → Carries xor g → Carries xor (λ n. bits 6 (n / 2 ^ k) ++ g n)
carries-groups k g cg =
    carries-append (λ n. bits 6 (n / 2 ^ k)) g (carries-bits_shr 6 k) cg (λ a b. length-bits 6 (a / 2 ^ k) ∙ sym (length-bits 6 (b / 2 ^ k)))

pub carries-kept_key : Carries xor kept_key
unfolding kept_key
carries-kept_key =
    carries-groups 56 _ (carries-groups 24 _ (carries-groups 48 _ (carries-groups 16 _ (carries-groups 40 _ (carries-groups 8 _ (carries-groups 32 _ (carries-bits_shr 6 0)))))))

-- the entries that the code reads
abbrev pub c_entry : ℕ → ℕ → ℕ
c_entry j seven = slice_index (slice_index_or C_CHOICES j []) seven

abbrev pub d_entry : ℕ → ℕ → ℕ
d_entry j seven = slice_index (slice_index_or D_CHOICES j []) seven

-- PC-2 of seven bits at their place among zeros
abbrev pub seven_chosen : ℕ → ℕ → List ℕ
seven_chosen place seven = pick permuted_choice_2 (replicate place 0 ++ (bits 7 seven ++ replicate (49 - place) 0))

c_entry_is : (j seven : ℕ) → j < 4 → seven < 128 → kept_key (c_entry j seven) ≡ seven_chosen (7 * j) seven
unfolding bits pick kept_key
c_entry_is zero seven hj hs = same_values [] (λ s. kept_key (c_entry 0 s)) (λ s. seven_chosen 0 s) 128 seven refl hs
c_entry_is (suc zero) seven hj hs = same_values [] (λ s. kept_key (c_entry 1 s)) (λ s. seven_chosen 7 s) 128 seven refl hs
c_entry_is (suc (suc zero)) seven hj hs = same_values [] (λ s. kept_key (c_entry 2 s)) (λ s. seven_chosen 14 s) 128 seven refl hs
c_entry_is (suc (suc (suc zero))) seven hj hs = same_values [] (λ s. kept_key (c_entry 3 s)) (λ s. seven_chosen 21 s) 128 seven refl hs
c_entry_is (suc (suc (suc (suc j)))) seven hj hs = absurd (omega arith)

d_entry_is : (j seven : ℕ) → j < 4 → seven < 128 → kept_key (d_entry j seven) ≡ seven_chosen (28 + 7 * j) seven
unfolding bits pick kept_key
d_entry_is zero seven hj hs = same_values [] (λ s. kept_key (d_entry 0 s)) (λ s. seven_chosen 28 s) 128 seven refl hs
d_entry_is (suc zero) seven hj hs = same_values [] (λ s. kept_key (d_entry 1 s)) (λ s. seven_chosen 35 s) 128 seven refl hs
d_entry_is (suc (suc zero)) seven hj hs = same_values [] (λ s. kept_key (d_entry 2 s)) (λ s. seven_chosen 42 s) 128 seven refl hs
d_entry_is (suc (suc (suc zero))) seven hj hs = same_values [] (λ s. kept_key (d_entry 3 s)) (λ s. seven_chosen 49 s) 128 seven refl hs
d_entry_is (suc (suc (suc (suc j)))) seven hj hs = absurd (omega arith)

-- PC-2 of the first of 56 bits, with zeros behind
abbrev pub front_chosen : ℕ → List ℕ → List ℕ
front_chosen count xs = pick permuted_choice_2 (take count xs ++ replicate (56 - count) 0)

pub none_chosen : (xs : List ℕ) → kept_key 0 ≡ front_chosen 0 xs
unfolding bits pick kept_key
none_chosen xs = refl

masked_seven : (n : ℕ) → bit_and n 127 < 128
masked_seven n = rw (and_mask n 7) (mod_below n 128 (omega arith))

-- seven bits more
seven_more : (xs : List ℕ) (word entry place seven : ℕ) → length xs ≡ 56 → place + 7 ≤ 56
    → kept_key word ≡ front_chosen place xs
    → take 7 (drop place xs) ≡ bits 7 seven
    → kept_key entry ≡ seven_chosen place seven
    → kept_key (bit_xor word entry) ≡ front_chosen (place + 7) xs
seven_more xs word entry place seven long h held chunk given =
    let front : List ℕ = take place xs in
    let size : length front ≡ place = length-take-le place xs (omega arith) in
    let left : 56 - place ≡ 7 + (49 - place) = omega arith in
    let so_far : kept_key word ≡ pick permuted_choice_2 (front ++ replicate (7 + (49 - place)) 0) = rw left at held in
    let joined = chunk_joined kept_key carries-kept_key permuted_choice_2 front (bits 7 seven) word entry place 7 (49 - place) size (length-bits 7 seven) so_far given in
    let rest : 56 - (place + 7) ≡ 49 - place = omega arith in
    let grown : take (place + 7) xs ≡ front ++ bits 7 seven = take_chunk xs place 7 ∙ ap (λ (ys : List ℕ). front ++ ys) chunk in
    joined ∙ rw (rest, grown) refl

-- the seven bits of a half that the code reads
seven_of : (half j : ℕ) → j < 4 → take 7 (drop (7 * j) (bits 28 half)) ≡ bits 7 (bit_and (half / 2 ^ (21 - 7 * j)) 127)
seven_of half j h =
    let width : 7 * j + (7 + (21 - 7 * j)) ≡ 28 = omega arith in
    (rw width at (middle-bits (7 * j) 7 (21 - 7 * j) half)) ∙ sym (bits_masked 7 (half / 2 ^ (21 - 7 * j)))

length_halves : (c d : ℕ) → length (bits 28 c ++ bits 28 d) ≡ 56
length_halves c d = omega (arith, length-append (bits 28 c) (bits 28 d), length-bits 28 c, length-bits 28 d)

pub c_step : (c d word j : ℕ) → j < 4
    → kept_key word ≡ front_chosen (7 * j) (bits 28 c ++ bits 28 d)
    → kept_key (bit_xor word (c_entry j (bit_and (c / 2 ^ (21 - 7 * j)) 127))) ≡ front_chosen (7 * (j + 1)) (bits 28 c ++ bits 28 d)
c_step c d word j h held =
    let xs : List ℕ = bits 28 c ++ bits 28 d in
    let seven : ℕ = bit_and (c / 2 ^ (21 - 7 * j)) 127 in
    let given : kept_key (c_entry j seven) ≡ seven_chosen (7 * j) seven = c_entry_is j seven h (masked_seven (c / 2 ^ (21 - 7 * j))) in
    let behind : drop (7 * j) xs ≡ drop (7 * j) (bits 28 c) ++ bits 28 d = drop-append-le (7 * j) (bits 28 c) (bits 28 d) (omega (arith, length-bits 28 c)) in
    let first : take 7 (drop (7 * j) (bits 28 c) ++ bits 28 d) ≡ take 7 (drop (7 * j) (bits 28 c)) =
    take-append-le 7 (drop (7 * j) (bits 28 c)) (bits 28 d) (omega (arith, length-drop (7 * j) (bits 28 c), length-bits 28 c)) in
    let chunk : take 7 (drop (7 * j) xs) ≡ bits 7 seven = ap (take 7) behind ∙ first ∙ seven_of c j h in
    let more : 7 * (j + 1) ≡ 7 * j + 7 = omega arith in
    rw more (seven_more xs word (c_entry j seven) (7 * j) seven (length_halves c d) (omega arith) held chunk given)

pub d_step : (c d word j : ℕ) → j < 4
    → kept_key word ≡ front_chosen (28 + 7 * j) (bits 28 c ++ bits 28 d)
    → kept_key (bit_xor word (d_entry j (bit_and (d / 2 ^ (21 - 7 * j)) 127))) ≡ front_chosen (28 + 7 * (j + 1)) (bits 28 c ++ bits 28 d)
d_step c d word j h held =
    let xs : List ℕ = bits 28 c ++ bits 28 d in
    let seven : ℕ = bit_and (d / 2 ^ (21 - 7 * j)) 127 in
    let given : kept_key (d_entry j seven) ≡ seven_chosen (28 + 7 * j) seven = d_entry_is j seven h (masked_seven (d / 2 ^ (21 - 7 * j))) in
    let behind : drop (28 + 7 * j) xs ≡ drop (7 * j) (bits 28 d) = rw (length-bits 28 c) at (drop-append-add (bits 28 c) (bits 28 d) (7 * j)) in
    let chunk : take 7 (drop (28 + 7 * j) xs) ≡ bits 7 seven = ap (take 7) behind ∙ seven_of d j h in
    let more : 28 + 7 * (j + 1) ≡ 28 + 7 * j + 7 = omega arith in
    rw more (seven_more xs word (d_entry j seven) (28 + 7 * j) seven (length_halves c d) (omega arith) held chunk given)

pub all_chosen : (c d count : ℕ) → 56 ≤ count → front_chosen count (bits 28 c ++ bits 28 d) ≡ pick permuted_choice_2 (bits 28 c ++ bits 28 d)
all_chosen c d count h =
    let xs : List ℕ = bits 28 c ++ bits 28 d in
    let none : 56 - count ≡ 0 = omega arith in
    let all : take count xs ≡ xs = take_all count xs (omega (arith, length_halves c d)) in
    ap (pick permuted_choice_2) (rw (none, all) (append-nil xs))

-- ---- PC-1 from the octets of IP
joined_rows : (a b e f : ℕ) → a < 2 ^ 8 → b < 2 ^ 8 → e < 2 ^ 8 → f < 2 ^ 4
    → bits 28 (bit_or (bit_or (bit_or (a * 2 ^ 8 % 2 ^ 64) b * 2 ^ 8 % 2 ^ 64) e * 2 ^ 4 % 2 ^ 64) f) ≡ ((bits 8 a ++ bits 8 b) ++ bits 8 e) ++ bits 4 f
joined_rows a b e f ha hb he hf =
    let two : ℕ = bit_or (a * 2 ^ 8 % 2 ^ 64) b in
    let two_is : bits 16 two ≡ bits 8 a ++ bits 8 b = bits_or 64 8 8 a b (omega arith) ha hb in
    let two_small : two < 2 ^ 16 = or_joined_small 64 8 8 a b (omega arith) ha hb in
    let three : ℕ = bit_or (two * 2 ^ 8 % 2 ^ 64) e in
    let three_is : bits 24 three ≡ bits 16 two ++ bits 8 e = bits_or 64 16 8 two e (omega arith) two_small he in
    let three_small : three < 2 ^ 24 = or_joined_small 64 16 8 two e (omega arith) two_small he in
    let four_is : bits 28 (bit_or (three * 2 ^ 4 % 2 ^ 64) f) ≡ bits 24 three ++ bits 4 f = bits_or 64 24 4 three f (omega arith) three_small hf in
    four_is ∙ rw (three_is, two_is) refl

masked_small : (n k : ℕ) → bit_and n (2 ^ k - 1) < 2 ^ k
masked_small n k = rw (and_mask n k) (mod_below n (2 ^ k) (pow_pos k))

-- some bits of the row that stands at a place
row : (rows a w b : ℕ) → a + (w + b) ≡ 64 → bits w (bit_and (rows / 2 ^ b) (2 ^ w - 1)) ≡ take w (drop a (bits 64 rows))
row rows a w b e = bits_masked w (rows / 2 ^ b) ∙ rw e at (sym (middle-bits a w b rows))

pub chosen_c : (rows : ℕ) (key : List ℕ) → rows < 2 ^ 64 → bits 64 rows ≡ pick initial_permutation key
    → bits 28 (bit_or (bit_or (bit_or (bit_and (rows / 2 ^ 24) 255 * 2 ^ 8 % 2 ^ 64) (rows / 2 ^ 56) * 2 ^ 8 % 2 ^ 64) (bit_and (rows / 2 ^ 16) 255) * 2 ^ 4 % 2 ^ 64) (bit_and (rows / 2 ^ 52) 15))
    ≡ take 28 (pick permuted_choice_1 key)
unfolding pick
chosen_c rows key small e =
    let joined = joined_rows (bit_and (rows / 2 ^ 24) 255) (rows / 2 ^ 56) (bit_and (rows / 2 ^ 16) 255) (bit_and (rows / 2 ^ 52) 15) (masked_small (rows / 2 ^ 24) 8) (shr_below rows 8 56 small) (masked_small (rows / 2 ^ 16) 8) (masked_small (rows / 2 ^ 52) 4) in
    let first : bits 8 (rows / 2 ^ 56) ≡ take 8 (bits 64 rows) = sym (take-bits 8 56 rows) in
    joined ∙ rw (row rows 32 8 24 refl, first, row rows 40 8 16 refl, row rows 8 4 52 refl, e) refl

pub chosen_d : (rows : ℕ) (key : List ℕ) → rows < 2 ^ 64 → bits 64 rows ≡ pick initial_permutation key
    → bits 28 (bit_or (bit_or (bit_or (bit_and rows 255 * 2 ^ 8 % 2 ^ 64) (bit_and (rows / 2 ^ 40) 255) * 2 ^ 8 % 2 ^ 64) (bit_and (rows / 2 ^ 8) 255) * 2 ^ 4 % 2 ^ 64) (bit_and (rows / 2 ^ 48) 15))
    ≡ drop 28 (pick permuted_choice_1 key)
unfolding pick
chosen_d rows key small e =
    let joined = joined_rows (bit_and rows 255) (bit_and (rows / 2 ^ 40) 255) (bit_and (rows / 2 ^ 8) 255) (bit_and (rows / 2 ^ 48) 15) (masked_small rows 8) (masked_small (rows / 2 ^ 40) 8) (masked_small (rows / 2 ^ 8) 8) (masked_small (rows / 2 ^ 48) 4) in
    let last : bits 8 (bit_and rows 255) ≡ drop 56 (bits 64 rows) = bits_masked 8 rows ∙ sym (drop-bits 56 8 rows) in
    joined ∙ rw (last, row rows 16 8 40 refl, row rows 48 8 8 refl, row rows 12 4 48 refl, e) refl
