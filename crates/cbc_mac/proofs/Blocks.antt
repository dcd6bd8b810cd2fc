-- The blocks of the padded text, as they are read from the text itself.
use Rattle.std.proofs.Common.{◌≡◌, ℕ, zero, suc, ◌+◌, ◌-◌, ◌*◌, ◌/◌, ◌%◌, ◌^◌, ◌<◌, ◌≤◌, List, [], ◌++◌, length, take, drop, get_or, map, refl, sym, ap, ◌∙◌, arith, inl, inr}
use Rattle.std.specs.Prelude.{replicate, slice_index_or, min}
use Rattle.std.specs.List.{range_with_len, flat_map}
use Rattle.std.specs.Simd.{first_chunks}
use Rattle.std.proofs.lemmas.List.{length-append, length-replicate, length-drop, drop-append-le, take-append-le, append_assoc, replicate-append-replicate, drop-replicate, take_all, length-take, length-take-le, take-take, drop-take, drop-drop, ext_get_or, get_or-take, get_or-drop, get_or_past, get_or-replicate, get_or_append_left, get_or-append_right}
use Rattle.std.proofs.lemmas.Bool.{cases_lt}
use Rattle.std.proofs.lemmas.List.FromFn.{get_or-map-range_with_len, length-map-range_with_len}
use Rattle.bit_lists.specs.Bits.{bits}
use Rattle.cbc_mac.specs.Mac.{padded, blocks}

length-padded : (text : List ℕ) → length (padded text) ≡ length text + (8 - length text % 8) % 8
length-padded text = omega (arith, length-append text (replicate ((8 - length text % 8) % 8) 0), length-replicate {A = ℕ} ((8 - length text % 8) % 8) 0)

-- as many blocks as the length divided by eight and rounded up
pub length-blocks : (text : List ℕ) → length (blocks (padded text)) ≡ length text / 8 + min 1 (length text % 8)
unfolding blocks
length-blocks text =
    let count = length-map-range_with_len (λ n. flat_map (bits 8) (take 8 (drop (8 * n) (padded text)))) 0 (length (padded text) / 8) in
    count ∙ omega (arith, length-padded text)

-- zeros up to a block, or a block of zeros: the first eight octets are the same
front_padded : (xs : List ℕ) (n : ℕ) → n ≤ 8 → 8 ≤ length xs + n → take 8 (xs ++ replicate n 0) ≡ take 8 (xs ++ replicate 8 0)
front_padded xs n few enough =
    let eight : n + (8 - n) ≡ 8 = omega arith in
    let joined : replicate {A = ℕ} n 0 ++ replicate (8 - n) 0 ≡ replicate (n + (8 - n)) 0 = replicate-append-replicate {A = ℕ} n (8 - n) 0 in
    let whole : replicate {A = ℕ} n 0 ++ replicate (8 - n) 0 ≡ replicate 8 0 = joined ∙ ap (λ k. replicate {A = ℕ} k 0) eight in
    let long : 8 ≤ length (xs ++ replicate n 0) = omega (arith, length-append xs (replicate n 0), length-replicate {A = ℕ} n 0) in
    let cut : take 8 (xs ++ replicate n 0 ++ replicate (8 - n) 0) ≡ take 8 (xs ++ replicate n 0) = take-append-le 8 (xs ++ replicate n 0) (replicate (8 - n) 0) long in
    sym cut ∙ ap (take 8) (append_assoc xs (replicate n 0) (replicate (8 - n) 0)) ∙ ap (λ (ys : List ℕ). take 8 (xs ++ ys)) whole

pub block_is : (text : List ℕ) (i : ℕ) → 8 * i < length text
    → slice_index_or (blocks (padded text)) i [] ≡ flat_map (bits 8) (take 8 (drop (8 * i) text ++ replicate 8 0))
unfolding blocks
block_is text i h =
    let short : ℕ = (8 - length text % 8) % 8 in
    let size = length-padded text in
    let at : get_or (map (λ n. flat_map (bits 8) (take 8 (drop (8 * n) (padded text)))) (range_with_len 0 (length (padded text) / 8))) i [] ≡ flat_map (bits 8) (take 8 (drop (8 * i) (padded text))) =
    get_or-map-range_with_len (λ n. flat_map (bits 8) (take 8 (drop (8 * n) (padded text)))) 0 (length (padded text) / 8) i i [] (omega arith) (omega arith) in
    let cut : drop (8 * i) (padded text) ≡ drop (8 * i) text ++ replicate short 0 = drop-append-le (8 * i) text (replicate short 0) (omega arith) in
    let front : take 8 (drop (8 * i) text ++ replicate short 0) ≡ take 8 (drop (8 * i) text ++ replicate 8 0) =
    front_padded (drop (8 * i) text) short (omega arith) (omega (arith, length-drop (8 * i) text)) in
    at ∙ ap (λ (xs : List ℕ). flat_map (bits 8) (take 8 xs)) cut ∙ ap (flat_map (bits 8)) front

-- a whole block is eight octets of the text
pub whole_block_is : (text : List ℕ) (i : ℕ) → 8 * i + 8 ≤ length text
    → slice_index_or (blocks (padded text)) i [] ≡ flat_map (bits 8) (take 8 (drop (8 * i) text))
whole_block_is text i h =
    block_is text i (omega arith)
    ∙ ap (flat_map (bits 8)) (take-append-le 8 (drop (8 * i) text) (replicate 8 0) (omega (arith, length-drop (8 * i) text)))

-- the blocks of a front are the front of the blocks
pub front_blocks : (text : List ℕ) (count : ℕ) → 8 * count ≤ length text → blocks (take (8 * count) text) ≡ take count (blocks (padded text))
unfolding blocks
front_blocks text count fits =
    let front : List ℕ = take (8 * count) text in
    let size : length front ≡ 8 * count = length-take-le (8 * count) text fits in
    let few : length front / 8 ≡ count = omega arith in
    let block : ℕ → List ℕ = λ n. flat_map (bits 8) (take 8 (drop (8 * n) front)) in
    let whole : List (List ℕ) = blocks (padded text) in
    let left : length (map block (range_with_len 0 (length front / 8))) ≡ count = length-map-range_with_len block 0 (length front / 8) ∙ few in
    let right : length (take count whole) ≡ count = length-take-le count whole (omega (arith, length-blocks text)) in
    ext_get_or [] (map block (range_with_len 0 (length front / 8))) (take count whole) (left ∙ sym right)
    (λ i lt.
    let within : i < count = omega arith in
    let rest : ℕ = 8 * count - 8 * i in
    let joined : 8 * i + rest ≡ 8 * count = omega arith in
    let cut : drop (8 * i) front ≡ take rest (drop (8 * i) text) = rw joined at (drop-take (8 * i) rest text) in
    let eight : take 8 (take rest (drop (8 * i) text)) ≡ take 8 (drop (8 * i) text) = take-take 8 rest (drop (8 * i) text) (omega arith) in
    let at : get_or (map block (range_with_len 0 (length front / 8))) i [] ≡ flat_map (bits 8) (take 8 (drop (8 * i) front)) =
    get_or-map-range_with_len block 0 (length front / 8) i i [] (omega arith) (omega arith) in
    at ∙ ap (λ (xs : List ℕ). flat_map (bits 8) (take 8 xs)) cut ∙ ap (flat_map (bits 8)) eight
    ∙ sym (get_or-take count whole i [] within ∙ whole_block_is text i (omega arith)))

-- eight octets at a time, block by block
pub get_or-first_chunks : (count : ℕ) (text : List ℕ) (i : ℕ) → i < count → get_or (first_chunks 8 count text) i [] ≡ take 8 (drop (8 * i) text)
get_or-first_chunks zero text i h = absurd (omega arith)
get_or-first_chunks (suc count) text zero h = refl
get_or-first_chunks (suc count) text (suc i) h =
    let more : 8 * suc i ≡ 8 + 8 * i = omega arith in
    rw (more, ← drop-drop (8 * i) 8 text) (get_or-first_chunks count (drop 8 text) i (omega arith))

-- a block of a text's whole blocks
pub get_or-blocks : (text : List ℕ) (i : ℕ) → i < length text / 8 → slice_index_or (blocks text) i [] ≡ flat_map (bits 8) (take 8 (drop (8 * i) text))
unfolding blocks
get_or-blocks text i h = get_or-map-range_with_len (λ n. flat_map (bits 8) (take 8 (drop (8 * n) text))) 0 (length text / 8) i i [] h (omega arith)

pub length-whole_blocks : (text : List ℕ) → length (blocks text) ≡ length text / 8
unfolding blocks
length-whole_blocks text = length-map-range_with_len (λ n. flat_map (bits 8) (take 8 (drop (8 * n) text))) 0 (length text / 8)

-- ---- octets
-- what is copied over zeros: up to eight octets
pub front_is : (rest : List ℕ) → length rest ≤ 8 → rest ++ drop (length rest) (replicate 8 0) ≡ take 8 (rest ++ replicate 8 0)
front_is rest short =
    let zeros : drop (length rest) (replicate {A = ℕ} 8 0) ≡ replicate (8 - length rest) 0 = drop-replicate (length rest) 8 0 in
    let size : length (rest ++ replicate (8 - length rest) 0) ≡ 8 = omega (arith, length-append rest (replicate (8 - length rest) 0), length-replicate {A = ℕ} (8 - length rest) 0) in
    let whole : take 8 (rest ++ replicate (8 - length rest) 0) ≡ rest ++ replicate (8 - length rest) 0 = take_all 8 (rest ++ replicate (8 - length rest) 0) (omega arith) in
    rw zeros (sym whole ∙ front_padded rest (8 - length rest) (omega arith) (omega arith))

-- the first eight of a text's octets from some place on, with zeros behind, are eight octets
pub length-front : (xs : List ℕ) → length (take 8 (xs ++ replicate 8 0)) ≡ 8
length-front xs = length-take-le 8 (xs ++ replicate 8 0) (omega (arith, length-append xs (replicate 8 0)))

pub octet-front : (xs : List ℕ) → ((i : ℕ) → get_or xs i 0 < 2 ^ 8) → (i : ℕ) → get_or (take 8 (xs ++ replicate 8 0)) i 0 < 2 ^ 8
octet-front xs h i =
    let zeros : List ℕ = replicate 8 0 in
    let zero_octet : (k : ℕ) → get_or zeros k 0 ≡ 0 = λ k.
    elim (cases_lt k 8) [
      | inl low ↦ get_or-replicate {A = ℕ} 8 k 0 0 low
      | inr high ↦ get_or_past zeros k 0 high
    ] in
    elim (cases_lt i 8) [
      | inl low ↦
          rw (get_or-take 8 (xs ++ zeros) i 0 low)
          (elim (cases_lt i (length xs)) [
            | inl inside ↦ rw (get_or_append_left xs zeros 0 i inside) (h i)
            | inr behind ↦ rw (get_or-append_right xs zeros (length xs) i 0 refl behind, zero_octet (i - length xs)) (omega arith)
          ])
      | inr high ↦ rw (get_or_past (take 8 (xs ++ zeros)) i 0 (omega (arith, length-front xs))) (omega arith)
    ]

pub octet-drop : (text : List ℕ) (n : ℕ) → ((i : ℕ) → get_or text i 0 < 2 ^ 8) → (i : ℕ) → get_or (drop n text) i 0 < 2 ^ 8
octet-drop text n h i = rw (get_or-drop n text i 0) (h (n + i))

pub octet-take : (xs : List ℕ) (n : ℕ) → ((i : ℕ) → get_or xs i 0 < 2 ^ 8) → (i : ℕ) → get_or (take n xs) i 0 < 2 ^ 8
octet-take xs n h i =
    elim (cases_lt i n) [
      | inl low ↦ rw (get_or-take n xs i 0 low) (h i)
      | inr high ↦ rw (get_or_past (take n xs) i 0 (omega (arith, length-take n xs))) (omega arith)
    ]
