-- The cipher function with the boxes and P joined.
use Rattle.std.proofs.Common.{◌≡◌, ℕ, ◌+◌, ◌-◌, ◌*◌, ◌/◌, ◌%◌, ◌^◌, ◌<◌, ◌≤◌, List, [], ◌∷◌, ◌++◌, length, take, drop, refl, sym, ap, ◌∙◌, arith}
use Rattle.std.specs.Prelude.{bit_and, bit_or, bit_xor, min, replicate}
use Rattle.std.specs.List.{range_with_len}
use Rattle.std.specs.Int.{bit_at, rotate_left, w32}
use Rattle.std.specs.Int.Bits.{xor_assoc, xor_disjoint}
use Rattle.std.proofs.lemmas.Nat.Bits.{bit_at_and, bit_at-zero, same_from_bits}
use Rattle.std.proofs.lemmas.Nat.{or_disjoint, and_mask, shr-shr, shl-shr, shl_whole, xor_shr, field_of, mod_below, mod_low, mod-pow-add, shr_below, pow_pos}
use Rattle.std.proofs.lemmas.List.{append_assoc, length-append}
use Rattle.bit_lists.specs.Bits.{bits, number, pick, xor, left_shift}
use Rattle.bit_lists.proofs.Widths.{length-bits, bits_low, middle-bits, take-bits, drop-bits, bits_or}
use Rattle.bit_lists.proofs.Xors.{bits-xor}
use Rattle.bit_lists.proofs.Picks.{pick-take, pick-drop, pick-append, pick_all}
use Rattle.bit_lists.proofs.Linear.{carries-bits, chunk_joined}
use Rattle.des_block.specs.Boxes.{box_1, box_2, box_3, box_4, box_5, box_6, box_7, box_8}
use Rattle.des_block.specs.Tables.{permutation}
use Rattle.des_block.specs.Des.{cipher_function, substituted, box_output}
use Rattle.des_block.specs.Representation.{kept_key, spread_places}
use Rattle.des_block.proofs.JoinedBoxes.{spread_output}

-- what eight boxes give, spread by a table, from what each gives alone
four_more : (t front chunk : List ℕ) (out entry a b : ℕ) → length front ≡ a → length chunk ≡ 4
    → bits 32 out ≡ pick t (front ++ replicate (4 + b) 0) → bits 32 entry ≡ pick t (replicate a 0 ++ (chunk ++ replicate b 0))
    → bits 32 (bit_xor out entry) ≡ pick t ((front ++ chunk) ++ replicate b 0)
four_more t front chunk out entry a b size_front size_chunk held given =
    chunk_joined (bits 32) (carries-bits 32) t front chunk out entry a 4 b size_front size_chunk held given

length_four : (front chunk : List ℕ) (a : ℕ) → length front ≡ a → length chunk ≡ 4 → length (front ++ chunk) ≡ a + 4
length_four front chunk a hf hc = omega (arith, length-append front chunk)

pub eight_joined : (t : List ℕ) (e1 e2 e3 e4 e5 e6 e7 e8 : ℕ) (o1 o2 o3 o4 o5 o6 o7 o8 : List ℕ)
    → length o1 ≡ 4 → length o2 ≡ 4 → length o3 ≡ 4 → length o4 ≡ 4 → length o5 ≡ 4 → length o6 ≡ 4 → length o7 ≡ 4 → length o8 ≡ 4
    → bits 32 e1 ≡ pick t (o1 ++ replicate 28 0)
    → bits 32 e2 ≡ pick t (replicate 4 0 ++ (o2 ++ replicate 24 0))
    → bits 32 e3 ≡ pick t (replicate 8 0 ++ (o3 ++ replicate 20 0))
    → bits 32 e4 ≡ pick t (replicate 12 0 ++ (o4 ++ replicate 16 0))
    → bits 32 e5 ≡ pick t (replicate 16 0 ++ (o5 ++ replicate 12 0))
    → bits 32 e6 ≡ pick t (replicate 20 0 ++ (o6 ++ replicate 8 0))
    → bits 32 e7 ≡ pick t (replicate 24 0 ++ (o7 ++ replicate 4 0))
    → bits 32 e8 ≡ pick t (replicate 28 0 ++ (o8 ++ []))
    → bits 32 (bit_xor (bit_xor (bit_xor (bit_xor (bit_xor (bit_xor (bit_xor e1 e2) e3) e4) e5) e6) e7) e8)
    ≡ pick t (o1 ++ (o2 ++ (o3 ++ (o4 ++ (o5 ++ (o6 ++ (o7 ++ (o8 ++ []))))))))
eight_joined t e1 e2 e3 e4 e5 e6 e7 e8 o1 o2 o3 o4 o5 o6 o7 o8 h1 h2 h3 h4 h5 h6 h7 h8 g1 g2 g3 g4 g5 g6 g7 g8 =
    let f2 : List ℕ = o1 ++ o2 in
    let l2 : length f2 ≡ 8 = length_four o1 o2 4 h1 h2 in
    let f3 : List ℕ = f2 ++ o3 in
    let l3 : length f3 ≡ 12 = length_four f2 o3 8 l2 h3 in
    let f4 : List ℕ = f3 ++ o4 in
    let l4 : length f4 ≡ 16 = length_four f3 o4 12 l3 h4 in
    let f5 : List ℕ = f4 ++ o5 in
    let l5 : length f5 ≡ 20 = length_four f4 o5 16 l4 h5 in
    let f6 : List ℕ = f5 ++ o6 in
    let l6 : length f6 ≡ 24 = length_four f5 o6 20 l5 h6 in
    let f7 : List ℕ = f6 ++ o7 in
    let l7 : length f7 ≡ 28 = length_four f6 o7 24 l6 h7 in
    let x2 : ℕ = bit_xor e1 e2 in
    let s2 : bits 32 x2 ≡ pick t (f2 ++ replicate 24 0) = four_more t o1 o2 e1 e2 4 24 h1 h2 g1 g2 in
    let x3 : ℕ = bit_xor x2 e3 in
    let s3 : bits 32 x3 ≡ pick t (f3 ++ replicate 20 0) = four_more t f2 o3 x2 e3 8 20 l2 h3 s2 g3 in
    let x4 : ℕ = bit_xor x3 e4 in
    let s4 : bits 32 x4 ≡ pick t (f4 ++ replicate 16 0) = four_more t f3 o4 x3 e4 12 16 l3 h4 s3 g4 in
    let x5 : ℕ = bit_xor x4 e5 in
    let s5 : bits 32 x5 ≡ pick t (f5 ++ replicate 12 0) = four_more t f4 o5 x4 e5 16 12 l4 h5 s4 g5 in
    let x6 : ℕ = bit_xor x5 e6 in
    let s6 : bits 32 x6 ≡ pick t (f6 ++ replicate 8 0) = four_more t f5 o6 x5 e6 20 8 l5 h6 s5 g6 in
    let x7 : ℕ = bit_xor x6 e7 in
    let s7 : bits 32 x7 ≡ pick t (f7 ++ replicate 4 0) = four_more t f6 o7 x6 e7 24 4 l6 h7 s6 g7 in
    let s8 : bits 32 (bit_xor x7 e8) ≡ pick t ((f7 ++ o8) ++ []) = four_more t f7 o8 x7 e8 28 0 l7 h8 s7 g8 in
    s8 ∙ ap (pick t) (simp append_assoc)

-- ---- the groups of six bits that E makes, in the turned half
-- a shift to the left loses the upper bits
shifted_over : (n j k : ℕ) → j + k ≡ 32 → n * 2 ^ k % 2 ^ 32 ≡ (n % 2 ^ j) * 2 ^ k % 2 ^ 32
shifted_over n j k e =
    let positive = pow_pos k in
    let zero_more : n * 2 ^ k + 0 ≡ n * 2 ^ k = omega arith in
    let none : n * 2 ^ k % 2 ^ k ≡ 0 = rw zero_more at (mod_low n k 0 positive) in
    let back : n * 2 ^ k / 2 ^ k ≡ n = shl-shr n k in
    let cut : n * 2 ^ k % 2 ^ 32 ≡ (n * 2 ^ k / 2 ^ k % 2 ^ j) * 2 ^ k + n * 2 ^ k % 2 ^ k = rw e at (mod-pow-add (n * 2 ^ k) j k) in
    let low : n % 2 ^ j < 2 ^ j = mod_below n (2 ^ j) (pow_pos j) in
    let whole : (n % 2 ^ j) * 2 ^ k % 2 ^ 32 ≡ (n % 2 ^ j) * 2 ^ k = shl_whole (n % 2 ^ j) j k 32 low (omega arith) in
    rw (cut, none, back, whole) (omega arith)

pub bits-rotate_left : (n k : ℕ) → 0 < k → k < 32 → n < 2 ^ 32 → bits 32 (rotate_left w32 n k) ≡ left_shift k (bits 32 n)
bits-rotate_left n k some few small =
    let by : k % 32 ≡ k = omega arith in
    let other : (32 - k) % 32 ≡ 32 - k = omega arith in
    let width : k + (32 - k) ≡ 32 = omega arith in
    let turned : 32 - k + k ≡ 32 = omega arith in
    let top : n / 2 ^ (32 - k) < 2 ^ k = shr_below n k (32 - k) (rw width small) in
    let low : n % 2 ^ (32 - k) < 2 ^ (32 - k) = mod_below n (2 ^ (32 - k)) (pow_pos (32 - k)) in
    let kept : n * 2 ^ k % 2 ^ 32 ≡ (n % 2 ^ (32 - k)) * 2 ^ k % 2 ^ 32 = shifted_over n (32 - k) k (omega arith) in
    let joined : bits (32 - k + k) (bit_or ((n % 2 ^ (32 - k)) * 2 ^ k % 2 ^ 32) (n / 2 ^ (32 - k))) ≡ bits (32 - k) (n % 2 ^ (32 - k)) ++ bits k (n / 2 ^ (32 - k)) =
    bits_or 32 (32 - k) k (n % 2 ^ (32 - k)) (n / 2 ^ (32 - k)) (omega arith) low top in
    let whole = rw turned at joined in
    let first : bits (32 - k) (n % 2 ^ (32 - k)) ≡ drop k (bits 32 n) = bits_low (32 - k) (32 - k) n (omega arith) ∙ rw width at (sym (drop-bits k (32 - k) n)) in
    let second : bits k (n / 2 ^ (32 - k)) ≡ take k (bits 32 n) = rw width at (sym (take-bits k (32 - k) n)) in
    rw (by, other, kept) (whole ∙ rw (first, second) refl)

turned_group : (n from : ℕ) (places half : List ℕ) → length half ≡ 32 → take 6 (drop from (left_shift n (range_with_len 1 32))) ≡ places → take 6 (drop from (left_shift n half)) ≡ pick places half
turned_group n from places half size e =
    let all : List ℕ = range_with_len 1 32 in
    let whole : pick all half ≡ half = pick_all half 32 size in
    let cut : left_shift n (pick all half) ≡ pick (left_shift n all) half = rw (pick-drop n all half, pick-take n all half) (sym (pick-append (drop n all) (take n all) half)) in
    sym (ap (λ (xs : List ℕ). take 6 (drop from (left_shift n xs))) whole)
    ∙ ap (λ (xs : List ℕ). take 6 (drop from xs)) cut
    ∙ ap (take 6) (pick-drop from (left_shift n all) half)
    ∙ pick-take 6 (drop from (left_shift n all)) half
    ∙ ap (λ (t : List ℕ). pick t half) e

-- a group of the turned half with the key's group
group_bits : (turned key_word pos k : ℕ) (half places : List ℕ) (n from : ℕ) → length half ≡ 32 → from + (6 + pos) ≡ 32
    → bits 32 turned ≡ left_shift n half → take 6 (drop from (left_shift n (range_with_len 1 32))) ≡ places
    → bits 6 (key_word / 2 ^ pos) ≡ bits 6 k
    → bits 6 (bit_xor turned key_word / 2 ^ pos) ≡ xor (pick places half) (bits 6 k)
group_bits turned key_word pos k half places n from size fits e table same =
    let apart : bits 6 (bit_xor turned key_word / 2 ^ pos) ≡ xor (bits 6 (turned / 2 ^ pos)) (bits 6 (key_word / 2 ^ pos)) = ap (bits 6) (xor_shr turned key_word pos) ∙ bits-xor 6 (turned / 2 ^ pos) (key_word / 2 ^ pos) in
    let middle : take 6 (drop from (bits 32 turned)) ≡ bits 6 (turned / 2 ^ pos) = rw fits at (middle-bits from 6 pos turned) in
    let group : take 6 (drop from (left_shift n half)) ≡ pick places half = turned_group n from places half size table in
    apart ∙ rw (← middle, e, group, same) refl

-- the key's groups in the upper half of its word, and in the lower
upper_key : (key pos : ℕ) → bits 6 (key / 2 ^ 32 / 2 ^ pos) ≡ bits 6 (key / 2 ^ (32 + pos))
upper_key key pos = ap (bits 6) (shr-shr key 32 pos)

lower_key : (key pos j : ℕ) → j + pos ≡ 32 → 6 ≤ j → bits 6 (bit_and key (2 ^ 32 - 1) / 2 ^ pos) ≡ bits 6 (key / 2 ^ pos)
lower_key key pos j e h =
    let masked : bit_and key (2 ^ 32 - 1) ≡ key % 2 ^ 32 = and_mask key 32 in
    let field : key % 2 ^ 32 / 2 ^ pos ≡ key / 2 ^ pos % 2 ^ j = rw e at (field_of key j pos) in
    rw (masked, field) (bits_low 6 j (key / 2 ^ pos) h)

-- an octet's last six bits
low_octet : (n : ℕ) → bits 6 (bit_and n 255) ≡ bits 6 n
low_octet n =
    let masked : bit_and n (2 ^ 8 - 1) ≡ n % 2 ^ 8 = and_mask n 8 in
    rw masked (bits_low 6 8 n (omega arith))

-- words with bits at places of their own are joined by either operation
joined_apart : (a b m n : ℕ) → bit_and a m ≡ a → bit_and b n ≡ b → bit_and m n ≡ 0 → bit_or a b ≡ bit_xor a b
joined_apart a b m n ha hb none =
    let apart : bit_and a b ≡ 0 =
    same_from_bits (bit_and a b) 0
    (λ i.
    let both : bit_at (bit_and a b) i ≡ min (bit_at a i) (bit_at b i) = bit_at_and a b i in
    let first : bit_at a i ≡ min (bit_at a i) (bit_at m i) = sym (ap (λ x. bit_at x i) ha) ∙ bit_at_and a m i in
    let second : bit_at b i ≡ min (bit_at b i) (bit_at n i) = sym (ap (λ x. bit_at x i) hb) ∙ bit_at_and b n i in
    let neither : min (bit_at m i) (bit_at n i) ≡ 0 = sym (bit_at_and m n i) ∙ ap (λ x. bit_at x i) none ∙ bit_at-zero i in
    both ∙ omega arith ∙ sym (bit_at-zero i)) in
    or_disjoint a b apart ∙ sym (xor_disjoint a b apart)

apart_12 : bit_and (spread_places 0) (spread_places 1) ≡ 0
unfolding number pick
apart_12 = refl

apart_34 : bit_and (spread_places 2) (spread_places 3) ≡ 0
unfolding number pick
apart_34 = refl

apart_56 : bit_and (spread_places 4) (spread_places 5) ≡ 0
unfolding number pick
apart_56 = refl

apart_78 : bit_and (spread_places 6) (spread_places 7) ≡ 0
unfolding number pick
apart_78 = refl

-- the eight in pairs, as one after another
in_pairs : (e1 e2 e3 e4 e5 e6 e7 e8 : ℕ)
    → bit_and e1 (spread_places 0) ≡ e1 → bit_and e2 (spread_places 1) ≡ e2 → bit_and e3 (spread_places 2) ≡ e3 → bit_and e4 (spread_places 3) ≡ e4
    → bit_and e5 (spread_places 4) ≡ e5 → bit_and e6 (spread_places 5) ≡ e6 → bit_and e7 (spread_places 6) ≡ e7 → bit_and e8 (spread_places 7) ≡ e8
    → bit_xor (bit_xor (bit_xor (bit_or e1 e2) (bit_or e3 e4)) (bit_or e5 e6)) (bit_or e7 e8)
    ≡ bit_xor (bit_xor (bit_xor (bit_xor (bit_xor (bit_xor (bit_xor e1 e2) e3) e4) e5) e6) e7) e8
in_pairs e1 e2 e3 e4 e5 e6 e7 e8 p1 p2 p3 p4 p5 p6 p7 p8 =
    let a : bit_or e1 e2 ≡ bit_xor e1 e2 = joined_apart e1 e2 (spread_places 0) (spread_places 1) p1 p2 apart_12 in
    let b : bit_or e3 e4 ≡ bit_xor e3 e4 = joined_apart e3 e4 (spread_places 2) (spread_places 3) p3 p4 apart_34 in
    let c : bit_or e5 e6 ≡ bit_xor e5 e6 = joined_apart e5 e6 (spread_places 4) (spread_places 5) p5 p6 apart_56 in
    let d : bit_or e7 e8 ≡ bit_xor e7 e8 = joined_apart e7 e8 (spread_places 6) (spread_places 7) p7 p8 apart_78 in
    let two : ℕ = bit_xor e1 e2 in
    let four : bit_xor two (bit_xor e3 e4) ≡ bit_xor (bit_xor two e3) e4 = sym (xor_assoc two e3 e4) in
    let six : bit_xor (bit_xor (bit_xor two e3) e4) (bit_xor e5 e6) ≡ bit_xor (bit_xor (bit_xor (bit_xor two e3) e4) e5) e6 = sym (xor_assoc (bit_xor (bit_xor two e3) e4) e5 e6) in
    let eight : bit_xor (bit_xor (bit_xor (bit_xor (bit_xor two e3) e4) e5) e6) (bit_xor e7 e8) ≡ bit_xor (bit_xor (bit_xor (bit_xor (bit_xor (bit_xor two e3) e4) e5) e6) e7) e8 =
    sym (xor_assoc (bit_xor (bit_xor (bit_xor (bit_xor two e3) e4) e5) e6) e7 e8) in
    rw (a, b, c, d, four, six) eight

-- the groups make up what goes into the boxes
from_groups : (half : List ℕ) (key : ℕ)
    → pick permutation (box_output box_1 (xor (pick (32 ∷ 1 ∷ 2 ∷ 3 ∷ 4 ∷ 5 ∷ []) half) (bits 6 (key / 2 ^ 56)))
    ++ (box_output box_2 (xor (pick (4 ∷ 5 ∷ 6 ∷ 7 ∷ 8 ∷ 9 ∷ []) half) (bits 6 (key / 2 ^ 24)))
    ++ (box_output box_3 (xor (pick (8 ∷ 9 ∷ 10 ∷ 11 ∷ 12 ∷ 13 ∷ []) half) (bits 6 (key / 2 ^ 48)))
    ++ (box_output box_4 (xor (pick (12 ∷ 13 ∷ 14 ∷ 15 ∷ 16 ∷ 17 ∷ []) half) (bits 6 (key / 2 ^ 16)))
    ++ (box_output box_5 (xor (pick (16 ∷ 17 ∷ 18 ∷ 19 ∷ 20 ∷ 21 ∷ []) half) (bits 6 (key / 2 ^ 40)))
    ++ (box_output box_6 (xor (pick (20 ∷ 21 ∷ 22 ∷ 23 ∷ 24 ∷ 25 ∷ []) half) (bits 6 (key / 2 ^ 8)))
    ++ (box_output box_7 (xor (pick (24 ∷ 25 ∷ 26 ∷ 27 ∷ 28 ∷ 29 ∷ []) half) (bits 6 (key / 2 ^ 32)))
    ++ (box_output box_8 (xor (pick (28 ∷ 29 ∷ 30 ∷ 31 ∷ 32 ∷ 1 ∷ []) half) (bits 6 (key / 2 ^ 0))) ++ []))))))))
    ≡ cipher_function half (kept_key key)
unfolding cipher_function substituted kept_key bits xor pick
from_groups half key = refl

length_output : (box six : List ℕ) → length (box_output box six) ≡ 4
unfolding box_output
length_output box six = length-bits 4 _

pub joined_function : (key odd even e1 e2 e3 e4 e5 e6 e7 e8 : ℕ) (half : List ℕ) → length half ≡ 32
    → bits 32 odd ≡ left_shift 29 half → bits 32 even ≡ left_shift 1 half
    → bits 32 e1 ≡ spread_output 0 (bit_xor odd (key / 2 ^ 32) / 2 ^ 24)
    → bits 32 e2 ≡ spread_output 1 (bit_xor even (bit_and key (2 ^ 32 - 1)) / 2 ^ 24)
    → bits 32 e3 ≡ spread_output 2 (bit_and (bit_xor odd (key / 2 ^ 32) / 2 ^ 16) 255)
    → bits 32 e4 ≡ spread_output 3 (bit_and (bit_xor even (bit_and key (2 ^ 32 - 1)) / 2 ^ 16) 255)
    → bits 32 e5 ≡ spread_output 4 (bit_and (bit_xor odd (key / 2 ^ 32) / 2 ^ 8) 255)
    → bits 32 e6 ≡ spread_output 5 (bit_and (bit_xor even (bit_and key (2 ^ 32 - 1)) / 2 ^ 8) 255)
    → bits 32 e7 ≡ spread_output 6 (bit_and (bit_xor odd (key / 2 ^ 32)) 255)
    → bits 32 e8 ≡ spread_output 7 (bit_and (bit_xor even (bit_and key (2 ^ 32 - 1))) 255)
    → bit_and e1 (spread_places 0) ≡ e1 → bit_and e2 (spread_places 1) ≡ e2 → bit_and e3 (spread_places 2) ≡ e3 → bit_and e4 (spread_places 3) ≡ e4
    → bit_and e5 (spread_places 4) ≡ e5 → bit_and e6 (spread_places 5) ≡ e6 → bit_and e7 (spread_places 6) ≡ e7 → bit_and e8 (spread_places 7) ≡ e8
    → bits 32 (bit_xor (bit_xor (bit_xor (bit_or e1 e2) (bit_or e3 e4)) (bit_or e5 e6)) (bit_or e7 e8)) ≡ cipher_function half (kept_key key)
joined_function key odd even e1 e2 e3 e4 e5 e6 e7 e8 half size turned_odd turned_even g1 g2 g3 g4 g5 g6 g7 g8 p1 p2 p3 p4 p5 p6 p7 p8 =
    let upper : ℕ = bit_xor odd (key / 2 ^ 32) in
    let lower : ℕ = bit_xor even (bit_and key (2 ^ 32 - 1)) in
    let upper_whole : upper / 2 ^ 0 ≡ upper = omega arith in
    let lower_whole : lower / 2 ^ 0 ≡ lower = omega arith in
    let k1 : bits 6 (upper / 2 ^ 24) ≡ xor (pick (32 ∷ 1 ∷ 2 ∷ 3 ∷ 4 ∷ 5 ∷ []) half) (bits 6 (key / 2 ^ 56)) =
    group_bits odd (key / 2 ^ 32) 24 (key / 2 ^ 56) half (32 ∷ 1 ∷ 2 ∷ 3 ∷ 4 ∷ 5 ∷ []) 29 2 size refl turned_odd refl (upper_key key 24) in
    let k2 : bits 6 (lower / 2 ^ 24) ≡ xor (pick (4 ∷ 5 ∷ 6 ∷ 7 ∷ 8 ∷ 9 ∷ []) half) (bits 6 (key / 2 ^ 24)) =
    group_bits even (bit_and key (2 ^ 32 - 1)) 24 (key / 2 ^ 24) half (4 ∷ 5 ∷ 6 ∷ 7 ∷ 8 ∷ 9 ∷ []) 1 2 size refl turned_even refl (lower_key key 24 8 refl (omega arith)) in
    let k3 : bits 6 (bit_and (upper / 2 ^ 16) 255) ≡ xor (pick (8 ∷ 9 ∷ 10 ∷ 11 ∷ 12 ∷ 13 ∷ []) half) (bits 6 (key / 2 ^ 48)) =
    low_octet (upper / 2 ^ 16) ∙ group_bits odd (key / 2 ^ 32) 16 (key / 2 ^ 48) half (8 ∷ 9 ∷ 10 ∷ 11 ∷ 12 ∷ 13 ∷ []) 29 10 size refl turned_odd refl (upper_key key 16) in
    let k4 : bits 6 (bit_and (lower / 2 ^ 16) 255) ≡ xor (pick (12 ∷ 13 ∷ 14 ∷ 15 ∷ 16 ∷ 17 ∷ []) half) (bits 6 (key / 2 ^ 16)) =
    low_octet (lower / 2 ^ 16) ∙ group_bits even (bit_and key (2 ^ 32 - 1)) 16 (key / 2 ^ 16) half (12 ∷ 13 ∷ 14 ∷ 15 ∷ 16 ∷ 17 ∷ []) 1 10 size refl turned_even refl (lower_key key 16 16 refl (omega arith)) in
    let k5 : bits 6 (bit_and (upper / 2 ^ 8) 255) ≡ xor (pick (16 ∷ 17 ∷ 18 ∷ 19 ∷ 20 ∷ 21 ∷ []) half) (bits 6 (key / 2 ^ 40)) =
    low_octet (upper / 2 ^ 8) ∙ group_bits odd (key / 2 ^ 32) 8 (key / 2 ^ 40) half (16 ∷ 17 ∷ 18 ∷ 19 ∷ 20 ∷ 21 ∷ []) 29 18 size refl turned_odd refl (upper_key key 8) in
    let k6 : bits 6 (bit_and (lower / 2 ^ 8) 255) ≡ xor (pick (20 ∷ 21 ∷ 22 ∷ 23 ∷ 24 ∷ 25 ∷ []) half) (bits 6 (key / 2 ^ 8)) =
    low_octet (lower / 2 ^ 8) ∙ group_bits even (bit_and key (2 ^ 32 - 1)) 8 (key / 2 ^ 8) half (20 ∷ 21 ∷ 22 ∷ 23 ∷ 24 ∷ 25 ∷ []) 1 18 size refl turned_even refl (lower_key key 8 24 refl (omega arith)) in
    let k7 : bits 6 (upper / 2 ^ 0) ≡ xor (pick (24 ∷ 25 ∷ 26 ∷ 27 ∷ 28 ∷ 29 ∷ []) half) (bits 6 (key / 2 ^ 32)) =
    group_bits odd (key / 2 ^ 32) 0 (key / 2 ^ 32) half (24 ∷ 25 ∷ 26 ∷ 27 ∷ 28 ∷ 29 ∷ []) 29 26 size refl turned_odd refl (upper_key key 0) in
    let k8 : bits 6 (lower / 2 ^ 0) ≡ xor (pick (28 ∷ 29 ∷ 30 ∷ 31 ∷ 32 ∷ 1 ∷ []) half) (bits 6 (key / 2 ^ 0)) =
    group_bits even (bit_and key (2 ^ 32 - 1)) 0 (key / 2 ^ 0) half (28 ∷ 29 ∷ 30 ∷ 31 ∷ 32 ∷ 1 ∷ []) 1 26 size refl turned_even refl (lower_key key 0 32 refl (omega arith)) in
    let last_upper : bits 6 (bit_and upper 255) ≡ xor (pick (24 ∷ 25 ∷ 26 ∷ 27 ∷ 28 ∷ 29 ∷ []) half) (bits 6 (key / 2 ^ 32)) = low_octet upper ∙ rw upper_whole at k7 in
    let last_lower : bits 6 (bit_and lower 255) ≡ xor (pick (28 ∷ 29 ∷ 30 ∷ 31 ∷ 32 ∷ 1 ∷ []) half) (bits 6 (key / 2 ^ 0)) = low_octet lower ∙ rw lower_whole at k8 in
    ap (bits 32) (in_pairs e1 e2 e3 e4 e5 e6 e7 e8 p1 p2 p3 p4 p5 p6 p7 p8)
    ∙ eight_joined permutation e1 e2 e3 e4 e5 e6 e7 e8
    (box_output box_1 (bits 6 (upper / 2 ^ 24)))
    (box_output box_2 (bits 6 (lower / 2 ^ 24)))
    (box_output box_3 (bits 6 (bit_and (upper / 2 ^ 16) 255)))
    (box_output box_4 (bits 6 (bit_and (lower / 2 ^ 16) 255)))
    (box_output box_5 (bits 6 (bit_and (upper / 2 ^ 8) 255)))
    (box_output box_6 (bits 6 (bit_and (lower / 2 ^ 8) 255)))
    (box_output box_7 (bits 6 (bit_and upper 255)))
    (box_output box_8 (bits 6 (bit_and lower 255)))
    (length_output box_1 (bits 6 (upper / 2 ^ 24))) (length_output box_2 (bits 6 (lower / 2 ^ 24))) (length_output box_3 (bits 6 (bit_and (upper / 2 ^ 16) 255))) (length_output box_4 (bits 6 (bit_and (lower / 2 ^ 16) 255))) (length_output box_5 (bits 6 (bit_and (upper / 2 ^ 8) 255))) (length_output box_6 (bits 6 (bit_and (lower / 2 ^ 8) 255))) (length_output box_7 (bits 6 (bit_and upper 255))) (length_output box_8 (bits 6 (bit_and lower 255)))
    g1 g2 g3 g4 g5 g6 g7 g8
    ∙ rw (k1, k2, k3, k4, k5, k6, last_upper, last_lower) (from_groups half key)
