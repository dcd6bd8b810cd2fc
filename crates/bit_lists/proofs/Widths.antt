-- The last bits of a number: their length, their places, joins, cuts, and the number back from them.
use Rattle.std.proofs.Common.{◌≡◌, ℕ, zero, suc, ◌+◌, ◌-◌, ◌*◌, ◌/◌, ◌%◌, ◌^◌, ◌<◌, ◌≤◌, List, [], ◌∷◌, ◌++◌, length, get_or, take, drop, refl, sym, ap, ◌∙◌, arith, zero-add, true}
use Rattle.std.specs.Prelude.{bit_and, bit_or, fold, nat_lt}
use Rattle.std.specs.List.{list_all, flat_map}
use Rattle.std.specs.Int.{bit_at, from_be_bytes, w64}
use Rattle.std.specs.Int.Digits.{number_from_digits_after, AllBelowBase}
use Rattle.std.proofs.lemmas.Bool.{and_parts, and_from, ltb-true, lt-ltb}
use Rattle.std.proofs.Math.Nat.{mod-eq_of_lt}
use Rattle.std.proofs.lemmas.Nat.{or_shifted, and_mask, mod_below, div-add-mod', pow_pos, pow-add, shl_whole, mul-add-lt, mod-pow-add}
use Rattle.std.proofs.lemmas.Nat.Bits.{bit_at_cat_low, bit_at_cat_high, bit_at-lt, same_from_bits_below}
use Rattle.std.proofs.lemmas.Int.Digits.{number_lt}
use Rattle.std.proofs.lemmas.List.{take_at, drop_at, append_assoc, append-nil}
use Rattle.std.proofs.lemmas.List.Folds.{list_all-append}
use Rattle.bit_lists.specs.Bits.{bits, number, all_bits}

pub length-bits : (w n : ℕ) → length (bits w n) ≡ w
unfolding bits
length-bits zero n = refl
length-bits (suc w) n = ap suc (length-bits w n)

pub get_or-bits : (w n i : ℕ) → i < w → get_or (bits w n) i 0 ≡ bit_at n (w - 1 - i)
unfolding bits
get_or-bits zero n i h = absurd (omega arith)
get_or-bits (suc w) n zero h = let e : suc w - 1 - 0 ≡ w = omega arith in rw e refl
get_or-bits (suc w) n (suc i) h =
    let e : suc w - 1 - suc i ≡ w - 1 - i = omega arith in
    rw e (get_or-bits w n i (omega arith))

pub bits_same : (w a b : ℕ) → ((i : ℕ) → i < w → bit_at a i ≡ bit_at b i) → bits w a ≡ bits w b
unfolding bits
bits_same zero a b h = refl
bits_same (suc w) a b h =
    let head = h w (omega arith) in
    let tail = bits_same w a b (λ i lt. h i (omega arith)) in
    cc

pub bits_joined : (a b q r : ℕ) → r < 2 ^ b → bits (a + b) (q * 2 ^ b + r) ≡ bits a q ++ bits b r
unfolding bits
bits_joined zero b q r h = rw zero-add (bits_same b (q * 2 ^ b + r) r (λ i lt. bit_at_cat_low q b r i lt))
bits_joined (suc a) b q r h =
    let e : suc a + b ≡ suc (a + b) = omega arith in
    let back : a + b - b ≡ a = omega arith in
    let head : bit_at (q * 2 ^ b + r) (a + b) ≡ bit_at q a = rw back at (bit_at_cat_high q b r (a + b) h (omega arith)) in
    let tail = bits_joined a b q r h in
    rw (e, bits) (cc)

pub bits_push : (w n b : ℕ) → b < 2 → bits (w + 1) (n * 2 + b) ≡ bits w n ++ b ∷ []
unfolding bits
bits_push w n b h =
    let joined = bits_joined w 1 n b h in
    let one : b % 2 ≡ b = omega arith in
    let unit : b / 1 % 2 ≡ b = omega arith in
    joined ∙ ap (λ x. bits w n ++ x ∷ []) unit

pub bits_low : (w k n : ℕ) → w ≤ k → bits w (n % 2 ^ k) ≡ bits w n
bits_low w k n h =
    let back : n / 2 ^ k * 2 ^ k + n % 2 ^ k ≡ n = div-add-mod' n (2 ^ k) in
    let same : bits w (n / 2 ^ k * 2 ^ k + n % 2 ^ k) ≡ bits w (n % 2 ^ k) =
    bits_same w (n / 2 ^ k * 2 ^ k + n % 2 ^ k) (n % 2 ^ k) (λ i lt. bit_at_cat_low (n / 2 ^ k) k (n % 2 ^ k) i (omega arith)) in
    sym same ∙ ap (bits w) back

pub bits_masked : (k n : ℕ) → bits k (bit_and n (2 ^ k - 1)) ≡ bits k n
bits_masked k n = ap (bits k) (and_mask n k) ∙ bits_low k k n (omega arith)

-- the bits of a number in two parts
pub bits_parts : (a b n : ℕ) → bits (a + b) n ≡ bits a (n / 2 ^ b) ++ bits b n
bits_parts a b n =
    let positive = pow_pos b in
    let rest : n % 2 ^ b < 2 ^ b = mod_below n (2 ^ b) positive in
    let back : n / 2 ^ b * 2 ^ b + n % 2 ^ b ≡ n = div-add-mod' n (2 ^ b) in
    let joined = bits_joined a b (n / 2 ^ b) (n % 2 ^ b) rest in
    let low = bits_low b b n (omega arith) in
    sym (ap (bits (a + b)) back) ∙ joined ∙ ap (λ (xs : List ℕ). bits a (n / 2 ^ b) ++ xs) low

pub take-bits : (a b n : ℕ) → take a (bits (a + b) n) ≡ bits a (n / 2 ^ b)
take-bits a b n = ap (take a) (bits_parts a b n) ∙ take_at (bits a (n / 2 ^ b)) (bits b n) a (length-bits a (n / 2 ^ b))

pub drop-bits : (a b n : ℕ) → drop a (bits (a + b) n) ≡ bits b n
drop-bits a b n = ap (drop a) (bits_parts a b n) ∙ drop_at (bits a (n / 2 ^ b)) (bits b n) a (length-bits a (n / 2 ^ b))

pub middle-bits : (a w b n : ℕ) → take w (drop a (bits (a + (w + b)) n)) ≡ bits w (n / 2 ^ b)
middle-bits a w b n = ap (take w) (drop-bits a (w + b) n) ∙ take-bits w b n

-- a shift to the left, in a word of the width, that loses nothing, and then `|`
pub or_joined : (width a b q r : ℕ) → a + b ≤ width → q < 2 ^ a → r < 2 ^ b → bit_or (q * 2 ^ b % 2 ^ width) r ≡ q * 2 ^ b + r
or_joined width a b q r fits hq hr =
    let whole : q * 2 ^ b % 2 ^ width ≡ q * 2 ^ b = shl_whole q a b width hq fits in
    rw whole (or_shifted q b r hr)

pub or_joined_small : (width a b q r : ℕ) → a + b ≤ width → q < 2 ^ a → r < 2 ^ b → bit_or (q * 2 ^ b % 2 ^ width) r < 2 ^ (a + b)
or_joined_small width a b q r fits hq hr =
    let whole = or_joined width a b q r fits hq hr in
    let product : 2 ^ (a + b) ≡ 2 ^ a * 2 ^ b = pow-add 2 a b in
    let below : q * 2 ^ b + r < 2 ^ b * 2 ^ a = mul-add-lt q (2 ^ b) r (2 ^ a) hq hr in
    rw (whole, product) (omega arith)

pub bits_or : (width a b q r : ℕ) → a + b ≤ width → q < 2 ^ a → r < 2 ^ b → bits (a + b) (bit_or (q * 2 ^ b % 2 ^ width) r) ≡ bits a q ++ bits b r
bits_or width a b q r fits hq hr = ap (bits (a + b)) (or_joined width a b q r fits hq hr) ∙ bits_joined a b q r hr

-- two numbers of some width with the same bits are one
pub same_from-bits : (w a b : ℕ) → a < 2 ^ w → b < 2 ^ w → bits w a ≡ bits w b → a ≡ b
same_from-bits w a b ha hb e =
    same_from_bits_below w a b ha hb
    (λ i lt.
    let place : w - 1 - (w - 1 - i) ≡ i = omega arith in
    let left : get_or (bits w a) (w - 1 - i) 0 ≡ bit_at a i = rw place at (get_or-bits w a (w - 1 - i) (omega arith)) in
    let right : get_or (bits w b) (w - 1 - i) 0 ≡ bit_at b i = rw place at (get_or-bits w b (w - 1 - i) (omega arith)) in
    sym left ∙ ap (λ (xs : List ℕ). get_or xs (w - 1 - i) 0) e ∙ right)

-- ---- the number back
number_after-bits : (w acc n : ℕ) → number_from_digits_after 2 acc (bits w n) ≡ acc * 2 ^ w + n % 2 ^ w
unfolding bits
number_after-bits zero acc n = omega arith
number_after-bits (suc w) acc n =
    let rest = number_after-bits w (acc * 2 + bit_at n w) n in
    let plus : suc w ≡ 1 + w = omega arith in
    let cut : n % 2 ^ (1 + w) ≡ (n / 2 ^ w % 2 ^ 1) * 2 ^ w + n % 2 ^ w = mod-pow-add n 1 w in
    let twice : 2 ^ (1 + w) ≡ 2 ^ 1 * 2 ^ w = pow-add 2 1 w in
    rest ∙ rw (plus, cut, twice) (omega arith)

pub number-bits : (w n : ℕ) → n < 2 ^ w → number (bits w n) ≡ n
unfolding number
number-bits w n h =
    let e : number_from_digits_after 2 0 (bits w n) ≡ 0 * 2 ^ w + n % 2 ^ w = number_after-bits w 0 n in
    let small : n % 2 ^ w ≡ n = mod-eq_of_lt h in
    e ∙ omega arith

below_base : (xs : List ℕ) → all_bits xs ≡ true → AllBelowBase 2 xs
unfolding all_bits
below_base [] h = tt
below_base (x ∷ xs) h =
    let parts = and_parts (nat_lt x 2) (list_all (λ b. nat_lt b 2) xs) h in
    (ltb-true x 2 parts.0, below_base xs parts.1)

pub number_below : (xs : List ℕ) → all_bits xs ≡ true → number xs < 2 ^ length xs
unfolding number
number_below xs h = number_lt 2 xs (below_base xs h)

number_after_split : (acc : ℕ) (xs : List ℕ) → number_from_digits_after 2 acc xs ≡ acc * 2 ^ length xs + number_from_digits_after 2 0 xs
number_after_split acc [] = omega arith
number_after_split acc (x ∷ xs) =
    let here = number_after_split (acc * 2 + x) xs in
    let zeroth = number_after_split (0 * 2 + x) xs in
    let plus : suc (length xs) ≡ 1 + length xs = omega arith in
    let twice : 2 ^ (1 + length xs) ≡ 2 ^ 1 * 2 ^ length xs = pow-add 2 1 (length xs) in
    rw (plus, twice) (omega arith)

bits-number_after : (xs : List ℕ) (acc : ℕ) → all_bits xs ≡ true → bits (length xs) (number_from_digits_after 2 acc xs) ≡ xs
unfolding bits all_bits
bits-number_after [] acc h = refl
bits-number_after (x ∷ xs) acc h =
    let parts = and_parts (nat_lt x 2) (list_all (λ b. nat_lt b 2) xs) h in
    let bit : x < 2 = ltb-true x 2 parts.0 in
    let small : number_from_digits_after 2 0 xs < 2 ^ length xs = number_lt 2 xs (below_base xs parts.1) in
    let split = number_after_split (acc * 2 + x) xs in
    let none : length xs - length xs ≡ 0 = omega arith in
    let high : bit_at ((acc * 2 + x) * 2 ^ length xs + number_from_digits_after 2 0 xs) (length xs) ≡ bit_at (acc * 2 + x) 0 =
    rw none at (bit_at_cat_high (acc * 2 + x) (length xs) (number_from_digits_after 2 0 xs) (length xs) small (omega arith)) in
    let unit : (acc * 2 + x) / 1 % 2 ≡ x = omega arith in
    let head : bit_at (number_from_digits_after 2 (acc * 2 + x) xs) (length xs) ≡ x = rw split (high ∙ unit) in
    let tail = bits-number_after xs (acc * 2 + x) parts.1 in
    cc

pub bits-number : (xs : List ℕ) → all_bits xs ≡ true → bits (length xs) (number xs) ≡ xs
unfolding number
bits-number xs h = bits-number_after xs 0 h

pub all_bits-bits : (w n : ℕ) → all_bits (bits w n) ≡ true
unfolding bits all_bits
all_bits-bits zero n = refl
all_bits-bits (suc w) n = and_from (nat_lt (bit_at n w) 2) (list_all (λ b. nat_lt b 2) (bits w n)) (lt-ltb (bit_at n w) 2 (bit_at-lt n w)) (all_bits-bits w n)

pub all_bits-append : (xs ys : List ℕ) → all_bits xs ≡ true → all_bits ys ≡ true → all_bits (xs ++ ys) ≡ true
unfolding all_bits
all_bits-append xs ys hx hy = rw (list_all-append (λ b. nat_lt b 2) xs ys, hx, hy) refl

-- ---- octets
joined_octets : List ℕ → ℕ → ℕ
joined_octets octets acc = fold (λ n octet. n * 2 ^ 8 + octet) acc octets

bits-joined_octets : (octets : List ℕ) (w acc : ℕ) → ((i : ℕ) → i < length octets → get_or octets i 0 < 2 ^ 8)
    → bits (w + 8 * length octets) (joined_octets octets acc) ≡ bits w acc ++ flat_map (bits 8) octets
unfolding joined_octets
bits-joined_octets [] w acc h = let e : w + 8 * 0 ≡ w = omega arith in rw e (sym (append-nil (bits w acc)))
bits-joined_octets (x ∷ xs) w acc h =
    let first : x < 2 ^ 8 = h 0 (omega arith) in
    let rest = bits-joined_octets xs (w + 8) (acc * 2 ^ 8 + x) (λ i lt. h (suc i) (omega arith)) in
    let width : w + 8 * suc (length xs) ≡ w + 8 + 8 * length xs = omega arith in
    let front : bits (w + 8) (acc * 2 ^ 8 + x) ≡ bits w acc ++ bits 8 x = bits_joined w 8 acc x first in
    rw (width, rest, front) (append_assoc (bits w acc) (bits 8 x) (flat_map (bits 8) xs))

-- the bits of a word are those of its eight octets
pub bits-from_be_bytes : (octets : List ℕ) → length octets ≡ 8 → ((i : ℕ) → i < length octets → get_or octets i 0 < 2 ^ 8)
    → bits 64 (from_be_bytes w64 octets) ≡ flat_map (bits 8) octets
unfolding joined_octets bits
bits-from_be_bytes (a ∷ b ∷ c ∷ d ∷ e ∷ f ∷ g ∷ h ∷ []) eight below =
    let octets : List ℕ = a ∷ b ∷ c ∷ d ∷ e ∷ f ∷ g ∷ h ∷ [] in
    let value : from_be_bytes w64 octets ≡ joined_octets octets 0 = omega arith in
    rw value (bits-joined_octets octets 0 0 below)
bits-from_be_bytes octets eight below = absurd (omega arith)
