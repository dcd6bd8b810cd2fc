-- The register gives the remainder of the division.
use Rattle.std.proofs.Common.{◌≡◌, ℕ, zero, suc, ◌+◌, ◌-◌, ◌*◌, ◌/◌, ◌%◌, ◌^◌, ◌<◌, ◌≤◌, List, [], ◌∷◌, ◌++◌, length, map, replicate, refl, sym, ◌∙◌, ap, arith, zero-add, append_assoc, length-append, bit_xor, drop, get_or}
use Rattle.std.specs.Int.Bits.{xor_assoc, xor_comm, xor_self, xor_zero_r}
use Rattle.std.proofs.lemmas.Nat.{xor_shr, xor_mod, xor_lt}
use Rattle.std.proofs.lemmas.List.{drop_more, drop_all}
use Rattle.std.proofs.lemmas.Grind.{pow_more}
use Rattle.std.proofs.lemmas.Nat.{pow_pos}
use Rattle.bit_lists.specs.LowestFirst.{low_bits, low_number}
use Rattle.bit_lists.proofs.LowestFirstLaws.{length-low_bits, low_first_rest, low_bits-zeros, low_number-low_bits}
use Rattle.hdlc_fcs.specs.FrameCheck.{generator_rest, fcs_of, fcs_bits, dividend, remainder, divided_once, add_front, sent_bits}
use Rattle.hdlc_fcs.specs.Register.{shifted_once, shifted, register_after}

-- ---- sums

add_front_twice : (w a b : ℕ) (ys : List ℕ) → w ≤ length ys → add_front (low_bits w a) (add_front (low_bits w b) ys) ≡ add_front (low_bits w (bit_xor a b)) ys
unfolding low_bits add_front
add_front_twice zero a b ys h = refl
add_front_twice (suc w) a b [] h = absurd (omega arith)
add_front_twice (suc w) a b (y ∷ ys) h =
    let tail = add_front_twice w (a / 2) (b / 2) ys (omega arith) in
    let one : bit_xor a b % 2 ≡ bit_xor (a % 2) (b % 2) = xor_mod a b 1 in
    let half : bit_xor a b / 2 ≡ bit_xor (a / 2) (b / 2) = xor_shr a b 1 in
    rw (one, half, xor_assoc (a % 2) (b % 2) y) (ap (λ zs. bit_xor (a % 2) (bit_xor (b % 2) y) ∷ zs) tail)

add_front_zero : (xs ys : List ℕ) → length xs < length ys → add_front (xs ++ 0 ∷ []) ys ≡ add_front xs ys
unfolding add_front
add_front_zero [] [] h = absurd (omega arith)
add_front_zero [] (y ∷ ys) h = refl
add_front_zero (x ∷ xs) [] h = absurd (omega arith)
add_front_zero (x ∷ xs) (y ∷ ys) h = ap (λ zs. bit_xor x y ∷ zs) (add_front_zero xs ys (omega arith))

add_front_zeros : (w n : ℕ) → add_front (low_bits w n) (replicate w 0) ≡ low_bits w n
unfolding low_bits add_front
add_front_zeros zero n = refl
add_front_zeros (suc w) n = rw (xor_zero_r (n % 2)) (ap (λ zs. n % 2 ∷ zs) (add_front_zeros w (n / 2)))

-- w bits of o go into the register at once
add_front_in : (w v r o : ℕ) (ys : List ℕ) → add_front (low_bits (w + v) r) (low_bits w o ++ ys) ≡ add_front (low_bits (w + v) (bit_xor r (o % 2 ^ w))) (replicate w 0 ++ ys)
unfolding low_bits add_front
add_front_in zero v r o ys = let none : o % 2 ^ 0 ≡ 0 = omega arith in rw (none, xor_zero_r r) refl
add_front_in (suc w) v r o ys =
    let e : suc w + v ≡ suc (w + v) = omega arith in
    let p : ℕ = o % 2 ^ suc w in
    let parts = low_first_rest w o in
    let one : bit_xor r p % 2 ≡ bit_xor (r % 2) (o % 2) = xor_mod r p 1 ∙ ap (λ x. bit_xor (r % 2) x) parts.0 in
    let half : bit_xor r p / 2 ≡ bit_xor (r / 2) (o / 2 % 2 ^ w) = xor_shr r p 1 ∙ ap (λ x. bit_xor (r / 2) x) parts.1 in
    let tail = add_front_in w v (r / 2) (o / 2) ys in
    rw (e, low_bits, one, half, xor_zero_r (bit_xor (r % 2) (o % 2))) (ap (λ zs. bit_xor (r % 2) (o % 2) ∷ zs) tail)

-- ---- steps

shifted_once_small : (r : ℕ) → r < 2 ^ 16 → shifted_once r < 2 ^ 16
unfolding shifted_once
shifted_once_small r h = xor_lt 16 (r / 2) (r % 2 * 0x8408) (omega arith) (omega arith)

pub shifted_small : (n r : ℕ) → r < 2 ^ 16 → shifted n r < 2 ^ 16
unfolding shifted
shifted_small zero r h = h
shifted_small (suc n) r h = shifted_small n (shifted_once r) (shifted_once_small r h)

pub register_after_small : (os : List ℕ) (r : ℕ) → r < 2 ^ 16 → register_after r os < 2 ^ 16
unfolding register_after
register_after_small [] r h = h
register_after_small (o ∷ os) r h =
    let part : o % 256 < 2 ^ 16 = omega arith in
    register_after_small os (shifted 8 (bit_xor r (o % 256))) (shifted_small 8 (bit_xor r (o % 256)) (xor_lt 16 r (o % 256) h part))

generator_bits : generator_rest ≡ low_bits 16 0x8408
unfolding low_bits
generator_bits = refl

-- what one step makes of a register r whose lowest bit is b and whose other bits are half
step_by_bit : (b half : ℕ) (ys : List ℕ) → b < 2 → half < 2 ^ 15 → 16 ≤ length ys → divided_once (b ∷ add_front (low_bits 15 half) ys) ≡ add_front (low_bits 16 (bit_xor half (b * 0x8408))) ys
unfolding divided_once
step_by_bit zero half ys h small long =
    let wide : low_bits (15 + 1) half ≡ low_bits 15 half ++ 0 ∷ [] = low_bits-zeros 15 1 half small in
    let less : length (low_bits 15 half) < length ys = omega (arith, length-low_bits 15 half) in
    rw (xor_zero_r half) (sym (ap (λ xs. add_front xs ys) wide ∙ add_front_zero (low_bits 15 half) ys less))
step_by_bit (suc zero) half ys h small long =
    let wide : low_bits (15 + 1) half ≡ low_bits 15 half ++ 0 ∷ [] = low_bits-zeros 15 1 half small in
    let less : length (low_bits 15 half) < length ys = omega (arith, length-low_bits 15 half) in
    let widened : add_front (low_bits 16 half) ys ≡ add_front (low_bits 15 half) ys = ap (λ xs. add_front xs ys) wide ∙ add_front_zero (low_bits 15 half) ys less in
    let joined = add_front_twice 16 0x8408 half ys long in
    ap (λ xs. add_front generator_rest xs) (sym widened) ∙ ap (λ xs. add_front xs (add_front (low_bits 16 half) ys)) generator_bits ∙ joined ∙ ap (λ n. add_front (low_bits 16 n) ys) (xor_comm 0x8408 half)
step_by_bit (suc (suc b)) half ys h small long = absurd (omega arith)

first_bit : (w r : ℕ) (ys : List ℕ) → add_front (low_bits (suc w) r) (0 ∷ ys) ≡ r % 2 ∷ add_front (low_bits w (r / 2)) ys
unfolding low_bits add_front
first_bit w r ys = rw (xor_zero_r (r % 2)) refl

step : (r : ℕ) (ys : List ℕ) → r < 2 ^ 16 → 16 ≤ length ys → divided_once (add_front (low_bits 16 r) (0 ∷ ys)) ≡ add_front (low_bits 16 (shifted_once r)) ys
unfolding shifted_once
step r ys small long = rw (first_bit 15 r ys) (step_by_bit (r % 2) (r / 2) ys (omega arith) (omega arith) long)

steps : (n r : ℕ) (ys : List ℕ) → r < 2 ^ 16 → 16 ≤ length ys → remainder n (add_front (low_bits 16 r) (replicate n 0 ++ ys)) ≡ add_front (low_bits 16 (shifted n r)) ys
unfolding remainder shifted
steps zero r ys small long = refl
steps (suc n) r ys small long =
    let longer : 16 ≤ length (replicate n 0 ++ ys) = omega (arith, length-append (replicate n 0) ys) in
    rw (step r (replicate n 0 ++ ys) small longer) (steps n (shifted_once r) ys (shifted_once_small r small) long)

remainder-more : (m n : ℕ) (bs : List ℕ) → remainder (m + n) bs ≡ remainder n (remainder m bs)
unfolding remainder
remainder-more zero n bs = rw (zero-add n) refl
remainder-more (suc m) n bs =
    let e : suc m + n ≡ suc (m + n) = omega arith in
    rw (e, remainder) (remainder-more m n (divided_once bs))

-- ---- the whole division

division : (os : List ℕ) (r : ℕ) → r < 2 ^ 16 → remainder (length (sent_bits os)) (add_front (low_bits 16 r) (sent_bits os ++ replicate 16 0)) ≡ low_bits 16 (register_after r os)
unfolding sent_bits register_after remainder
division [] r small = add_front_zeros 16 r
division (o ∷ os) r small =
    let rest : List ℕ = sent_bits os ++ replicate 16 0 in
    let octet : List ℕ = low_bits 8 o in
    let n : ℕ = length (sent_bits os) in
    let r' : ℕ = bit_xor r (o % 256) in
    let part : o % 256 < 2 ^ 16 = omega arith in
    let small' : r' < 2 ^ 16 = xor_lt 16 r (o % 256) small part in
    let long : 16 ≤ length rest = omega (arith, length-append (sent_bits os) (replicate 16 0)) in
    let count : length (octet ++ sent_bits os) ≡ 8 + n = omega (arith, length-append octet (sent_bits os), length-low_bits 8 o) in
    let split : (octet ++ sent_bits os) ++ replicate 16 0 ≡ octet ++ rest = append_assoc octet (sent_bits os) (replicate 16 0) in
    let entered : add_front (low_bits 16 r) (octet ++ rest) ≡ add_front (low_bits 16 r') (replicate 8 0 ++ rest) = add_front_in 8 8 r o rest in
    let eight = steps 8 r' rest small' long in
    let onward = division os (shifted 8 r') (shifted_small 8 r' small') in
    rw (count, split, entered, remainder-more 8 n (add_front (low_bits 16 r') (replicate 8 0 ++ rest)), eight) onward

-- ---- the complement

flipped : (b : ℕ) → b < 2 → 1 - b ≡ bit_xor b 1
flipped zero h = refl
flipped (suc zero) h = refl
flipped (suc (suc b)) h = absurd (omega arith)

complement_bits : (w r : ℕ) → map (λ b. 1 - b) (low_bits w r) ≡ low_bits w (bit_xor r (2 ^ w - 1))
unfolding low_bits
complement_bits zero r = refl
complement_bits (suc w) r =
    let plus : suc w ≡ w + 1 = omega arith in
    let twice : 2 ^ suc w ≡ 2 ^ w * 2 = rw plus (pow_more 2 w) in
    let positive : 0 < 2 ^ w = pow_pos w in
    let ones : ℕ = 2 ^ suc w - 1 in
    let odd : ones % 2 ≡ 1 = omega arith in
    let halved : ones / 2 ≡ 2 ^ w - 1 = omega arith in
    let one : bit_xor r ones % 2 ≡ bit_xor (r % 2) 1 = xor_mod r ones 1 ∙ ap (λ x. bit_xor (r % 2) x) odd in
    let half : bit_xor r ones / 2 ≡ bit_xor (r / 2) (2 ^ w - 1) = xor_shr r ones 1 ∙ ap (λ x. bit_xor (r / 2) x) halved in
    let bit : r % 2 < 2 = omega arith in
    rw (one, half, flipped (r % 2) bit) (ap (λ zs. bit_xor (r % 2) 1 ∷ zs) (complement_bits w (r / 2)))

ones_bits : replicate 16 1 ≡ low_bits 16 65535
unfolding low_bits
ones_bits = refl

-- the check sequence is the complement of the register that began with ones
pub fcs_of-register : (os : List ℕ) → fcs_of os ≡ bit_xor (register_after 65535 os) 65535
unfolding fcs_of fcs_bits dividend
fcs_of-register os =
    let r : ℕ = register_after 65535 os in
    let small : r < 2 ^ 16 = register_after_small os 65535 (omega arith) in
    let started = ap (λ xs. remainder (length (sent_bits os)) (add_front xs (sent_bits os ++ replicate 16 0))) ones_bits in
    let divided = started ∙ division os 65535 (omega arith) in
    ap (λ xs. low_number (map (λ b. 1 - b) xs)) divided ∙ ap low_number (complement_bits 16 r) ∙ low_number-low_bits 16 (bit_xor r 65535) (xor_lt 16 r 65535 small (omega arith))

-- ---- octets in turn

pub register_after-append : (xs : List ℕ) (r : ℕ) (ys : List ℕ) → register_after r (xs ++ ys) ≡ register_after (register_after r xs) ys
unfolding register_after
register_after-append [] r ys = refl
register_after-append (x ∷ xs) r ys = register_after-append xs (shifted 8 (bit_xor r (x % 256))) ys

pub complement_twice : (a : ℕ) → bit_xor (bit_xor a 65535) 65535 ≡ a
complement_twice a = xor_assoc a 65535 65535 ∙ ap (λ x. bit_xor a x) (xor_self 65535) ∙ xor_zero_r a

-- a register whose complement is the check sequence of what came before gives that of what came in all
pub fcs_of-append : (before more : List ℕ) (r : ℕ) → bit_xor r 65535 ≡ fcs_of before → bit_xor (register_after r more) 65535 ≡ fcs_of (before ++ more)
fcs_of-append before more r e =
    let same : r ≡ register_after 65535 before = sym (complement_twice r) ∙ ap (λ x. bit_xor x 65535) (e ∙ fcs_of-register before) ∙ complement_twice (register_after 65535 before) in
    ap (λ x. bit_xor (register_after x more) 65535) same ∙ ap (λ x. bit_xor x 65535) (sym (register_after-append before 65535 more)) ∙ sym (fcs_of-register (before ++ more))

pub fcs_of-lt : (os : List ℕ) → fcs_of os < 2 ^ 16
fcs_of-lt os = rw (fcs_of-register os) (xor_lt 16 (register_after 65535 os) 65535 (register_after_small os 65535 (omega arith)) (omega arith))

-- ---- one more, for a loop

pub shifted-less : (n i r : ℕ) → i < n → shifted (n - i) r ≡ shifted (n - (i + 1)) (shifted_once r)
unfolding shifted
shifted-less n i r h = let e : n - i ≡ suc (n - (i + 1)) = omega arith in rw e refl

pub register_after-drop : (os : List ℕ) (i r : ℕ) → i < length os → get_or os i 0 < 2 ^ 8 → register_after r (drop i os) ≡ register_after (shifted 8 (bit_xor r (get_or os i 0))) (drop (i + 1) os)
unfolding register_after
register_after-drop os i r h small =
    let octet : get_or os i 0 % 256 ≡ get_or os i 0 = omega arith in
    ap (register_after r) (drop_more os i 0 h) ∙ ap (λ o. register_after (shifted 8 (bit_xor r o)) (drop (i + 1) os)) octet

pub register_after-all : (os : List ℕ) (i r : ℕ) → length os ≤ i → register_after r (drop i os) ≡ r
unfolding register_after
register_after-all os i r h = ap (register_after r) (drop_all i os h)
