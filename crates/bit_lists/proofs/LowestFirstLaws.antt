-- Laws of lists of bits with the lowest bit first.
use Rattle.std.proofs.Common.{◌≡◌, ℕ, zero, suc, ◌+◌, ◌*◌, ◌/◌, ◌%◌, ◌^◌, ◌<◌, ◌∷◌, ◌++◌, length, replicate, refl, sym, ap, arith, zero-add}
use Rattle.std.proofs.lemmas.Grind.{pow_more}
use Rattle.std.proofs.lemmas.Nat.{pow_pos}
use Rattle.std.proofs.Math.Nat.{div-add-mod, mul-add-mod_self_left, mod-eq_of_lt}
use Rattle.bit_lists.specs.LowestFirst.{low_bits, low_number}

pub length-low_bits : (w n : ℕ) → length (low_bits w n) ≡ w
unfolding low_bits
length-low_bits zero n = refl
length-low_bits (suc w) n = omega (arith, length-low_bits w (n / 2))

-- the lowest bit of what w + 1 bits keep of n, and the others
pub low_first_rest : (w n : ℕ) → (n % 2 ^ suc w % 2 ≡ n % 2) × (n % 2 ^ suc w / 2 ≡ n / 2 % 2 ^ w)
low_first_rest w n =
    let plus : suc w ≡ w + 1 = omega arith in
    let twice : 2 ^ suc w ≡ 2 ^ w * 2 = rw plus (pow_more 2 w) in
    let q : ℕ = n / (2 ^ w * 2) in
    let r : ℕ = n % (2 ^ w * 2) in
    let m : ℕ = 2 ^ w * q in
    let positive : 0 < 2 ^ w = pow_pos w in
    let small : r / 2 < 2 ^ w = omega arith in
    let whole : n ≡ 2 * m + r = omega (arith, div-add-mod n (2 ^ w * 2)) in
    let one : r % 2 ≡ n % 2 = omega arith in
    let front : n / 2 ≡ m + r / 2 = omega arith in
    let half : r / 2 ≡ n / 2 % 2 ^ w = rw (front, mul-add-mod_self_left (2 ^ w) q (r / 2)) (sym (mod-eq_of_lt small)) in
    rw twice (one, half)

-- bits above the width don't count
pub low_bits_low : (w n : ℕ) → low_bits w (n % 2 ^ w) ≡ low_bits w n
unfolding low_bits
low_bits_low zero n = refl
low_bits_low (suc w) n =
    let parts = low_first_rest w n in
    rw (parts.0, parts.1, low_bits_low w (n / 2)) refl

pub low_number-low_bits : (w n : ℕ) → n < 2 ^ w → low_number (low_bits w n) ≡ n
unfolding low_bits low_number
low_number-low_bits zero n h = omega arith
low_number-low_bits (suc w) n h =
    let plus : suc w ≡ w + 1 = omega arith in
    let twice : 2 ^ suc w ≡ 2 ^ w * 2 = rw plus (pow_more 2 w) in
    let small : n / 2 < 2 ^ w = omega arith in
    let tail = low_number-low_bits w (n / 2) small in
    omega arith

pub low_bits-none : (k : ℕ) → low_bits k 0 ≡ replicate k 0
unfolding low_bits
low_bits-none zero = refl
low_bits-none (suc k) = ap (λ bs. 0 ∷ bs) (low_bits-none k)

-- a number below 2 ^ w has zeros from its bit w on
pub low_bits-zeros : (w k n : ℕ) → n < 2 ^ w → low_bits (w + k) n ≡ low_bits w n ++ replicate k 0
unfolding low_bits
low_bits-zeros zero k n h = let none : n ≡ 0 = omega arith in rw (none, zero-add k) (low_bits-none k)
low_bits-zeros (suc w) k n h =
    let plus : suc w ≡ w + 1 = omega arith in
    let twice : 2 ^ suc w ≡ 2 ^ w * 2 = rw plus (pow_more 2 w) in
    let small : n / 2 < 2 ^ w = omega arith in
    let tail = low_bits-zeros w k (n / 2) small in
    let e : suc w + k ≡ suc (w + k) = omega arith in
    rw (e, low_bits) (ap (λ bs. n % 2 ∷ bs) tail)
