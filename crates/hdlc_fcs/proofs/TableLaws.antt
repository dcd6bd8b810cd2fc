-- The tables give eight shifts and more at once, since shifting carries the exclusive or through.
use Rattle.std.proofs.Common.{◌≡◌, ℕ, zero, suc, ◌+◌, ◌*◌, ◌/◌, ◌%◌, ◌^◌, ◌<◌, refl, sym, ◌∙◌, ap, arith, bit_xor, true, ◌==◌, [], get_or}
use Rattle.std.specs.Int.Bits.{xor_zero_r, xor_shifted}
use Rattle.std.proofs.lemmas.Nat.{xor_shr, xor_mod}
use Rattle.std.proofs.lemmas.Bool.{agree_below_at, eqb-true}
use Rattle.std.proofs.lemmas.Grind.{pow_more}
use Rattle.bit_lists.proofs.Linear.{xor_crossed}
use Rattle.hdlc_fcs.specs.Register.{shifted_once, shifted}
use Rattle.hdlc_fcs.specs.declared.table.TheConstants.{TABLES}

taps : (x y : ℕ) → x < 2 → y < 2 → bit_xor x y * 0x8408 ≡ bit_xor (x * 0x8408) (y * 0x8408)
taps zero zero h k = refl
taps zero (suc zero) h k = refl
taps (suc zero) zero h k = refl
taps (suc zero) (suc zero) h k = refl
taps (suc (suc x)) y h k = absurd (omega arith)
taps zero (suc (suc y)) h k = absurd (omega arith)
taps (suc zero) (suc (suc y)) h k = absurd (omega arith)

shifted_once-xor : (a b : ℕ) → shifted_once (bit_xor a b) ≡ bit_xor (shifted_once a) (shifted_once b)
unfolding shifted_once
shifted_once-xor a b =
    let one : bit_xor a b % 2 ≡ bit_xor (a % 2) (b % 2) = xor_mod a b 1 in
    let half : bit_xor a b / 2 ≡ bit_xor (a / 2) (b / 2) = xor_shr a b 1 in
    rw (one, half, taps (a % 2) (b % 2) (omega arith) (omega arith)) (xor_crossed (a / 2) (b / 2) (a % 2 * 0x8408) (b % 2 * 0x8408))

pub shifted-xor : (n a b : ℕ) → shifted n (bit_xor a b) ≡ bit_xor (shifted n a) (shifted n b)
unfolding shifted
shifted-xor zero a b = refl
shifted-xor (suc n) a b = ap (shifted n) (shifted_once-xor a b) ∙ shifted-xor n (shifted_once a) (shifted_once b)

-- bits that leave the register before they reach its low end: n shifts of k * 2 ^ n are k
pub shifted-high : (n k : ℕ) → shifted n (k * 2 ^ n) ≡ k
unfolding shifted shifted_once
shifted-high zero k = omega arith
shifted-high (suc n) k =
    let plus : suc n ≡ n + 1 = omega arith in
    let twice : 2 ^ suc n ≡ 2 ^ n * 2 = rw plus (pow_more 2 n) in
    let m : ℕ = k * 2 ^ n in
    let whole : k * 2 ^ suc n ≡ m * 2 = ap (λ p. k * p) twice ∙ omega arith in
    let even : m * 2 % 2 ≡ 0 = omega arith in
    let half : m * 2 / 2 ≡ m = omega arith in
    rw (whole, even, half, xor_zero_r m) (shifted-high n k)

-- eight shifts: the high octet moves down, the low octet gives its own eight shifts
pub shifted_octet : (r : ℕ) → shifted 8 r ≡ bit_xor (r / 2 ^ 8) (shifted 8 (r % 2 ^ 8))
shifted_octet r =
    let small : r % 2 ^ 8 < 2 ^ 8 = omega arith in
    let whole : bit_xor (r / 2 ^ 8 * 2 ^ 8) (r % 2 ^ 8) ≡ r = xor_shifted (r / 2 ^ 8) 8 (r % 2 ^ 8) small ∙ omega arith in
    ap (shifted 8) (sym whole) ∙ shifted-xor 8 (r / 2 ^ 8 * 2 ^ 8) (r % 2 ^ 8) ∙ ap (λ x. bit_xor x (shifted 8 (r % 2 ^ 8))) (shifted-high 8 (r / 2 ^ 8))

-- ---- the tables

-- an entry of the eight tables, one behind the other
abbrev entry_at : ℕ → ℕ
entry_at i = get_or (get_or TABLES (i / 256) []) (i % 256) 0

-- each entry is the shifts of its place
entry_value : (i : ℕ) → i < 2048 → entry_at i ≡ shifted (8 * (i / 256 + 1)) (i % 256)
unfolding shifted shifted_once
entry_value i h = eqb-true _ _ (agree_below_at (λ j. entry_at j == shifted (8 * (j / 256 + 1)) (j % 256)) (λ _. true) 2048 i refl h)

pub table_at : (behind octet : ℕ) → behind < 8 → octet < 256 → get_or (get_or TABLES behind []) octet 0 ≡ shifted (8 * (behind + 1)) octet
table_at behind octet h k =
    let i : ℕ = behind * 256 + octet in
    let row : i / 256 ≡ behind = omega arith in
    let place : i % 256 ≡ octet = omega arith in
    let here = entry_value i (omega arith) in
    rw (row, place) at here
