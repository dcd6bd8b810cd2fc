-- The joined halves of two words.
use Rattle.std.proofs.Common.{◌≡◌, ℕ, ◌-◌, ◌*◌, ◌/◌, ◌%◌, ◌^◌, ◌<◌, ◌++◌, refl, arith}
use Rattle.std.specs.Prelude.{bit_and, bit_or}
use Rattle.std.proofs.lemmas.Nat.{shr_below, and_mask}
use Rattle.bit_lists.specs.Bits.{bits}
use Rattle.bit_lists.proofs.Widths.{take-bits, drop-bits, bits_low, bits_or}
use Rattle.session_keys.specs.Session.{left_halves, right_halves}

pub left_is : (ra rb : ℕ) → ra < 2 ^ 64 → rb < 2 ^ 64 → bits 64 (bit_or (ra / 2 ^ 32 * 2 ^ 32 % 2 ^ 64) (rb / 2 ^ 32)) ≡ left_halves ra rb
left_is ra rb ha hb =
    let a : ra / 2 ^ 32 < 2 ^ 32 = shr_below ra 32 32 ha in
    let b : rb / 2 ^ 32 < 2 ^ 32 = shr_below rb 32 32 hb in
    let joined : bits 64 (bit_or (ra / 2 ^ 32 * 2 ^ 32 % 2 ^ 64) (rb / 2 ^ 32)) ≡ bits 32 (ra / 2 ^ 32) ++ bits 32 (rb / 2 ^ 32) = bits_or 64 32 32 (ra / 2 ^ 32) (rb / 2 ^ 32) (omega arith) a b in
    rw (joined, take-bits 32 32 ra, take-bits 32 32 rb) refl

-- a shift to the left that loses the upper half
shifted_half : (ra : ℕ) → ra * 2 ^ 32 % 2 ^ 64 ≡ (ra % 2 ^ 32) * 2 ^ 32 % 2 ^ 64
shifted_half ra = omega arith

pub right_is : (ra rb : ℕ) → bits 64 (bit_or (ra * 2 ^ 32 % 2 ^ 64) (bit_and rb (2 ^ 32 - 1))) ≡ right_halves ra rb
right_is ra rb =
    let masked : bit_and rb (2 ^ 32 - 1) ≡ rb % 2 ^ 32 = and_mask rb 32 in
    let a : ra % 2 ^ 32 < 2 ^ 32 = omega arith in
    let b : rb % 2 ^ 32 < 2 ^ 32 = omega arith in
    let joined : bits 64 (bit_or ((ra % 2 ^ 32) * 2 ^ 32 % 2 ^ 64) (rb % 2 ^ 32)) ≡ bits 32 (ra % 2 ^ 32) ++ bits 32 (rb % 2 ^ 32) = bits_or 64 32 32 (ra % 2 ^ 32) (rb % 2 ^ 32) (omega arith) a b in
    rw (shifted_half ra, masked, joined, bits_low 32 32 ra (omega arith), bits_low 32 32 rb (omega arith), drop-bits 32 32 ra, drop-bits 32 32 rb) refl
