-- The exchanges of bits that make up IP and IP⁻¹. Each carries the exclusive or through, so 64 values decide.
use Rattle.std.proofs.Common.{◌≡◌, ℕ, ◌*◌, ◌/◌, ◌%◌, ◌^◌, ◌<◌, [], refl, ap, ◌∙◌}
use Rattle.std.specs.Prelude.{bit_and, bit_xor}
use Rattle.std.proofs.lemmas.Nat.{xor_shr}
use Rattle.bit_lists.specs.Bits.{bits, pick, xor}
use Rattle.bit_lists.proofs.Linear.{Carries, linear_agree, same_values, xor_crossed, shl-xor, and-xor, carries-bits, carries-pick}
use Rattle.des_block.specs.Representation.{swapped}
use Rattle.des_block.specs.Tables.{initial_permutation, inverse_initial_permutation}

differing : ℕ → ℕ → ℕ → ℕ
differing apart mask x = bit_and (bit_xor x (x / 2 ^ apart)) mask

differing-xor : (apart mask a b : ℕ) → differing apart mask (bit_xor a b) ≡ bit_xor (differing apart mask a) (differing apart mask b)
unfolding differing
differing-xor apart mask a b =
    let low : bit_xor a b / 2 ^ apart ≡ bit_xor (a / 2 ^ apart) (b / 2 ^ apart) = xor_shr a b apart in
    let crossed = xor_crossed a b (a / 2 ^ apart) (b / 2 ^ apart) in
    ap (λ n. bit_and (bit_xor (bit_xor a b) n) mask) low ∙ ap (λ n. bit_and n mask) crossed
    ∙ and-xor (bit_xor a (a / 2 ^ apart)) (bit_xor b (b / 2 ^ apart)) mask

swapped-xor : (apart mask a b : ℕ) → swapped apart mask (bit_xor a b) ≡ bit_xor (swapped apart mask a) (swapped apart mask b)
unfolding swapped differing
swapped-xor apart mask a b =
    let da : ℕ = differing apart mask a in
    let db : ℕ = differing apart mask b in
    let both = differing-xor apart mask a b in
    let up : bit_xor da db * 2 ^ apart % 2 ^ 64 ≡ bit_xor (da * 2 ^ apart % 2 ^ 64) (db * 2 ^ apart % 2 ^ 64) = shl-xor 64 apart da db in
    let inner = xor_crossed a b da db in
    ap (λ d. bit_xor (bit_xor (bit_xor a b) d) (d * 2 ^ apart % 2 ^ 64)) both
    ∙ ap (λ u. bit_xor (bit_xor (bit_xor a b) (bit_xor da db)) u) up
    ∙ ap (λ n. bit_xor n (bit_xor (da * 2 ^ apart % 2 ^ 64) (db * 2 ^ apart % 2 ^ 64))) inner
    ∙ xor_crossed (bit_xor a da) (bit_xor b db) (da * 2 ^ apart % 2 ^ 64) (db * 2 ^ apart % 2 ^ 64)

-- the exchanges in the order in which the code makes them
abbrev pub onward : ℕ → ℕ
onward x = swapped 33 0x55555555 (swapped 24 0xff00ff00 (swapped 30 0xcccccccc (swapped 48 0x0000ffff (swapped 36 0x0f0f0f0f x))))

abbrev pub backward : ℕ → ℕ
backward x = swapped 36 0x0f0f0f0f (swapped 48 0x0000ffff (swapped 30 0xcccccccc (swapped 24 0xff00ff00 (swapped 33 0x55555555 x))))

onward-xor : (a b : ℕ) → onward (bit_xor a b) ≡ bit_xor (onward a) (onward b)
onward-xor a b = simp swapped-xor

backward-xor : (a b : ℕ) → backward (bit_xor a b) ≡ bit_xor (backward a) (backward b)
backward-xor a b = simp swapped-xor

carries-onward : Carries xor (λ x. bits 64 (onward x))
carries-onward = record { at = λ a b. ap (bits 64) (onward-xor a b) ∙ (carries-bits 64).at (onward a) (onward b) }

carries-backward : Carries xor (λ x. bits 64 (backward x))
carries-backward = record { at = λ a b. ap (bits 64) (backward-xor a b) ∙ (carries-bits 64).at (backward a) (backward b) }

onward_basis : (i : ℕ) → i < 64 → bits 64 (onward (2 ^ i)) ≡ pick initial_permutation (bits 64 (2 ^ i))
unfolding bits pick swapped
onward_basis i h = same_values [] (λ i. bits 64 (onward (2 ^ i))) (λ i. pick initial_permutation (bits 64 (2 ^ i))) 64 i refl h

backward_basis : (i : ℕ) → i < 64 → bits 64 (backward (2 ^ i)) ≡ pick inverse_initial_permutation (bits 64 (2 ^ i))
unfolding bits pick swapped
backward_basis i h = same_values [] (λ i. bits 64 (backward (2 ^ i))) (λ i. pick inverse_initial_permutation (bits 64 (2 ^ i))) 64 i refl h

onward_zero : bits 64 (onward 0) ≡ pick initial_permutation (bits 64 0)
unfolding bits pick swapped
onward_zero = refl

backward_zero : bits 64 (backward 0) ≡ pick inverse_initial_permutation (bits 64 0)
unfolding bits pick swapped
backward_zero = refl

pub onward_is : (x : ℕ) → x < 2 ^ 64 → bits 64 (onward x) ≡ pick initial_permutation (bits 64 x)
onward_is x h =
    linear_agree xor (λ x. bits 64 (onward x)) (λ x. pick initial_permutation (bits 64 x)) carries-onward (carries-pick initial_permutation 64) onward_zero 64 onward_basis x h

pub backward_is : (x : ℕ) → x < 2 ^ 64 → bits 64 (backward x) ≡ pick inverse_initial_permutation (bits 64 x)
backward_is x h =
    linear_agree xor (λ x. bits 64 (backward x)) (λ x. pick inverse_initial_permutation (bits 64 x)) carries-backward (carries-pick inverse_initial_permutation 64) backward_zero 64 backward_basis x h
