-- Eight octets are shifted through the register at once, each by its own table.
use Rattle.std.proofs.Common.{◌≡◌, ℕ, zero, suc, ◌+◌, ◌-◌, ◌*◌, ◌/◌, ◌%◌, ◌^◌, ◌<◌, List, [], ◌∷◌, length, refl, sym, ◌∙◌, ap, arith, bit_xor, get_or, drop, zero-add}
use Rattle.std.specs.Int.Bits.{xor_assoc, xor_comm, xor_zero_r}
use Rattle.std.proofs.lemmas.List.{drop_more, drop_all, length-drop}
use Rattle.bit_lists.proofs.Linear.{xor_crossed}
use Rattle.hdlc_fcs.specs.Register.{shifted_once, shifted, register_after}
use Rattle.hdlc_fcs.proofs.TableLaws.{shifted-xor, shifted_octet}

pub shifted-more : (m n r : ℕ) → shifted (m + n) r ≡ shifted n (shifted m r)
unfolding shifted
shifted-more zero n r = rw (zero-add n) refl
shifted-more (suc m) n r = let e : suc m + n ≡ suc (m + n) = omega arith in rw e (shifted-more m n (shifted_once r))

-- n shifts behind eight
pub shifted-behind : (n r : ℕ) → shifted (8 * (n + 1)) r ≡ shifted (8 * n) (shifted 8 r)
shifted-behind n r = let more : 8 * (n + 1) ≡ 8 + 8 * n = omega arith in rw more (shifted-more 8 (8 * n) r)

-- what a sum gives is the sum of what its parts give, of which one meets the octets
pub after_sum : (os : List ℕ) (a b : ℕ) → register_after (bit_xor a b) os ≡ bit_xor (shifted (8 * length os) a) (register_after b os)
unfolding register_after shifted
after_sum [] a b = refl
after_sum (o ∷ os) a b =
    let entered : shifted 8 (bit_xor (bit_xor a b) (o % 256)) ≡ bit_xor (shifted 8 a) (shifted 8 (bit_xor b (o % 256))) =
    ap (shifted 8) (xor_assoc a b (o % 256)) ∙ shifted-xor 8 a (bit_xor b (o % 256)) in
    let onward = after_sum os (shifted 8 a) (shifted 8 (bit_xor b (o % 256))) in
    let longer : length (o ∷ os) ≡ length os + 1 = omega arith in
    rw longer
    (ap (λ r. register_after r os) entered ∙ onward ∙ ap (λ x. bit_xor x (register_after (shifted 8 (bit_xor b (o % 256))) os)) (sym (shifted-behind (length os) a)))

xor_zero_l : (a : ℕ) → bit_xor 0 a ≡ a
xor_zero_l a = xor_comm 0 a ∙ xor_zero_r a

rest_length : (os : List ℕ) (i : ℕ) → length (drop i os) ≡ length os - i
rest_length os i = length-drop i os

ended : (os : List ℕ) → length os ≡ 8 → register_after 0 (drop 8 os) ≡ 0
unfolding register_after
ended os size = ap (register_after 0) (drop_all 8 os (omega arith))

-- an octet that enters an empty register, with n - 1 octets behind it
sum_from : (os : List ℕ) (i n : ℕ) → i + n ≡ length os → 0 < n → get_or os i 0 < 2 ^ 8
    → register_after 0 (drop i os) ≡ bit_xor (shifted (8 * n) (get_or os i 0)) (register_after 0 (drop (i + 1) os))
unfolding register_after
sum_from os i n e h small =
    let o : ℕ = get_or os i 0 in
    let octet : o % 256 ≡ o = omega arith in
    let rest : List ℕ = drop (i + 1) os in
    let size : length rest + 1 ≡ n = omega (arith, rest_length os (i + 1)) in
    let entered : shifted 8 (bit_xor 0 (o % 256)) ≡ bit_xor (shifted 8 o) 0 = rw (xor_zero_l (o % 256), octet) (sym (xor_zero_r (shifted 8 o))) in
    ap (register_after 0) (drop_more os i 0 (omega arith))
    ∙ ap (λ r. register_after r rest) entered
    ∙ after_sum rest (shifted 8 o) 0
    ∙ ap (λ x. bit_xor x (register_after 0 rest)) (sym (shifted-behind (length rest) o) ∙ ap (λ m. shifted (8 * m) o) size)

-- a sum in the code's order
turned : (a b c d e f g h : ℕ)
    → bit_xor (bit_xor (bit_xor (bit_xor (bit_xor (bit_xor h g) f) e) d) c) (bit_xor b a) ≡ bit_xor a (bit_xor b (bit_xor c (bit_xor d (bit_xor e (bit_xor f (bit_xor g h))))))
turned a b c d e f g h =
    let t : ℕ = bit_xor (bit_xor (bit_xor (bit_xor (bit_xor h g) f) e) d) c in
    let tail : t ≡ bit_xor c (bit_xor d (bit_xor e (bit_xor f (bit_xor g h)))) =
    xor_comm (bit_xor (bit_xor (bit_xor (bit_xor h g) f) e) d) c
    ∙ ap (λ x. bit_xor c x) (xor_comm (bit_xor (bit_xor (bit_xor h g) f) e) d
    ∙ ap (λ x. bit_xor d x) (xor_comm (bit_xor (bit_xor h g) f) e
    ∙ ap (λ x. bit_xor e x) (xor_comm (bit_xor h g) f ∙ ap (λ x. bit_xor f x) (xor_comm h g)))) in
    xor_comm t (bit_xor b a) ∙ ap (λ x. bit_xor x t) (xor_comm b a) ∙ xor_assoc a b t ∙ ap (λ x. bit_xor a (bit_xor b x)) tail

-- the register's two octets meet the first two
crossed : (high low x y t : ℕ) → bit_xor (bit_xor high low) (bit_xor x (bit_xor y t)) ≡ bit_xor (bit_xor x low) (bit_xor (bit_xor y high) t)
crossed high low x y t =
    ap (λ s. bit_xor s (bit_xor x (bit_xor y t))) (xor_comm high low)
    ∙ xor_crossed low high x (bit_xor y t)
    ∙ ap (λ s. bit_xor s (bit_xor high (bit_xor y t))) (xor_comm low x)
    ∙ ap (λ s. bit_xor (bit_xor x low) s) (sym (xor_assoc high y t) ∙ ap (λ s. bit_xor s t) (xor_comm high y))

pub eight_after : (r : ℕ) (os : List ℕ) → length os ≡ 8 → ((k : ℕ) → get_or os k 0 < 2 ^ 8)
    → bit_xor (bit_xor (bit_xor (bit_xor (bit_xor (bit_xor
    (shifted 8 (get_or os 7 0)) (shifted 16 (get_or os 6 0))) (shifted 24 (get_or os 5 0))) (shifted 32 (get_or os 4 0))) (shifted 40 (get_or os 3 0))) (shifted 48 (get_or os 2 0)))
    (bit_xor (shifted 56 (bit_xor (get_or os 1 0) (r / 256))) (shifted 64 (bit_xor (get_or os 0 0) (r % 256))))
    ≡ register_after r os
eight_after r os size small =
    let last : register_after 0 (drop 7 os) ≡ shifted 8 (get_or os 7 0) = sum_from os 7 1 (omega arith) (omega arith) (small 7) ∙ ap (λ x. bit_xor (shifted 8 (get_or os 7 0)) x) (ended os size) ∙ xor_zero_r (shifted 8 (get_or os 7 0)) in
    let all : register_after 0 (drop 0 os) ≡ bit_xor (shifted 64 (get_or os 0 0)) (bit_xor (shifted 56 (get_or os 1 0)) (bit_xor (shifted 48 (get_or os 2 0)) (bit_xor (shifted 40 (get_or os 3 0)) (bit_xor (shifted 32 (get_or os 4 0)) (bit_xor (shifted 24 (get_or os 5 0)) (bit_xor (shifted 16 (get_or os 6 0)) (shifted 8 (get_or os 7 0)))))))) =
    rw (sum_from os 0 8 (omega arith) (omega arith) (small 0), sum_from os 1 7 (omega arith) (omega arith) (small 1), sum_from os 2 6 (omega arith) (omega arith) (small 2), sum_from os 3 5 (omega arith) (omega arith) (small 3), sum_from os 4 4 (omega arith) (omega arith) (small 4), sum_from os 5 3 (omega arith) (omega arith) (small 5), sum_from os 6 2 (omega arith) (omega arith) (small 6), last) refl in
    let parted : shifted 64 r ≡ bit_xor (shifted 56 (r / 256)) (shifted 64 (r % 256)) =
    shifted-behind 7 r ∙ ap (shifted 56) (shifted_octet r) ∙ shifted-xor 56 (r / 256) (shifted 8 (r % 256)) ∙ ap (λ x. bit_xor (shifted 56 (r / 256)) x) (sym (shifted-behind 7 (r % 256))) in
    let started : register_after r os ≡ bit_xor (shifted 64 r) (register_after 0 os) =
    ap (λ s. register_after s os) (sym (xor_zero_r r)) ∙ after_sum os r 0 ∙ ap (λ n. bit_xor (shifted (8 * n) r) (register_after 0 os)) size in
    turned (shifted 64 (bit_xor (get_or os 0 0) (r % 256))) (shifted 56 (bit_xor (get_or os 1 0) (r / 256))) (shifted 48 (get_or os 2 0)) (shifted 40 (get_or os 3 0)) (shifted 32 (get_or os 4 0)) (shifted 24 (get_or os 5 0)) (shifted 16 (get_or os 6 0)) (shifted 8 (get_or os 7 0))
    ∙ rw (shifted-xor 64 (get_or os 0 0) (r % 256), shifted-xor 56 (get_or os 1 0) (r / 256), started, parted, all) (sym (crossed (shifted 56 (r / 256)) (shifted 64 (r % 256)) (shifted 64 (get_or os 0 0)) (shifted 56 (get_or os 1 0)) (bit_xor (shifted 48 (get_or os 2 0)) (bit_xor (shifted 40 (get_or os 3 0)) (bit_xor (shifted 32 (get_or os 4 0)) (bit_xor (shifted 24 (get_or os 5 0)) (bit_xor (shifted 16 (get_or os 6 0)) (shifted 8 (get_or os 7 0)))))))))
