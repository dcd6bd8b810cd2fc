-- The exclusive or of strings of bits, place by place.
use Rattle.std.proofs.Common.{◌≡◌, ℕ, zero, suc, ◌+◌, ◌%◌, ◌^◌, ◌<◌, ◌≤◌, List, [], ◌∷◌, ◌++◌, length, get_or, take, drop, refl, ap, ◌∙◌, arith, true}
use Rattle.std.specs.Prelude.{bit_xor, min, replicate, nat_lt}
use Rattle.std.specs.List.{list_all}
use Rattle.std.specs.Int.{bit_at}
use Rattle.std.specs.Int.Bits.{xor_assoc, xor_self, xor_zero_l, xor_zero_r}
use Rattle.std.proofs.lemmas.Bool.{and_parts, and_from, ltb-true, lt-ltb}
use Rattle.std.proofs.lemmas.Nat.{xor_lt}
use Rattle.std.proofs.lemmas.Nat.Bits.{bit_at_xor, bit_at-lt}
use Rattle.bit_lists.specs.Bits.{bits, xor, all_bits}

sum_is_xor : (x y : ℕ) → x < 2 → y < 2 → (x + y) % 2 ≡ bit_xor x y
sum_is_xor zero zero hx hy = refl
sum_is_xor zero (suc zero) hx hy = refl
sum_is_xor (suc zero) zero hx hy = refl
sum_is_xor (suc zero) (suc zero) hx hy = refl
sum_is_xor (suc (suc x)) y hx hy = absurd (omega arith)
sum_is_xor zero (suc (suc y)) hx hy = absurd (omega arith)
sum_is_xor (suc zero) (suc (suc y)) hx hy = absurd (omega arith)

pub bits-xor : (w a b : ℕ) → bits w (bit_xor a b) ≡ xor (bits w a) (bits w b)
unfolding bits xor
bits-xor zero a b = refl
bits-xor (suc w) a b =
    let head : bit_at (bit_xor a b) w ≡ bit_xor (bit_at a w) (bit_at b w) =
    bit_at_xor a b w ∙ sum_is_xor (bit_at a w) (bit_at b w) (bit_at-lt a w) (bit_at-lt b w) in
    let tail = bits-xor w a b in
    cc

pub length-xor : (xs ys : List ℕ) → length (xor xs ys) ≡ min (length xs) (length ys)
unfolding xor
length-xor [] ys = omega arith
length-xor (x ∷ xs) [] = omega arith
length-xor (x ∷ xs) (y ∷ ys) = let tail = length-xor xs ys in omega arith

pub length-xor_same : (xs ys : List ℕ) → length xs ≡ length ys → length (xor xs ys) ≡ length xs
length-xor_same xs ys h = omega (arith, length-xor xs ys)

pub get_or-xor : (xs ys : List ℕ) (i : ℕ) → length xs ≡ length ys → get_or (xor xs ys) i 0 ≡ bit_xor (get_or xs i 0) (get_or ys i 0)
unfolding xor
get_or-xor [] [] i h = refl
get_or-xor [] (y ∷ ys) i h = absurd (omega arith)
get_or-xor (x ∷ xs) [] i h = absurd (omega arith)
get_or-xor (x ∷ xs) (y ∷ ys) zero h = refl
get_or-xor (x ∷ xs) (y ∷ ys) (suc i) h = get_or-xor xs ys i (omega arith)

pub take-xor : (n : ℕ) (xs ys : List ℕ) → take n (xor xs ys) ≡ xor (take n xs) (take n ys)
unfolding xor
take-xor zero xs ys = refl
take-xor (suc n) [] ys = refl
take-xor (suc n) (x ∷ xs) [] = refl
take-xor (suc n) (x ∷ xs) (y ∷ ys) = ap (λ zs. bit_xor x y ∷ zs) (take-xor n xs ys)

pub drop-xor : (n : ℕ) (xs ys : List ℕ) → length xs ≡ length ys → drop n (xor xs ys) ≡ xor (drop n xs) (drop n ys)
unfolding xor
drop-xor zero xs ys h = refl
drop-xor (suc n) [] [] h = refl
drop-xor (suc n) [] (y ∷ ys) h = absurd (omega arith)
drop-xor (suc n) (x ∷ xs) [] h = absurd (omega arith)
drop-xor (suc n) (x ∷ xs) (y ∷ ys) h = drop-xor n xs ys (omega arith)

pub xor-append : (xs us ys vs : List ℕ) → length xs ≡ length ys → xor (xs ++ us) (ys ++ vs) ≡ xor xs ys ++ xor us vs
unfolding xor
xor-append [] us [] vs h = refl
xor-append [] us (y ∷ ys) vs h = absurd (omega arith)
xor-append (x ∷ xs) us [] vs h = absurd (omega arith)
xor-append (x ∷ xs) us (y ∷ ys) vs h = ap (λ zs. bit_xor x y ∷ zs) (xor-append xs us ys vs (omega arith))

pub xor-zeros_l : (n : ℕ) (ys : List ℕ) → length ys ≡ n → xor (replicate n 0) ys ≡ ys
unfolding xor
xor-zeros_l zero [] h = refl
xor-zeros_l zero (y ∷ ys) h = absurd (omega arith)
xor-zeros_l (suc n) [] h = absurd (omega arith)
xor-zeros_l (suc n) (y ∷ ys) h =
    let head = xor_zero_l y in
    let tail = xor-zeros_l n ys (omega arith) in
    cc

pub xor-zeros_r : (n : ℕ) (xs : List ℕ) → length xs ≡ n → xor xs (replicate n 0) ≡ xs
unfolding xor
xor-zeros_r zero [] h = refl
xor-zeros_r zero (x ∷ xs) h = absurd (omega arith)
xor-zeros_r (suc n) [] h = absurd (omega arith)
xor-zeros_r (suc n) (x ∷ xs) h =
    let head = xor_zero_r x in
    let tail = xor-zeros_r n xs (omega arith) in
    cc

-- twice is not at all
pub xor_twice : (xs ys : List ℕ) → length xs ≤ length ys → xor (xor xs ys) ys ≡ xs
unfolding xor
xor_twice [] ys h = refl
xor_twice (x ∷ xs) [] h = absurd (omega arith)
xor_twice (x ∷ xs) (y ∷ ys) h =
    let head : bit_xor (bit_xor x y) y ≡ x = xor_assoc x y y ∙ ap (bit_xor x) (xor_self y) ∙ xor_zero_r x in
    let tail = xor_twice xs ys (omega arith) in
    cc

pub all_bits-xor : (xs ys : List ℕ) → all_bits xs ≡ true → all_bits ys ≡ true → all_bits (xor xs ys) ≡ true
unfolding xor all_bits
all_bits-xor [] ys hx hy = refl
all_bits-xor (x ∷ xs) [] hx hy = refl
all_bits-xor (x ∷ xs) (y ∷ ys) hx hy =
    let px = and_parts (nat_lt x 2) (list_all (λ b. nat_lt b 2) xs) hx in
    let py = and_parts (nat_lt y 2) (list_all (λ b. nat_lt b 2) ys) hy in
    let head : bit_xor x y < 2 ^ 1 = xor_lt 1 x y (ltb-true x 2 px.0) (ltb-true y 2 py.0) in
    and_from (nat_lt (bit_xor x y) 2) (list_all (λ b. nat_lt b 2) (xor xs ys)) (lt-ltb (bit_xor x y) 2 head) (all_bits-xor xs ys px.1 py.1)
