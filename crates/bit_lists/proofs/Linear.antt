-- Functions on words that are known by few values: from their values below a bound, and, where they carry the exclusive or
-- through, from their values at the powers of 2.
use Rattle.std.proofs.Common.{◌≡◌, ℕ, zero, suc, ◌+◌, ◌-◌, ◌*◌, ◌/◌, ◌%◌, ◌^◌, ◌<◌, ◌++◌, List, length, take, drop, get_or, map, refl, sym, ap, ◌∙◌, arith, inl, inr, min}
use Rattle.std.specs.Prelude.{bit_and, bit_xor, replicate}
use Rattle.std.specs.List.{range_with_len}
use Rattle.std.specs.Int.{bit_at}
use Rattle.std.specs.Int.Bits.{xor_assoc, xor_comm, xor_shifted, xor_block, xor_mod}
use Rattle.std.proofs.lemmas.Bool.{cases_lt}
use Rattle.std.proofs.lemmas.Nat.{pow_pos, xor_shr}
use Rattle.std.proofs.lemmas.Nat.Bits.{bit_at_and, bit_at_xor, bit_at-lt, same_from_bits}
use Rattle.std.proofs.lemmas.List.{append_assoc, length-append, length-replicate, take-append-drop, take-take, drop-take}
use Rattle.std.proofs.lemmas.List.FromFn.{get_or-map-range_with_len}
use Rattle.std.proofs.lemmas.Grind.{pow_more}
use Rattle.bit_lists.specs.Bits.{bits, pick, xor}
use Rattle.bit_lists.proofs.Widths.{length-bits}
use Rattle.bit_lists.proofs.Xors.{bits-xor, xor-append, xor-zeros_l, xor-zeros_r}
use Rattle.bit_lists.proofs.Picks.{pick-xor}

-- two functions agree below n where the lists of their values are one list
pub same_values : {X : Type 0} (d : X) (f g : ℕ → X) (n i : ℕ) → map f (range_with_len 0 n) ≡ map g (range_with_len 0 n) → i < n → f i ≡ g i
same_values d f g n i e h =
    let l = get_or-map-range_with_len f 0 n i i d h (omega arith) in
    let r = get_or-map-range_with_len g 0 n i i d h (omega arith) in
    sym l ∙ ap (λ xs. get_or xs i d) e ∙ r

-- f carries the exclusive or of numbers to op
pub record Carries {X : Type 0} (op : X → X → X) (f : ℕ → X) : Type 0 where
  pub at : (a b : ℕ) → f (bit_xor a b) ≡ op (f a) (f b)

-- two functions that carry it agree where they agree at the powers of 2
pub linear_agree : {X : Type 0} (op : X → X → X) (f g : ℕ → X) → Carries op f → Carries op g → f 0 ≡ g 0
    → (w : ℕ) → ((i : ℕ) → i < w → f (2 ^ i) ≡ g (2 ^ i)) → (n : ℕ) → n < 2 ^ w → f n ≡ g n
linear_agree op f g lf lg none zero h n small = let e : n ≡ 0 = omega arith in rw e none
linear_agree op f g lf lg none (suc w) h n small =
    elim (cases_lt n (2 ^ w)) [
      | inl low ↦ linear_agree op f g lf lg none w (λ i lt. h i (omega arith)) n low
      | inr high ↦
          let r : ℕ = n - 2 ^ w in
          let plus : suc w ≡ w + 1 = omega arith in
          let twice : 2 ^ suc w ≡ 2 ^ w * 2 = rw plus (pow_more 2 w) in
          let rest : r < 2 ^ w = omega arith in
          let one : 1 * 2 ^ w ≡ 2 ^ w = omega arith in
          let sum : bit_xor (2 ^ w) r ≡ n = rw one at (xor_shifted 1 w r rest) ∙ omega arith in
          let tail : f r ≡ g r = linear_agree op f g lf lg none w (λ i lt. h i (omega arith)) r rest in
          let head : f (2 ^ w) ≡ g (2 ^ w) = h w (omega arith) in
          rw (← sum) (lf.at (2 ^ w) r ∙ ap (λ x. op x (f r)) head ∙ ap (op (g (2 ^ w))) tail ∙ sym (lg.at (2 ^ w) r))
    ]

-- ---- steps that carry the exclusive or
pub xor_crossed : (a b c d : ℕ) → bit_xor (bit_xor a b) (bit_xor c d) ≡ bit_xor (bit_xor a c) (bit_xor b d)
xor_crossed a b c d =
    let inner : bit_xor b (bit_xor c d) ≡ bit_xor c (bit_xor b d) =
    sym (xor_assoc b c d) ∙ ap (λ x. bit_xor x d) (xor_comm b c) ∙ xor_assoc c b d in
    xor_assoc a b (bit_xor c d) ∙ ap (bit_xor a) inner ∙ sym (xor_assoc a c (bit_xor b d))

pub shl-xor : (w k a b : ℕ) → bit_xor a b * 2 ^ k % 2 ^ w ≡ bit_xor (a * 2 ^ k % 2 ^ w) (b * 2 ^ k % 2 ^ w)
shl-xor w k a b =
    let positive = pow_pos k in
    let block : bit_xor (a * 2 ^ k + 0) (b * 2 ^ k + 0) ≡ bit_xor a b * 2 ^ k + bit_xor 0 0 = xor_block k a b 0 0 positive positive in
    let za : a * 2 ^ k + 0 ≡ a * 2 ^ k = omega arith in
    let zb : b * 2 ^ k + 0 ≡ b * 2 ^ k = omega arith in
    let zc : bit_xor a b * 2 ^ k + 0 ≡ bit_xor a b * 2 ^ k = omega arith in
    let whole : bit_xor (a * 2 ^ k) (b * 2 ^ k) ≡ bit_xor a b * 2 ^ k = rw (za, zb) at block ∙ zc in
    sym (ap (λ x. x % 2 ^ w) whole) ∙ xor_mod (a * 2 ^ k) (b * 2 ^ k) w

min_sum : (x y m : ℕ) → x < 2 → y < 2 → m < 2 → min ((x + y) % 2) m ≡ (min x m + min y m) % 2
min_sum zero zero zero hx hy hm = refl
min_sum zero zero (suc zero) hx hy hm = refl
min_sum zero (suc zero) zero hx hy hm = refl
min_sum zero (suc zero) (suc zero) hx hy hm = refl
min_sum (suc zero) zero zero hx hy hm = refl
min_sum (suc zero) zero (suc zero) hx hy hm = refl
min_sum (suc zero) (suc zero) zero hx hy hm = refl
min_sum (suc zero) (suc zero) (suc zero) hx hy hm = refl
min_sum (suc (suc x)) y m hx hy hm = absurd (omega arith)
min_sum zero (suc (suc y)) m hx hy hm = absurd (omega arith)
min_sum (suc zero) (suc (suc y)) m hx hy hm = absurd (omega arith)
min_sum zero zero (suc (suc m)) hx hy hm = absurd (omega arith)
min_sum zero (suc zero) (suc (suc m)) hx hy hm = absurd (omega arith)
min_sum (suc zero) zero (suc (suc m)) hx hy hm = absurd (omega arith)
min_sum (suc zero) (suc zero) (suc (suc m)) hx hy hm = absurd (omega arith)

pub and-xor : (a b m : ℕ) → bit_and (bit_xor a b) m ≡ bit_xor (bit_and a m) (bit_and b m)
and-xor a b m =
    same_from_bits (bit_and (bit_xor a b) m) (bit_xor (bit_and a m) (bit_and b m))
    (λ i.
    let left : bit_at (bit_and (bit_xor a b) m) i ≡ min (bit_at (bit_xor a b) i) (bit_at m i) = bit_at_and (bit_xor a b) m i in
    let inner : bit_at (bit_xor a b) i ≡ (bit_at a i + bit_at b i) % 2 = bit_at_xor a b i in
    let right : bit_at (bit_xor (bit_and a m) (bit_and b m)) i ≡ (bit_at (bit_and a m) i + bit_at (bit_and b m) i) % 2 = bit_at_xor (bit_and a m) (bit_and b m) i in
    let ra = bit_at_and a m i in
    let rb = bit_at_and b m i in
    left ∙ ap (λ x. min x (bit_at m i)) inner
    ∙ min_sum (bit_at a i) (bit_at b i) (bit_at m i) (bit_at-lt a i) (bit_at-lt b i) (bit_at-lt m i)
    ∙ sym (right ∙ ap (λ x. (x + bit_at (bit_and b m) i) % 2) ra ∙ ap (λ x. (min (bit_at a i) (bit_at m i) + x) % 2) rb))

-- the bits of a word, picked by a table, carry it
pub carries-pick : (t : List ℕ) (w : ℕ) → Carries xor (λ n. pick t (bits w n))
carries-pick t w = record {
  at = λ a b. ap (pick t) (bits-xor w a b) ∙ pick-xor t (bits w a) (bits w b) (length-bits w a ∙ sym (length-bits w b));
}

pub carries-bits : (w : ℕ) → Carries xor (bits w)
carries-bits w = record { at = λ a b. bits-xor w a b }

-- ---- lists made of parts, each of which carries it
pub carries-append : (f g : ℕ → List ℕ) → Carries xor f → Carries xor g → ((a b : ℕ) → length (f a) ≡ length (f b)) → Carries xor (λ n. f n ++ g n)
carries-append f g cf cg same = record {
  at = λ a b.
      ap (λ (xs : List ℕ). xs ++ g (bit_xor a b)) (cf.at a b) ∙ ap (λ (ys : List ℕ). xor (f a) (f b) ++ ys) (cg.at a b)
      ∙ sym (xor-append (f a) (g a) (f b) (g b) (same a b));
}

pub carries-bits_shr : (w k : ℕ) → Carries xor (λ n. bits w (n / 2 ^ k))
carries-bits_shr w k = record { at = λ a b. ap (bits w) (xor_shr a b k) ∙ bits-xor w (a / 2 ^ k) (b / 2 ^ k) }

-- A pick computed by tables: what the front gives, with zeros behind, and what a chunk alone among zeros gives, are together
-- what the front with the chunk gives.
pub chunk_joined : (f : ℕ → List ℕ) → Carries xor f → (t front chunk : List ℕ) (out entry a s b : ℕ)
    → length front ≡ a → length chunk ≡ s
    → f out ≡ pick t (front ++ replicate (s + b) 0)
    → f entry ≡ pick t (replicate a 0 ++ (chunk ++ replicate b 0))
    → f (bit_xor out entry) ≡ pick t ((front ++ chunk) ++ replicate b 0)
chunk_joined f carries t front chunk out entry a s b size_front size_chunk held given =
    let zeros : List ℕ = replicate (s + b) 0 in
    let before : List ℕ = replicate a 0 in
    let rest : List ℕ = replicate b 0 in
    let behind : List ℕ = chunk ++ rest in
    let long : length behind ≡ s + b = omega (arith, length-append chunk rest, length-replicate {A = ℕ} b 0) in
    let size_before : length before ≡ a = length-replicate {A = ℕ} a 0 in
    let size_zeros : length zeros ≡ s + b = length-replicate {A = ℕ} (s + b) 0 in
    let same : length (front ++ zeros) ≡ length (before ++ behind) = omega (arith, length-append front zeros, length-append before behind) in
    let split : xor (front ++ zeros) (before ++ behind) ≡ xor front before ++ xor zeros behind = xor-append front zeros before behind (omega arith) in
    let left : xor front before ≡ front = xor-zeros_r a front size_front in
    let right : xor zeros behind ≡ behind = xor-zeros_l (s + b) behind long in
    let regroup : (front ++ chunk) ++ rest ≡ front ++ (chunk ++ rest) = append_assoc front chunk rest in
    carries.at out entry ∙ rw (held, given) (sym (pick-xor t (front ++ zeros) (before ++ behind) same)) ∙ ap (pick t) (split ∙ rw (left, right) (sym regroup))

-- one chunk more of a list
pub take_chunk : {X : Type 0} (xs : List X) (a s : ℕ) → take (a + s) xs ≡ take a xs ++ take s (drop a xs)
take_chunk xs a s =
    let whole = take-append-drop a (take (a + s) xs) in
    let front = take-take a (a + s) xs (omega arith) in
    let behind = drop-take a s xs in
    sym whole ∙ rw (front, behind) refl
