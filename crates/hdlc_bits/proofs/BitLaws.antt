-- Lists of bits of octets.
use Rattle.std.proofs.Common.{◌≡◌, ℕ, zero, suc, ◌+◌, ◌-◌, ◌*◌, ◌/◌, ◌%◌, ◌^◌, ◌<◌, ◌≤◌, true, ◌==◌, List, [], ◌∷◌, ◌++◌, length, take, drop, replicate, refl, sym, ◌∙◌, ap, arith, inl, inr, get_or, length-append, zero-add, if◌then◌else◌}
use Rattle.std.specs.Prelude.{slice_index}
use Rattle.std.specs.Int.{trailing_ones, w8}
use Rattle.std.proofs.lemmas.Bool.{cases_Bool, agree_below_at, eqb-true}
use Rattle.std.proofs.lemmas.Grind.{pow_more, flat_map-append}
use Rattle.std.proofs.lemmas.Nat.{pow_pos, div-add-mod'}
use Rattle.std.proofs.Math.Nat.{div-le_self}
use lib.Count.{count_trailing_zeros}
use Rattle.std.proofs.lemmas.List.{take_at, drop_at, drop-append-le, drop-drop, drop-take, length-take, length-drop, take-append-le, take-take, take-replicate, get_or-take, get_or_append_left}
use Rattle.bit_lists.specs.LowestFirst.{low_bits}
use Rattle.bit_lists.proofs.LowestFirstLaws.{length-low_bits, low_number-low_bits, low_bits-zeros}
use Rattle.hdlc_fcs.specs.FrameCheck.{sent_bits}
use Rattle.hdlc_bits.specs.Framing.{octets_from, octets_of_bits}
use Rattle.hdlc_bits.specs.Buffers.{HasOnes}
use Rattle.hdlc_bits.specs.Pieces.{bits_between}

-- ---- the bits of numbers

-- a number below 2 ^ a and another above it
pub low_bits_joined : (a b q r : ℕ) → r < 2 ^ a → low_bits (a + b) (q * 2 ^ a + r) ≡ low_bits a r ++ low_bits b q
unfolding low_bits
low_bits_joined zero b q r h = let e : q * 2 ^ 0 + r ≡ q = omega arith in rw (zero-add b, e) refl
low_bits_joined (suc a) b q r h =
    let plus : suc a ≡ a + 1 = omega arith in
    let twice : 2 ^ suc a ≡ 2 ^ a * 2 = rw plus (pow_more 2 a) in
    let m : ℕ = q * 2 ^ a in
    let whole : q * 2 ^ suc a ≡ m * 2 = ap (λ p. q * p) twice ∙ omega arith in
    let small : r / 2 < 2 ^ a = omega arith in
    let one : (m * 2 + r) % 2 ≡ r % 2 = omega arith in
    let half : (m * 2 + r) / 2 ≡ m + r / 2 = omega arith in
    let e : suc a + b ≡ suc (a + b) = omega arith in
    let tail = low_bits_joined a b q (r / 2) small in
    rw (e, whole, low_bits, one, half) (ap (λ bs. r % 2 ∷ bs) tail)

-- the bits of an octet from a place on
pub low_bits_from : (p o : ℕ) → p ≤ 8 → drop p (low_bits 8 o) ≡ low_bits (8 - p) (o / 2 ^ p)
low_bits_from p o h =
    let whole : o / 2 ^ p * 2 ^ p + o % 2 ^ p ≡ o = div-add-mod' o (2 ^ p) in
    let positive : 0 < 2 ^ p = pow_pos p in
    let joined = low_bits_joined p (8 - p) (o / 2 ^ p) (o % 2 ^ p) (omega arith) in
    let e : p + (8 - p) ≡ 8 = omega arith in
    let parts : low_bits 8 o ≡ low_bits p (o % 2 ^ p) ++ low_bits (8 - p) (o / 2 ^ p) = rw (whole, e) at joined in
    rw parts (drop_at (low_bits p (o % 2 ^ p)) (low_bits (8 - p) (o / 2 ^ p)) p (length-low_bits p (o % 2 ^ p)))

-- ---- the bits of octets

pub sent_bits-cons : (o : ℕ) (os : List ℕ) → sent_bits (o ∷ os) ≡ low_bits 8 o ++ sent_bits os
unfolding sent_bits
sent_bits-cons o os = refl

pub sent_bits-nil : sent_bits [] ≡ []
unfolding sent_bits
sent_bits-nil = refl

pub sent_bits-append : (xs ys : List ℕ) → sent_bits (xs ++ ys) ≡ sent_bits xs ++ sent_bits ys
unfolding sent_bits
sent_bits-append xs ys = flat_map-append (low_bits 8) xs ys

pub length-sent_bits : (os : List ℕ) → length (sent_bits os) ≡ 8 * length os
length-sent_bits [] = ap length sent_bits-nil ∙ omega arith
length-sent_bits (o ∷ os) =
    ap length (sent_bits-cons o os) ∙ length-append (low_bits 8 o) (sent_bits os)
    ∙ omega (arith, length-low_bits 8 o, length-sent_bits os)

-- octets are read back
octets_more : (n o : ℕ) (bs : List ℕ) → o < 256 → octets_from (suc n) (low_bits 8 o ++ bs) ≡ o ∷ octets_from n bs
unfolding octets_from
octets_more n o bs h =
    rw (take_at (low_bits 8 o) bs 8 (length-low_bits 8 o), drop_at (low_bits 8 o) bs 8 (length-low_bits 8 o), low_number-low_bits 8 o h) refl

octets_none : (bs : List ℕ) → octets_from 0 bs ≡ []
unfolding octets_from
octets_none bs = refl

pub octets_back : (os : List ℕ) → ((i : ℕ) → slice_index os i < 256) → octets_from (length os) (sent_bits os) ≡ os
octets_back [] h = octets_none (sent_bits [])
octets_back (o ∷ os) h =
    rw (sent_bits-cons o os) (octets_more (length os) o (sent_bits os) (h 0) ∙ ap (λ xs. o ∷ xs) (octets_back os (λ i. h (suc i))))

pub octets_of_sent : (os : List ℕ) → ((i : ℕ) → slice_index os i < 256) → octets_of_bits (sent_bits os) ≡ os
unfolding octets_of_bits
octets_of_sent os h =
    let size : length (sent_bits os) / 8 ≡ length os = omega (arith, length-sent_bits os) in
    rw size (octets_back os h)

-- ---- ones at the front

ones_at_front : List ℕ → ℕ
ones_at_front [] = 0
ones_at_front (b ∷ bs) = if b == 0 then 0 else ones_at_front bs + 1

has_more : (b : ℕ) (bs : List ℕ) (n : ℕ) → b ≡ 1 → HasOnes bs n → HasOnes (b ∷ bs) (n + 1)
has_more b bs n e h =
    let plus : n + 1 ≡ suc n = omega arith in
    rw (plus, e)
    (record {
      within = omega (arith, h.within);
      ones = ap (λ xs. 1 ∷ xs) h.ones;
      zero = λ lt. h.zero (omega arith);
    })

has_front : (w n : ℕ) → HasOnes (low_bits w n) (ones_at_front (low_bits w n))
unfolding low_bits ones_at_front
has_front zero n = record { within = omega arith; ones = refl; zero = λ lt. absurd (omega arith) }
has_front (suc w) n =
    elim (cases_Bool (n % 2 == 0)) [
      | inl t ↦ rw t (record { within = omega arith; ones = refl; zero = λ lt. eqb-true (n % 2) 0 t })
      | inr f ↦
          let one : n % 2 ≡ 1 = grind (arith, f) in
          rw f (has_more (n % 2) (low_bits w (n / 2)) (ones_at_front (low_bits w (n / 2))) one (has_front w (n / 2)))
    ]

front_zeros : (k : ℕ) → ones_at_front (replicate k 0) ≡ 0
unfolding ones_at_front
front_zeros zero = refl
front_zeros (suc k) = refl

front-zeros : (xs : List ℕ) (k : ℕ) → ones_at_front (xs ++ replicate k 0) ≡ ones_at_front xs
unfolding ones_at_front
front-zeros [] k = front_zeros k
front-zeros (x ∷ xs) k = ap (λ n. if x == 0 then 0 else n + 1) (front-zeros xs k)

trailing_is_front : (m : ℕ) → m < 256 → trailing_ones w8 m ≡ ones_at_front (low_bits 8 m)
unfolding ones_at_front low_bits count_trailing_zeros
trailing_is_front m h = eqb-true _ _ (agree_below_at (λ j. trailing_ones w8 j == ones_at_front (low_bits 8 j)) (λ _. true) 256 m refl h)

pub narrower : (p o : ℕ) → p < 8 → o < 256 → o / 2 ^ p < 2 ^ (8 - p)
narrower zero o h k = omega arith
narrower (suc zero) o h k = omega arith
narrower (suc (suc zero)) o h k = omega arith
narrower (suc (suc (suc zero))) o h k = omega arith
narrower (suc (suc (suc (suc zero)))) o h k = omega arith
narrower (suc (suc (suc (suc (suc zero))))) o h k = omega arith
narrower (suc (suc (suc (suc (suc (suc zero)))))) o h k = omega arith
narrower (suc (suc (suc (suc (suc (suc (suc zero))))))) o h k = omega arith
narrower (suc (suc (suc (suc (suc (suc (suc (suc p)))))))) o h k = absurd (omega arith)

less_than_octet : (p o : ℕ) → o < 256 → o / 2 ^ p < 256
less_than_octet p o h = omega (arith, div-le_self o (2 ^ p))

-- the ones of an octet from a place on
pub ones_from_place : (o p : ℕ) → o < 256 → p < 8 → HasOnes (drop p (low_bits 8 o)) (trailing_ones w8 (o / 2 ^ p))
ones_from_place o p h k =
    let m : ℕ = o / 2 ^ p in
    let e : 8 - p + p ≡ 8 = omega arith in
    let whole : m * 2 ^ p + o % 2 ^ p ≡ o = div-add-mod' o (2 ^ p) in
    let narrow : m < 2 ^ (8 - p) = narrower p o k h in
    let zeros : low_bits 8 m ≡ low_bits (8 - p) m ++ replicate p 0 = rw e at (low_bits-zeros (8 - p) p m narrow) in
    let same : trailing_ones w8 m ≡ ones_at_front (low_bits (8 - p) m) =
    trailing_is_front m (less_than_octet p o h) ∙ ap ones_at_front zeros ∙ front-zeros (low_bits (8 - p) m) p in
    rw (low_bits_from p o (omega arith), same) (has_front (8 - p) m)

-- ---- a part of the bits of octets

-- the bits from a place on are the rest of that octet and the octets behind
window : (os : List ℕ) (q p : ℕ) → q < length os → p ≤ 8 → drop (8 * q + p) (sent_bits os) ≡ drop p (low_bits 8 (slice_index os q)) ++ sent_bits (drop (q + 1) os)
window [] q p h k = absurd (omega arith)
window (o ∷ os) zero p h k =
    let e : 8 * 0 + p ≡ p = omega arith in
    rw (e, sent_bits-cons o os) (drop-append-le p (low_bits 8 o) (sent_bits os) (omega (arith, length-low_bits 8 o)))
window (o ∷ os) (suc q) p h k =
    let e : 8 * suc q + p ≡ 8 + (8 * q + p) = omega arith in
    let plus : suc q + 1 ≡ suc (q + 1) = omega arith in
    rw (e, plus, sent_bits-cons o os)
    (sym (drop-drop (8 * q + p) 8 (low_bits 8 o ++ sent_bits os))
    ∙ ap (λ bs. drop (8 * q + p) bs) (drop_at (low_bits 8 o) (sent_bits os) 8 (length-low_bits 8 o))
    ∙ window os q p (omega arith) k)

pub length-bits_between : (os : List ℕ) (first end : ℕ) → first ≤ end → end ≤ 8 * length os → length (bits_between os first end) ≡ end - first
unfolding bits_between
length-bits_between os first end h k =
    length-take (end - first) (drop first (sent_bits os)) ∙ omega (arith, length-drop first (sent_bits os), length-sent_bits os)

pub drop-bits_between : (os : List ℕ) (first at end : ℕ) → first ≤ at → at ≤ end → drop (at - first) (bits_between os first end) ≡ bits_between os at end
unfolding bits_between
drop-bits_between os first at end h k =
    let e : end - first ≡ (at - first) + (end - at) = omega arith in
    let f : first + (at - first) ≡ at = omega arith in
    rw e (drop-take (at - first) (end - at) (drop first (sent_bits os)) ∙ ap (λ bs. take (end - at) bs) (drop-drop (at - first) first (sent_bits os) ∙ ap (λ n. drop n (sent_bits os)) f))

-- where the octet at a place has t ones from there on, the bits from there on begin with as many of them as are given
pub begins_with_ones : (os : List ℕ) (at end t m : ℕ) → at < end → end ≤ 8 * length os → HasOnes (drop (at % 8) (low_bits 8 (slice_index os (at / 8)))) t → m ≤ t → m ≤ end - at
    → take m (bits_between os at end) ≡ replicate m 1
unfolding bits_between
begins_with_ones os at end t m lt within h few fits =
    let w : List ℕ = drop (at % 8) (low_bits 8 (slice_index os (at / 8))) in
    let rest : List ℕ = sent_bits (drop (at / 8 + 1) os) in
    let place : 8 * (at / 8) + at % 8 ≡ at = omega arith in
    let bits : drop at (sent_bits os) ≡ w ++ rest = rw place at (window os (at / 8) (at % 8) (omega arith) (omega arith)) in
    let inside : m ≤ length w = omega (arith, h.within) in
    take-take m (end - at) (drop at (sent_bits os)) fits
    ∙ ap (λ bs. take m bs) bits ∙ take-append-le m w rest inside ∙ sym (take-take m t w few) ∙ ap (λ bs. take m bs) h.ones ∙ take-replicate m t 1 few

-- and where there are more bits, a 0 follows
pub zero_behind_ones : (os : List ℕ) (at end t : ℕ) → at < end → end ≤ 8 * length os → HasOnes (drop (at % 8) (low_bits 8 (slice_index os (at / 8)))) t → t < 8 - at % 8 → t < end - at
    → get_or (bits_between os at end) t 0 ≡ 0
unfolding bits_between
zero_behind_ones os at end t lt within h short fits =
    let w : List ℕ = drop (at % 8) (low_bits 8 (slice_index os (at / 8))) in
    let rest : List ℕ = sent_bits (drop (at / 8 + 1) os) in
    let place : 8 * (at / 8) + at % 8 ≡ at = omega arith in
    let bits : drop at (sent_bits os) ≡ w ++ rest = rw place at (window os (at / 8) (at % 8) (omega arith) (omega arith)) in
    let size : length w ≡ 8 - at % 8 = length-drop (at % 8) (low_bits 8 (slice_index os (at / 8))) ∙ omega (arith, length-low_bits 8 (slice_index os (at / 8))) in
    let inside : t < length w = omega arith in
    get_or-take (end - at) (drop at (sent_bits os)) t 0 fits ∙ ap (λ bs. get_or bs t 0) bits ∙ get_or_append_left w rest 0 t inside ∙ h.zero inside
