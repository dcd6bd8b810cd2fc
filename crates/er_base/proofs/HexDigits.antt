-- The digits of octets by the steps of the code, and run after run.
use Rattle.std.proofs.Common.{arith, ◌≡◌, ℕ, ◌+◌, ◌*◌, ◌/◌, ◌%◌, ◌==◌, ◌<◌, ◌≤◌, true, List, [], ◌∷◌, ◌++◌, length, take, get_or, set, slice_index, bit_and, bit_or, refl, ap, sym, ◌∙◌, append_assoc}
use Rattle.std.proofs.lemmas.Bool.{agree_below_at, eqb-true}
use Rattle.std.proofs.lemmas.List.{take_at, take_more, take_more_set, take_all, length-set}
use Rattle.hex.specs.Hex.{encode_with, encode_lower, lower_digits}
use Rattle.hex.proofs.HexLemmas.{length-encode_with}

-- both values of an octet side by side, the first one lower
abbrev values : ℕ → ℕ
values octet = bit_and (bit_or (octet / 16) (octet * 256 % 65536)) 3855

-- their digits
abbrev pub by_steps : ℕ → ℕ
by_steps octet = values octet + 12336 + bit_and ((values octet + 1542) / 16) 257 * 39

high_test : (octet : ℕ) → octet < 256 → by_steps octet % 256 ≡ slice_index lower_digits (octet / 16)
high_test octet h = eqb-true _ _ (agree_below_at (λ o. by_steps o % 256 == slice_index lower_digits (o / 16)) (λ _. true) 256 octet refl h)

low_test : (octet : ℕ) → octet < 256 → by_steps octet / 256 % 256 ≡ slice_index lower_digits (octet % 16)
low_test octet h = eqb-true _ _ (agree_below_at (λ o. by_steps o / 256 % 256 == slice_index lower_digits (o % 16)) (λ _. true) 256 octet refl h)

pub pair_spelled : (number octet : ℕ) → number ≡ octet → octet < 256
    → (by_steps number % 256 ∷ by_steps number / 256 % 256 ∷ []) ≡ slice_index lower_digits (octet / 16) ∷ slice_index lower_digits (octet % 16) ∷ []
pair_spelled number octet same h = rw (same, high_test octet h, low_test octet h) refl

-- octets before others
pub digits_then : (octets more : List ℕ) → encode_lower (octets ++ more) ≡ encode_lower octets ++ encode_lower more
unfolding encode_with
digits_then [] more = refl
digits_then (x ∷ octets) more = ap (λ (l : List ℕ). slice_index lower_digits (x / 16) ∷ slice_index lower_digits (x % 16) ∷ l) (digits_then octets more)

-- the digits of one octet more
pub digits_more : (octets : List ℕ) (i : ℕ) → i < length octets
    → encode_lower (take (i + 1) octets)
    ≡ encode_lower (take i octets) ++ slice_index lower_digits (get_or octets i 0 / 16) ∷ slice_index lower_digits (get_or octets i 0 % 16) ∷ []
unfolding encode_with
digits_more octets i h =
    ap encode_lower (take_more octets i 0 h) ∙ digits_then (take i octets) (get_or octets i 0 ∷ []) ∙ refl

-- both digits of one octet more
pub pair_more : (digits octets : List ℕ) (i high low : ℕ) → 2 * i + 1 < length digits → i < length octets
    → high ≡ slice_index lower_digits (get_or octets i 0 / 16) → low ≡ slice_index lower_digits (get_or octets i 0 % 16)
    → take (2 * i) digits ≡ encode_lower (take i octets)
    → take (2 * (i + 1)) (set (set digits (2 * i) high) (2 * i + 1) low) ≡ encode_lower (take (i + 1) octets)
pair_more digits octets i high low room there first second so_far =
    let next : 2 * (i + 1) ≡ 2 * i + 1 + 1 = omega arith in
    let long : length (set digits (2 * i) high) ≡ length digits = length-set digits (2 * i) high in
    rw (next, take_more_set (set digits (2 * i) high) (2 * i + 1) low (omega (arith, long, room)), take_more_set digits (2 * i) high (omega (arith, room)), so_far, first, second)
    (append_assoc (encode_lower (take i octets)) (slice_index lower_digits (get_or octets i 0 / 16) ∷ []) (slice_index lower_digits (get_or octets i 0 % 16) ∷ [])
    ∙ sym (digits_more octets i there))

pub no_digits : [] ≡ encode_lower []
unfolding encode_with
no_digits = refl

pub all_digits : (digits octets : List ℕ) (i : ℕ) → length digits ≤ 2 * i → length octets ≤ i → take (2 * i) digits ≡ encode_lower (take i octets)
    → digits ≡ encode_lower octets
all_digits digits octets i few all so_far = rw (take_all (2 * i) digits few, take_all i octets all) at so_far

-- the digits of octets before zeros
pub digits_before : (octets zeros : List ℕ) → take (2 * length octets) (encode_lower (octets ++ zeros)) ≡ encode_lower octets
digits_before octets zeros =
    rw (digits_then octets zeros) (take_at (encode_lower octets) (encode_lower zeros) (2 * length octets) (length-encode_with lower_digits octets))
