-- The values of digits, and the octets of pairs of values.
use Rattle.std.proofs.Common.{arith, ◌≡◌, ℕ, ◌+◌, ◌*◌, ◌/◌, ◌%◌, ◌==◌, ◌<◌, ◌≤◌, nat_lt, if◌then◌else◌, true, List, [], ◌∷◌, ◌++◌, length, map, take, drop, get_or, set, Option, Some, None, Ok, unwrap_or, bit_or, codes, inl, inr, false, refl, ap, sym, ◌∙◌, append_assoc, append-nil}
use Rattle.std.proofs.lemmas.Bool.{agree_below_at, eqb-true, lt-ltb, le-ltb, cases_Bool, ne_eqb, cond-true, cond-false}
use Rattle.std.proofs.lemmas.List.{map-append, length-map, take_at, take_more, take_more_set, take_all, drop_more, drop_all}
use Rattle.std.proofs.lemmas.List.Elements.{All-head, All-tail, All-more, All-weaker, All-append, All-take}
use Rattle.hex.specs.Hex.{decode_pairs, hex_digit_value, pair_value, value_at}
use Rattle.std.specs.Result.{result_ok}
use Rattle.std.specs.Str.{bytes_eq}
use Rattle.hex.proofs.HexLemmas.{decode_of-even}
use Rattle.hex.proofs.Pairs.{cons_byte, decode_pairs-ok_pair}
use Rattle.std.specs.List.{All}
use Rattle.er_base.specs.Hexadecimal.{octets_spelled}
use Rattle.er_tap.specs.Digits.{value_of_hexadecimal_digit, octets_of_digit_pairs, AreValues, AreDigits, octets_by}

-- ---- one digit

-- what the code makes of an octet
abbrev by_steps : ℕ → ℕ
by_steps octet =
    if nat_lt ((octet + 208) % 256) 10 then (octet + 208) % 256
    else if nat_lt ((bit_or octet 32 + 159) % 256) 6 then (bit_or octet 32 + 159) % 256 + 10 else 255

stepped : (octet : ℕ) → octet < 256 → by_steps octet ≡ value_of_hexadecimal_digit octet
unfolding value_of_hexadecimal_digit
stepped octet h = eqb-true _ _ (agree_below_at (λ o. by_steps o == value_of_hexadecimal_digit o) (λ _. true) 256 octet refl h)

-- what an octet is by itself, and what it is as a letter
abbrev as_number : ℕ → ℕ
as_number octet = (octet + 208) % 256

abbrev as_letter : ℕ → ℕ
as_letter octet = (bit_or octet 32 + 159) % 256

pub number_value : (octet : ℕ) → octet < 256 → as_number octet < 10 → as_number octet ≡ value_of_hexadecimal_digit octet
number_value octet h few =
    sym (cond-true (nat_lt (as_number octet) 10) (as_number octet) (if nat_lt (as_letter octet) 6 then as_letter octet + 10 else 255) (lt-ltb (as_number octet) 10 few))
    ∙ stepped octet h

other_value : (octet : ℕ) → octet < 256 → 10 ≤ as_number octet → (if nat_lt (as_letter octet) 6 then as_letter octet + 10 else 255) ≡ value_of_hexadecimal_digit octet
other_value octet h many =
    sym (cond-false (nat_lt (as_number octet) 10) (as_number octet) (if nat_lt (as_letter octet) 6 then as_letter octet + 10 else 255) (le-ltb (as_number octet) 10 many))
    ∙ stepped octet h

pub letter_value : (octet : ℕ) → octet < 256 → 10 ≤ as_number octet → as_letter octet < 6 → as_letter octet + 10 ≡ value_of_hexadecimal_digit octet
letter_value octet h many few = sym (cond-true (nat_lt (as_letter octet) 6) (as_letter octet + 10) 255 (lt-ltb (as_letter octet) 6 few)) ∙ other_value octet h many

pub no_value : (octet : ℕ) → octet < 256 → 10 ≤ as_number octet → 6 ≤ as_letter octet → 255 ≡ value_of_hexadecimal_digit octet
no_value octet h many more = sym (cond-false (nat_lt (as_letter octet) 6) (as_letter octet + 10) 255 (le-ltb (as_letter octet) 6 more)) ∙ other_value octet h many

-- ---- a block

-- one value more
pub value_more : (digits values : List ℕ) (i v : ℕ) → i < length digits → i < length values → v ≡ value_of_hexadecimal_digit (get_or digits i 0)
    → take i values ≡ map value_of_hexadecimal_digit (take i digits) → take (i + 1) (set values i v) ≡ map value_of_hexadecimal_digit (take (i + 1) digits)
value_more digits values i v h k e so_far =
    rw (take_more_set values i v k, take_more digits i 0 h, map-append value_of_hexadecimal_digit (take i digits) (get_or digits i 0 ∷ []), so_far, e) refl

pub all_values : (digits values : List ℕ) (i : ℕ) → length digits ≤ i → length values ≤ i → take i values ≡ map value_of_hexadecimal_digit (take i digits)
    → values ≡ map value_of_hexadecimal_digit digits
all_values digits values i h k so_far = rw (take_all i digits h, take_all i values k) at so_far

-- the greatest of one value more
pub greatest_more : (values : List ℕ) (i greatest next : ℕ) → i < length values → greatest ≤ next → get_or values i 0 ≤ next
    → All (λ value. value ≤ greatest) (take i values) → All (λ value. value ≤ next) (take (i + 1) values)
greatest_more values i greatest next h rise one all =
    All-more (λ value. value ≤ next) values i 0 h
    (All-weaker (λ value. value ≤ greatest) (λ value. value ≤ next) (λ value below. omega (arith, below, rise)) (take i values) all) one

pub all_small : (values : List ℕ) (i greatest : ℕ) → length values ≤ i → greatest < 16 → All (λ value. value ≤ greatest) (take i values) → AreValues values
all_small values i greatest h few all =
    All-weaker (λ value. value ≤ greatest) (λ value. value < 16) (λ value below. omega (arith, below, few)) values
    (rw (take_all i values h) at all)

-- two values in one octet
paired : ℕ → ℕ
paired octet = bit_or (octet / 16 * 16 % 256) (octet % 16)

pub value_pair : (high low : ℕ) → high < 16 → low < 16 → bit_or (high * 16 % 256) low ≡ high * 16 + low
unfolding paired
value_pair high low h k =
    let octet : ℕ = high * 16 + low in
    let above : octet / 16 ≡ high = omega arith in
    let below : octet % 16 ≡ low = omega arith in
    let all : paired octet ≡ octet = eqb-true _ _ (agree_below_at (λ o. paired o == o) (λ _. true) 256 octet refl (omega arith)) in
    rw (above, below) at all

-- the next two values
pair_left : (values : List ℕ) (i : ℕ) → 2 * i + 1 < length values
    → drop (2 * i) values ≡ get_or values (2 * i) 0 ∷ get_or values (2 * i + 1) 0 ∷ drop (2 * (i + 1)) values
pair_left values i h =
    let next : 2 * i + 1 + 1 ≡ 2 * (i + 1) = omega arith in
    rw (drop_more values (2 * i) 0 (omega arith), drop_more values (2 * i + 1) 0 h, next) refl

-- one octet more
pub octet_more : (values octets : List ℕ) (i : ℕ) → 2 * i + 1 < length values → i < length octets
    → take i octets ++ octets_of_digit_pairs (drop (2 * i) values) ≡ octets_of_digit_pairs values
    → take (i + 1) (set octets i (get_or values (2 * i) 0 * 16 + get_or values (2 * i + 1) 0)) ++ octets_of_digit_pairs (drop (2 * (i + 1)) values) ≡ octets_of_digit_pairs values
unfolding octets_of_digit_pairs
octet_more values octets i h k so_far =
    rw (take_more_set octets i (get_or values (2 * i) 0 * 16 + get_or values (2 * i + 1) 0) k, append_assoc) (rw (pair_left values i h) at so_far)

pub all_octets : (values octets : List ℕ) (i : ℕ) → length values ≤ 2 * i → length octets ≤ i
    → take i octets ++ octets_of_digit_pairs (drop (2 * i) values) ≡ octets_of_digit_pairs values → octets ≡ octets_of_digit_pairs values
unfolding octets_of_digit_pairs
all_octets values octets i h k so_far = rw (drop_all (2 * i) values h, take_all i octets k, append-nil) at so_far

-- ---- runs of digits

pub octets_length : (digits : List ℕ) → length (octets_by digits) ≡ length digits / 2
unfolding octets_of_digit_pairs
octets_length [] = refl
octets_length (a ∷ []) = refl
octets_length (a ∷ b ∷ digits) = let rest = octets_length digits in omega (arith, rest)

-- an even run of digits before others
pub octets_then : (digits more : List ℕ) → length digits % 2 ≡ 0 → octets_by (digits ++ more) ≡ octets_by digits ++ octets_by more
unfolding octets_of_digit_pairs
octets_then [] more even = refl
octets_then (a ∷ []) more even = absurd (omega arith)
octets_then (a ∷ b ∷ digits) more even = ap (λ (l : List ℕ). (value_of_hexadecimal_digit a * 16 + value_of_hexadecimal_digit b) ∷ l) (octets_then digits more (omega arith))

some_value : (o : Option ℕ) → unwrap_or o 255 < 16 → o ≡ Some (unwrap_or o 255)
some_value (Some v) h = refl
some_value None h = absurd (omega arith)

-- an octet with a value is a digit
digit_at : (octet i : ℕ) → value_of_hexadecimal_digit octet < 16 → value_at octet i ≡ Ok (value_of_hexadecimal_digit octet)
unfolding value_of_hexadecimal_digit
digit_at octet i h = rw (some_value (hex_digit_value octet) h) refl

-- what the library decodes of digits
pub decoded : (i : ℕ) (digits : List ℕ) → length digits % 2 ≡ 0 → AreDigits digits → decode_pairs i digits ≡ Ok (octets_by digits)
unfolding decode_pairs octets_of_digit_pairs
decoded i [] even all = refl
decoded i (a ∷ []) even all = absurd (omega arith)
decoded i (a ∷ b ∷ digits) even all =
    let small = λ (v : ℕ). v < 16 in
    let tail = All-tail small (value_of_hexadecimal_digit a) (value_of_hexadecimal_digit b ∷ map value_of_hexadecimal_digit digits) all in
    let high = digit_at a i (All-head small (value_of_hexadecimal_digit a) (value_of_hexadecimal_digit b ∷ map value_of_hexadecimal_digit digits) all) in
    let low = digit_at b (i + 1) (All-head small (value_of_hexadecimal_digit b) (map value_of_hexadecimal_digit digits) tail) in
    let pair : pair_value a b i ≡ Ok (value_of_hexadecimal_digit a * 16 + value_of_hexadecimal_digit b) = rw (high, low) refl in
    decode_pairs-ok_pair i a b (value_of_hexadecimal_digit a * 16 + value_of_hexadecimal_digit b) digits pair
    ∙ ap (cons_byte (value_of_hexadecimal_digit a * 16 + value_of_hexadecimal_digit b)) (decoded (i + 2) digits (omega arith) (All-tail small (value_of_hexadecimal_digit b) (map value_of_hexadecimal_digit digits) tail))

-- ---- the whole run

-- a block of digits before others that are digits
pub digits_then : (block behind whole : List ℕ) → whole ≡ block ++ behind → AreDigits block → AreDigits behind → AreDigits whole
digits_then block behind whole is first rest =
    rw (is, map-append value_of_hexadecimal_digit block behind) (All-append (λ value. value < 16) (map value_of_hexadecimal_digit block) (map value_of_hexadecimal_digit behind) first rest)

-- the digits before zeros
pub digits_before : (digits zeros : List ℕ) → AreDigits (digits ++ zeros) → AreDigits digits
digits_before digits zeros all =
    let long = length-map digits value_of_hexadecimal_digit in
    let both : AreValues (map value_of_hexadecimal_digit digits ++ map value_of_hexadecimal_digit zeros) = rw (map-append value_of_hexadecimal_digit digits zeros) at all in
    rw (take_at (map value_of_hexadecimal_digit digits) (map value_of_hexadecimal_digit zeros) (length (map value_of_hexadecimal_digit digits)) refl)
    at (All-take (λ value. value < 16) (length (map value_of_hexadecimal_digit digits)) (map value_of_hexadecimal_digit digits ++ map value_of_hexadecimal_digit zeros) both)

-- the octets of digits before zeros
pub octets_before : (digits zeros : List ℕ) → length digits % 2 ≡ 0 → take (length digits / 2) (octets_by (digits ++ zeros)) ≡ octets_by digits
octets_before digits zeros even = rw (octets_then digits zeros even) (take_at (octets_by digits) (octets_by zeros) (length digits / 2) (octets_length digits))

no_hyphen : (a b : ℕ) (digits : List ℕ) → bytes_eq (a ∷ b ∷ digits) (codes "-") ≡ false
no_hyphen a b digits = elim (cases_Bool (a == 45)) [ inl t ↦ rw t refl | inr f ↦ rw f refl ]

-- an even run of digits that isn't empty spells its octets
pub spelled : (digits : List ℕ) → (length digits ≡ 0 → ⊥) → length digits % 2 ≡ 0 → AreDigits digits → octets_spelled digits ≡ Some (octets_by digits)
unfolding octets_spelled
spelled [] some even all = absurd (some refl)
spelled (a ∷ []) some even all = absurd (omega arith)
spelled (a ∷ b ∷ digits) some even all =
    rw (no_hyphen a b digits, ne_eqb (length (a ∷ b ∷ digits)) 0 some) (ap result_ok (decode_of-even (a ∷ b ∷ digits) even ∙ decoded 0 (a ∷ b ∷ digits) even all))
