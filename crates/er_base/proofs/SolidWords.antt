-- The words that are printed have octets above `#` alone: no space, no LF, and none begins a comment.
use Rattle.std.proofs.Common.{rules, arith, ◌≡◌, ℕ, ◌<◌, ◌^◌, nat_lt, inl, inr, Bool, true, false, List, [], ◌∷◌, length, refl, ◌∙◌, codes}
use Rattle.std.specs.Char.{is_ascii_digit, is_ascii_hexdigit}
use Rattle.std.specs.List.{list_all}
use Rattle.std.specs.Fmt.{decimal}
use Rattle.std.specs.Str.Parse.{digits_value}
use Rattle.std.proofs.lemmas.Bool.{cases_Bool, ltb-true}
use Rattle.std.proofs.lemmas.Bool.Decides.{nat_tests}
use Rattle.std.proofs.lemmas.Fmt.{digits_decimal, decimal_nonempty}
use Rattle.std.proofs.lemmas.List.Sums.{list_all-from_AllPass}
use Rattle.std.proofs.lemmas.Str.Parse.{IsNumeralModel, numerals_by_value}
use Rattle.std.proofs.Math.Dec.{eqb-suc-zero}
use Rattle.hex.specs.Hex.{IsBytes, encode_lower, lower_digits, is_hex_digit}
use Rattle.hex.proofs.HexLemmas.{decode_of-encode_lower, decode_of-ok, length-encode_with}
use Rattle.er_base.specs.declared.side.Side.{Side}
use Rattle.er_base.specs.declared.side.Side.TheVariants.{E, R}
use Rattle.er_base.specs.Hexadecimal.{hex_of}
use Rattle.er_base.specs.Octets.{AreOctets}
use Rattle.er_base.specs.Sides.{side_word}
use Rattle.er_base.specs.LineTexts.{AreSolid, IsSolid}

solid_from : (test : ℕ → Bool) (word : List ℕ) → ((x : ℕ) → test x ≡ true → 35 < x) → list_all test word ≡ true → AreSolid word
solid_from test [] each h = tt
solid_from test (x ∷ xs) each h =
    elim (cases_Bool (test x)) [
      | inl t ↦ (each x t, solid_from test xs each (rw t at h))
      | inr f ↦ let e : false ≡ true = rw f at h in absurd (cc)
    ]

-- a word that is written out
pub solid_codes : (word : List ℕ) → nat_lt 0 (length word) ≡ true → list_all (λ x. nat_lt 35 x) word ≡ true → IsSolid word
solid_codes word some all =
    record { some = ltb-true 0 (length word) some; octets = solid_from (λ x. nat_lt 35 x) word (λ x t. ltb-true 35 x t) all }

pub solid_side : (side : Side) → IsSolid (side_word side)
solid_side E = solid_codes (codes "e") refl refl
solid_side R = solid_codes (codes "r") refl refl

own : IsNumeralModel (λ ds. list_all is_ascii_digit ds ≡ true) (digits_value 10)
own = numerals_by_value _ (search rules)

digit_above : (x : ℕ) → is_ascii_digit x ≡ true → 35 < x
digit_above x h = grind (arith, nat_tests)

pub solid_decimal : (n : ℕ) → n < 2 ^ 64 → IsSolid (decimal n)
solid_decimal n h = record { some = decimal_nonempty n h; octets = solid_from is_ascii_digit (decimal n) digit_above (digits_decimal own n h) }

-- the library's two tests of a hexadecimal digit agree
same_digits : (c : ℕ) → is_ascii_hexdigit c ≡ is_hex_digit c
same_digits c = grind (arith, nat_tests)

ascii_above : (x : ℕ) → is_ascii_hexdigit x ≡ true → 35 < x
ascii_above x h = grind (arith, nat_tests)

hex_above : (x : ℕ) → is_hex_digit x ≡ true → 35 < x
hex_above x h = ascii_above x (same_digits x ∙ h)

solid_digits : (octets : List ℕ) → 0 < length octets → IsBytes octets → IsSolid (encode_lower octets)
solid_digits octets some bytes =
    let read = decode_of-ok (encode_lower octets) octets (decode_of-encode_lower octets bytes) in
    let long = length-encode_with lower_digits octets in
    record {
      some = omega (arith, long);
      octets = solid_from is_hex_digit (encode_lower octets) hex_above (list_all-from_AllPass is_hex_digit (encode_lower octets) read.1);
    }

printed_digits : (x : ℕ) (xs : List ℕ) → hex_of (x ∷ xs) ≡ encode_lower (x ∷ xs)
unfolding hex_of
printed_digits x xs = rw (eqb-suc-zero (length xs)) refl

pub solid_hex : (octets : List ℕ) → AreOctets octets → IsSolid (hex_of octets)
unfolding hex_of
solid_hex [] bytes = solid_codes (codes "-") refl refl
solid_hex (x ∷ xs) bytes =
    let solid : IsSolid (encode_lower (x ∷ xs)) = solid_digits (x ∷ xs) (omega arith) bytes in
    rw (printed_digits x xs) solid
