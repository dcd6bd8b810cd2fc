-- Arguments that are printed are words, and are read as the same values.
use Rattle.std.proofs.Common.{◌≡◌, ℕ, ◌≤◌, ◌<◌, ◌^◌, List, length, Ok, refl, ap, eq-eqb}
use Rattle.std.specs.Fmt.{decimal}
use Rattle.std.proofs.lemmas.Bool.{le-ltb}
use Rattle.er_base.specs.declared.side.Side.{Side}
use Rattle.er_base.specs.declared.side.Side.TheVariants.{E, R}
use Rattle.er_base.specs.declared.why.Why.TheVariants.{Hex}
use Rattle.er_base.specs.Octets.{eight, AreOctets}
use Rattle.er_base.specs.Hexadecimal.{hex_of}
use Rattle.er_base.specs.Sides.{side_word}
use Rattle.er_base.specs.Arguments.{some_or, number_argument, side_argument, octets_argument, text_argument, exact_argument, number16_argument}
use Rattle.er_base.specs.LineTexts.{WordsAreReadBack}
use Rattle.er_base.proofs.Decimals.{number_of_word}
use Rattle.er_base.proofs.Spellings.{read_back}
use Rattle.er_base.proofs.OctetNumbers.{is_eight}
use Rattle.er_base.proofs.SolidWords.{solid_side, solid_decimal, solid_hex}

number_read : (least most n : ℕ) → least ≤ n → n ≤ most → n < 2 ^ 64 → number_argument least most (decimal n) ≡ Ok n
unfolding number_argument
number_read least most n low high fits = rw (number_of_word n fits, le-ltb n least low, le-ltb most n high) refl

side_read : (side : Side) → side_argument (side_word side) ≡ Ok side
unfolding side_argument
side_read E = refl
side_read R = refl

octets_read : (octets : List ℕ) → AreOctets octets → octets_argument (hex_of octets) ≡ Ok octets
unfolding octets_argument
octets_read octets bytes = ap (some_or Hex) (read_back octets (λ k inside. bytes k))

text_read : (most : ℕ) (octets : List ℕ) → AreOctets octets → length octets ≤ most → text_argument most (hex_of octets) ≡ Ok octets
unfolding text_argument
text_read most octets bytes few = rw (octets_read octets bytes, le-ltb most (length octets) few) refl

exact_read : (count : ℕ) (octets : List ℕ) → AreOctets octets → length octets ≡ count → exact_argument count (hex_of octets) ≡ Ok octets
unfolding exact_argument
exact_read count octets bytes long = rw (octets_read octets bytes, eq-eqb (length octets) count long) refl

number16_read : (n : ℕ) → n < 2 ^ 64 → number16_argument (hex_of (eight n)) ≡ Ok n
unfolding number16_argument
number16_read n h =
    rw (exact_read 8 (eight n) (is_eight.octets n h) (is_eight.long n)) (ap (λ (m : ℕ). Ok m) (is_eight.number n h))

pub words_are_read_back : WordsAreReadBack
words_are_read_back =
    record {
      number_word = solid_decimal;
      number = number_read;
      side_is_word = solid_side;
      side = side_read;
      octets_word = solid_hex;
      text = text_read;
      exact = exact_read;
      number16_word = λ n h. solid_hex (eight n) (is_eight.octets n h);
      number16 = number16_read;
    }
