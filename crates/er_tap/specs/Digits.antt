-- Representation: the octets of hexadecimal digits by the values of the digits; no claim rests on it.
use Rattle.std.specs.Prelude.{ℕ, ◌+◌, ◌*◌, ◌<◌, List, [], ◌∷◌, map}
use Rattle.std.specs.Option.{unwrap_or}
use Rattle.std.specs.List.{All}
use Rattle.hex.specs.Hex.{hex_digit_value}

-- the value of a digit of either case, and 255 for any other octet
unfoldable pub value_of_hexadecimal_digit : ℕ → ℕ
value_of_hexadecimal_digit octet = unwrap_or (hex_digit_value octet) 255

abbrev pub AreValues : List ℕ → Type 0
AreValues values = All (λ value. value < 16) values

abbrev pub AreDigits : List ℕ → Type 0
AreDigits digits = AreValues (map value_of_hexadecimal_digit digits)

-- two values an octet, the higher one first
unfoldable pub octets_of_digit_pairs : List ℕ → List ℕ
octets_of_digit_pairs [] = []
octets_of_digit_pairs (value ∷ []) = []
octets_of_digit_pairs (high ∷ low ∷ values) = (high * 16 + low) ∷ octets_of_digit_pairs values

abbrev pub octets_by : List ℕ → List ℕ
octets_by digits = octets_of_digit_pairs (map value_of_hexadecimal_digit digits)
