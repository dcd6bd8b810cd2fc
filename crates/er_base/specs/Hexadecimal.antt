-- Octets in texts (this profile): an even, nonempty run of hexadecimal digits of either case, or `-` for no octets.
use Rattle.std.specs.Prelude.{ℕ, ◌==◌, ◌≡◌, ◌<◌, if◌then◌else◌, List, [], length, slice_index, ◌++◌, Option, Some, None, codes}
use Rattle.std.specs.Result.{result_ok}
use Rattle.std.specs.Str.{bytes_eq}
use Rattle.hex.specs.Hex.{decode_of, encode_lower}
use Rattle.er_base.specs.Octets.{AreOctets}

-- the octets that a word spells, where it spells any
unfoldable pub octets_spelled : List ℕ → Option (List ℕ)
octets_spelled word =
    if bytes_eq word (codes "-") then Some []
    else if length word == 0 then None
    else result_ok (decode_of word)

-- how octets are printed: in lower case
unfoldable pub hex_of : List ℕ → List ℕ
hex_of octets = if length octets == 0 then codes "-" else encode_lower octets

-- what is printed is read back
abbrev pub IsReadBack : Type 0
IsReadBack = (octets : List ℕ) → ((k : ℕ) → k < length octets → slice_index octets k < 256) → octets_spelled (hex_of octets) ≡ Some octets

-- the octets that the word spells were appended
pub record AppendsSpelled (word old new : List ℕ) : Type 0 where
  pub octets : List ℕ
  pub spelled : octets_spelled word ≡ Some octets
  pub appended : new ≡ old ++ octets

-- what a word spells are octets
abbrev pub WordsSpellOctets : Type 0
WordsSpellOctets = (word octets : List ℕ) → octets_spelled word ≡ Some octets → AreOctets octets
