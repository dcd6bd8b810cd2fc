-- How lines are printed (this profile): words parted by single spaces, and LF. What is printed so is read back as the same words
-- and the same arguments.
use Rattle.std.specs.Prelude.{ℕ, ◌≡◌, ◌+◌, ◌<◌, ◌≤◌, ◌^◌, List, [], ◌∷◌, ◌++◌, length, Ok, codes}
use Rattle.std.specs.Fmt.{decimal}
use Rattle.er_base.specs.declared.side.Side.{Side}
use Rattle.er_base.specs.Arguments.{number_argument, side_argument, text_argument, exact_argument, number16_argument}
use Rattle.er_base.specs.Hexadecimal.{hex_of}
use Rattle.er_base.specs.Lines.{Row, lines_of, rows_of}
use Rattle.er_base.specs.Octets.{eight, AreOctets}
use Rattle.er_base.specs.Sides.{side_word}

-- the words behind the first one, each behind a space, and LF
unfoldable pub line_end : List (List ℕ) → List ℕ
line_end [] = codes "\n"
line_end (word ∷ words) = codes " " ++ (word ++ line_end words)

-- a line: its words parted by single spaces, and LF
unfoldable pub line_text : List (List ℕ) → List ℕ
line_text [] = codes "\n"
line_text (word ∷ words) = word ++ line_end words

-- lines, one behind the other
abbrev pub lines_text : List (List (List ℕ)) → List ℕ
lines_text [] = []
lines_text (words ∷ lines) = line_text words ++ lines_text lines

-- each octet is above `#`: none is a space or LF, and none begins a comment
abbrev pub AreSolid : List ℕ → Type 0
AreSolid [] = Unit {0}
AreSolid (x ∷ xs) = (35 < x) × AreSolid xs

-- a word that stands by itself in a line
pub record IsSolid (word : List ℕ) : Type 0 where
  pub some : 0 < length word
  pub octets : AreSolid word

abbrev pub AreWords : List (List ℕ) → Type 0
AreWords [] = Unit {0}
AreWords (word ∷ words) = IsSolid word × AreWords words

-- a line of one word or more
abbrev pub IsLine : List (List ℕ) → Type 0
IsLine [] = ⊥
IsLine (name ∷ words) = IsSolid name × AreWords words

abbrev pub AreLines : List (List (List ℕ)) → Type 0
AreLines [] = Unit {0}
AreLines (line ∷ lines) = IsLine line × AreLines lines

-- lines by their words, numbered from the one behind so many
abbrev pub rows_from : ℕ → List (List (List ℕ)) → List Row
rows_from before [] = []
rows_from before (words ∷ lines) = record { number = before + 1; words = words } ∷ rows_from (before + 1) lines

-- lines that are printed are read as the same words
abbrev pub LinesAreReadBack : Type 0
LinesAreReadBack = (before : ℕ) (lines : List (List (List ℕ))) → AreLines lines
    → rows_of before (lines_of (lines_text lines)) ≡ rows_from before lines

-- what is printed of numbers, ends and octets are words, and are read as the same values
pub record WordsAreReadBack : Type 0 where
  pub number_word : (n : ℕ) → n < 2 ^ 64 → IsSolid (decimal n)
  pub number : (least most n : ℕ) → least ≤ n → n ≤ most → n < 2 ^ 64 → number_argument least most (decimal n) ≡ Ok n
  pub side_is_word : (side : Side) → IsSolid (side_word side)
  pub side : (side : Side) → side_argument (side_word side) ≡ Ok side
  pub octets_word : (octets : List ℕ) → AreOctets octets → IsSolid (hex_of octets)
  pub text : (most : ℕ) (octets : List ℕ) → AreOctets octets → length octets ≤ most → text_argument most (hex_of octets) ≡ Ok octets
  pub exact : (count : ℕ) (octets : List ℕ) → AreOctets octets → length octets ≡ count → exact_argument count (hex_of octets) ≡ Ok octets
  pub number16_word : (n : ℕ) → n < 2 ^ 64 → IsSolid (hex_of (eight n))
  pub number16 : (n : ℕ) → n < 2 ^ 64 → number16_argument (hex_of (eight n)) ≡ Ok n
