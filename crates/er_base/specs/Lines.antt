-- The lines of a text (this profile): drill files, traces and taps. A line is ended by LF, and a last one without LF is a line
-- too. Comments and blank lines are skipped; the words of any other line are parted by spaces.
use Rattle.std.specs.Prelude.{ℕ, ◌==◌, ◌+◌, ◌||◌, not, Bool, false, if◌then◌else◌, List, [], ◌∷◌, length}
use Rattle.er_base.specs.Words.{words_of}

-- any octet but LF is one of a line
abbrev pub is_of_line : ℕ → Bool
is_of_line octet = not (octet == 10)

-- an octet before the lines behind it: it joins the first of them
abbrev pub onto_first_line : ℕ → List (List ℕ) → List (List ℕ)
onto_first_line x [] = (x ∷ []) ∷ []
onto_first_line x (line ∷ lines) = (x ∷ line) ∷ lines

-- the lines of a text: each is ended by LF, and a last one without it is a line too
unfoldable pub lines_of : List ℕ → List (List ℕ)
lines_of [] = []
lines_of (x ∷ xs) = if x == 10 then [] ∷ lines_of xs else onto_first_line x (lines_of xs)

-- a comment has `#` as its first octet
abbrev pub is_comment : List ℕ → Bool
is_comment [] = false
is_comment (octet ∷ octets) = octet == 35

-- a blank line has no word: it is spaces alone
abbrev pub is_blank : List ℕ → Bool
is_blank line = length (words_of line) == 0

-- comments and blank lines say nothing
abbrev pub is_skipped : List ℕ → Bool
is_skipped line = is_comment line || is_blank line

-- a line that isn't skipped: its number in the file, from 1, and its words
pub record Row : Type 0 where
  pub number : ℕ
  pub words : List (List ℕ)

-- the lines that aren't skipped, where so many lines stand before these
unfoldable pub rows_of : ℕ → List (List ℕ) → List Row
rows_of before [] = []
rows_of before (line ∷ lines) =
    if is_skipped line then rows_of (before + 1) lines
    else record { number = before + 1; words = words_of line } ∷ rows_of (before + 1) lines
