-- The words of a line (this profile): what stands between spaces.
use Rattle.std.specs.Prelude.{ℕ, ◌==◌, Bool, not, List, length, drop, filter}
use Rattle.std.specs.List.{prefix_len, take_while, slice_split}

-- the space, the octet 20 in hexadecimal
abbrev pub is_space : ℕ → Bool
is_space octet = octet == 32

-- any other octet is one of a word
abbrev pub is_of_word : ℕ → Bool
is_of_word octet = not (octet == 32)

-- the line without the spaces at its front
abbrev pub without_spaces : List ℕ → List ℕ
without_spaces line = drop (prefix_len is_space line) line

-- the first word of a line
abbrev pub first_word : List ℕ → List ℕ
first_word line = take_while is_of_word (without_spaces line)

-- what follows the first word
abbrev pub after_first_word : List ℕ → List ℕ
after_first_word line = drop (prefix_len is_of_word (without_spaces line)) (without_spaces line)

-- a piece between two spaces is a word where it isn't empty
abbrev pub is_word : List ℕ → Bool
is_word piece = not (length piece == 0)

-- all words of a line, in their order
unfoldable pub words_of : List ℕ → List (List ℕ)
words_of line = filter is_word (slice_split is_space line)
