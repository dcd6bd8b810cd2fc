-- Decimal numbers in texts (this profile): digits without a sign and without leading zeros.
use Rattle.std.specs.Prelude.{ℕ, ◌==◌, ◌<◌, ◌≡◌, ◌↔◌, ◌&&◌, ◌^◌, not, nat_lt, Bool, false, if◌then◌else◌, List, length, slice_index, Option, Some, None}
use Rattle.std.specs.Char.{is_ascii_digit}
use Rattle.std.specs.List.{list_all}
use Rattle.std.specs.Str.Parse.{digits_value}
use Rattle.std.specs.Fmt.{decimal}

-- a 0 with more behind it
abbrev pub has_leading_zero : List ℕ → Bool
has_leading_zero word = slice_index word 0 == 48 && not (length word == 1)

-- one digit or more, and no leading zero
abbrev pub is_canonical : List ℕ → Bool
is_canonical word =
    if length word == 0 then false else if has_leading_zero word then false else list_all is_ascii_digit word

-- the number below 2 ^ 64 that a word names, where it names one
unfoldable pub decimal_of : List ℕ → Option ℕ
decimal_of word = if is_canonical word && nat_lt (digits_value 10 word) (2 ^ 64) then Some (digits_value 10 word) else None

-- the same in one line: a word names a number exactly where it is what the number is printed as
abbrev pub NamesWhatIsPrinted : Type 0
NamesWhatIsPrinted = (word : List ℕ) (n : ℕ) → (decimal_of word ≡ Some n) ↔ ((n < 2 ^ 64) × (word ≡ decimal n))
