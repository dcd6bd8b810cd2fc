-- The arguments of a line of a text (this profile): drill files, traces and taps. Each gives its value or its first fault,
-- `Number` before `Hex` before `Value`.
use Rattle.std.specs.Prelude.{ℕ, ◌==◌, nat_lt, if◌then◌else◌, List, length, Option, Some, None, Result, Ok, Err}
use Rattle.er_base.specs.declared.side.Side.{Side}
use Rattle.er_base.specs.declared.why.Why.{Why}
use Rattle.er_base.specs.declared.why.Why.TheVariants.{Number, Hex, Value}
use Rattle.er_base.specs.Numbers.{decimal_of}
use Rattle.er_base.specs.Hexadecimal.{octets_spelled}
use Rattle.er_base.specs.Octets.{number_in}
use Rattle.er_base.specs.Sides.{side_of}

-- one test behind another: the first fault counts
infixl 10 ◌>>=◌
abbrev pub ◌>>=◌ : {A B : Type 0} → Result A Why → (A → Result B Why) → Result B Why
Ok x >>= f = f x
Err why >>= f = Err why

-- what is there, or else a fault
abbrev pub some_or : {A : Type 0} → Why → Option A → Result A Why
some_or why None = Err why
some_or why (Some x) = Ok x

-- a number from `least` to `most`
abbrev pub within : ℕ → ℕ → ℕ → Result ℕ Why
within least most n = if nat_lt n least then Err Value else if nat_lt most n then Err Value else Ok n

-- a decimal word from `least` to `most`
unfoldable pub number_argument : ℕ → ℕ → List ℕ → Result ℕ Why
number_argument least most word = some_or Number (decimal_of word) >>= within least most

-- S: the engine's side or the RBC's
unfoldable pub side_argument : List ℕ → Result Side Why
side_argument word = some_or Number (side_of word)

-- a HEX word, of any length
unfoldable pub octets_argument : List ℕ → Result (List ℕ) Why
octets_argument word = some_or Hex (octets_spelled word)

-- HEX: at most `most` octets
unfoldable pub text_argument : ℕ → List ℕ → Result (List ℕ) Why
text_argument most word = octets_argument word >>= λ octets. if nat_lt most (length octets) then Err Value else Ok octets

-- a HEX word of so many octets
unfoldable pub exact_argument : ℕ → List ℕ → Result (List ℕ) Why
exact_argument count word = octets_argument word >>= λ octets. if length octets == count then Ok octets else Err Hex

-- NUM16: 16 hexadecimal digits, a number of 64 bits
unfoldable pub number16_argument : List ℕ → Result ℕ Why
number16_argument word = exact_argument 8 word >>= λ octets. Ok (number_in octets)
