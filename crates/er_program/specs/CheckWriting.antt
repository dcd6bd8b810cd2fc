-- Representation: what the check of a recording writes where memory runs out; no claim rests on it.
use Rattle.std.specs.Prelude.{◌≡◌, ℕ, List, []}

-- nothing is written before the last line
abbrev pub IsNothing : List ℕ → Type 0
IsNothing text = text ≡ []
