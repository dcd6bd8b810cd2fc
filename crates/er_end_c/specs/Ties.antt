-- Contract: that a handle that says that it holds an end does.
use Rattle.std.specs.Prelude.{ℕ, ◌≡◌, true, Option, is_some}

-- the number of a handle that holds an end: it spells "EuroRadi"
abbrev pub open_number : ℕ
open_number = 7594301878338483525

abbrev pub IsTied : {A : Type 0} → (number : ℕ) → (held : Option A) → Type 0
IsTied number held = number ≡ open_number → is_some held ≡ true
