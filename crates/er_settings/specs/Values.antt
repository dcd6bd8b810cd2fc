-- The settings of one link, as values.
use Rattle.std.specs.Prelude.{ℕ}

-- what the two ends of a link agree on: numbers, and times in milliseconds
pub record Settings : Type 0 where
  pub window : ℕ
  pub credit : ℕ
  pub size : ℕ
  pub t1 : ℕ
  pub n2 : ℕ
  pub setup : ℕ
  pub modulo : ℕ
