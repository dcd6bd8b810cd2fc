-- Representation: how the ring of payloads is kept; no claim rests on it.
use Rattle.std.specs.Prelude.{ℕ, List}

-- the payloads that a ring holds, the first one first, and the number of its slots
pub record Slots : Type 0 where
  pub items : List (List ℕ)
  pub slots : ℕ
