-- Messages that wait, the oldest first.
use Rattle.std.specs.Prelude.{ℕ, List, []}

pub record Queue : Type 0 where
  -- those that wait
  pub waits : List (List ℕ)
  -- the most that may
  pub slots : ℕ

-- none waits
abbrev pub empty : (slots : ℕ) → Queue
empty slots = record { waits = []; slots = slots }
