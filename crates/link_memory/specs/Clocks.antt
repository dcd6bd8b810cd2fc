-- A clock in memory: a list of moments, the last one repeated (this profile).
use Rattle.std.specs.Prelude.{ℕ, zero, suc, ◌-◌, ◌^◌, List, [], ◌∷◌, ◌++◌, length, min, slice_index_or, Option, None, Some, nat_lt, if◌then◌else◌}

-- the answer behind so many questions: the moment at that place of the list, and behind its end the last one
abbrev pub answer_after : List ℕ → ℕ → ℕ
answer_after moments asked = slice_index_or moments (min asked (length moments - 1)) 0

-- the answers to the first so many questions
abbrev pub answers_of : List ℕ → ℕ → List ℕ
answers_of moments zero = []
answers_of moments (suc asked) = answers_of moments asked ++ answer_after moments asked ∷ []

-- a clock: its moments, and how often it was asked
pub record KeptClock : Type 0 where
  pub moments : List ℕ
  pub asked : ℕ

-- a clock tells its answers until it was asked 2^64 - 1 times
abbrev pub told_answers : KeptClock → Option (List ℕ)
told_answers s = if nat_lt s.asked (2 ^ 64 - 1) then Some (answers_of s.moments s.asked) else None
