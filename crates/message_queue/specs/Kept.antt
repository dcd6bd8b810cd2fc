-- Representation: how the messages of a queue are kept; no claim rests on it.
use Rattle.std.specs.Prelude.{ℕ, ◌+◌, ◌-◌, ◌≤◌, ◌<◌, nat_lt, Bool, true, false, if◌then◌else◌, List, ◌∷◌, ◌++◌, take, drop}

-- the slot in a ring of n that lies i slots behind the head
abbrev pub slot_behind_head : (n head i : ℕ) → ℕ
slot_behind_head n head i = if nat_lt i (n - head) then head + i else i - (n - head)

-- what `count` slots hold from the head on
abbrev pub window : (head count : ℕ) → List (List ℕ) → List (List ℕ)
window head count xs = take count (drop head xs ++ take head xs)

-- of a ring of n slots the first `len` were made: all, or those of the messages at least
abbrev pub IsReached : (head count len n : ℕ) → Type 0
IsReached head count len n = len < n → head + count ≤ len

-- the message that stands in front, where one does, and those of the ring behind it
abbrev pub with_front : Bool → List ℕ → List (List ℕ) → List (List ℕ)
with_front true front others = front ∷ others
with_front false front others = others
