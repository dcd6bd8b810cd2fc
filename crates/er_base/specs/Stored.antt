-- What a `Room` is seen as (this profile): the octets that it holds, and how many it can hold.
use Rattle.std.specs.Prelude.{ℕ, ◌≡◌, ◌≤◌, ◌+◌, List, ◌++◌, length}

pub record Stored : Type 0 where
  pub items : List ℕ
  pub capacity : ℕ

-- there is room for so many octets more
abbrev pub HasRoom : Stored → ℕ → Type 0
HasRoom out n = length out.items + n ≤ out.capacity

-- these octets were appended, and the room is as large as before
pub record Appends (old new : Stored) (octets : List ℕ) : Type 0 where
  pub items : new.items ≡ old.items ++ octets
  pub capacity : new.capacity ≡ old.capacity
