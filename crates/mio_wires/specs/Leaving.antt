-- Connections that leave, in the order in which they have to be gone (this profile).
use Rattle.std.specs.Prelude.{ℕ, ◌+◌, ◌-◌, ◌^◌, ◌≤◌, min, max, nat_lt, not, ◌==◌, List, [], ◌∷◌, ◌++◌, Option, None, Some}
use Rattle.std.specs.List.{filter}
use Rattle.mio_wires.specs.declared.leaving.Leaving.{Leaving}

-- those that leave, the first of them in front, and the moment at which the last one has to be gone
pub record Leavers : Type 0 where
  pub waits : List Leaving
  pub newest : ℕ

abbrev pub none_leave : Leavers
none_leave = record { waits = []; newest = 0 }

-- each has to be gone no earlier than the one before it, all of them between two moments
abbrev pub RisesBetween : (from to : ℕ) → List Leaving → Type 0
RisesBetween from to [] = from ≤ to
RisesBetween from to (first ∷ rest) = (from ≤ first.until) × RisesBetween first.until to rest

-- one that begins to leave now has 40 seconds, and no less than those before it; moments are at most 2^64 - 1
abbrev pub until_of : (newest now : ℕ) → ℕ
until_of newest now = max newest (min (now + 40000) (2 ^ 64 - 1))

-- the same with one more, behind the others
abbrev pub with_leaving : (slot now : ℕ) → Leavers → Leavers
with_leaving slot now leavers = record {
  waits = leavers.waits ++ record { slot = slot; until = until_of leavers.newest now } ∷ [];
  newest = until_of leavers.newest now;
}

-- the moment at which the first has to be gone
abbrev pub first_until : List Leaving → Option ℕ
first_until [] = None
first_until (first ∷ rest) = Some first.until

-- those whose moment hasn't come
abbrev pub staying : (now : ℕ) → List Leaving → List Leaving
staying now = filter (λ one. nat_lt now one.until)

-- those in other slots
abbrev pub others : (slot : ℕ) → List Leaving → List Leaving
others slot = filter (λ one. not (one.slot == slot))
