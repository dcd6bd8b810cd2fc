-- Representation: the moments at which the sessions of a book are to be visited next, each with the number of its session; no claim rests on it.
use Rattle.std.specs.Prelude.{◌≡◌, ◌≤◌, ℕ, ◌==◌, nat_le, Bool, true, false, List, Option, Some, None, map}
use Rattle.std.specs.List.{filter}
use Rattle.std.specs.declared.cmp.Ordering.{Ordering}
use Rattle.std.specs.Ordering.{nat_cmp, ordering_then}
use Rattle.std.specs.BTreeSet.{BTreeSet, contains}

-- pairs of a moment and a number go by the moment, then by the number
abbrev pub pair_cmp : ℕ × ℕ → ℕ × ℕ → Ordering
pair_cmp x y = ordering_then (nat_cmp x.0 y.0) (nat_cmp x.1 y.1)

-- whether the session of this number is to be visited at this moment
abbrev pub has_wake_time : BTreeSet (ℕ × ℕ) → ℕ → ℕ → Bool
has_wake_time pairs moment number = contains pair_cmp pairs (moment, number)

-- whether it is this moment
abbrev pub is_moment : ℕ → Option ℕ → Bool
is_moment moment None = false
is_moment moment (Some at) = moment == at

-- the numbers of those whose moment has come
abbrev pub numbers_until : ℕ → List (ℕ × ℕ) → List ℕ
numbers_until moment pairs = map (λ p. p.1) (filter (λ p. nat_le p.0 moment) pairs)

-- the first moment is none where no pair is there; it is that of a pair, and no pair's is before it
abbrev pub IsFirstWakeTime : BTreeSet (ℕ × ℕ) → Option ℕ → Type 0
IsFirstWakeTime pairs None = (moment number : ℕ) → has_wake_time pairs moment number ≡ false
IsFirstWakeTime pairs (Some first) = ((number : ℕ) × (has_wake_time pairs first number ≡ true))
    × ((moment number : ℕ) → has_wake_time pairs moment number ≡ true → first ≤ moment)
