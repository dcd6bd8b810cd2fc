-- Representation: the sessions of a book, each in a slot that is found by the number of its connection; no claim rests on it.
use Rattle.er_end.specs.KeptEnds.{KEnd}
use Rattle.loop_session.specs.Keeping.{kept_ends}
use Rattle.std.specs.Prelude.{◌≡◌, ◌≢◌, ◌≤◌, ℕ, if◌then◌else◌, List, [], ◌∷◌, Option, Some, None, map}
use Rattle.std.specs.Ordering.{nat_cmp}
use Rattle.std.specs.BTreeMap.{BTreeMap, get_by, IsOrdered}
use Rattle.std.specs.BTreeSet.{BTreeSet}
use Rattle.slab.specs.Slab.{Slab, get}
use Rattle.loop_model.specs.Sessions.{Session}
use Rattle.loop_model.specs.Visits.{Visit, Tick, Read, Write, Expire, is_due, wakes}
use Rattle.readiness_loop.specs.WakeTimes.{has_wake_time, is_moment}

-- the session of a slot, where there is one, before others
abbrev pub seat : Option (Session KEnd) → List (Session KEnd) → List (Session KEnd)
seat None ss = ss
seat (Some s) ss = s ∷ ss

-- the sessions of these slots
unfoldable pub seats : Slab (Session KEnd) → List ℕ → List (Session KEnd)
seats slots [] = []
seats slots (k ∷ ks) = seat (get slots k) (seats slots ks)

-- those of these places, each a number and a slot
abbrev pub sessions_at : Slab (Session KEnd) → List (ℕ × ℕ) → List (Session KEnd)
sessions_at slots es = seats slots (map (λ e. e.1) es)

-- those of a book
abbrev pub sessions : Slab (Session KEnd) → BTreeMap ℕ ℕ → List (Session KEnd)
sessions slots places = sessions_at slots places.entries

-- a slot has the session of this number
abbrev pub IsSeat : ℕ → Option (Session KEnd) → Type 0
IsSeat n None = ⊥
IsSeat n (Some s) = s.number ≡ n

-- no place has this slot
abbrev pub IsApart : ℕ → List (ℕ × ℕ) → Type 0
IsApart k [] = Unit {0}
IsApart k (e ∷ es) = (e.1 ≢ k) × IsApart k es

-- each place has the session of its number, no two have one slot, and no number is above the newest
unfoldable pub AreSeated : ℕ → Slab (Session KEnd) → List (ℕ × ℕ) → Type 0
AreSeated newest slots [] = Unit {0}
AreSeated newest slots (e ∷ es) = (e.0 ≤ newest) × IsSeat e.0 (get slots e.1) × IsApart e.1 es × AreSeated newest slots es

-- ---- when the sessions are to be visited next

abbrev pub wake_of : Option (Session KEnd) → Option ℕ
wake_of None = None
wake_of (Some s) = wakes kept_ends s

abbrev pub wake_in : Slab (Session KEnd) → Option ℕ → Option ℕ
wake_in slots None = None
wake_in slots (Some k) = wake_of (get slots k)

-- that of this number
unfoldable pub wake_at : Slab (Session KEnd) → BTreeMap ℕ ℕ → ℕ → Option ℕ
wake_at slots places n = wake_in slots (get_by (nat_cmp n) places)

-- the moments that are kept are those of the sessions; and the numbers of the places rise
pub record AreAwaited (slots : Slab (Session KEnd)) (places : BTreeMap ℕ ℕ) (pairs : BTreeSet (ℕ × ℕ)) : Type 0 where
  pub rise : IsOrdered nat_cmp places
  pub kept : (m n : ℕ) → has_wake_time pairs m n ≡ is_moment m (wake_at slots places n)

-- the numbers of the sessions whose moment has come, in rising order
unfoldable pub due_numbers : ℕ → List (Session KEnd) → List ℕ
due_numbers m [] = []
due_numbers m (s ∷ ss) = if is_due m (wakes kept_ends s) then s.number ∷ due_numbers m ss else due_numbers m ss

-- a visit that the clock brings: a tick, a closing
abbrev pub IsTimedVisit : Visit → Type 0
IsTimedVisit Tick = Unit {0}
IsTimedVisit Read = ⊥
IsTimedVisit Write = ⊥
IsTimedVisit Expire = Unit {0}
