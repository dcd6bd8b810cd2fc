-- Contract: the messages that wait for the user, as an end keeps them.
use Rattle.std.specs.Prelude.{ℕ, ◌-◌, ◌<◌, ◌≤◌, nat_lt, Bool, true, false, if◌then◌else◌, List, [], ◌∷◌, ◌++◌, length, drop, slice_get, Option, None}

pub record KInbox : Type 0 where
  pub waits : List (List ℕ)  -- the messages that wait, the oldest first
  pub last : List ℕ  -- the message that was taken in this event
  pub fresh : Bool  -- whether the newest one came in this event

abbrev pub most_waiting : ℕ
most_waiting = 15

abbrev pub empty : KInbox
empty = record { waits = []; last = []; fresh = false }

abbrev pub kept_more : KInbox → List ℕ → KInbox
kept_more q message = if nat_lt (length q.waits) 15 then record q { waits = q.waits ++ message ∷ []; fresh = true } else q

abbrev pub first_in : List (List ℕ) → List ℕ
first_in [] = []
first_in (m ∷ ms) = m

abbrev pub kept_fewer : KInbox → KInbox
kept_fewer q = record q { waits = drop 1 q.waits; last = first_in q.waits }

-- the message that came in this event
abbrev pub newest_of : KInbox → Option (List ℕ)
newest_of q = if q.fresh then slice_get q.waits (length q.waits - 1) else None

-- ---- the code's queue, in which a message that was taken in this event still has its slot

abbrev pub messages_behind_take : Bool → List (List ℕ) → List (List ℕ)
messages_behind_take true ms = drop 1 ms
messages_behind_take false ms = ms

abbrev pub taken_from : Bool → List (List ℕ) → List ℕ
taken_from true ms = first_in ms
taken_from false ms = []

abbrev pub IsWithin : Bool → List (List ℕ) → Type 0
IsWithin true ms = (0 < length ms) × (length ms ≤ 16)
IsWithin false ms = length ms ≤ 15
