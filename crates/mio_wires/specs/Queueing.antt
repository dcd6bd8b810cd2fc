-- What is done with the queue of happenings, and what it tells (this profile).
use Rattle.std.specs.Prelude.{◌≡◌, ℕ, ◌+◌, ◌≤◌, ◌==◌, Bool, true, false, not, List, [], ◌∷◌, ◌++◌, length, take, drop, ◌⊎◌}
use Rattle.std.specs.List.{All, Contains, filter}
use Rattle.mio_wires.specs.declared.queue.Seen.{Seen}
use Rattle.mio_wires.specs.declared.queue.Seen.TheVariants as seen

-- what is done with it: a happening is added, the first is told, those of a connection that is closed are forgotten
pub data Act : Type 0 where
  Adds : (what : Seen) → Act
  Takes : Act
  Forgets : (number : ℕ) → Act

-- whether a happening is of the connection of this number
abbrev pub is_seen_at : ℕ → Seen → Bool
is_seen_at number seen.Listener = false
is_seen_at number seen.Door = false
is_seen_at number (seen.Readable at) = at == number
is_seen_at number (seen.Writable at) = at == number

-- the happenings that are told by an act
abbrev pub told_at_act : Act → List Seen → List Seen
told_at_act (Adds what) queue = []
told_at_act Takes queue = take 1 queue
told_at_act (Forgets number) queue = []

-- the queue behind an act: all that stays keeps its order, and what is added stands last
abbrev pub behind : Act → List Seen → List Seen
behind (Adds what) queue = queue ++ what ∷ []
behind Takes queue = drop 1 queue
behind (Forgets number) queue = filter (λ what. not (is_seen_at number what)) queue

-- a happening that was to be added stands last behind all others, or it stood there before
abbrev pub IsAdded : List Seen → Seen → List Seen → Type 0
IsAdded before what after = (after ≡ behind (Adds what) before) ⊎ (Contains before what × (after ≡ before))

-- ---- many acts

-- all that is told, in its order
unfoldable pub told_at_acts : List Act → List Seen → List Seen
told_at_acts [] queue = []
told_at_acts (act ∷ acts) queue = told_at_act act queue ++ told_at_acts acts (behind act queue)

-- how many happenings are asked for
unfoldable pub count_takes : List Act → ℕ
count_takes [] = 0
count_takes (Adds what ∷ acts) = count_takes acts
count_takes (Takes ∷ acts) = 1 + count_takes acts
count_takes (Forgets number ∷ acts) = count_takes acts

-- no act forgets this happening: its connection isn't closed meanwhile
unfoldable pub IsRemembered : Seen → List Act → Type 0
IsRemembered what [] = Unit {0}
IsRemembered what (Adds other ∷ acts) = IsRemembered what acts
IsRemembered what (Takes ∷ acts) = IsRemembered what acts
IsRemembered what (Forgets number ∷ acts) = (is_seen_at number what ≡ false) × IsRemembered what acts

-- Nobody is passed over: a happening behind k others is told once k + 1 are asked for, whatever else happens meanwhile. A queue that answers
-- the newest first, or that loses what stands in it when one is told, doesn't meet it.
abbrev pub AllAreTold : Type 0
AllAreTold = (acts : List Act) (before : List Seen) (what : Seen) (rest : List Seen)
    → IsRemembered what acts → length before + 1 ≤ count_takes acts
    → Contains (told_at_acts acts (before ++ what ∷ rest)) what
