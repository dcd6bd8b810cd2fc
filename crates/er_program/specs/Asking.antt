-- Representation: which names a run asked for, by its status; no claim rests on it.
use Rattle.std.specs.Prelude.{◌≡◌, ◌≢◌, ◌⊎◌, ℕ, List, [], ◌∷◌, Option}
use Rattle.link_trait.specs.Outside.{Grew}
use Rattle.er_program.specs.Commands.{Command, Misused, Drill, Bits, Migrate, Replay, Check, Audit, Bulk, Serve, Call}
use Rattle.er_statuses.specs.LastLines.{fetch_line}

-- names that were asked for
abbrev pub AskedNames : Type 0
AskedNames = Option (List (List ℕ))

-- a file word was asked for, the last one; where it wasn't fetched, its line was written
abbrev pub AsksLast : (name : List ℕ) → ℕ → Option (List ℕ) → Option (List ℕ) → Type 0
AsksLast name status before now = (status ≢ 4) × (status ≡ 2 → Grew before now (fetch_line name))

-- the key file alone was asked for: it wasn't fetched, or it is refused
pub record AsksKeys (keys : List ℕ) (status : ℕ) (asked asked_now : AskedNames) (before now : Option (List ℕ)) : Type 0 where
  pub asked_for : Grew asked asked_now (keys ∷ [])
  pub ends : (status ≡ 2) ⊎ (status ≡ 4)
  pub written : status ≡ 2 → Grew before now (fetch_line keys)

-- both were asked for
pub record AsksBoth (keys name : List ℕ) (status : ℕ) (asked asked_now : AskedNames) (before now : Option (List ℕ)) : Type 0 where
  pub asked_for : Grew asked asked_now (keys ∷ name ∷ [])
  pub last : AsksLast name status before now

-- the file words are asked for in their order, each once: all of them, but where a key file is asked for first and isn't fetched or good
abbrev pub Asks : Command → ℕ → AskedNames → AskedNames → Option (List ℕ) → Option (List ℕ) → Type 0
Asks Misused status asked asked_now before now = Grew asked asked_now []
Asks (Drill name) status asked asked_now before now = Grew asked asked_now (name ∷ [])
Asks (Bits name) status asked asked_now before now = Grew asked asked_now (name ∷ [])
Asks (Migrate keys) status asked asked_now before now = Grew asked asked_now (keys ∷ [])
Asks (Replay keys trace) status asked asked_now before now =
    AsksKeys keys status asked asked_now before now ⊎ AsksBoth keys trace status asked asked_now before now
Asks (Check keys trace) status asked asked_now before now =
    AsksKeys keys status asked asked_now before now ⊎ AsksBoth keys trace status asked asked_now before now
Asks (Audit keys tap ends) status asked asked_now before now =
    AsksKeys keys status asked asked_now before now ⊎ AsksBoth keys tap status asked asked_now before now
Asks (Bulk seed count) status asked asked_now before now = Grew asked asked_now []
Asks (Serve keys address rbc turns) status asked asked_now before now = ⊥
Asks (Call keys address engine rbc turns) status asked asked_now before now = ⊥
