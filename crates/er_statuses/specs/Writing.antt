-- Representation: what the parts of a run of the program write to the sink, and how they end; no claim rests on it.
use Rattle.std.specs.Prelude.{◌≡◌, ◌⊎◌, ℕ, ◌≤◌, List, [], Option, Result, Ok, Err}
use Rattle.link_trait.specs.Outside.{Grew, GrewPart, Rose}
use Rattle.er_statuses.specs.Answers.{Answer}
use Rattle.er_statuses.specs.LastLines.{fetch_line, memory_line}
use Rattle.er_statuses.specs.declared.status.Status.{Status}
use Rattle.er_statuses.specs.declared.stop.Stop.{Stop}
use Rattle.er_statuses.specs.declared.stop.Stop.TheVariants as stop

-- an answer was given: its text was written, or a beginning of it where the sink failed, or nothing where memory ran out
abbrev pub GivesAnswer : Answer → Option (List ℕ) → Option (List ℕ) → ℕ → ℕ → Result Status Stop → Type 0
GivesAnswer a before now f g (Ok s) = (s.0 ≡ a.status) × Grew before now a.text × (f ≤ g)
GivesAnswer a before now f g (Err stop.Sink) = GrewPart before now a.text × Rose f g
GivesAnswer a before now f g (Err (stop.NoMemory want)) = Grew before now [] × (f ≤ g)

-- the last line of a run for which memory didn't suffice: written, or a beginning of it where the sink failed
abbrev pub Exhausts : Option (List ℕ) → Option (List ℕ) → ℕ → ℕ → Status → Type 0
Exhausts before now f g s = ((s.0 ≡ 7) × Grew before now memory_line × (f ≤ g)) ⊎ ((s.0 ≡ 5) × GrewPart before now memory_line × Rose f g)

-- a file can't be had: the fetch failed, and its line was written, or a beginning of it where the sink failed; or memory ran out, and nothing was written
abbrev pub EndsUnfetched : (name : List ℕ) → (c d : ℕ) → Option (List ℕ) → Option (List ℕ) → ℕ → ℕ → Result Status Stop → Type 0
EndsUnfetched name c d before now f g (Ok s) = Rose c d × (s.0 ≡ 2) × Grew before now (fetch_line name) × (f ≤ g)
EndsUnfetched name c d before now f g (Err stop.Sink) = Rose c d × GrewPart before now (fetch_line name) × Rose f g
EndsUnfetched name c d before now f g (Err (stop.NoMemory want)) = Grew before now [] × (f ≤ g)
