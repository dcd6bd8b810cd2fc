-- Representation: how far a replay went; no claim rests on it.
use Rattle.std.specs.Prelude.{ℕ, ◌≡◌, ◌<◌, List, [], ◌∷◌, ◌++◌, length, take, None}
use Rattle.er_settings.specs.Values.{Settings}
use Rattle.er_trace.specs.declared.entry.Entry.{Entry}
use Rattle.er_end_model.specs.Steps.{Finds}
use Rattle.trace_model.specs.Checks.{fault_of_trace_event}
use Rattle.trace_model.specs.Printed.{entries_text}
use Rattle.trace_replay.specs.declared.run.Replaying.{Replaying}
use Rattle.trace_replay.specs.Standing.{StandsBehind}

-- so many first events are taken
abbrev pub TakenTo : Settings → Finds → List Entry → ℕ → Type 0
TakenTo s f entries n =
    (first : List Entry) (e : Entry) (rest : List Entry) → entries ≡ first ++ e ∷ rest → length first < n → fault_of_trace_event s f first e ≡ None

-- so many first events were replayed
pub record HasReplayedFirstEvents (s : Settings) (f : Finds) (entries : List Entry) (n : ℕ) (r : Replaying) (start out : List ℕ) : Type 0 where
  pub stands : StandsBehind s f (take n entries) r
  pub taken : TakenTo s f entries n
  pub text : out ≡ start ++ entries_text s f [] (take n entries)
