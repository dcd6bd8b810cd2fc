-- An event `fault` comes exactly where a read or a write of a connection failed that wasn't released.
use Rattle.loop_model.specs.Ends.{ModelEnd}
use Rattle.std.specs.Prelude.{ℕ, ◌≡◌, Bool, false, not, ◌&&◌, ◌||◌, if◌then◌else◌, List, [], ◌∷◌, Option, Some, None, is_some}
use Rattle.safety_automaton.specs.Keys.{key_at}
use Rattle.er_end_model.specs.Ends.{End}
use Rattle.trace_model.specs.Connections.{end_at}
use Rattle.link_trait.specs.Wires as wires
use Rattle.loop_model.specs.Journals.{JournalEntry, trace_lines_of}
use Rattle.loop_model.specs.Outs.{Out}
use Rattle.loop_model.specs.Loops.{Plan, Course}
use Rattle.loop_model.specs.Parts.{of, calls_at}
use Rattle.loop_model.specs.Laws.{is_fault, one_if, faults, is_failed, HoldsOfEachLoop}

-- whether a read or a write failed
unfoldable pub has_failed : List wires.Call → Bool
has_failed [] = false
has_failed (call ∷ calls) = is_failed call || has_failed calls

-- the events before the first `fault`
unfoldable pub before_fault : List JournalEntry → List JournalEntry
before_fault [] = []
before_fault (x ∷ xs) = if is_fault x.event then [] else x ∷ before_fault xs

abbrev pub is_gone : Option End → Bool
is_gone None = false
is_gone (Some m) = is_some m.core.released

-- whether its events release a connection, by the end model
abbrev pub is_released_by : Plan → ℕ → List JournalEntry → Bool
is_released_by plan conn xs = is_gone (end_at plan.settings (key_at plan.keys) conn (trace_lines_of xs))

-- one event `fault`, where a read or a write failed and the events before it hadn't released the connection; none elsewhere
abbrev pub IsFaultTold : Plan → ℕ → List JournalEntry → List wires.Call → Type 0
IsFaultTold plan conn xs calls = faults xs ≡ one_if (has_failed calls && not (is_released_by plan conn (before_fault xs)))

-- of each connection
abbrev pub AreFaultsTold : Plan → Out (Course ModelEnd) → Type 0
AreFaultsTold plan o = (conn : ℕ) → IsFaultTold plan conn (of conn o.entries) (calls_at conn o.calls)

abbrev pub FaultsAreTold : Type 0
FaultsAreTold = HoldsOfEachLoop AreFaultsTold
