-- The recording of a loop replays to itself: a replay refuses no event of the journal, and prints what the loop printed.
use Rattle.loop_model.specs.Ends.{ModelEnd}
use Rattle.std.specs.Prelude.{◌≡◌, List, ◌++◌, map}
use Rattle.safety_automaton.specs.Keys.{key_at}
use Rattle.er_trace.specs.declared.entry.Entry.{Entry as Event_line}
use Rattle.trace_model.specs.Printed as trace
use Rattle.trace_model.specs.Replays.{AreTaken}
use Rattle.loop_model.specs.Journals.{JournalEntry, trace_header, text, trace_lines_of}
use Rattle.loop_model.specs.Outs.{Out}
use Rattle.loop_model.specs.Loops.{Plan, Course}
use Rattle.loop_model.specs.Laws.{HoldsOfEachLoop}

-- these events of a trace are those of a journal, whatever the numbers of their lines
abbrev pub AreEvents : List Event_line → List JournalEntry → Type 0
AreEvents lines xs = map (λ (e : Event_line). record e { line = 0 }) lines ≡ trace_lines_of xs

-- a replay of these events, with the settings and the keys of the loop, refuses none of them, and its text is the header and the journal's
pub record ReplaysTo (plan : Plan) (lines : List Event_line) (xs : List JournalEntry) : Type 0 where
  pub taken : AreTaken plan.settings (key_at plan.keys) lines
  pub printed : trace.text_of_trace plan.settings (key_at plan.keys) lines ≡ trace_header plan.settings ++ text xs

abbrev pub IsReplayed : Plan → Out (Course ModelEnd) → Type 0
IsReplayed plan o = (lines : List Event_line) → AreEvents lines o.entries → ReplaysTo plan lines o.entries

abbrev pub RecordingsReplay : Type 0
RecordingsReplay = HoldsOfEachLoop IsReplayed
