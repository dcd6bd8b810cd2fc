-- The events of a connection, one after the other, each at the end of the end model that those before it lead to; and the end of a session.
use Rattle.loop_model.specs.Ends.{ModelEnd}
use Rattle.std.specs.Prelude.{ℕ, ◌≡◌, List, [], ◌∷◌, Option, Some}
use Rattle.er_settings.specs.Values.{Settings}
use Rattle.safety_automaton.specs.Keys.{key_at}
use Rattle.er_end_model.specs.Steps.{Finds}
use Rattle.er_end_model.specs.Ends.{End}
use Rattle.er_trace.specs.declared.event.Event.{Event}
use Rattle.trace_model.specs.Connections.{happens, end_at}
use Rattle.loop_model.specs.Journals.{JournalEntry, trace_lines_of}
use Rattle.loop_model.specs.Outs.{Out}
use Rattle.loop_model.specs.Sessions.{Session}
use Rattle.loop_model.specs.Loops.{Plan, Course}
use Rattle.loop_model.specs.Parts.{session_of_connection}
use Rattle.loop_model.specs.Laws.{HoldsOfEachLoop}

-- something holds of each event and the end before it
abbrev pub EachAt : Settings → Finds → (Option End → Event → Type 0) → Option End → List JournalEntry → Type 0
EachAt settings finds Fits m [] = Unit {0}
EachAt settings finds Fits m (x ∷ xs) = Fits m x.event × EachAt settings finds Fits (happens settings finds x.moment x.event m).0 xs

-- the end of a live session is the one that the events of its connection lead to
abbrev pub AreLed : Plan → Out (Course ModelEnd) → Type 0
AreLed plan o =
    (conn : ℕ) (s : Session ModelEnd) → session_of_connection conn o.state.loop.sessions ≡ Some s
    → end_at plan.settings (key_at plan.keys) conn (trace_lines_of o.entries) ≡ Some s.end

abbrev pub SessionsAreLed : Type 0
SessionsAreLed = HoldsOfEachLoop AreLed
