-- What the user of a connection hears where a message is taken for it: that message, whatever its length (this profile).
use Rattle.std.specs.Prelude.{ℕ, ◌≡◌, List, ◌∷◌, Some}
use Rattle.er_settings.specs.Making.{usual_settings}
use Rattle.er_trace.specs.declared.entry.Entry.{Entry}
use Rattle.er_trace.specs.declared.event.Event.TheVariants as event
use Rattle.er_trace.specs.Texts.{IsReadableEntry, AreReadableEntries}
use Rattle.er_end_model.specs.Outcomes.{Outcome, Taken}
use Rattle.er_end_model.specs.Steps.{Finds}
use Rattle.er_users.specs.Users.{Message}
use Rattle.trace_model.specs.Printed.{outcomes_at}
use Rattle.loop_model.specs.Points.{hears_at}

-- the event `take` of a connection, on some line
abbrev pub take_at : (line moment conn : ℕ) → Entry
take_at line moment conn = record { line = line; moment = moment; conn = conn; event = event.Take }

-- behind whatever events, where a take gives a message the user hears that message
abbrev pub TakenAreHeard : Type 0
TakenAreHeard =
    (finds : Finds) (before : List Entry) (line moment conn : ℕ) → AreReadableEntries before → IsReadableEntry (take_at line moment conn)
    → (message : List ℕ) (rest : List Outcome) → outcomes_at usual_settings finds before (take_at line moment conn) ≡ Taken message ∷ rest
    → hears_at event.Take (Taken message ∷ rest) ≡ Some (Message message)
