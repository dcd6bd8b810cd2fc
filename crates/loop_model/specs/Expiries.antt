-- When a released connection is closed at the latest: the set-up time behind the event that released it.
use Rattle.loop_model.specs.Ends.{ModelEnd}
use Rattle.std.specs.Prelude.{ℕ, ◌≡◌, ◌+◌, if◌then◌else◌, List, [], ◌∷◌, Option, Some, None}
use Rattle.er_settings.specs.Values.{Settings}
use Rattle.safety_automaton.specs.Keys.{key_at}
use Rattle.er_end_model.specs.Steps.{Finds}
use Rattle.er_end_model.specs.Ends.{End}
use Rattle.trace_model.specs.Connections.{happens}
use Rattle.loop_model.specs.Journals.{JournalEntry}
use Rattle.loop_model.specs.Outs.{Out}
use Rattle.loop_model.specs.Sessions.{Session}
use Rattle.loop_model.specs.Loops.{Plan, Course}
use Rattle.loop_model.specs.Parts.{session_of_connection, of}
use Rattle.loop_model.specs.Laws.{HoldsOfEachLoop}
use Rattle.loop_model.specs.Faulted.{is_gone}

-- the moment of the event that releases an end, by the end model, where one does
unfoldable pub released_at : Settings → Finds → Option End → List JournalEntry → Option ℕ
released_at settings finds m [] = None
released_at settings finds m (x ∷ xs) =
    let now = (happens settings finds x.moment x.event m).0 in if is_gone now then Some x.moment else released_at settings finds now xs

abbrev pub closing_at : ℕ → Option ℕ → Option ℕ
closing_at setup None = None
closing_at setup (Some at) = Some (at + setup)

-- a live connection has its closing moment exactly where its events released it, the set-up time behind that event
abbrev pub ClosesInTime : Plan → Out (Course ModelEnd) → Type 0
ClosesInTime plan o =
    (conn : ℕ) (s : Session ModelEnd) → session_of_connection conn o.state.loop.sessions ≡ Some s
    → s.closing ≡ closing_at plan.settings.setup (released_at plan.settings (key_at plan.keys) None (of conn o.entries))

abbrev pub ClosingsAreInTime : Type 0
ClosingsAreInTime = HoldsOfEachLoop ClosesInTime
