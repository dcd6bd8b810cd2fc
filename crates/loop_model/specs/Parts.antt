-- What of a run is one connection's: its events in the journal, and the calls at it. And which connections were opened, in their order.
use Rattle.std.specs.Prelude.{ℕ, ◌<◌, ◌==◌, Bool, false, if◌then◌else◌, List, [], ◌∷◌, ◌++◌, Option, Some, None}
use Rattle.link_trait.specs.Wires.{Call, Listens, Dials, Turns, Reads, Writes, Closes}
use Rattle.link_trait.specs.declared.wires.Happening.{Happening}
use Rattle.link_trait.specs.declared.wires.Happening.TheVariants as happening
use Rattle.loop_model.specs.Journals.{JournalEntry}
use Rattle.loop_model.specs.Sessions.{Session}

-- the session of a number
unfoldable pub session_of_connection : {E : Type 0} → ℕ → List (Session E) → Option (Session E)
session_of_connection conn [] = None
session_of_connection conn (s ∷ ss) = if s.number == conn then Some s else session_of_connection conn ss

-- the events of a connection
unfoldable pub of : ℕ → List JournalEntry → List JournalEntry
of conn [] = []
of conn (x ∷ xs) = if x.conn == conn then x ∷ of conn xs else of conn xs

-- whether a call is a read, a write or a close at a connection
abbrev pub is_at : ℕ → Call → Bool
is_at conn (Listens address listens) = false
is_at conn (Dials address opened) = false
is_at conn (Turns until happening) = false
is_at conn (Reads other size waits reading) = other == conn
is_at conn (Writes other piece answer) = other == conn
is_at conn (Closes other) = other == conn

-- the calls at a connection
unfoldable pub calls_at : ℕ → List Call → List Call
calls_at conn [] = []
calls_at conn (call ∷ calls) = if is_at conn call then call ∷ calls_at conn calls else calls_at conn calls

-- the connection that a turn opened
abbrev pub opened_by : Happening → List ℕ
opened_by (happening.Accepted conn) = conn.0 ∷ []
opened_by (happening.Readable conn) = []
opened_by (happening.Writable conn) = []
opened_by happening.Quiet = []
opened_by happening.Ended = []
opened_by happening.Failed = []

-- the connection that a call opened
abbrev pub connections_opened_by_call : Call → List ℕ
connections_opened_by_call (Listens address listens) = []
connections_opened_by_call (Dials address None) = []
connections_opened_by_call (Dials address (Some conn)) = conn ∷ []
connections_opened_by_call (Turns until happening) = opened_by happening
connections_opened_by_call (Reads other size waits reading) = []
connections_opened_by_call (Writes other piece answer) = []
connections_opened_by_call (Closes other) = []

-- the connections that calls opened
unfoldable pub opened_in : List Call → List ℕ
opened_in [] = []
opened_in (call ∷ calls) = connections_opened_by_call call ++ opened_in calls

-- numbers rise, each above the one before, from this one on; and the last of them
abbrev pub Rises : ℕ → List ℕ → Type 0
Rises from [] = Unit {0}
Rises from (n ∷ ns) = (from < n) × Rises n ns

abbrev pub newest : ℕ → List ℕ → ℕ
newest from [] = from
newest from (n ∷ ns) = newest n ns
