-- What an act says of a call of a cabinet or of wires, by its answer (this profile).
use Rattle.std.specs.Prelude.{ℕ, Bool, ◌||◌, ◌+◌, List, Some, None, Result, Ok, Err}
use Rattle.link_trait.specs.declared.cabinet.FetchFault.{FetchFault}
use Rattle.link_trait.specs.declared.cabinet.FetchFault.TheVariants as fault
use Rattle.link_trait.specs.Wires.{Call, Listens, Dials, Turns, Reads, Writes, Closes, opened_by_turn}
use Rattle.outside.specs.Acts.{Fetch, Gave, Failed, Spent, SeenCall, Listened, Dialled, Turned, Read, Sent, Closed}

-- what a fetch gave, by its answer
abbrev pub fetched_by : {V : Type 0} → (V → List ℕ) → Result V FetchFault → Fetch
fetched_by octets_of (Ok file) = Gave (octets_of file)
fetched_by octets_of (Err fault.Failed) = Failed
fetched_by octets_of (Err (fault.NoMemory want)) = Spent

-- what is seen of a call that wires tell
abbrev pub seen_of_call : Call → SeenCall
seen_of_call (Listens address listens) = Listened address listens
seen_of_call (Dials address conn) = Dialled address conn
seen_of_call (Turns until what) = Turned until what
seen_of_call (Reads conn size waits reading) = Read conn size reading
seen_of_call (Writes conn piece answer) = Sent conn piece answer
seen_of_call (Closes conn) = Closed conn

-- the number of the newest connection behind a call
abbrev pub opened_by_call : ℕ → SeenCall → ℕ
opened_by_call opened (Listened address listens) = opened
opened_by_call opened (Dialled address None) = opened
opened_by_call opened (Dialled address (Some conn)) = opened + 1
opened_by_call opened (Turned until what) = opened_by_turn what opened
opened_by_call opened (Read conn size reading) = opened
opened_by_call opened (Sent conn piece answer) = opened
opened_by_call opened (Closed conn) = opened

-- whether the wires listen behind a call
abbrev pub listening_by_call : Bool → SeenCall → Bool
listening_by_call listening (Listened address listens) = listening || listens
listening_by_call listening (Dialled address conn) = listening
listening_by_call listening (Turned until what) = listening
listening_by_call listening (Read conn size reading) = listening
listening_by_call listening (Sent conn piece answer) = listening
listening_by_call listening (Closed conn) = listening
