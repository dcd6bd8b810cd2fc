-- Wires: connections by their numbers, what is told of each, and the record of the calls made on them (this profile). What wires
-- tell is optional: those in memory tell it, real ones don't.
use Rattle.std.specs.Prelude.{◌≡◌, ◌≢◌, ◌≤◌, ℕ, ◌+◌, ◌==◌, Bool, true, List, [], ◌∷◌, ◌++◌, length, take, drop, Option, None, Some, Result, Ok, Err}
use Rattle.std.specs.Prelude.{if◌then◌else◌}
use Rattle.link_trait.specs.declared.wires.Conn.{Conn}
use Rattle.link_trait.specs.declared.wires.Happening.{Happening}
use Rattle.link_trait.specs.declared.wires.Happening.TheVariants as happening
use Rattle.link_trait.specs.declared.wires.ReadAnswer.{ReadAnswer}
use Rattle.link_trait.specs.declared.wires.ReadAnswer.TheVariants as read_answer
use Rattle.link_trait.specs.declared.wires.WriteAnswer.{WriteAnswer}
use Rattle.link_trait.specs.declared.wires.WriteAnswer.TheVariants as write_answer

-- what is told of one connection: the octets taken from it, those given to it, those that wait at it, the room left for writing,
-- and whether its peer has closed
pub record Line : Type 0 where
  pub taken : List ℕ
  pub given : List ℕ
  pub waits : List ℕ
  pub room : ℕ
  pub shut : Bool

-- what is told of all connections, by their numbers
abbrev pub Lines : Type 0
Lines = ℕ → Line

-- this holds of what is told before and now. What isn't told never begins to be told, and it may cease to be told
abbrev pub Told : {A : Type 0} → Option A → Option A → (A → A → Type 0) → Type 0
Told None None Holds = Unit {0}
Told None (Some now) Holds = ⊥
Told (Some before) None Holds = Unit {0}
Told (Some before) (Some now) Holds = Holds before now

-- ---- numbers
-- Connections are numbered from 1 on, one more with each that is opened. `opened` is the number of the newest.

-- the number of the newest connection after a dial
abbrev pub opened_by_dial : {E : Type 0} → Result Conn E → ℕ → ℕ
opened_by_dial (Ok conn) opened = opened + 1
opened_by_dial (Err fault) opened = opened

-- the number of the newest connection after a turn
abbrev pub opened_by_turn : Happening → ℕ → ℕ
opened_by_turn (happening.Accepted conn) opened = opened + 1
opened_by_turn (happening.Readable conn) opened = opened
opened_by_turn (happening.Writable conn) opened = opened
opened_by_turn happening.Quiet opened = opened
opened_by_turn happening.Ended opened = opened
opened_by_turn happening.Failed opened = opened

-- ---- what stays and what comes

-- what is told of the opened connections stays
abbrev pub AllStay : ℕ → Lines → Lines → Type 0
AllStay opened before now = (conn : ℕ) → conn ≤ opened → now conn ≡ before conn

-- what is told of the opened connections but one stays
abbrev pub OthersStay : ℕ → ℕ → Lines → Lines → Type 0
OthersStay opened but before now = (conn : ℕ) → conn ≤ opened → conn ≢ but → now conn ≡ before conn

-- a connection is opened with no octet taken and none given
pub record IsNew (line : Line) : Type 0 where
  pub taken : line.taken ≡ []
  pub given : line.given ≡ []

-- the first n octets that wait were put into the slice, and moved to those taken
pub record TakesFirst (n : ℕ) (before now : Line) (into : List ℕ) : Type 0 where
  pub waited : n ≤ length before.waits
  pub put : take n into ≡ take n before.waits
  pub taken : now.taken ≡ before.taken ++ take n before.waits
  pub waits : now.waits ≡ drop n before.waits

-- the first n octets of the piece joined those given, and the room is less by n
pub record GivesFirst (n : ℕ) (before now : Line) (piece : List ℕ) : Type 0 where
  pub given : now.given ≡ before.given ++ take n piece
  pub room : now.room + n ≡ before.room

-- only octets that wait were added, the room may be set, and the peer's side may be closed
pub record OnlyAdds (before now : Line) : Type 0 where
  pub more : List ℕ
  pub waits : now.waits ≡ before.waits ++ more
  pub shut : before.shut ≡ true → now.shut ≡ true

-- what a read leaves alone at its own connection
pub record KeepsWriting (before now : Line) : Type 0 where
  pub given : now.given ≡ before.given
  pub room : now.room ≡ before.room
  pub shut : now.shut ≡ before.shut

-- what a write leaves alone at its own connection
pub record KeepsReading (before now : Line) : Type 0 where
  pub taken : now.taken ≡ before.taken
  pub waits : now.waits ≡ before.waits
  pub shut : now.shut ≡ before.shut

-- what a turn leaves alone at each connection
pub record KeepsOctets (before now : Line) : Type 0 where
  pub taken : now.taken ≡ before.taken
  pub given : now.given ≡ before.given

-- a read's Some(n) moves the first n octets that wait
abbrev pub Takes : ReadAnswer → Line → Line → List ℕ → Type 0
Takes (read_answer.Some n) before now into = TakesFirst n before now into
Takes read_answer.NotNow before now into = Unit {0}
Takes read_answer.End before now into = Unit {0}
Takes read_answer.Failed before now into = Unit {0}

-- a write's Some(n) gives the first n octets of the piece
abbrev pub GivesWrittenOctets : WriteAnswer → Line → Line → List ℕ → Type 0
GivesWrittenOctets (write_answer.Some n) before now piece = GivesFirst n before now piece
GivesWrittenOctets write_answer.NotNow before now piece = Unit {0}
GivesWrittenOctets write_answer.Failed before now piece = Unit {0}

-- what stays at a read
abbrev pub StaysAtRead : ReadAnswer → ℕ → ℕ → Lines → Lines → Type 0
StaysAtRead (read_answer.Some n) opened conn before now = OthersStay opened conn before now × KeepsWriting (before conn) (now conn)
StaysAtRead read_answer.NotNow opened conn before now = AllStay opened before now
StaysAtRead read_answer.End opened conn before now = AllStay opened before now
StaysAtRead read_answer.Failed opened conn before now = AllStay opened before now

-- what stays at a write
abbrev pub StaysAtWrite : WriteAnswer → ℕ → ℕ → Lines → Lines → Type 0
StaysAtWrite (write_answer.Some n) opened conn before now = OthersStay opened conn before now × KeepsReading (before conn) (now conn)
StaysAtWrite write_answer.NotNow opened conn before now = AllStay opened before now
StaysAtWrite write_answer.Failed opened conn before now = AllStay opened before now

-- the number of octets that wait at a connection, and 0 where that isn't told
abbrev pub count_waiting_at_connection : Option Lines → ℕ → ℕ
count_waiting_at_connection None conn = 0
count_waiting_at_connection (Some lines) conn = length (lines conn).waits

-- ---- the record

-- what a read gave
pub data Reading : Type 0 where
  Gave : (octets : List ℕ) → Reading
  NotNow : Reading
  End : Reading
  Failed : Reading

-- what a read gave, by its answer and its slice
abbrev pub reading_of : ReadAnswer → List ℕ → Reading
reading_of (read_answer.Some n) into = Gave (take n into)
reading_of read_answer.NotNow into = NotNow
reading_of read_answer.End into = End
reading_of read_answer.Failed into = Failed

-- the number of the connection that a dial opened
abbrev pub dialled : {E : Type 0} → Result Conn E → Option ℕ
dialled (Ok conn) = Some conn.0
dialled (Err fault) = None

-- a call with its arguments and its answer; of a read also how many octets waited, where that is told
pub data Call : Type 0 where
  Listens : (address : List ℕ) (listens : Bool) → Call
  Dials : (address : List ℕ) (conn : Option ℕ) → Call
  Turns : (until : Option ℕ) (happening : Happening) → Call
  Reads : (conn size waits : ℕ) (reading : Reading) → Call
  Writes : (conn : ℕ) (piece : List ℕ) (answer : WriteAnswer) → Call
  Closes : (conn : ℕ) → Call

-- the octets that a call took from a connection
abbrev pub octets_taken_by_call : ℕ → Call → List ℕ
octets_taken_by_call conn (Listens address listens) = []
octets_taken_by_call conn (Dials address opened) = []
octets_taken_by_call conn (Turns until what) = []
octets_taken_by_call conn (Reads other size waits (Gave octets)) = if other == conn then octets else []
octets_taken_by_call conn (Reads other size waits NotNow) = []
octets_taken_by_call conn (Reads other size waits End) = []
octets_taken_by_call conn (Reads other size waits Failed) = []
octets_taken_by_call conn (Writes other piece answer) = []
octets_taken_by_call conn (Closes other) = []

-- the octets that calls took from a connection
unfoldable pub taken_of : ℕ → List Call → List ℕ
taken_of conn [] = []
taken_of conn (call ∷ calls) = octets_taken_by_call conn call ++ taken_of conn calls

-- the octets that a call gave to a connection
abbrev pub given_by : ℕ → Call → List ℕ
given_by conn (Listens address listens) = []
given_by conn (Dials address opened) = []
given_by conn (Turns until what) = []
given_by conn (Reads other size waits reading) = []
given_by conn (Writes other piece (write_answer.Some n)) = if other == conn then take n piece else []
given_by conn (Writes other piece write_answer.NotNow) = []
given_by conn (Writes other piece write_answer.Failed) = []
given_by conn (Closes other) = []

-- the octets that calls gave to a connection
unfoldable pub given_of : ℕ → List Call → List ℕ
given_of conn [] = []
given_of conn (call ∷ calls) = given_by conn call ++ given_of conn calls
