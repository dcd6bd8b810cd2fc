-- Recorded before it goes: by all that was done to the outside, in its one order, the lines that tell of what goes to a connection are written before it
-- goes, and behind a write that failed nothing goes (this profile).
use Rattle.std.specs.Prelude.{◌≡◌, ℕ, ◌==◌, Bool, false, if◌then◌else◌, List, [], ◌∷◌, ◌++◌, take, filter, IsFalse}
use Rattle.std.specs.List.{list_any}
use Rattle.link_trait.specs.declared.wires.WriteAnswer.{WriteAnswer}
use Rattle.link_trait.specs.declared.wires.WriteAnswer.TheVariants as write_answer
use Rattle.outside.specs.Acts.{SeenCall, Listened, Dialled, Turned, Read, Sent, Closed, Act, Fetched, Wrote, Called, Asked, Drew, is_fetch}
use Rattle.outside.specs.Doings.{Told, Did}
use Rattle.loop_model.specs.Journals.{JournalEntry, text}
use Rattle.loop_model.specs.Laws.{octets_of_entries, IsBeginning}
use Rattle.loop_model.specs.Parts.{of}

-- the octets of all pieces that were to be written to the sink
unfoldable pub pieces_in : List Act → List ℕ
pieces_in [] = []
pieces_in (Fetched name answer ∷ acts) = pieces_in acts
pieces_in (Wrote piece done ∷ acts) = piece ++ pieces_in acts
pieces_in (Called call ∷ acts) = pieces_in acts
pieces_in (Asked moment ∷ acts) = pieces_in acts
pieces_in (Drew word ∷ acts) = pieces_in acts

-- the octets that a call gave to a connection, and those that acts gave
abbrev pub given_in_call : (conn : ℕ) → SeenCall → List ℕ
given_in_call conn (Listened address listens) = []
given_in_call conn (Dialled address opened) = []
given_in_call conn (Turned until what) = []
given_in_call conn (Read other size reading) = []
given_in_call conn (Sent other piece (write_answer.Some n)) = if other == conn then take n piece else []
given_in_call conn (Sent other piece write_answer.NotNow) = []
given_in_call conn (Sent other piece write_answer.Failed) = []
given_in_call conn (Closed other) = []

unfoldable pub given_to_connection : (conn : ℕ) → List Act → List ℕ
given_to_connection conn [] = []
given_to_connection conn (Fetched name answer ∷ acts) = given_to_connection conn acts
given_to_connection conn (Wrote piece done ∷ acts) = given_to_connection conn acts
given_to_connection conn (Called call ∷ acts) = given_in_call conn call ++ given_to_connection conn acts
given_to_connection conn (Asked moment ∷ acts) = given_to_connection conn acts
given_to_connection conn (Drew word ∷ acts) = given_to_connection conn acts

-- whether a call is a read, a write or a close at a connection, and the acts that are
abbrev pub is_call_at : (conn : ℕ) → SeenCall → Bool
is_call_at conn (Listened address listens) = false
is_call_at conn (Dialled address opened) = false
is_call_at conn (Turned until what) = false
is_call_at conn (Read other size reading) = other == conn
is_call_at conn (Sent other piece answer) = other == conn
is_call_at conn (Closed other) = other == conn

abbrev pub is_act_at : (conn : ℕ) → Act → Bool
is_act_at conn (Fetched name answer) = false
is_act_at conn (Wrote piece done) = false
is_act_at conn (Called call) = is_call_at conn call
is_act_at conn (Asked moment) = false
is_act_at conn (Drew word) = false

-- nothing but questions to the clock and draws of random words
abbrev pub AreQuiet : List Act → Type 0
AreQuiet [] = Unit {0}
AreQuiet (Fetched name answer ∷ acts) = ⊥
AreQuiet (Wrote piece done ∷ acts) = ⊥
AreQuiet (Called call ∷ acts) = ⊥
AreQuiet (Asked moment ∷ acts) = AreQuiet acts
AreQuiet (Drew word ∷ acts) = AreQuiet acts

-- among these acts, behind a header, the lines of events were written of whose octets for a connection these are a beginning
pub record AreToldBefore (header : List ℕ) (conn : ℕ) (done : List Act) (octets : List ℕ) : Type 0 where
  pub events : List JournalEntry
  pub written : pieces_in done ≡ header ++ text events
  pub told : IsBeginning octets (octets_of_entries (of conn events))

-- all lines of events of a connection stand before its close: those behind it are of other connections, and nothing is done at it any more
pub record IsClosedLast (header : List ℕ) (conn : ℕ) (done rest : List Act) : Type 0 where
  pub events : List JournalEntry
  pub written : pieces_in done ≡ header ++ text events
  pub later : List JournalEntry
  pub behind : pieces_in rest ≡ text later
  pub others : of conn later ≡ []
  pub untouched : filter (is_act_at conn) rest ≡ []

pub record IsRecordedFirst (header : List ℕ) (before now : Told) : Type 0 where
  -- all acts
  pub acts : List Act
  pub did : Did before now acts
  -- at each write to a connection
  pub given : (conn : ℕ) (piece : List ℕ) (answer : WriteAnswer) (done rest : List Act) → done ++ Called (Sent conn piece answer) ∷ rest ≡ acts
      → AreToldBefore header conn done (given_to_connection conn (done ++ Called (Sent conn piece answer) ∷ []))
  -- at each close
  pub closed : (conn : ℕ) (done rest : List Act) → done ++ Called (Closed conn) ∷ rest ≡ acts → IsClosedLast header conn done rest
  -- behind a write that failed nothing is written, given or closed
  pub failed : (piece : List ℕ) (done rest : List Act) → done ++ Wrote piece false ∷ rest ≡ acts → AreQuiet rest
  -- no file is asked for
  pub unfetched : IsFalse (list_any is_fetch acts)
