-- What holds of the events of each turn: ticks, ends of lines, random words, and what is closed.
use Rattle.loop_model.specs.Ends.{ModelEnd, model_ends}
use Rattle.trace_model.specs.Checks.{most_live}
use Rattle.std.specs.Prelude.{ℕ, ◌≡◌, ◌≤◌, nat_lt, max, Bool, true, false, ◌||◌, if◌then◌else◌, List, [], ◌∷◌, ◌++◌, length, Option, Some, None}
use Rattle.rand_core.specs.Stream.{Stream, next_u64}
use Rattle.er_trace.specs.declared.event.Event.{Event}
use Rattle.er_trace.specs.declared.event.Event.TheVariants.{Call, Answer, Octets, Send, Take, Release, Tick, Ended, Fault, Stalled, Full, Unserved}
use Rattle.link_trait.specs.Wires as wires
use Rattle.link_trait.specs.Wires.{Listens, Dials, Turns, Reads, Writes, Closes, Reading, Gave, NotNow, End, Failed}
use Rattle.link_trait.specs.declared.wires.Conn.{Conn}
use Rattle.link_trait.specs.declared.wires.Happening.TheVariants as happening
use Rattle.loop_model.specs.Journals.{JournalEntry}
use Rattle.loop_model.specs.Sessions.{Session, is_released, owes_nothing}
use Rattle.loop_model.specs.Visits.{most_read, is_due}
use Rattle.loop_model.specs.Loops.{Plan, numbers, Course, Caller, Turn, readied, went, run, Dialled, dials}
use Rattle.loop_model.specs.Parts.{session_of_connection, Rises}

-- ---- ticks

abbrev pub is_tick : Event → Bool
is_tick (Call engine rbc rb) = false
is_tick (Answer rbc ra) = false
is_tick (Octets octets) = false
is_tick (Send text) = false
is_tick Take = false
is_tick (Release sub) = false
is_tick Tick = true
is_tick Ended = false
is_tick Fault = false
is_tick Stalled = false
is_tick (Full count) = false
is_tick (Unserved count) = false

-- the connections that were ticked, in order
unfoldable pub ticked : List JournalEntry → List ℕ
ticked [] = []
ticked (x ∷ xs) = if is_tick x.event then x.conn ∷ ticked xs else ticked xs

-- the live connections whose deadline has come
abbrev pub due_at : ℕ → List (Session ModelEnd) → List ℕ
due_at m [] = []
due_at m (s ∷ ss) = if is_due m (model_ends.deadline s.end) then s.number ∷ due_at m ss else due_at m ss

-- in each turn those are ticked, each once, in rising number, whose deadline is at or below the moment before the turn
abbrev pub TicksAreDue : Type 0
TicksAreDue =
    (plan : Plan) (c : Course ModelEnd) (a : Turn) → c.halt ≡ None → Rises 0 (numbers c.loop.sessions)
    → ticked (went model_ends plan c a).entries ≡ due_at (max c.loop.moment a.first) c.loop.sessions

-- ---- ends of lines

abbrev pub is_ended : Event → Bool
is_ended (Call engine rbc rb) = false
is_ended (Answer rbc ra) = false
is_ended (Octets octets) = false
is_ended (Send text) = false
is_ended Take = false
is_ended (Release sub) = false
is_ended Tick = false
is_ended Ended = true
is_ended Fault = false
is_ended Stalled = false
is_ended (Full count) = false
is_ended (Unserved count) = false

-- the connections with an event `ended`, in order
unfoldable pub ended : List JournalEntry → List ℕ
ended [] = []
ended (x ∷ xs) = if is_ended x.event then x.conn ∷ ended xs else ended xs

abbrev pub ended_by : wires.Call → List ℕ
ended_by (Listens address listens) = []
ended_by (Dials address conn) = []
ended_by (Turns until happening) = []
ended_by (Reads conn size waits (Gave octets)) = []
ended_by (Reads conn size waits NotNow) = []
ended_by (Reads conn size waits End) = conn ∷ []
ended_by (Reads conn size waits Failed) = []
ended_by (Writes conn piece answer) = []
ended_by (Closes conn) = []

-- the connections of which a read answered that the line ended, in order
unfoldable pub ends_of : List wires.Call → List ℕ
ends_of [] = []
ends_of (call ∷ calls) = ended_by call ++ ends_of calls

-- `ended` comes exactly where a read answered that the line ended
pub record EndsAreTold : Type 0 where
  pub serving : (plan : Plan) (c : Course ModelEnd) (turns : List Turn)
      → ended (run model_ends plan c turns).entries ≡ ends_of (run model_ends plan c turns).calls
  pub dialling : (plan : Plan) (caller : Caller) (c : Course ModelEnd) (address : List ℕ) (a : Dialled)
      → ended (dials model_ends plan caller c address a).entries ≡ ends_of (dials model_ends plan caller c address a).calls

-- ---- random words

-- a random word is drawn for an event that opens an end, and for a connection that is turned away while fewer than 256 are live: there was no memory
-- for its session
abbrev pub draws_word : Event → Bool
draws_word (Call engine rbc rb) = true
draws_word (Answer rbc ra) = true
draws_word (Octets octets) = false
draws_word (Send text) = false
draws_word Take = false
draws_word (Release sub) = false
draws_word Tick = false
draws_word Ended = false
draws_word Fault = false
draws_word Stalled = false
draws_word (Full count) = nat_lt count most_live
draws_word (Unserved count) = false

-- the word that was drawn, where the event tells it: an end has it
abbrev pub word_of : Event → List (Option ℕ)
word_of (Call engine rbc rb) = Some rb ∷ []
word_of (Answer rbc ra) = Some ra ∷ []
word_of (Octets octets) = []
word_of (Send text) = []
word_of Take = []
word_of (Release sub) = []
word_of Tick = []
word_of Ended = []
word_of Fault = []
word_of Stalled = []
word_of (Full count) = if nat_lt count most_live then None ∷ [] else []
word_of (Unserved count) = []

unfoldable pub random_words_of_entries : List JournalEntry → List (Option ℕ)
random_words_of_entries [] = []
random_words_of_entries (x ∷ xs) = word_of x.event ++ random_words_of_entries xs

-- a word that is told is the one that was drawn
abbrev pub IsWord : Option ℕ → (drawn : ℕ) → Type 0
IsWord None drawn = Unit {0}
IsWord (Some word) drawn = word ≡ drawn

-- words are the next of a stream, in order
abbrev pub AreNext : List (Option ℕ) → Stream → Type 0
AreNext [] stream = Unit {0}
AreNext (word ∷ words) stream = IsWord word (next_u64 stream).0 × AreNext words (next_u64 stream).1

-- what is left of a stream behind them
unfoldable pub words_behind : List (Option ℕ) → Stream → Stream
words_behind [] stream = stream
words_behind (word ∷ words) stream = words_behind words (next_u64 stream).1

-- each end that is opened has the next random word, each connection that finds no memory uses one up, and no other is drawn. A loop that draws one for
-- each connection that is accepted, also where 256 are live or no user is left, doesn't meet it
pub record WordsAreNext : Type 0 where
  pub serving : (plan : Plan) (c : Course ModelEnd) (turns : List Turn) → AreNext (random_words_of_entries (run model_ends plan c turns).entries) c.loop.words
  pub dialling : (plan : Plan) (caller : Caller) (c : Course ModelEnd) (address : List ℕ) (a : Dialled)
      → AreNext (random_words_of_entries (dials model_ends plan caller c address a).entries) c.loop.words
  pub left_of_serving : (plan : Plan) (c : Course ModelEnd) (turns : List Turn)
      → (run model_ends plan c turns).state.loop.words ≡ words_behind (random_words_of_entries (run model_ends plan c turns).entries) c.loop.words
  pub left_of_dialling : (plan : Plan) (caller : Caller) (c : Course ModelEnd) (address : List ℕ) (a : Dialled)
      → (dials model_ends plan caller c address a).state.loop.words
      ≡ words_behind (random_words_of_entries (dials model_ends plan caller c address a).entries) c.loop.words

-- ---- closing

-- a session that neither broke off nor is released and owes nothing: nothing waits to be written, or its connection was never made
abbrev pub IsKeptSession : Session ModelEnd → Type 0
IsKeptSession s = (s.broken || owes_nothing model_ends s) ≡ false

abbrev pub AreKept : List (Session ModelEnd) → Type 0
AreKept [] = Unit {0}
AreKept (s ∷ ss) = IsKeptSession s × AreKept ss

-- one that broke off is closed at once, and a released one as soon as it owes nothing: none such is left behind a turn
abbrev pub OthersAreClosed : Type 0
OthersAreClosed = (plan : Plan) (c : Course ModelEnd) (turns : List Turn) → AreKept c.loop.sessions → AreKept (run model_ends plan c turns).state.loop.sessions

-- ---- progress

-- what wires promise of a read: it gives an octet at least; and it gives none only where none waits, or where it fails
abbrev pub IsRead : ℕ → Reading → Type 0
IsRead waits (Gave octets) = 1 ≤ length octets
IsRead waits NotNow = waits ≡ 0
IsRead waits End = waits ≡ 0
IsRead waits Failed = Unit {0}

abbrev pub IsReadBy : wires.Call → Type 0
IsReadBy (Listens address listens) = Unit {0}
IsReadBy (Dials address conn) = Unit {0}
IsReadBy (Turns until happening) = Unit {0}
IsReadBy (Reads conn size waits reading) = IsRead waits reading
IsReadBy (Writes conn piece answer) = Unit {0}
IsReadBy (Closes conn) = Unit {0}

abbrev pub AreRead : List wires.Call → Type 0
AreRead [] = Unit {0}
AreRead (call ∷ calls) = IsReadBy call × AreRead calls

-- an octet at least was taken, or the read failed
abbrev pub HasTaken : Reading → Type 0
HasTaken (Gave octets) = 1 ≤ length octets
HasTaken NotNow = ⊥
HasTaken End = ⊥
HasTaken Failed = Unit {0}

-- among calls is a read of this connection, which takes an octet at least where one waits, or fails
pub record HasReadProgress (conn : ℕ) (calls : List wires.Call) : Type 0 where
  pub first : List wires.Call
  pub waits : ℕ
  pub reading : Reading
  pub rest : List wires.Call
  pub is : calls ≡ first ++ Reads conn most_read waits reading ∷ rest
  pub taken : 1 ≤ waits → HasTaken reading

-- a turn in which a live connection is readable that isn't released takes an octet from it where one waits, or the read fails
abbrev pub ReadableProgress : Type 0
ReadableProgress =
    (plan : Plan) (c : Course ModelEnd) (a : Turn) (conn : Conn) (s : Session ModelEnd) → c.halt ≡ None → (readied model_ends plan c a).state.halt ≡ None
    → a.happening ≡ happening.Readable conn → session_of_connection conn.0 (readied model_ends plan c a).state.loop.sessions ≡ Some s
    → is_released model_ends s ≡ false
    → AreRead (went model_ends plan c a).calls → HasReadProgress conn.0 (went model_ends plan c a).calls
