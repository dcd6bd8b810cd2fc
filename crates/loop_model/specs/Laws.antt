-- What holds of the loop, whatever the outside answers. Where a law speaks of connections that were accepted, their numbers rise, as
-- those of wires do.
use Rattle.trace_model.specs.Checks.{most_live}
use Rattle.loop_model.specs.Ends.{ModelEnd, model_ends}
use Rattle.std.specs.Prelude.{ℕ, ◌≡◌, ◌+◌, ◌≤◌, max, Bool, true, false, if◌then◌else◌, List, [], ◌∷◌, ◌++◌, length, Option, Some, None}
use Rattle.safety_automaton.specs.Keys.{key_at}
use Rattle.er_settings.specs.Values.{Settings}
use Rattle.er_settings.specs.Ranges.{AllAllowed}
use Rattle.er_end_model.specs.Steps.{Finds}
use Rattle.er_trace.specs.declared.entry.Entry.{Entry as Event_line}
use Rattle.er_trace.specs.declared.event.Event.{Event}
use Rattle.er_trace.specs.declared.event.Event.TheVariants.{Call, Answer, Octets, Send, Take, Release, Tick, Ended, Fault, Stalled, Full, Unserved}
use Rattle.trace_model.specs.Printed as trace
use Rattle.link_trait.specs.Wires as wires
use Rattle.link_trait.specs.Wires.{Listens, Dials, Turns, Reads, Writes, Closes, Reading, Gave, NotNow, End, Failed, given_of}
use Rattle.link_trait.specs.declared.wires.Happening.{Happening}
use Rattle.link_trait.specs.declared.wires.Happening.TheVariants as happening
use Rattle.link_trait.specs.declared.wires.WriteAnswer.{WriteAnswer}
use Rattle.link_trait.specs.declared.wires.WriteAnswer.TheVariants as write
use Rattle.loop_model.specs.Journals.{JournalEntry, text, trace_line_of, trace_lines_of}
use Rattle.loop_model.specs.Outs.{Out}
use Rattle.loop_model.specs.Sessions.{Session, is_released, octets_in}
use Rattle.loop_model.specs.Loops.{Plan, numbers, Caller, Halt, OnEnded, OnClosed, OnFailed, Course, Turn, readied, went, run, Dialled, dials}
use Rattle.loop_model.specs.Parts.{session_of_connection, of, calls_at, opened_in, Rises}

-- a loop that serves: it begins with no session, and the connections that are accepted have rising numbers
pub record IsServing (plan : Plan) (c : Course ModelEnd) (turns : List Turn) : Type 0 where
  pub none : c.loop.sessions ≡ []
  pub rises : Rises 0 (opened_in (run model_ends plan c turns).calls)
  pub allowed : AllAllowed plan.settings

-- a loop that dials: it begins with no session, the connections that are opened have rising numbers, and the pair's KMAC holds at the
-- moment of the call
pub record IsDialling (plan : Plan) (caller : Caller) (c : Course ModelEnd) (address : List ℕ) (a : Dialled) : Type 0 where
  pub none : c.loop.sessions ≡ []
  pub rises : Rises 0 (opened_in (dials model_ends plan caller c address a).calls)
  pub allowed : AllAllowed plan.settings
  pub key : key_at plan.keys (max c.loop.moment a.first) caller.engine plan.rbc ≡ Some caller.kmac

-- ---- the journal

-- each event has the outcomes that the end model gives to the last of its connection's events so far, those of all others left out
abbrev pub HaveModelOutcomes : Settings → Finds → List Event_line → List JournalEntry → Type 0
HaveModelOutcomes settings finds before [] = Unit {0}
HaveModelOutcomes settings finds before (x ∷ xs) =
    (x.outcomes ≡ trace.outcomes_at settings finds before (trace_line_of x)) × HaveModelOutcomes settings finds (before ++ trace_line_of x ∷ []) xs

-- whichever session answered for a connection: its outcomes are those of its own events
abbrev pub IsIsolated : Plan → Out (Course ModelEnd) → Type 0
IsIsolated plan o = HaveModelOutcomes plan.settings (key_at plan.keys) [] o.entries

-- what is printed of the journal behind the header is the printed text of its events
abbrev pub IsPrinted : Plan → Out (Course ModelEnd) → Type 0
IsPrinted plan o = text o.entries ≡ trace.entries_text plan.settings (key_at plan.keys) [] (trace_lines_of o.entries)

-- ---- octets given

-- the octets for the line among the outcomes of events
unfoldable pub octets_of_entries : List JournalEntry → List ℕ
octets_of_entries [] = []
octets_of_entries (x ∷ xs) = octets_in x.outcomes ++ octets_of_entries xs

pub record IsBeginning (xs ys : List ℕ) : Type 0 where
  pub rest : List ℕ
  pub is : xs ++ rest ≡ ys

-- the octets given to a connection are a beginning of the joined octets of its outcomes
abbrev pub AreAccounted : Out (Course ModelEnd) → Type 0
AreAccounted o = (conn : ℕ) → IsBeginning (given_of conn o.calls) (octets_of_entries (of conn o.entries))

-- ---- calls on open connections

-- nothing follows a close
abbrev pub is_close : wires.Call → Bool
is_close (Listens address listens) = false
is_close (Dials address conn) = false
is_close (Turns until happening) = false
is_close (Reads conn size waits reading) = false
is_close (Writes conn piece answer) = false
is_close (Closes conn) = true

abbrev pub EndAtClose : List wires.Call → Type 0
EndAtClose [] = Unit {0}
EndAtClose (call ∷ calls) = (is_close call ≡ true → calls ≡ []) × EndAtClose calls

-- no call is made on a connection that was closed
abbrev pub AreOnOpen : Out (Course ModelEnd) → Type 0
AreOnOpen o = (conn : ℕ) → EndAtClose (calls_at conn o.calls)

-- ---- faults

abbrev pub is_fault : Event → Bool
is_fault (Call engine rbc rb) = false
is_fault (Answer rbc ra) = false
is_fault (Octets octets) = false
is_fault (Send text) = false
is_fault Take = false
is_fault (Release sub) = false
is_fault Tick = false
is_fault Ended = false
is_fault Fault = true
is_fault Stalled = false
is_fault (Full count) = false
is_fault (Unserved count) = false

abbrev pub one_if : Bool → ℕ
one_if true = 1
one_if false = 0

-- how many events are `fault`
unfoldable pub faults : List JournalEntry → ℕ
faults [] = 0
faults (x ∷ xs) = one_if (is_fault x.event) + faults xs

abbrev pub is_failed_read : Reading → Bool
is_failed_read (Gave octets) = false
is_failed_read NotNow = false
is_failed_read End = false
is_failed_read Failed = true

abbrev pub is_failed_write : WriteAnswer → Bool
is_failed_write (write.Some n) = false
is_failed_write write.NotNow = false
is_failed_write write.Failed = true

-- whether a call is a read or a write that failed
abbrev pub is_failed : wires.Call → Bool
is_failed (Listens address listens) = false
is_failed (Dials address conn) = false
is_failed (Turns until happening) = false
is_failed (Reads conn size waits reading) = is_failed_read reading
is_failed (Writes conn piece answer) = is_failed_write answer
is_failed (Closes conn) = false

-- how many reads and writes failed
unfoldable pub failures : List wires.Call → ℕ
failures [] = 0
failures (call ∷ calls) = one_if (is_failed call) + failures calls

-- there are at most as many events `fault` as reads and writes that failed
abbrev pub HasFailed : Out (Course ModelEnd) → Type 0
HasFailed o = faults o.entries ≤ failures o.calls

pub record FaultsHaveFailed : Type 0 where
  pub serving : (plan : Plan) (c : Course ModelEnd) (turns : List Turn) → HasFailed (run model_ends plan c turns)
  pub dialling : (plan : Plan) (caller : Caller) (c : Course ModelEnd) (address : List ℕ) (a : Dialled) → HasFailed (dials model_ends plan caller c address a)

-- ---- both loops

-- what holds of each loop that serves, and of each that dials
pub record HoldsOfEachLoop (Law : Plan → Out (Course ModelEnd) → Type 0) : Type 0 where
  pub serving : (plan : Plan) (c : Course ModelEnd) (turns : List Turn) → IsServing plan c turns → Law plan (run model_ends plan c turns)
  pub dialling : (plan : Plan) (caller : Caller) (c : Course ModelEnd) (address : List ℕ) (a : Dialled) → IsDialling plan caller c address a
      → Law plan (dials model_ends plan caller c address a)

abbrev pub ConnectionsAreIsolated : Type 0
ConnectionsAreIsolated = HoldsOfEachLoop IsIsolated

abbrev pub JournalIsPrinted : Type 0
JournalIsPrinted = HoldsOfEachLoop IsPrinted

abbrev pub OctetsAreAccounted : Type 0
OctetsAreAccounted = HoldsOfEachLoop (λ plan o. AreAccounted o)

abbrev pub CallsAreOnOpen : Type 0
CallsAreOnOpen = HoldsOfEachLoop (λ plan o. AreOnOpen o)

-- ---- reads

-- the connections that were read from
abbrev pub reads_by : wires.Call → List ℕ
reads_by (Listens address listens) = []
reads_by (Dials address conn) = []
reads_by (Turns until happening) = []
reads_by (Reads conn size waits reading) = conn ∷ []
reads_by (Writes conn piece answer) = []
reads_by (Closes conn) = []

unfoldable pub reads_of : List wires.Call → List ℕ
reads_of [] = []
reads_of (call ∷ calls) = reads_by call ++ reads_of calls

-- a session that isn't released is read from
abbrev pub to_be_read_of : ℕ → Option (Session ModelEnd) → List ℕ
to_be_read_of conn None = []
to_be_read_of conn (Some s) = if is_released model_ends s then [] else conn ∷ []

-- the connection that is to be read from behind a happening
abbrev pub to_be_read : Happening → List (Session ModelEnd) → List ℕ
to_be_read (happening.Accepted conn) ss = []
to_be_read (happening.Readable conn) ss = to_be_read_of conn.0 (session_of_connection conn.0 ss)
to_be_read (happening.Writable conn) ss = []
to_be_read happening.Quiet ss = []
to_be_read happening.Ended ss = []
to_be_read happening.Failed ss = []

abbrev pub to_be_read_unless : Option Halt → Happening → List (Session ModelEnd) → List ℕ
to_be_read_unless (Some halt) happening ss = []
to_be_read_unless None happening ss = to_be_read happening ss

-- before a turn nothing is read; behind it a connection is read from once exactly where it is readable, live and not released
abbrev pub OneReadATurn : Type 0
OneReadATurn =
    (plan : Plan) (c : Course ModelEnd) (a : Turn) → c.halt ≡ None
    → reads_of (went model_ends plan c a).calls
    ≡ to_be_read_unless (readied model_ends plan c a).state.halt a.happening (readied model_ends plan c a).state.loop.sessions

-- ---- turns and the clock

-- the happenings of the turns
abbrev pub happenings_in_call : wires.Call → List Happening
happenings_in_call (Listens address listens) = []
happenings_in_call (Dials address conn) = []
happenings_in_call (Turns until happening) = happening ∷ []
happenings_in_call (Reads conn size waits reading) = []
happenings_in_call (Writes conn piece answer) = []
happenings_in_call (Closes conn) = []

unfoldable pub turns_of : List wires.Call → List Happening
turns_of [] = []
turns_of (call ∷ calls) = happenings_in_call call ++ turns_of calls

-- the wires neither ended nor failed
abbrev pub GoesOn : Happening → Type 0
GoesOn (happening.Accepted conn) = Unit {0}
GoesOn (happening.Readable conn) = Unit {0}
GoesOn (happening.Writable conn) = Unit {0}
GoesOn happening.Quiet = Unit {0}
GoesOn happening.Ended = ⊥
GoesOn happening.Failed = ⊥

abbrev pub AllGoOn : List Happening → Type 0
AllGoOn [] = Unit {0}
AllGoOn (what ∷ whats) = GoesOn what × AllGoOn whats

-- the last turn answered so, and no turn before it ended or failed
pub record LastIs (what : Happening) (whats : List Happening) : Type 0 where
  pub before : List Happening
  pub is : whats ≡ before ++ what ∷ []
  pub on : AllGoOn before

abbrev pub HaltsBy : Option Halt → List Happening → Type 0
HaltsBy None whats = AllGoOn whats
HaltsBy (Some OnEnded) whats = LastIs happening.Ended whats
HaltsBy (Some OnClosed) whats = AllGoOn whats
HaltsBy (Some OnFailed) whats = LastIs happening.Failed whats

-- the greatest of moments, from this one on
abbrev pub greatest : ℕ → List ℕ → ℕ
greatest m [] = m
greatest m (at ∷ ats) = greatest (max m at) ats

-- no turn follows one that ended or failed; a run halts as ended exactly where its last turn ended, and fails exactly where that failed;
-- it has at most as many turns as planned, and all of them where it didn't halt; its number of turns is that of the record; its moment is
-- the greatest that the clock answered
pub record RunsSo (plan : Plan) (o : Out (Course ModelEnd)) : Type 0 where
  pub halts : HaltsBy o.state.halt (turns_of o.calls)
  pub turns : o.state.turns ≡ length (turns_of o.calls)
  pub most : o.state.turns ≤ plan.turns
  pub all : o.state.halt ≡ None → o.state.turns ≡ plan.turns
  pub moment : o.state.loop.moment ≡ greatest 0 o.state.asked

-- a course that begins
pub record IsCourseAtBeginning (c : Course ModelEnd) : Type 0 where
  pub turns : c.turns ≡ 0
  pub halt : c.halt ≡ None
  pub moment : c.loop.moment ≡ greatest 0 c.asked

abbrev pub TurnsAreCounted : Type 0
TurnsAreCounted = (plan : Plan) (c : Course ModelEnd) (turns : List Turn) → IsCourseAtBeginning c → RunsSo plan (run model_ends plan c turns)

-- ---- live connections

abbrev pub IsFew : List (Session ModelEnd) → Type 0
IsFew ss = length ss ≤ most_live

-- at most 256 connections are live
abbrev pub FewAreLive : Type 0
FewAreLive = (plan : Plan) (c : Course ModelEnd) (turns : List Turn) → IsFew c.loop.sessions → IsFew (run model_ends plan c turns).state.loop.sessions

-- their sessions are in rising number, so they are ticked, and closed, in rising number
abbrev pub SessionsRise : Type 0
SessionsRise = (plan : Plan) (c : Course ModelEnd) (turns : List Turn) → IsServing plan c turns
    → Rises 0 (numbers (run model_ends plan c turns).state.loop.sessions)
