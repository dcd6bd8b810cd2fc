-- What is written and closed, and when: output is written until nothing waits or there is no room; what waits is what was told and not
-- given; a released connection is closed at its closing moment; a turn waits until the least of the moments that are left.
use Rattle.loop_model.specs.Ends.{ModelEnd, model_ends}
use Rattle.std.specs.Prelude.{ℕ, ◌≡◌, ◌≤◌, ◌⊎◌, Bool, true, false, ◌||◌, if◌then◌else◌, List, [], ◌∷◌, ◌++◌, drop, Option, Some, None}
use Rattle.er_trace.specs.declared.event.Event.{Event}
use Rattle.er_trace.specs.declared.event.Event.TheVariants.{Call, Answer, Octets, Send, Take, Release, Tick, Ended, Fault, Stalled, Full, Unserved}
use Rattle.link_trait.specs.Wires as wires
use Rattle.link_trait.specs.Wires.{Listens, Dials, Turns, Reads, Writes, Closes, given_of}
use Rattle.link_trait.specs.declared.wires.WriteAnswer.{WriteAnswer}
use Rattle.link_trait.specs.declared.wires.WriteAnswer.TheVariants as write
use Rattle.loop_model.specs.Journals.{JournalEntry}
use Rattle.loop_model.specs.Outs.{Out}
use Rattle.loop_model.specs.Sessions.{Rules, Session}
use Rattle.loop_model.specs.Visits.{is_due, Visit, Tick as Ticks, Met, visited}
use Rattle.loop_model.specs.Loops.{Plan, numbers, swept, Sweeps, before, Course, Turn, readied, went}
use Rattle.loop_model.specs.Parts.{session_of_connection, of, calls_at, Rises}
use Rattle.loop_model.specs.Laws.{octets_of_entries, is_failed, HoldsOfEachLoop}
use Rattle.loop_model.specs.Faulted.{has_failed}
use Rattle.loop_model.specs.Points.{is_stalled}
use Rattle.loop_model.specs.Turnings.{is_ended}
use Rattle.loop_model.specs.Stalls.{IsBounded}

-- ---- what waits

-- what a write leaves of its octets
abbrev pub octets_left_by_write : WriteAnswer → List ℕ → List ℕ
octets_left_by_write (write.Some n) piece = drop n piece
octets_left_by_write write.NotNow piece = piece
octets_left_by_write write.Failed piece = piece

abbrev pub left_at : wires.Call → List ℕ → List ℕ
left_at (Listens address listens) waits = waits
left_at (Dials address conn) waits = waits
left_at (Turns until happening) waits = waits
left_at (Reads conn size octets reading) waits = waits
left_at (Writes conn piece answer) waits = octets_left_by_write answer piece
left_at (Closes conn) waits = waits

-- what the last write left, where so much waited before the first
unfoldable pub left_after : List ℕ → List wires.Call → List ℕ
left_after waits [] = waits
left_after waits (call ∷ calls) = left_after (left_at call waits) calls

-- an event behind which a connection is closed at once
abbrev pub is_break : Event → Bool
is_break (Call engine rbc rb) = false
is_break (Answer rbc ra) = false
is_break (Octets octets) = false
is_break (Send text) = false
is_break Take = false
is_break (Release sub) = false
is_break Tick = false
is_break Ended = true
is_break Fault = true
is_break Stalled = true
is_break (Full count) = false
is_break (Unserved count) = false

unfoldable pub has_broken : List JournalEntry → Bool
has_broken [] = false
has_broken (x ∷ xs) = is_break x.event || has_broken xs

-- a connection was closed in order: its line neither ended, failed nor stalled, no write failed, and the last one left nothing
pub record IsClosedInOrder (conn : ℕ) (xs : List JournalEntry) (calls : List wires.Call) : Type 0 where
  pub before : List wires.Call
  pub closed : calls ≡ before ++ Closes conn ∷ []
  pub whole : has_broken xs ≡ false
  pub written : has_failed calls ≡ false
  pub left : left_after [] calls ≡ []

-- then the octets given to it are all the joined octets of its outcomes
abbrev pub IsAllGiven : Plan → Out (Course ModelEnd) → Type 0
IsAllGiven plan o = (conn : ℕ) → IsClosedInOrder conn (of conn o.entries) (calls_at conn o.calls)
    → given_of conn o.calls ≡ octets_of_entries (of conn o.entries)

abbrev pub AllAreGiven : Type 0
AllAreGiven = HoldsOfEachLoop IsAllGiven

-- and what waits at a live connection is the rest of them, which is what the last write left
pub record KeepsUnwrittenSessionOctets (conn : ℕ) (s : Session ModelEnd) (o : Out (Course ModelEnd)) : Type 0 where
  pub rest : given_of conn o.calls ++ s.output ≡ octets_of_entries (of conn o.entries)
  pub left : s.output ≡ left_after [] (calls_at conn o.calls)

abbrev pub AllWait : Plan → Out (Course ModelEnd) → Type 0
AllWait plan o = (conn : ℕ) (s : Session ModelEnd) → session_of_connection conn o.state.loop.sessions ≡ Some s → KeepsUnwrittenSessionOctets conn s o

abbrev pub RestWaits : Type 0
RestWaits = HoldsOfEachLoop AllWait

-- none such had an event behind which it is closed at once, or a read or a write that failed
abbrev pub HasWholeConnections : Plan → Out (Course ModelEnd) → Type 0
HasWholeConnections plan o =
    (conn : ℕ) (s : Session ModelEnd) → session_of_connection conn o.state.loop.sessions ≡ Some s
    → (has_broken (of conn o.entries) ≡ false) × (has_failed (calls_at conn o.calls) ≡ false)

abbrev pub LiveAreWhole : Type 0
LiveAreWhole = HoldsOfEachLoop HasWholeConnections

-- ---- writing

-- a write takes an octet at least, as wires promise
abbrev pub TakesOne : WriteAnswer → Type 0
TakesOne (write.Some n) = 1 ≤ n
TakesOne write.NotNow = Unit {0}
TakesOne write.Failed = Unit {0}

abbrev pub TakesOneBy : wires.Call → Type 0
TakesOneBy (Listens address listens) = Unit {0}
TakesOneBy (Dials address conn) = Unit {0}
TakesOneBy (Turns until happening) = Unit {0}
TakesOneBy (Reads conn size waits reading) = Unit {0}
TakesOneBy (Writes conn piece answer) = TakesOne answer
TakesOneBy (Closes conn) = Unit {0}

abbrev pub AllTakeOne : List wires.Call → Type 0
AllTakeOne [] = Unit {0}
AllTakeOne (call ∷ calls) = TakesOneBy call × AllTakeOne calls

-- the answer of the last write
abbrev pub write_answer_behind_call : wires.Call → Option WriteAnswer → Option WriteAnswer
write_answer_behind_call (Listens address listens) last = last
write_answer_behind_call (Dials address conn) last = last
write_answer_behind_call (Turns until happening) last = last
write_answer_behind_call (Reads conn size waits reading) last = last
write_answer_behind_call (Writes conn piece answer) last = Some answer
write_answer_behind_call (Closes conn) last = last

unfoldable pub last_answer : Option WriteAnswer → List wires.Call → Option WriteAnswer
last_answer last [] = last
last_answer last (call ∷ calls) = last_answer (write_answer_behind_call call last) calls

-- octets wait at a live connection only where the last write found no room
abbrev pub IsOutputWritten : Plan → Out (Course ModelEnd) → Type 0
IsOutputWritten plan o =
    (conn : ℕ) (s : Session ModelEnd) → session_of_connection conn o.state.loop.sessions ≡ Some s → AllTakeOne (calls_at conn o.calls)
    → (s.output ≡ []) ⊎ (last_answer None (calls_at conn o.calls) ≡ Some write.NotNow)

abbrev pub OutputIsWritten : Type 0
OutputIsWritten = HoldsOfEachLoop IsOutputWritten

-- ---- what breaks off

-- whether the line ended, or the session stalled
unfoldable pub has_stopped : List JournalEntry → Bool
has_stopped [] = false
has_stopped (x ∷ xs) = (is_ended x.event || is_stalled x.event) || has_stopped xs

abbrev pub IsNoWrite : wires.Call → Type 0
IsNoWrite (Listens address listens) = Unit {0}
IsNoWrite (Dials address conn) = Unit {0}
IsNoWrite (Turns until happening) = Unit {0}
IsNoWrite (Reads conn size waits reading) = Unit {0}
IsNoWrite (Writes conn piece answer) = ⊥
IsNoWrite (Closes conn) = Unit {0}

-- nothing is written
abbrev pub WriteNone : List wires.Call → Type 0
WriteNone [] = Unit {0}
WriteNone (call ∷ calls) = IsNoWrite call × WriteNone calls

-- nothing is written behind a call that failed
abbrev pub EndAtFailure : List wires.Call → Type 0
EndAtFailure [] = Unit {0}
EndAtFailure (call ∷ calls) = (is_failed call ≡ true → WriteNone calls) × EndAtFailure calls

-- in a visit in which the line ends or the session stalls nothing is written, and behind a read or a write that fails nothing is. (Behind
-- that visit the session is closed: no live one broke off)
pub record BrokenAreLeft : Type 0 where
  pub stopped : (r : Rules) (m : ℕ) (visit : Visit) (s : Session ModelEnd) (a : Met) → IsBounded s
      → has_stopped (visited model_ends r m visit s a).entries ≡ true → WriteNone (visited model_ends r m visit s a).calls
  pub failed : (r : Rules) (m : ℕ) (visit : Visit) (s : Session ModelEnd) (a : Met) → EndAtFailure (visited model_ends r m visit s a).calls

-- ---- closing moments

-- the sessions whose closing moment has come, and the others
abbrev pub expired : ℕ → List (Session ModelEnd) → List wires.Call
expired m [] = []
expired m (s ∷ ss) = if is_due m s.closing then Closes s.number ∷ expired m ss else expired m ss

abbrev pub unexpired : ℕ → List (Session ModelEnd) → List (Session ModelEnd)
unexpired m [] = []
unexpired m (s ∷ ss) = if is_due m s.closing then unexpired m ss else s ∷ unexpired m ss

-- before a turn, behind the ticks, exactly those are closed whose closing moment is at or below the moment
pub record ExpiredAreClosed : Type 0 where
  pub state : (r : Rules) (m : ℕ) (ss : List (Session ModelEnd)) (a : Sweeps) → Rises 0 (numbers ss)
      → (before model_ends r m ss a).state ≡ unexpired m (swept (visited model_ends r m Ticks) (numbers ss) ss a.ticks).state
  pub entries : (r : Rules) (m : ℕ) (ss : List (Session ModelEnd)) (a : Sweeps) → Rises 0 (numbers ss)
      → (before model_ends r m ss a).entries ≡ (swept (visited model_ends r m Ticks) (numbers ss) ss a.ticks).entries
  pub calls : (r : Rules) (m : ℕ) (ss : List (Session ModelEnd)) (a : Sweeps) → Rises 0 (numbers ss)
      → (before model_ends r m ss a).calls
      ≡ (swept (visited model_ends r m Ticks) (numbers ss) ss a.ticks).calls ++ expired m (swept (visited model_ends r m Ticks) (numbers ss) ss a.ticks).state

-- ---- until when a turn waits

abbrev pub IsNotBefore : ℕ → Option ℕ → Type 0
IsNotBefore m None = Unit {0}
IsNotBefore m (Some at) = m ≤ at

-- no deadline and no closing moment lies before this one
abbrev pub NoneIsBefore : ℕ → List (Session ModelEnd) → Type 0
NoneIsBefore m [] = Unit {0}
NoneIsBefore m (s ∷ ss) = IsNotBefore m (model_ends.deadline s.end) × IsNotBefore m s.closing × NoneIsBefore m ss

-- it is one of them
abbrev pub IsOneOf : ℕ → List (Session ModelEnd) → Type 0
IsOneOf m [] = ⊥
IsOneOf m (s ∷ ss) = (model_ends.deadline s.end ≡ Some m) ⊎ ((s.closing ≡ Some m) ⊎ IsOneOf m ss)

-- there is none
abbrev pub HaveNone : List (Session ModelEnd) → Type 0
HaveNone [] = Unit {0}
HaveNone (s ∷ ss) = (model_ends.deadline s.end ≡ None) × (s.closing ≡ None) × HaveNone ss

abbrev pub IsLeast : Option ℕ → List (Session ModelEnd) → Type 0
IsLeast None ss = HaveNone ss
IsLeast (Some m) ss = NoneIsBefore m ss × IsOneOf m ss

-- the turn comes behind what is done before it, and waits until the least of the deadlines and closing moments that are left
pub record WaitsUntil (plan : Plan) (c : Course ModelEnd) (a : Turn) : Type 0 where
  pub until : Option ℕ
  pub rest : List wires.Call
  pub is : (went model_ends plan c a).calls ≡ (readied model_ends plan c a).calls ++ Turns until a.happening ∷ rest
  pub least : IsLeast until (readied model_ends plan c a).state.loop.sessions

abbrev pub TurnsWait : Type 0
TurnsWait = (plan : Plan) (c : Course ModelEnd) (a : Turn) → c.halt ≡ None → (readied model_ends plan c a).state.halt ≡ None → WaitsUntil plan c a
