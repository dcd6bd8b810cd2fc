-- The journal of a loop is lawful for the record of its calls (this profile): what holds of each turn, and what holds of the whole.
use Rattle.loop_model.specs.Ends.{ModelEnd, model_ends}
use Rattle.std.specs.Prelude.{ℕ, ◌≡◌, max, None}
use Rattle.safety_automaton.specs.Keys.{key_at}
use Rattle.loop_model.specs.Outs.{Out}
use Rattle.loop_model.specs.Loops.{Plan, numbers, Course, Turn, readied, went}
use Rattle.loop_model.specs.Parts.{session_of_connection, of, Rises}
use Rattle.loop_model.specs.Laws.{IsFew, IsIsolated, IsPrinted, AreAccounted, AreOnOpen, reads_of, to_be_read_unless, HoldsOfEachLoop}
use Rattle.loop_model.specs.Points.{AreHeard}
use Rattle.loop_model.specs.Turnings.{ticked, due_at, ended, ends_of, AreKept}
use Rattle.loop_model.specs.Faulted.{AreFaultsTold}
use Rattle.loop_model.specs.Openings.{openings, openings_unless, event_of_accepted_connection}
use Rattle.loop_model.specs.Takings.{AllTaken}
use Rattle.loop_model.specs.Moments.{IsTimedTurn}
use Rattle.loop_model.specs.Expiries.{ClosesInTime}
use Rattle.loop_model.specs.Walks.{AreLed}
use Rattle.loop_model.specs.Cuts.{LeftOverIsLast, end_of, AreCut, AreDropped}
use Rattle.loop_model.specs.Writings.{WaitsUntil, IsAllGiven, AllWait, IsOutputWritten, HasWholeConnections}

-- ---- a turn

-- the connections that are live between two turns: few, in rising number, and none that is to be closed
pub record HasOrderlySessions (c : Course ModelEnd) : Type 0 where
  pub few : IsFew c.loop.sessions
  pub rise : Rises 0 (numbers c.loop.sessions)
  pub kept : AreKept c.loop.sessions

-- one turn of a loop that has come so far
pub record IsLawfulTurn (plan : Plan) (c : Course ModelEnd) (a : Turn) : Type 0 where
  -- each connection that is accepted has one event that opens it, or says why it isn't opened, and no other has one
  pub openings : openings (went model_ends plan c a).entries
      ≡ openings_unless (readied model_ends plan c a).state.halt a.happening
      (event_of_accepted_connection plan (readied model_ends plan c a).state.loop a.met.memory)
  -- a connection is read from once exactly where it is readable, live and not released, and no other is
  pub reads : reads_of (went model_ends plan c a).calls
      ≡ to_be_read_unless (readied model_ends plan c a).state.halt a.happening (readied model_ends plan c a).state.loop.sessions
  -- of the octets that are read only the last may close no frame, or come to a released end
  pub cut : (conn : ℕ)
      → LeftOverIsLast plan.settings (key_at plan.keys) (end_of (session_of_connection conn c.loop.sessions)) (of conn (went model_ends plan c a).entries)
  -- each live connection is ticked, once, in rising number, exactly where its deadline is at or below the moment before the turn
  pub ticks : ticked (went model_ends plan c a).entries ≡ due_at (max c.loop.moment a.first) c.loop.sessions
  -- the turn waits until the least of the deadlines and closing moments that are left
  pub until : (readied model_ends plan c a).state.halt ≡ None → WaitsUntil plan c a
  -- each event has the greatest moment that the clock answered so far
  pub timed : IsTimedTurn plan c a

abbrev pub TurnsAreLawful : Type 0
TurnsAreLawful = (plan : Plan) (c : Course ModelEnd) (a : Turn) → HasOrderlySessions c → c.halt ≡ None → IsLawfulTurn plan c a

-- ---- the whole

pub record IsLawfulJournal (plan : Plan) (o : Out (Course ModelEnd)) : Type 0 where
  -- each connection's outcomes are those that the end model gives to its own events, and the end of a live one is the one they lead to
  pub isolated : IsIsolated plan o
  pub lives : AreLed plan o
  pub printed : IsPrinted plan o
  -- the joined octets of a connection's events are those taken from it, or a beginning of them where it stalled
  pub heard : AreHeard o
  -- they are cut behind each frame that they close, and nowhere else, and none come behind a stall
  pub cut : AreCut plan o
  pub dropped : AreDropped plan o
  -- `ended` where a read answered that the line ended; `fault` where a read or a write failed of a connection that wasn't released
  pub ended : ended o.entries ≡ ends_of o.calls
  pub faults : AreFaultsTold plan o
  -- messages are taken as long as one waits
  pub taken : AllTaken plan o
  -- octets given are a beginning of those told, and all of them where the connection was closed in order; what waits is the rest, and it waits for
  -- room alone
  pub accounted : AreAccounted o
  pub given : IsAllGiven plan o
  pub waits : AllWait plan o
  pub written : IsOutputWritten plan o
  -- no call is made on a closed connection; none that broke off is live; a released one has its closing moment
  pub on_open : AreOnOpen o
  pub whole : HasWholeConnections plan o
  pub closing : ClosesInTime plan o
  -- what comes next is a turn as above
  pub orderly : HasOrderlySessions o.state

abbrev pub JournalsAreLawful : Type 0
JournalsAreLawful = HoldsOfEachLoop IsLawfulJournal
