-- What comes of a connection that is accepted or dialled: one event opens it, or says why it isn't opened, and then it is closed.
use Rattle.loop_model.specs.Ends.{ModelEnd, model_ends}
use Rattle.std.specs.Prelude.{ℕ, ◌≡◌, nat_lt, Bool, true, false, if◌then◌else◌, List, [], ◌∷◌, ◌++◌, length, Option, Some, None}
use Rattle.rand_core.specs.Stream.{next_u64}
use Rattle.er_trace.specs.declared.event.Event.{Event}
use Rattle.er_trace.specs.declared.event.Event.TheVariants.{Call, Answer, Full, Unserved}
use Rattle.trace_model.specs.Checks.{Role, Opens, Declines, Belongs, names, role_of, most_live}
use Rattle.er_users.specs.Users.{Mind}
use Rattle.link_trait.specs.Wires as wires
use Rattle.link_trait.specs.Wires.{Dials, Turns, Closes}
use Rattle.link_trait.specs.declared.wires.Conn.{Conn}
use Rattle.link_trait.specs.declared.wires.Happening.{Happening}
use Rattle.link_trait.specs.declared.wires.Happening.TheVariants as happening
use Rattle.loop_model.specs.Journals.{JournalEntry}
use Rattle.loop_model.specs.Loops.{Plan, Loop, until, next_user, Caller, Halt, Course, Turn, readied, went, Dialled, dials}

-- the events that open a connection, or say why it isn't opened, each with its connection, in order
unfoldable pub openings : List JournalEntry → List (ℕ × Event)
openings [] = []
openings (x ∷ xs) = if names (role_of x.event) then (x.conn, x.event) ∷ openings xs else openings xs

-- one that isn't opened is closed
abbrev pub closed_by : Role → ℕ → List wires.Call
closed_by Opens conn = []
closed_by Declines conn = Closes conn ∷ []
closed_by Belongs conn = []

-- ---- one that was accepted

-- `answer` with this random word where there is memory for a session, else `full` with the count of the connections that are live
abbrev pub answer_or_full : Bool → Plan → (live word : ℕ) → Event
answer_or_full true plan live word = Answer plan.rbc word
answer_or_full false plan live word = Full live

-- `unserved` where no user is left, else that
abbrev pub answer_or_unserved : Option Mind → Bool → Plan → (live word : ℕ) → Event
answer_or_unserved None memory plan live word = Unserved plan.handed
answer_or_unserved (Some mind) memory plan live word = answer_or_full memory plan live word

-- `full` where 256 connections are live; else that, with the user and the random word that come next, and as there is memory for a session
abbrev pub event_of_accepted_connection : Plan → Loop ModelEnd → Bool → Event
event_of_accepted_connection plan l memory =
    if nat_lt (length l.sessions) most_live then answer_or_unserved (next_user l.users) memory plan (length l.sessions) (next_u64 l.words).0
    else Full most_live

-- what is due behind a happening
abbrev pub openings_due : Happening → Event → List (ℕ × Event)
openings_due (happening.Accepted conn) event = (conn.0, event) ∷ []
openings_due (happening.Readable conn) event = []
openings_due (happening.Writable conn) event = []
openings_due happening.Quiet event = []
openings_due happening.Ended event = []
openings_due happening.Failed event = []

abbrev pub openings_unless : Option Halt → Happening → Event → List (ℕ × Event)
openings_unless (Some halt) happening event = []
openings_unless None happening event = openings_due happening event

-- of a turn: each connection that is accepted has one such event, and no other connection has any. The one that isn't opened is closed,
-- and else no call follows the turn
pub record OpeningsAreTold : Type 0 where
  pub events : (plan : Plan) (c : Course ModelEnd) (a : Turn) → c.halt ≡ None
      → openings (went model_ends plan c a).entries
      ≡ openings_unless (readied model_ends plan c a).state.halt a.happening
      (event_of_accepted_connection plan (readied model_ends plan c a).state.loop a.met.memory)
  pub closed : (plan : Plan) (c : Course ModelEnd) (a : Turn) (conn : Conn) → c.halt ≡ None → (readied model_ends plan c a).state.halt ≡ None
      → a.happening ≡ happening.Accepted conn
      → (went model_ends plan c a).calls
      ≡ (readied model_ends plan c a).calls ++ Turns (until model_ends (readied model_ends plan c a).state.loop.sessions) a.happening
      ∷ closed_by (role_of (event_of_accepted_connection plan (readied model_ends plan c a).state.loop a.met.memory)) conn.0

-- ---- the one that was dialled

-- `unserved 0` where no user was handed in, else `call` with its two numbers and this random word
abbrev pub call_or_unserved : Option Mind → Plan → Caller → (word : ℕ) → Event
call_or_unserved None plan caller word = Unserved 0
call_or_unserved (Some mind) plan caller word = Call caller.engine plan.rbc word

-- with the user and the random word that come next
abbrev pub call_by : Plan → Caller → Loop ModelEnd → Event
call_by plan caller l = call_or_unserved (next_user l.users) plan caller (next_u64 l.words).0

-- the first event, with its connection
abbrev pub first_event : List JournalEntry → Option (ℕ × Event)
first_event [] = None
first_event (x ∷ xs) = Some (x.conn, x.event)

-- calls that begin with these
pub record BeginsWith (calls first : List wires.Call) : Type 0 where
  pub rest : List wires.Call
  pub is : calls ≡ first ++ rest

-- of a dial that opened its connection: its first event is that one; where it isn't opened, it is closed at once
pub record DialIsOpened : Type 0 where
  pub event : (plan : Plan) (caller : Caller) (c : Course ModelEnd) (address : List ℕ) (a : Dialled) (conn : ℕ) → a.conn ≡ Some conn
      → first_event (dials model_ends plan caller c address a).entries ≡ Some (conn, call_by plan caller c.loop)
  pub closed : (plan : Plan) (caller : Caller) (c : Course ModelEnd) (address : List ℕ) (a : Dialled) (conn : ℕ) → a.conn ≡ Some conn
      → BeginsWith (dials model_ends plan caller c address a).calls
      (Dials address (Some conn) ∷ closed_by (role_of (call_by plan caller c.loop)) conn)
