-- The loop over the sessions of many connections (this profile): before each turn ticks and closings, then the turn, then what happened.
use Rattle.trace_model.specs.Checks.{most_live}
use Rattle.std.specs.Prelude.{ℕ, ◌+◌, ◌-◌, ◌==◌, nat_lt, max, Bool, true, false, ◌&&◌, if◌then◌else◌, List, [], ◌∷◌, ◌++◌, length, take, drop, slice_get}
use Rattle.std.specs.Prelude.{Option, Some, None}
use Rattle.rand_core.specs.Stream.{Stream, next_u64}
use Rattle.er_settings.specs.Values.{Settings}
use Rattle.des_block.specs.declared.triple_key.TripleKey.{TripleKey}
use Rattle.safety_automaton.specs.Keys as keys
use Rattle.er_end_model.specs.Ends.{Call as CallsWith, Answer as AnswersWith}
use Rattle.er_end_model.specs.Steps.{earlier_of_moments as first_moment}
use Rattle.er_trace.specs.declared.event.Event.{Event}
use Rattle.er_trace.specs.declared.event.Event.TheVariants as event
use Rattle.er_users.specs.Users.{Mind}
use Rattle.link_trait.specs.Wires.{Listens, Dials, Turns, Closes}
use Rattle.link_trait.specs.declared.wires.Happening.{Happening}
use Rattle.link_trait.specs.declared.wires.Happening.TheVariants as happening
use Rattle.loop_model.specs.Ends.{EndOps}
use Rattle.loop_model.specs.Journals.{JournalEntry, trace_header, text}
use Rattle.loop_model.specs.Outs.{Out, still, next, changed, prints, makes, acts, exactly, first_answer_of}
use Rattle.loop_model.specs.Sessions.{Rules, Session, Begins}
use Rattle.loop_model.specs.Visits.{Met, nothing_met, Visit, Tick, Read, Write, Expire, visited, served, wakes}

-- what a loop goes by: the settings of its links, the keys, the ETCS number of the radio block centre, how many users were handed in,
-- how many turns are to be done, and whether it dials its one connection
pub record Plan : Type 0 where
  pub settings : Settings
  pub keys : List keys.KmacEntry
  pub rbc : ℕ
  pub handed : ℕ
  pub turns : ℕ
  pub dials : Bool

abbrev pub rules_of : Plan → Rules
rules_of plan = record { keys = plan.keys; setup = plan.settings.setup }

-- what a loop has: the sessions of the live connections, in rising number; the users that are left, of whom the last comes next; the
-- greatest moment that the clock gave; the random words that come
pub record Loop (E : Type 0) : Type 0 where
  pub sessions : List (Session E)
  pub users : List Mind
  pub moment : ℕ
  pub words : Stream

abbrev pub with_sessions : {E : Type 0} → Loop E → List (Session E) → Loop E
with_sessions l ss = record l { sessions = ss }

-- ---- visits

-- the session of this number is visited
unfoldable pub visit_at : {E : Type 0} → (Session E → Met → Out (List (Session E))) → ℕ → List (Session E) → Met → Out (List (Session E))
visit_at f n [] a = still []
visit_at f n (s ∷ ss) a =
    if s.number == n then changed (λ now. now ++ ss) (f s a)
    else changed (λ now. s ∷ now) (visit_at f n ss a)

abbrev pub numbers : {E : Type 0} → List (Session E) → List ℕ
numbers [] = []
numbers (s ∷ ss) = s.number ∷ numbers ss

-- the sessions of these numbers are visited, one after the other
unfoldable pub swept : {E : Type 0} → (Session E → Met → Out (List (Session E))) → List ℕ → List (Session E) → List Met → Out (List (Session E))
swept f [] ss answers = still ss
swept f (n ∷ ns) ss answers = next (visit_at f n ss (first_answer_of nothing_met answers)) (λ now. swept f ns now (drop 1 answers))

-- ---- before a turn

pub record Sweeps : Type 0 where
  pub ticks : List Met
  pub closings : List Met

-- ---- openings

-- an event without outcomes
abbrev pub plain_event : {E : Type 0} → Loop E → ℕ → Event → JournalEntry
plain_event l conn event = record { moment = l.moment; conn = conn; event = event; outcomes = [] }

-- a connection that gets no session: its event, and then it is closed
abbrev pub turned_away : {E : Type 0} → Loop E → ℕ → Event → Out (Loop E)
turned_away l conn why = next (prints (l, plain_event l conn why ∷ [])) (makes (Closes conn))

-- the user that comes next, where one is left; and the others
abbrev pub next_user : List Mind → Option Mind
next_user users = slice_get users (length users - 1)

abbrev pub other_users : List Mind → List Mind
other_users users = take (length users - 1) users

-- a session that begins, with this user
abbrev pub begun : {E : Type 0} → ℕ → E → Mind → Session E
begun conn end mind = record { number = conn; end = end; mind = Some mind; told = None; output = []; broken = false; closing = None; unmade = false }

-- that of a dial: the wires didn't tell of its connection yet
abbrev pub begun_dial : {E : Type 0} → ℕ → E → Mind → Session E
begun_dial conn end mind = record (begun conn end mind) { unmade = true }

-- the random word that comes next is no longer left; and the user that does
abbrev pub one_word_less : {E : Type 0} → Loop E → Loop E
one_word_less l = record l { words = (next_u64 l.words).1 }

abbrev pub one_less : {E : Type 0} → Loop E → Loop E
one_less l = record l { users = other_users l.users; words = (next_u64 l.words).1 }

-- the engine that dials: its number and the KMAC of the pair
pub record Caller : Type 0 where
  pub engine : ℕ
  pub kmac : TripleKey

-- ---- turns

-- why a loop halts before all its turns are done: the wires ended; the one connection of a dial was closed; a turn failed
pub data Halt : Type 0 where
  OnEnded : Halt
  OnClosed : Halt
  OnFailed : Halt

-- how far a loop has come: how many turns it did, whether it halted, and what the clock answered
pub record Course (E : Type 0) : Type 0 where
  pub loop : Loop E
  pub turns : ℕ
  pub halt : Option Halt
  pub asked : List ℕ

-- the clock is asked: the greatest of its answers counts
abbrev pub asks : {E : Type 0} → ℕ → Course E → Course E
asks at c = record c { loop = record c.loop { moment = max c.loop.moment at }; asked = c.asked ++ at ∷ [] }

-- a dial halts where its one connection was closed
abbrev pub halt_by : {E : Type 0} → Plan → List (Session E) → Option Halt
halt_by plan ss = if plan.dials && (length ss == 0) then Some OnClosed else None

abbrev pub halt_behind : {E : Type 0} → Plan → Happening → List (Session E) → Option Halt
halt_behind plan (happening.Accepted conn) ss = halt_by plan ss
halt_behind plan (happening.Readable conn) ss = halt_by plan ss
halt_behind plan (happening.Writable conn) ss = halt_by plan ss
halt_behind plan happening.Quiet ss = halt_by plan ss
halt_behind plan happening.Ended ss = Some OnEnded
halt_behind plan happening.Failed ss = Some OnFailed

-- what is met in a turn: the clock's answer before it, the ticks and closings, what happens, the clock's answer behind it, what the
-- handling of the happening meets
pub record Turn : Type 0 where
  pub first : ℕ
  pub sweeps : Sweeps
  pub happening : Happening
  pub second : ℕ
  pub met : Met

-- nothing comes
abbrev pub nothing_comes : Turn
nothing_comes = record {
  first = 0;
  sweeps = record { ticks = []; closings = [] };
  happening = happening.Quiet;
  second = 0;
  met = nothing_met;
}

-- ---- the two calls

-- a loop that has these users and random words begins
abbrev pub beginning : {E : Type 0} → List Mind → Stream → Course E
beginning users words =
    record { loop = record { sessions = []; users = users; moment = 0; words = words }; turns = 0; halt = None; asked = [] }

abbrev pub halts : {E : Type 0} → Halt → Course E → Course E
halts why c = record c { halt = Some why }

-- what a dial meets: the number of the connection that it opens, where it does; the clock's answer before the opening; what the
-- opening meets; the turns
pub record Dialled : Type 0 where
  pub conn : Option ℕ
  pub first : ℕ
  pub met : Met
  pub turns : List Turn

-- ---- what is printed: the header, once it listens or has dialled, and the journal

abbrev pub if_header : Bool → Settings → List ℕ
if_header true settings = trace_header settings
if_header false settings = []

unfoldable pub printed : Bool → Plan → List JournalEntry → List ℕ
printed began plan entries = if_header began plan.settings ++ text entries

-- ---- what the loop does

module _ {E : Type 0} (o : EndOps E) where
  -- the sessions whose deadline has come are ticked, in rising number; then those whose closing moment has come are closed
  unfoldable pub before : Rules → ℕ → List (Session E) → Sweeps → Out (List (Session E))
  before r m ss a =
      next (swept (visited o r m Tick) (numbers ss) ss a.ticks) (λ now. swept (visited o r m Expire) (numbers now) now a.closings)

  -- the first of the deadlines and closing moments
  unfoldable pub until : List (Session E) → Option ℕ
  until [] = None
  until (s ∷ ss) = first_moment (wakes o s) (until ss)

  -- the end that answers, with the next random word
  abbrev pub answering : Plan → Loop E → E
  answering plan l = o.opens (AnswersWith plan.settings plan.rbc (next_u64 l.words).0 l.moment)

  -- where a random word was drawn: with memory for a session it begins, else the connection is turned away, and its user is left. The event tells how
  -- many connections are live then
  abbrev pub answered_where : Bool → Mind → Plan → Loop E → ℕ → Out (Loop E)
  answered_where true mind plan l conn =
      prints (
        with_sessions (one_less l) (l.sessions ++ begun conn (answering plan l) mind ∷ []),
        plain_event l conn (event.Answer plan.rbc (next_u64 l.words).0) ∷ [],
      )
  answered_where false mind plan l conn = turned_away (one_word_less l) conn (event.Full (length l.sessions))

  abbrev pub answered_by : Option Mind → Bool → Plan → Loop E → ℕ → Out (Loop E)
  answered_by None memory plan l conn = turned_away l conn (event.Unserved plan.handed)
  answered_by (Some mind) memory plan l conn = answered_where memory mind plan l conn

  -- a connection was accepted, and this says whether there is memory for its session
  unfoldable pub accepted : Plan → Loop E → ℕ → Bool → Out (Loop E)
  accepted plan l conn memory =
      if nat_lt (length l.sessions) most_live then answered_by (next_user l.users) memory plan l conn
      else turned_away l conn (event.Full most_live)

  -- the end that calls, with the next random word
  abbrev pub calling : Plan → Caller → Loop E → E
  calling plan caller l = o.opens (CallsWith plan.settings caller.engine plan.rbc caller.kmac (next_u64 l.words).0 l.moment)

  abbrev pub called_by : Option Mind → Plan → Caller → Loop E → ℕ → Met → Out (Loop E)
  called_by None plan caller l conn a = turned_away l conn (event.Unserved 0)
  called_by (Some mind) plan caller l conn a =
      changed (with_sessions (one_less l))
      (served o (rules_of plan) l.moment (begun_dial conn (calling plan caller l) mind) (Begins caller.engine plan.rbc (next_u64 l.words).0) a)

  -- the one connection was dialled
  unfoldable pub called : Plan → Caller → Loop E → ℕ → Met → Out (Loop E)
  called plan caller l conn a = called_by (next_user l.users) plan caller l conn a

  -- ---- what happened

  abbrev pub visited_at : Plan → Loop E → Visit → ℕ → Met → Out (Loop E)
  visited_at plan l visit conn a = changed (with_sessions l) (visit_at (visited o (rules_of plan) l.moment visit) conn l.sessions a)

  unfoldable pub happened : Plan → Loop E → Happening → Met → Out (Loop E)
  happened plan l (happening.Accepted conn) a = accepted plan l conn.0 a.memory
  happened plan l (happening.Readable conn) a = visited_at plan l Read conn.0 a
  happened plan l (happening.Writable conn) a = visited_at plan l Write conn.0 a
  happened plan l happening.Quiet a = still l
  happened plan l happening.Ended a = still l
  happened plan l happening.Failed a = still l

  -- what comes before a turn
  unfoldable pub readied : Plan → Course E → Turn → Out (Course E)
  readied plan c a =
      let d = asks a.first c in
      changed (λ ss. record d { loop = with_sessions d.loop ss; halt = halt_by plan ss })
      (before (rules_of plan) d.loop.moment d.loop.sessions a.sweeps)

  -- the turn itself
  abbrev pub turn : Course E → Turn → Out (Course E)
  turn c a = makes (Turns (until c.loop.sessions) a.happening) (record (asks a.second c) { turns = c.turns + 1 })

  -- what follows it
  abbrev pub follows : Plan → Course E → Turn → Out (Course E)
  follows plan c a =
      changed (λ l. record c { loop = l; halt = halt_behind plan a.happening l.sessions }) (happened plan c.loop a.happening a.met)

  -- where the loop hasn't halted
  abbrev pub turned_unless : Option Halt → Plan → Course E → Turn → Out (Course E)
  turned_unless (Some halt) plan c a = still c
  turned_unless None plan c a = next (turn c a) (λ d. follows plan d a)

  abbrev pub went_unless : Option Halt → Plan → Course E → Turn → Out (Course E)
  went_unless (Some halt) plan c a = still c
  went_unless None plan c a = next (readied plan c a) (λ d. turned_unless d.halt plan d a)

  -- one turn, with what comes before and behind it. (Cut right behind each turn, a section of the record is what followed the turn before,
  -- what comes before this turn, and this turn: the same calls and events, grouped otherwise)
  unfoldable pub went : Plan → Course E → Turn → Out (Course E)
  went plan c a = went_unless c.halt plan c a

  -- all turns of the plan
  unfoldable pub run : Plan → Course E → List Turn → Out (Course E)
  run plan c turns = acts (went plan) c (exactly plan.turns nothing_comes turns)

  -- a loop that serves listens first, at this address
  unfoldable pub serves : Plan → Course E → List ℕ → Bool → List Turn → Out (Course E)
  serves plan c address true turns = next (makes (Listens address true) c) (λ d. run plan d turns)
  serves plan c address false turns = makes (Listens address false) (halts OnFailed c)

  -- the opening
  abbrev pub opens : Plan → Caller → Course E → ℕ → Met → Out (Course E)
  opens plan caller c conn a =
      changed (λ l. record c { loop = l; halt = halt_by plan l.sessions }) (called plan caller c.loop conn a)

  abbrev pub dials_to : Option ℕ → Plan → Caller → Course E → List ℕ → Dialled → Out (Course E)
  dials_to None plan caller c address a = makes (Dials address None) (halts OnFailed c)
  dials_to (Some conn) plan caller c address a =
      next (makes (Dials address (Some conn)) (asks a.first c))
      (λ d. next (opens plan caller d conn a.met) (λ e. run plan e a.turns))

  -- a loop that dials does so first, then it opens its one connection
  unfoldable pub dials : Plan → Caller → Course E → List ℕ → Dialled → Out (Course E)
  dials plan caller c address a = dials_to a.conn plan caller c address a
