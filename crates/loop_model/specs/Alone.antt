-- Two runs of the loop (this profile): what a loop tells of a connection and does at it is what it tells and does where that connection comes alone, at
-- the same moments, with the user and the random word that it found. So another connection changes nothing of it but the moments at which the loop turns
-- to it, which user and which random word come next, and, where 256 others are live, that it is turned away.
use Rattle.std.specs.Prelude.{ℕ, ◌≡◌, ◌≤◌, ◌==◌, ◌⊎◌, Bool, true, false, if◌then◌else◌, List, [], ◌∷◌, Option, Some, None}
use Rattle.rand_core.specs.Stream.{Stream, next_u64}
use Rattle.er_trace.specs.declared.event.Event.{Event}
use Rattle.er_trace.specs.declared.event.Event.TheVariants.{Call, Answer, Octets, Send, Take, Release, Tick, Ended, Fault, Stalled, Full, Unserved}
use Rattle.er_users.specs.Users.{Mind}
use Rattle.trace_model.specs.Checks.{most_live}
use Rattle.link_trait.specs.Wires.{Closes, given_of}
use Rattle.link_trait.specs.declared.wires.Happening.{Happening}
use Rattle.link_trait.specs.declared.wires.Happening.TheVariants as happening
use Rattle.loop_model.specs.Ends.{ModelEnd, model_ends}
use Rattle.loop_model.specs.Journals.{JournalEntry}
use Rattle.loop_model.specs.Deeds.{LoopDeed, Printing, Calling}
use Rattle.loop_model.specs.Outs.{Out}
use Rattle.loop_model.specs.Visits.{Met, nothing_met}
use Rattle.loop_model.specs.Loops.{Plan, numbers, Caller, Course, asks, Turn, went, run, Dialled, opens, dials}
use Rattle.loop_model.specs.Parts.{session_of_connection, of, is_at, calls_at}
use Rattle.loop_model.specs.Laws.{IsServing, IsDialling}
use Rattle.loop_model.specs.Points.{user_of}
use Rattle.loop_model.specs.Turnings.{draws_word}
use Rattle.loop_model.specs.Told.{hearing}

-- ---- what of the outside is a connection's own

-- of what happens: at other connections nothing does. That the wires end or fail is for all
abbrev pub own_happening : ℕ → Happening → Happening
own_happening conn (happening.Accepted other) = if other.0 == conn then happening.Accepted other else happening.Quiet
own_happening conn (happening.Readable other) = if other.0 == conn then happening.Readable other else happening.Quiet
own_happening conn (happening.Writable other) = if other.0 == conn then happening.Writable other else happening.Quiet
own_happening conn happening.Quiet = happening.Quiet
own_happening conn happening.Ended = happening.Ended
own_happening conn happening.Failed = happening.Failed

-- of what is met behind a turn: what is met where the connection is accepted, read from or written to
abbrev pub own_met : ℕ → Happening → Met → Met
own_met conn (happening.Accepted other) met = if other.0 == conn then met else nothing_met
own_met conn (happening.Readable other) met = if other.0 == conn then met else nothing_met
own_met conn (happening.Writable other) met = if other.0 == conn then met else nothing_met
own_met conn happening.Quiet met = nothing_met
own_met conn happening.Ended met = nothing_met
own_met conn happening.Failed met = nothing_met

-- of what is met before a turn at the live connections, in their order: what is met at the connection
unfoldable pub own_ticks : ℕ → List Met → List ℕ → List Met
own_ticks conn [] live = []
own_ticks conn (met ∷ mets) [] = []
own_ticks conn (met ∷ mets) (n ∷ live) = if n == conn then met ∷ own_ticks conn mets live else own_ticks conn mets live

-- of a turn with these live connections: its moments stay. (A closing moment meets nothing)
abbrev pub own_turn : ℕ → List ℕ → Turn → Turn
own_turn conn live a = record {
  first = a.first;
  sweeps = record { ticks = own_ticks conn a.sweeps.ticks live; closings = [] };
  happening = own_happening conn a.happening;
  second = a.second;
  met = own_met conn a.happening a.met;
}

-- turn by turn
unfoldable pub own_turns : ℕ → Plan → Course ModelEnd → List Turn → List Turn
own_turns conn plan c [] = []
own_turns conn plan c (a ∷ turns) = own_turn conn (numbers c.loop.sessions) a ∷ own_turns conn plan (went model_ends plan c a).state turns

-- of the users: the one that it finds, where it finds one
abbrev pub own_users : Option Mind → List Mind
own_users None = []
own_users (Some mind) = mind ∷ []

-- of the random words: those from its own on. One is drawn for each end that is opened before, and for each that finds no memory
unfoldable pub own_words : ℕ → List JournalEntry → Stream → Stream
own_words conn [] words = words
own_words conn (x ∷ xs) words =
    if draws_word x.event then if x.conn == conn then words else own_words conn xs (next_u64 words).1
    else own_words conn xs words

-- where a loop begins, and what comes of the outside
pub record Outside : Type 0 where
  pub course : Course ModelEnd
  pub turns : List Turn

abbrev pub own_outside : ℕ → Plan → Course ModelEnd → List Turn → Outside
own_outside conn plan c turns = record {
  course = record c {
    loop = record c.loop {
      users = own_users (user_of conn (run model_ends plan c turns).entries c.loop.users);
      words = own_words conn (run model_ends plan c turns).entries c.loop.words;
    };
  };
  turns = own_turns conn plan c turns;
}

abbrev pub run_over : Plan → Outside → Out (Course ModelEnd)
run_over plan outside = run model_ends plan outside.course outside.turns

-- ---- what is a connection's of what a loop does

abbrev pub is_deed_on : ℕ → LoopDeed → Bool
is_deed_on conn (Printing x) = x.conn == conn
is_deed_on conn (Calling call) = is_at conn call

-- its events that are printed and the calls at it, in their one order
unfoldable pub deeds_on : ℕ → List LoopDeed → List LoopDeed
deeds_on conn [] = []
deeds_on conn (deed ∷ deeds) = if is_deed_on conn deed then deed ∷ deeds_on conn deeds else deeds_on conn deeds

-- two loops do the same of it: its lines, and the calls at it
pub record IsSameAt (conn : ℕ) (o p : Out (Course ModelEnd)) : Type 0 where
  pub order : deeds_on conn o.order ≡ deeds_on conn p.order
  pub entries : of conn o.entries ≡ of conn p.entries
  pub calls : calls_at conn o.calls ≡ calls_at conn p.calls
  -- so the octets that it is given, and what its user hears
  pub given : given_of conn o.calls ≡ given_of conn p.calls
  pub heard : hearing (of conn o.entries) ≡ hearing (of conn p.entries)
  -- and what is left of it
  pub session : session_of_connection conn o.state.loop.sessions ≡ session_of_connection conn p.state.loop.sessions

-- ---- what others may do to it

abbrev pub says_full : Event → Bool
says_full (Call engine rbc rb) = false
says_full (Answer rbc ra) = false
says_full (Octets octets) = false
says_full (Send text) = false
says_full Take = false
says_full (Release sub) = false
says_full Tick = false
says_full Ended = false
says_full Fault = false
says_full Stalled = false
says_full (Full count) = true
says_full (Unserved count) = false

-- no event says that it was turned away since 256 connections were live, or since there was no memory for its session
abbrev pub IsNeverFull : ℕ → List JournalEntry → Type 0
IsNeverFull conn [] = Unit {0}
IsNeverFull conn (x ∷ xs) = ((x.conn == conn) ≡ true → says_full x.event ≡ false) × IsNeverFull conn xs

-- such an event is all that is told of a connection, and its close all that is done at it. It tells how many connections were live
pub record IsOnlyTurnedAway (conn : ℕ) (o : Out (Course ModelEnd)) : Type 0 where
  pub moment : ℕ
  pub live : ℕ
  pub most : live ≤ most_live
  pub entries : of conn o.entries ≡ record { moment = moment; conn = conn; event = Full live; outcomes = [] } ∷ []
  pub calls : calls_at conn o.calls ≡ Closes conn ∷ []
  pub session : session_of_connection conn o.state.loop.sessions ≡ None

-- ---- the law

-- A loop that serves does of each connection what it does where that connection comes alone, but for those that it turned away since 256 were live or
-- there was no memory for their sessions. And two loops do the same of it where what of the outside is its own is the same, whatever comes at others. A
-- loop that gives one connection's octets to another, that lets a tick at one move the moments of another, that lets one that finds no memory take a user
-- with it or end the others, or that draws a random word for more than an accepted connection that finds a user doesn't meet it.
pub record ConnectionsStandAlone : Type 0 where
  pub each : (plan : Plan) (c : Course ModelEnd) (turns : List Turn) → IsServing plan c turns
      → (conn : ℕ) → IsNeverFull conn (run model_ends plan c turns).entries ⊎ IsOnlyTurnedAway conn (run model_ends plan c turns)
  pub alone : (plan : Plan) (c : Course ModelEnd) (turns : List Turn) → IsServing plan c turns → plan.dials ≡ false
      → (conn : ℕ) → IsNeverFull conn (run model_ends plan c turns).entries
      → IsSameAt conn (run model_ends plan c turns) (run_over plan (own_outside conn plan c turns))
  pub two : (plan : Plan) (c d : Course ModelEnd) (turns others : List Turn) → IsServing plan c turns → IsServing plan d others → plan.dials ≡ false
      → (conn : ℕ) → IsNeverFull conn (run model_ends plan c turns).entries → IsNeverFull conn (run model_ends plan d others).entries
      → own_outside conn plan c turns ≡ own_outside conn plan d others
      → IsSameAt conn (run model_ends plan c turns) (run model_ends plan d others)

-- ---- a dial

-- of what a dial meets: the connection that it opens is the first, and finds the first user and the first random word
abbrev pub own_dialled : Plan → Caller → Course ModelEnd → ℕ → Dialled → Dialled
own_dialled plan caller c conn a = record {
  conn = a.conn;
  first = a.first;
  met = a.met;
  turns = own_turns conn plan (opens model_ends plan caller (asks a.first c) conn a.met).state a.turns;
}

-- A loop that dials does of the connection that it opens what it does where no other comes, over wires that listen too
abbrev pub DialStandsAlone : Type 0
DialStandsAlone =
    (plan : Plan) (caller : Caller) (c : Course ModelEnd) (address : List ℕ) (a : Dialled) (conn : ℕ) → IsDialling plan caller c address a → a.conn ≡ Some conn
    → IsSameAt conn (dials model_ends plan caller c address a) (dials model_ends plan caller c address (own_dialled plan caller c conn a))
