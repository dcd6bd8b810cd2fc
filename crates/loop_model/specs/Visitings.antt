-- What is done at the live connections in a turn: before it each of them is visited, in rising number; behind it the one at which something
-- happened, and no other.
use Rattle.loop_model.specs.Ends.{ModelEnd, model_ends}
use Rattle.std.specs.Prelude.{ℕ, ◌≡◌, ◌==◌, max, if◌then◌else◌, List, [], ◌∷◌, ◌++◌, drop, Option, Some, None}
use Rattle.link_trait.specs.Wires.{Turns}
use Rattle.link_trait.specs.declared.wires.Happening.{Happening}
use Rattle.link_trait.specs.declared.wires.Happening.TheVariants.{Accepted, Readable, Writable, Quiet, Ended, Failed}
use Rattle.loop_model.specs.Outs.{Out, still, first_answer_of}
use Rattle.loop_model.specs.Sessions.{Rules, Session}
use Rattle.loop_model.specs.Visits.{Met, nothing_met, Visit, Tick, Read, Write, visited}
use Rattle.loop_model.specs.Loops.{Plan, rules_of, numbers, until, Course, Turn, readied, went}
use Rattle.loop_model.specs.Parts.{session_of_connection, Rises}
use Rattle.loop_model.specs.Writings.{expired, unexpired}

-- ---- before a turn

-- each session is visited, one after the other, and meets what is its own
unfoldable pub all_ticked : Rules → ℕ → List (Session ModelEnd) → List Met → Out (List (Session ModelEnd))
all_ticked r m [] answers = still []
all_ticked r m (s ∷ ss) answers =
    let o = visited model_ends r m Tick s (first_answer_of nothing_met answers) in
    let rest = all_ticked r m ss (drop 1 answers) in
    record { state = o.state ++ rest.state; entries = o.entries ++ rest.entries; calls = o.calls ++ rest.calls; order = o.order ++ rest.order }

-- at the moment before the turn
abbrev pub ticks_of : Plan → Course ModelEnd → Turn → Out (List (Session ModelEnd))
ticks_of plan c a = all_ticked (rules_of plan) (max c.loop.moment a.first) c.loop.sessions a.sweeps.ticks

-- what comes before a turn is these visits, and then the closing of those whose closing moment has come
pub record IsReadied (plan : Plan) (c : Course ModelEnd) (a : Turn) : Type 0 where
  pub entries : (readied model_ends plan c a).entries ≡ (ticks_of plan c a).entries
  pub calls : (readied model_ends plan c a).calls ≡ (ticks_of plan c a).calls ++ expired (max c.loop.moment a.first) (ticks_of plan c a).state
  pub sessions : (readied model_ends plan c a).state.loop.sessions ≡ unexpired (max c.loop.moment a.first) (ticks_of plan c a).state

-- ---- behind a turn

-- what is left of a session stands in its place
unfoldable pub replaced : ℕ → List (Session ModelEnd) → List (Session ModelEnd) → List (Session ModelEnd)
replaced conn now [] = []
replaced conn now (s ∷ ss) = if s.number == conn then now ++ ss else s ∷ replaced conn now ss

-- the visit of a session behind the turn
abbrev pub visit_behind_turn : Plan → Course ModelEnd → Turn → Visit → Session ModelEnd → Out (List (Session ModelEnd))
visit_behind_turn plan c a visit s = visited model_ends (rules_of plan) (max (readied model_ends plan c a).state.loop.moment a.second) visit s a.met

-- behind the turn comes this visit alone
pub record IsVisited (plan : Plan) (c : Course ModelEnd) (a : Turn) (visit : Visit) (conn : ℕ) (s : Session ModelEnd) : Type 0 where
  pub entries : (went model_ends plan c a).entries ≡ (readied model_ends plan c a).entries ++ (visit_behind_turn plan c a visit s).entries
  pub calls : (went model_ends plan c a).calls
      ≡ (readied model_ends plan c a).calls ++ Turns (until model_ends (readied model_ends plan c a).state.loop.sessions) a.happening
      ∷ (visit_behind_turn plan c a visit s).calls
  pub sessions : (went model_ends plan c a).state.loop.sessions
      ≡ replaced conn (visit_behind_turn plan c a visit s).state (readied model_ends plan c a).state.loop.sessions

-- behind the turn comes nothing
pub record IsUnvisited (plan : Plan) (c : Course ModelEnd) (a : Turn) : Type 0 where
  pub entries : (went model_ends plan c a).entries ≡ (readied model_ends plan c a).entries
  pub calls : (went model_ends plan c a).calls
      ≡ (readied model_ends plan c a).calls ++ Turns (until model_ends (readied model_ends plan c a).state.loop.sessions) a.happening ∷ []
  pub sessions : (went model_ends plan c a).state.loop.sessions ≡ (readied model_ends plan c a).state.loop.sessions

abbrev pub IsVisitedIf : Plan → Course ModelEnd → Turn → Visit → ℕ → Option (Session ModelEnd) → Type 0
IsVisitedIf plan c a visit conn None = IsUnvisited plan c a
IsVisitedIf plan c a visit conn (Some s) = IsVisited plan c a visit conn s

-- a live connection that is readable is visited to be read from, one that is writable to be written to. (What comes of an accepted one is said
-- with the openings)
abbrev pub FollowsSo : Plan → Course ModelEnd → Turn → Happening → Type 0
FollowsSo plan c a (Accepted conn) = Unit {0}
FollowsSo plan c a (Readable conn) = IsVisitedIf plan c a Read conn.0 (session_of_connection conn.0 (readied model_ends plan c a).state.loop.sessions)
FollowsSo plan c a (Writable conn) = IsVisitedIf plan c a Write conn.0 (session_of_connection conn.0 (readied model_ends plan c a).state.loop.sessions)
FollowsSo plan c a Quiet = IsUnvisited plan c a
FollowsSo plan c a Ended = IsUnvisited plan c a
FollowsSo plan c a Failed = IsUnvisited plan c a

-- so what the laws say of a visit holds in each turn
pub record TurnsVisit : Type 0 where
  pub before : (plan : Plan) (c : Course ModelEnd) (a : Turn) → Rises 0 (numbers c.loop.sessions) → IsReadied plan c a
  pub behind : (plan : Plan) (c : Course ModelEnd) (a : Turn) → c.halt ≡ None → (readied model_ends plan c a).state.halt ≡ None → FollowsSo plan c a a.happening
