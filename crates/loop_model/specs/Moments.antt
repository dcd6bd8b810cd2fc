-- Which moment an event has: the greatest of the clock's answers so far.
use Rattle.loop_model.specs.Ends.{ModelEnd, model_ends}
use Rattle.std.specs.Prelude.{ℕ, ◌≡◌, max, List, [], ◌∷◌, ◌++◌, Option, Some, None}
use Rattle.loop_model.specs.Journals.{JournalEntry}
use Rattle.loop_model.specs.Outs.{Out}
use Rattle.loop_model.specs.Loops.{Plan, Caller, Halt, Course, asks, Turn, readied, went, run, Dialled, opens, dials}
use Rattle.loop_model.specs.Laws.{greatest}

-- all events have this moment
abbrev pub AreAt : ℕ → List JournalEntry → Type 0
AreAt m [] = Unit {0}
AreAt m (x ∷ xs) = (x.moment ≡ m) × AreAt m xs

-- what the clock answers in a turn: once before it, and once behind it where the turn itself comes
abbrev pub asked_in : Option Halt → Turn → List ℕ
asked_in (Some halt) a = a.first ∷ []
asked_in None a = a.first ∷ a.second ∷ []

-- of a turn: the events before it have the greatest moment of the clock's answers up to the one before it, those behind it the greatest up
-- to the one behind it
pub record IsTimedTurn (plan : Plan) (c : Course ModelEnd) (a : Turn) : Type 0 where
  pub before : AreAt (max c.loop.moment a.first) (readied model_ends plan c a).entries
  pub rest : List JournalEntry
  pub is : (went model_ends plan c a).entries ≡ (readied model_ends plan c a).entries ++ rest
  pub behind : AreAt (max (max c.loop.moment a.first) a.second) rest
  pub asked : (went model_ends plan c a).state.asked ≡ c.asked ++ asked_in (readied model_ends plan c a).state.halt a
  pub moment : (went model_ends plan c a).state.loop.moment ≡ greatest c.loop.moment (asked_in (readied model_ends plan c a).state.halt a)

-- what opens the connection of a dial, behind one answer of the clock
abbrev pub opening_of_dial : Plan → Caller → Course ModelEnd → Dialled → ℕ → Out (Course ModelEnd)
opening_of_dial plan caller c a conn = opens model_ends plan caller (asks a.first c) conn a.met

-- of a dial that opened its connection: its opening comes before all turns, and its events have the greatest moment of the clock's answers
-- up to that one
pub record IsOpenedAt (plan : Plan) (caller : Caller) (c : Course ModelEnd) (address : List ℕ) (a : Dialled) (conn : ℕ) : Type 0 where
  pub events : AreAt (max c.loop.moment a.first) (opening_of_dial plan caller c a conn).entries
  pub is : (dials model_ends plan caller c address a).entries
      ≡ (opening_of_dial plan caller c a conn).entries ++ (run model_ends plan (opening_of_dial plan caller c a conn).state a.turns).entries
  pub asked : (opening_of_dial plan caller c a conn).state.asked ≡ c.asked ++ a.first ∷ []
  pub moment : (opening_of_dial plan caller c a conn).state.loop.moment ≡ max c.loop.moment a.first

pub record EventsAreTimed : Type 0 where
  pub turns : (plan : Plan) (c : Course ModelEnd) (a : Turn) → c.halt ≡ None → IsTimedTurn plan c a
  pub openings : (plan : Plan) (caller : Caller) (c : Course ModelEnd) (address : List ℕ) (a : Dialled) (conn : ℕ) → a.conn ≡ Some conn
      → IsOpenedAt plan caller c address a conn
