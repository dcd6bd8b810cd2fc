-- An event `stalled` comes exactly where the octets that wait and the new ones together are too many, directly behind the event that gave
-- the new ones.
use Rattle.loop_model.specs.Ends.{ModelEnd, model_ends}
use Rattle.std.specs.Prelude.{ℕ, ◌≡◌, ◌+◌, ◌≤◌, nat_lt, Bool, false, if◌then◌else◌, List, [], ◌∷◌, length}
use Rattle.loop_model.specs.Journals.{JournalEntry}
use Rattle.loop_model.specs.Sessions.{Rules, Session, Begins, most_output, octets_in}
use Rattle.loop_model.specs.Visits.{Visit, Met, served, visited}
use Rattle.loop_model.specs.Loops.{Plan, Course, Turn, run}
use Rattle.loop_model.specs.Points.{is_stalled}

-- where so many octets wait and so many come: together they are more than 262,144
abbrev pub are_too_many : ℕ → ℕ → Bool
are_too_many waiting new = nat_lt most_output (waiting + new)

-- then the new ones are dropped
abbrev pub waiting_then : ℕ → ℕ → ℕ
waiting_then waiting new = if are_too_many waiting new then waiting else waiting + new

-- how many octets an event gave
abbrev pub given_octet_count : JournalEntry → ℕ
given_octet_count x = length (octets_in x.outcomes)

-- whether the first event is `stalled`
abbrev pub begins_stalled : List JournalEntry → Bool
begins_stalled [] = false
begins_stalled (x ∷ xs) = is_stalled x.event

-- behind each event the next is `stalled` exactly where it gave too many, beside those that waited
abbrev pub StallSo : ℕ → List JournalEntry → Type 0
StallSo waiting [] = Unit {0}
StallSo waiting (x ∷ xs) = (begins_stalled xs ≡ are_too_many waiting (given_octet_count x)) × StallSo (waiting_then waiting (given_octet_count x)) xs

-- and the first event of a visit is none
pub record IsStalledSo (s : Session ModelEnd) (xs : List JournalEntry) : Type 0 where
  pub first : begins_stalled xs ≡ false
  pub rest : StallSo (length s.output) xs

abbrev pub IsBounded : Session ModelEnd → Type 0
IsBounded s = length s.output ≤ most_output

abbrev pub AreSessionsBounded : List (Session ModelEnd) → Type 0
AreSessionsBounded [] = Unit {0}
AreSessionsBounded (s ∷ ss) = IsBounded s × AreSessionsBounded ss

-- of each visit of a session, and of the opening of a dial; and no more than 262,144 octets wait at a live connection
pub record StallsAreTold : Type 0 where
  pub at_visit : (r : Rules) (m : ℕ) (visit : Visit) (s : Session ModelEnd) (a : Met) → IsBounded s → IsStalledSo s (visited model_ends r m visit s a).entries
  pub at_opening : (r : Rules) (m : ℕ) (s : Session ModelEnd) (engine rbc rb : ℕ) (a : Met) → IsBounded s
      → IsStalledSo s (served model_ends r m s (Begins engine rbc rb) a).entries
  pub bounded : (plan : Plan) (c : Course ModelEnd) (turns : List Turn) → AreSessionsBounded c.loop.sessions
      → AreSessionsBounded (run model_ends plan c turns).state.loop.sessions
