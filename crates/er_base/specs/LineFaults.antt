-- The faults of a line (this profile), in the one order that drill files, traces and taps have: its first word, the number of
-- its words, its level, its place, then its arguments from the left.
use Rattle.std.specs.Prelude.{ℕ, ◌==◌, Bool, true, false, not, List, [], ◌∷◌, length, Option, Result, Ok, Err}
use Rattle.er_base.specs.declared.why.Why.{Why}
use Rattle.er_base.specs.declared.why.Why.TheVariants.{Word, Count, Level, Late}
use Rattle.er_base.specs.Arguments.{◌>>=◌, some_or}

-- a test, and the fault where it fails
abbrev pub demand : Bool → Why → Result (Unit {0}) Why
demand true why = Ok tt
demand false why = Err why

-- the values of arguments, one for each kind
abbrev pub Values : {Kind : Type 0} → (Kind → Type 0) → List Kind → Type 0
Values Value [] = Unit {0}
Values Value (kind ∷ kinds) = (x : Value kind) × Values Value kinds

-- as many arguments as kinds, from the left, each read as its kind
abbrev pub values_of : {Kind : Type 0} {Value : Kind → Type 0} → ((kind : Kind) → List ℕ → Result (Value kind) Why)
    → (kinds : List Kind) → List (List ℕ) → Result (Values Value kinds) Why
values_of read [] [] = Ok tt
values_of read [] (word ∷ words) = Err Count
values_of read (kind ∷ kinds) [] = Err Count
values_of read (kind ∷ kinds) (word ∷ words) =
    read kind word >>= λ value. (values_of read kinds words >>= λ values. Ok (value, values))

-- the table of a text's lines: the line that a first word begins, the kinds of its arguments, how a word is read as a kind,
-- and whether the line may stand at the file's level and at this place
pub record Table (Line Kind : Type 0) (Value : Kind → Type 0) : Type 0 where
  pub line_named : List ℕ → Option Line
  pub kinds_of : Line → List Kind
  pub read : (kind : Kind) → List ℕ → Result (Value kind) Why
  pub is_of_level : Line → Bool
  pub is_late : Line → Bool

-- what the first word of a line and its arguments say by a table, or the line's first fault
abbrev pub line_read : {Line Kind : Type 0} {Value : Kind → Type 0} (table : Table Line Kind Value) → List ℕ → List (List ℕ)
    → Result ((line : Line) × Values Value (table.kinds_of line)) Why
line_read table name words = do
  line ← some_or Word (table.line_named name)
  counted ← demand (length words == length (table.kinds_of line)) Count
  of_level ← demand (table.is_of_level line) Level
  in_time ← demand (not (table.is_late line)) Late
  values ← values_of table.read (table.kinds_of line) words
  Ok (line, values)
