-- Contract: how the code keeps where a stream stands, and what it says of one line.
use Rattle.std.specs.Prelude.{ℕ, ◌+◌, Bool, true, false, List, [], ◌∷◌, length, Option, Some, None}
use Rattle.application_lines.specs.declared.application_line.ApplicationLine.{ApplicationLine}
use Rattle.application_lines.specs.declared.application_line.ApplicationLine.TheVariants.{Asks, Faulty}
use Rattle.application_lines.specs.Requests.{IsRequestInRange}
use Rattle.application_lines.specs.Standings.{LineStanding}

-- what is held counts only where the line isn't too long
abbrev pub held_unless : Bool → List ℕ → Option (List ℕ)
held_unless true held = None
held_unless false held = Some held

abbrev pub line_standing_kept : ℕ → List ℕ → Bool → LineStanding
line_standing_kept number held long = record { number = number; held = held_unless long held }

-- a piece, and its LF where it is ended
abbrev pub cut_length : List ℕ → Bool → ℕ
cut_length piece true = length piece + 1
cut_length piece false = length piece

abbrev pub pieces_cut : List ℕ → Bool → List (List ℕ)
pieces_cut piece true = piece ∷ [] ∷ []
pieces_cut piece false = piece ∷ []

-- what a line asks for is in its ranges
abbrev pub IsApplicationLineInRange : ApplicationLine → Type 0
IsApplicationLineInRange (Asks asked) = IsRequestInRange asked
IsApplicationLineInRange (Faulty number why) = Unit {0}

-- one line at the most
abbrev pub lines_taken : Option ApplicationLine → List ApplicationLine
lines_taken None = []
lines_taken (Some line) = line ∷ []
