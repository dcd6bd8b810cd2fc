-- The loop's side of its application (this profile): where its stream stands, and the octets that wait for it; and what these are in the model of the loop.
use Rattle.std.specs.Prelude.{◌≡◌, ℕ, List, [], ◌∷◌, ◌++◌, length, drop, Option, Some, None}
use Rattle.application_lines.specs.declared.application_line.ApplicationLine.{ApplicationLine}
use Rattle.application_lines.specs.Standings.{LineStanding, says_from, line_standing_from}
use Rattle.application_model.specs.Services.{Attendance, Absent, Attached}

pub data PortState : Type 0 where
  NobodyThere : PortState
  Talking : LineStanding → (output : List ℕ) → PortState

-- what the model goes by: how many octets wait
abbrev pub attendance_of : PortState → Attendance
attendance_of NobodyThere = Absent
attendance_of (Talking standing output) = Attached standing (length output)

abbrev pub output_of : PortState → List ℕ
output_of NobodyThere = []
output_of (Talking standing output) = output

-- a line more waits
abbrev pub told_at_port : List ℕ → PortState → PortState
told_at_port text NobodyThere = NobodyThere
told_at_port text (Talking standing output) = Talking standing (output ++ text)

-- the application took so many octets
abbrev pub written_at_port : ℕ → PortState → PortState
written_at_port count NobodyThere = NobodyThere
written_at_port count (Talking standing output) = Talking standing (drop count output)

abbrev pub one_line_at_most : Option ApplicationLine → List ApplicationLine
one_line_at_most None = []
one_line_at_most (Some line) = line ∷ []

-- octets were heard, which say this line, if any
abbrev pub HearsAtPort : PortState → PortState → List ℕ → Option ApplicationLine → Type 0
HearsAtPort NobodyThere now octets line = ⊥
HearsAtPort (Talking standing output) now octets line =
    (now ≡ Talking (line_standing_from standing octets) output) × (says_from standing octets ≡ one_line_at_most line)
