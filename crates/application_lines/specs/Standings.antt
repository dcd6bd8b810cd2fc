-- Where a stream from an application stands behind octets, and what more octets say there.
use Rattle.std.specs.Prelude.{ℕ, ◌==◌, ◌≤◌, nat_lt, if◌then◌else◌, List, [], ◌∷◌, ◌++◌, length, Option, Some, None}
use Rattle.std.specs.List.{slice_split}
use Rattle.application_lines.specs.declared.application_line.ApplicationLine.{ApplicationLine}
use Rattle.application_lines.specs.Streams.{is_feed, next_line_number, pieces_tell}

-- the number of the line that goes on, and its octets so far; none are kept of a line that is too long
pub record LineStanding : Type 0 where
  pub number : ℕ
  pub held : Option (List ℕ)

-- nothing came
abbrev pub at_first_line : LineStanding
at_first_line = record { number = 1; held = Some [] }

-- what is kept of the line that goes on
abbrev pub kept_of_line : List ℕ → Option (List ℕ)
kept_of_line piece = if nat_lt 4096 (length piece) then None else Some piece

-- where the last of these pieces goes on, of which the first is the line of this number
unfoldable pub at_last_piece : ℕ → List (List ℕ) → LineStanding
at_last_piece number [] = record { number = number; held = Some [] }
at_last_piece number (piece ∷ pieces) =
    if length pieces == 0 then record { number = number; held = kept_of_line piece } else at_last_piece (next_line_number number) pieces

-- octets of a line before those of the first piece
abbrev pub onto_first_piece : List ℕ → List (List ℕ) → List (List ℕ)
onto_first_piece held [] = held ∷ []
onto_first_piece held (piece ∷ pieces) = (held ++ piece) ∷ pieces

-- behind a line that is too long, where its rest is the first piece
abbrev pub told_behind_long : ℕ → List (List ℕ) → List ApplicationLine
told_behind_long number [] = []
told_behind_long number (rest ∷ pieces) = pieces_tell (next_line_number number) pieces

abbrev pub stands_behind_long : ℕ → List (List ℕ) → LineStanding
stands_behind_long number [] = record { number = number; held = None }
stands_behind_long number (rest ∷ pieces) =
    if length pieces == 0 then record { number = number; held = None } else at_last_piece (next_line_number number) pieces

abbrev pub lines_told_behind : ℕ → Option (List ℕ) → List (List ℕ) → List ApplicationLine
lines_told_behind number (Some held) pieces = pieces_tell number (onto_first_piece held pieces)
lines_told_behind number None pieces = told_behind_long number pieces

abbrev pub stands_behind : ℕ → Option (List ℕ) → List (List ℕ) → LineStanding
stands_behind number (Some held) pieces = at_last_piece number (onto_first_piece held pieces)
stands_behind number None pieces = stands_behind_long number pieces

-- what octets say, and where they lead
unfoldable pub says_from : LineStanding → List ℕ → List ApplicationLine
says_from s octets = lines_told_behind s.number s.held (slice_split is_feed octets)

unfoldable pub line_standing_from : LineStanding → List ℕ → LineStanding
line_standing_from s octets = stands_behind s.number s.held (slice_split is_feed octets)

-- behind all octets that came
abbrev pub stream_standing : List ℕ → LineStanding
stream_standing octets = line_standing_from at_first_line octets

-- no line of more than 4,096 octets is kept
abbrev pub IsShortLine : Option (List ℕ) → Type 0
IsShortLine None = Unit {0}
IsShortLine (Some held) = length held ≤ 4096

-- a stream can stand so behind octets
abbrev pub CanStand : LineStanding → Type 0
CanStand s = IsShortLine s.held
