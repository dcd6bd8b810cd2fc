-- What the octets that come from an application say (this profile): its lines, each ended by LF and of at most 4,096 octets, its LF not counted. Each is
-- told once it is ended; one that is too long is a fault as a whole, and is told before it is ended.
use Rattle.std.specs.Prelude.{ℕ, ◌==◌, ◌+◌, nat_lt, not, Bool, if◌then◌else◌, List, [], ◌∷◌, ◌++◌, length, Result, Ok, Err}
use Rattle.std.specs.List.{slice_split}
use Rattle.er_base.specs.declared.why.Why.{Why}
use Rattle.er_base.specs.declared.why.Why.TheVariants.{Long}
use Rattle.er_base.specs.Words.{words_of}
use Rattle.application_lines.specs.declared.application_line.ApplicationLine.{ApplicationLine}
use Rattle.application_lines.specs.declared.application_line.ApplicationLine.TheVariants.{Asks, Faulty}
use Rattle.application_lines.specs.declared.request.Request.{Request}
use Rattle.application_lines.specs.Requests.{request_said}

-- LF
abbrev pub is_feed : ℕ → Bool
is_feed octet = octet == 10

-- lines are counted from 1, and none has a number above 2 ^ 64 - 1
abbrev pub next_line_number : ℕ → ℕ
next_line_number number = if nat_lt number 18446744073709551615 then number + 1 else number

-- a line of this number that is read so
abbrev pub request_line_told : ℕ → Result Request Why → ApplicationLine
request_line_told number (Ok request) = Asks request
request_line_told number (Err why) = Faulty number why

-- a piece between two LFs, or behind the last one, which isn't ended: it is too long, or says what its words say, or isn't ended yet
abbrev pub piece_tells : ℕ → List ℕ → Bool → List ApplicationLine
piece_tells number piece ended =
    if nat_lt 4096 (length piece) then Faulty number Long ∷ []
    else if ended then request_line_told number (request_said (words_of piece)) ∷ []
    else []

-- an LF stands behind a piece where another piece follows
abbrev pub is_ended_before : List (List ℕ) → Bool
is_ended_before pieces = not (length pieces == 0)

-- what pieces say, the first of which is the line of this number
unfoldable pub pieces_tell : ℕ → List (List ℕ) → List ApplicationLine
pieces_tell number [] = []
pieces_tell number (piece ∷ pieces) = piece_tells number piece (is_ended_before pieces) ++ pieces_tell (next_line_number number) pieces

-- what all octets say that came
unfoldable pub stream_says : List ℕ → List ApplicationLine
stream_says octets = pieces_tell 1 (slice_split is_feed octets)
