-- What a stream says is a function of its octets, and not of the pieces in which they come.
use Rattle.std.specs.Prelude.{◌≡◌, ℕ, ◌<◌, false, List, [], ◌∷◌, ◌++◌, length}
use Rattle.std.specs.List.{All, concat}
use Rattle.er_base.specs.declared.why.Why.TheVariants.{Long}
use Rattle.application_lines.specs.declared.application_line.ApplicationLine.{ApplicationLine}
use Rattle.application_lines.specs.declared.application_line.ApplicationLine.TheVariants.{Faulty}
use Rattle.application_lines.specs.Streams.{is_feed, stream_says}
use Rattle.application_lines.specs.Standings.{LineStanding, at_first_line, says_from, line_standing_from, CanStand}

-- octets behind others say what they say from where those led
pub record SaysOn (s : LineStanding) (octets more : List ℕ) : Type 0 where
  pub says : says_from s (octets ++ more) ≡ says_from s octets ++ says_from (line_standing_from s octets) more
  pub stands : line_standing_from s (octets ++ more) ≡ line_standing_from (line_standing_from s octets) more

abbrev pub LinesGoOn : Type 0
LinesGoOn = (s : LineStanding) (octets more : List ℕ) → SaysOn s octets more

-- a stream begins at its first line
abbrev pub IsWholeFromTheFirst : Type 0
IsWholeFromTheFirst = (octets : List ℕ) → stream_says octets ≡ says_from at_first_line octets

-- no octets lead to more of a line than is kept
abbrev pub StandsWell : Type 0
StandsWell = (s : LineStanding) (octets : List ℕ) → CanStand (line_standing_from s octets)

-- what octets say that come in these pieces, piece by piece
abbrev pub said_in_pieces : LineStanding → List (List ℕ) → List ApplicationLine
said_in_pieces s [] = []
said_in_pieces s (octets ∷ pieces) = says_from s octets ++ said_in_pieces (line_standing_from s octets) pieces

-- whatever the pieces, it is what all octets say
abbrev pub CutAnywhereIsTheSame : Type 0
CutAnywhereIsTheSame = (pieces : List (List ℕ)) → said_in_pieces at_first_line pieces ≡ stream_says (concat pieces)

-- a first line of more than 4,096 octets is told, though its LF hasn't come
abbrev pub LongIsTold : Type 0
LongIsTold = (octets : List ℕ) → All (λ octet. is_feed octet ≡ false) octets → 4096 < length octets → stream_says octets ≡ Faulty 1 Long ∷ []
