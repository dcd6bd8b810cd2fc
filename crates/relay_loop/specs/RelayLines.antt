-- The lines that a relay prints (this profile): a moment in milliseconds, the number of the connection, and what came or is given.
use Rattle.std.specs.Prelude.{ℕ, ◌==◌, ◌&&◌, Bool, false, if◌then◌else◌, List, [], ◌∷◌, codes}
use Rattle.std.specs.List.{flat_map, list_any}
use Rattle.std.specs.Fmt.{decimal}
use Rattle.er_base.specs.declared.side.Side.{Side}
use Rattle.er_base.specs.Sides.{side_word}
use Rattle.er_base.specs.Hexadecimal.{hex_of}
use Rattle.er_base.specs.LineTexts.{line_text}
use Rattle.relay_model.specs.Loads.{is_same_side}

-- a connection was accepted
abbrev pub open_line : (moment number : ℕ) → List ℕ
open_line moment number = line_text (codes ">" ∷ decimal moment ∷ decimal number ∷ codes "open" ∷ [])

-- octets came from a side: a unit, or others
abbrev pub received_line : (moment number : ℕ) → Side → (octets : List ℕ) → List ℕ
received_line moment number side octets = line_text (codes ">" ∷ decimal moment ∷ decimal number ∷ side_word side ∷ hex_of octets ∷ [])

-- octets of a side are given to the other
abbrev pub given_line : (moment number : ℕ) → Side → (octets : List ℕ) → List ℕ
given_line moment number side octets = line_text (codes "<" ∷ decimal moment ∷ decimal number ∷ side_word side ∷ hex_of octets ∷ [])

-- a side ended or failed
abbrev pub side_end_line : (moment number : ℕ) → Side → List ℕ
side_end_line moment number side = line_text (codes ">" ∷ decimal moment ∷ decimal number ∷ codes "end" ∷ side_word side ∷ [])

-- both sides are closed
abbrev pub closed_line : (moment number : ℕ) → List ℕ
closed_line moment number = line_text (codes "<" ∷ decimal moment ∷ decimal number ∷ codes "closed" ∷ [])

-- ---- lines, by what they tell

pub data RelayLine : Type 0 where
  -- the first line of all
  Heading : RelayLine
  Opening : (moment number : ℕ) → RelayLine
  Received : (moment number : ℕ) (side : Side) (octets : List ℕ) → RelayLine
  Given : (moment number : ℕ) (side : Side) (octets : List ℕ) → RelayLine
  SideEnd : (moment number : ℕ) (side : Side) → RelayLine
  Closing : (moment number : ℕ) → RelayLine

unfoldable pub text_of_line : RelayLine → List ℕ
text_of_line Heading = codes "relay 1\n"
text_of_line (Opening moment number) = open_line moment number
text_of_line (Received moment number side octets) = received_line moment number side octets
text_of_line (Given moment number side octets) = given_line moment number side octets
text_of_line (SideEnd moment number side) = side_end_line moment number side
text_of_line (Closing moment number) = closed_line moment number

abbrev pub text_of_lines : List RelayLine → List ℕ
text_of_lines lines = flat_map text_of_line lines

-- the octets of a side of a connection that a line tells as given
abbrev pub told_by_line : (number : ℕ) → Side → RelayLine → List ℕ
told_by_line number side Heading = []
told_by_line number side (Opening moment of) = []
told_by_line number side (Received moment of from octets) = []
told_by_line number side (Given moment of from octets) = if (of == number) && is_same_side from side then octets else []
told_by_line number side (SideEnd moment of from) = []
told_by_line number side (Closing moment of) = []

-- all the octets of it that lines tell as given
abbrev pub told_in_lines : (number : ℕ) → Side → List RelayLine → List ℕ
told_in_lines number side lines = flat_map (told_by_line number side) lines

-- whether a line tells that a connection is opened, and that it is closed
abbrev pub opens_in_line : (number : ℕ) → RelayLine → Bool
opens_in_line number Heading = false
opens_in_line number (Opening moment of) = of == number
opens_in_line number (Received moment of from octets) = false
opens_in_line number (Given moment of from octets) = false
opens_in_line number (SideEnd moment of from) = false
opens_in_line number (Closing moment of) = false

abbrev pub closes_in_line : (number : ℕ) → RelayLine → Bool
closes_in_line number Heading = false
closes_in_line number (Opening moment of) = false
closes_in_line number (Received moment of from octets) = false
closes_in_line number (Given moment of from octets) = false
closes_in_line number (SideEnd moment of from) = false
closes_in_line number (Closing moment of) = of == number

-- that a side of it ended
abbrev pub ends_in_line : (number : ℕ) → Side → RelayLine → Bool
ends_in_line number side Heading = false
ends_in_line number side (Opening moment of) = false
ends_in_line number side (Received moment of from octets) = false
ends_in_line number side (Given moment of from octets) = false
ends_in_line number side (SideEnd moment of from) = (of == number) && is_same_side from side
ends_in_line number side (Closing moment of) = false

abbrev pub opens_in_lines : (number : ℕ) → List RelayLine → Bool
opens_in_lines number lines = list_any (opens_in_line number) lines

abbrev pub closes_in_lines : (number : ℕ) → List RelayLine → Bool
closes_in_lines number lines = list_any (closes_in_line number) lines

abbrev pub ends_in_lines : (number : ℕ) → Side → List RelayLine → Bool
ends_in_lines number side lines = list_any (ends_in_line number side) lines
