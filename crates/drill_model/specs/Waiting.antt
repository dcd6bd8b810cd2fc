-- What the line does to the frames of one direction that wait, the first to be passed first (this profile).
use Rattle.std.specs.Prelude.{ℕ, ◌==◌, nat_lt, not, if◌then◌else◌, List, [], ◌∷◌, length}
use Rattle.hdlc_station_model.specs.Lines.{altered}
use Rattle.drill_model.specs.Outcomes.{DrillOutcome, Lost, Repeated, Altered, Inserted, NothingWaits, IsShort}

pub data LineChange : Type 0 where
  -- the first frame is removed
  Lose : LineChange
  -- a copy of the first frame is put right behind it
  Repeat : LineChange
  -- the octet of the first frame at this place, from 0, is changed by exclusive or
  Alter : (place mask : ℕ) → LineChange
  -- these octets become the first frame
  Put : (octets : List ℕ) → LineChange

abbrev pub lose_first : List (List ℕ) → List (List ℕ) × List DrillOutcome
lose_first [] = ([], NothingWaits ∷ [])
lose_first (frame ∷ frames) = (frames, Lost ∷ [])

abbrev pub repeat_first : List (List ℕ) → List (List ℕ) × List DrillOutcome
repeat_first [] = ([], NothingWaits ∷ [])
repeat_first (frame ∷ frames) = (frame ∷ frame ∷ frames, Repeated ∷ [])

-- the mask 0 changes nothing
abbrev pub alter_first : (place mask : ℕ) → List (List ℕ) → List (List ℕ) × List DrillOutcome
alter_first place mask [] = ([], NothingWaits ∷ [])
alter_first place mask (frame ∷ frames) =
    if not (nat_lt place (length frame)) then (frame ∷ frames, IsShort (length frame) ∷ [])
    else if mask == 0 then (frame ∷ frames, [])
    else (altered frame place mask ∷ frames, Altered ∷ [])

abbrev pub put_first : List ℕ → List (List ℕ) → List (List ℕ) × List DrillOutcome
put_first octets frames = (octets ∷ frames, Inserted ∷ [])

-- the frames after a change, and what came of it
abbrev pub change_first : LineChange → List (List ℕ) → List (List ℕ) × List DrillOutcome
change_first Lose frames = lose_first frames
change_first Repeat frames = repeat_first frames
change_first (Alter place mask) frames = alter_first place mask frames
change_first (Put octets) frames = put_first octets frames
