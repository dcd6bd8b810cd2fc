-- Representation: how much room for frames an event needs; no claim rests on it.
use Rattle.std.specs.Prelude.{ℕ, ◌+◌, ◌-◌, ◌*◌, ◌≤◌, Bool, true, false, not, List, length}
use Rattle.hdlc_station_model.specs.Stations.{is_down}
use Rattle.hdlc_station.specs.Kept.{KeptStation}

abbrev pub one_if : Bool → ℕ
one_if true = 1
one_if false = 0

-- the frames that a station may still send before the next event: those that its window lets go, the answer that it owes, and DISC
abbrev pub frames_left : KeptStation → ℕ
frames_left k = k.window - k.ahead + one_if k.owed + one_if (not (is_down k.phase))

-- what was sent in an event, with what may still be sent in it, is at most 65 frames of 2,064 octets: a window of 31 and an answer at its
-- beginning, a window behind it, the answer that is owed, and DISC
abbrev pub FitsFrameRoom : KeptStation → List ℕ → Type 0
FitsFrameRoom k out = length out + frames_left k * 2064 ≤ 65 * 2064
