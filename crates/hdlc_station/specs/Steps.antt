-- Representation: the parts of a step of the model that the code does one by one; no claim rests on it.
use Rattle.std.specs.Prelude.{ℕ, zero, suc, ◌+◌, ◌||◌, if◌then◌else◌, List, [], ◌∷◌, ◌++◌, length}
use Rattle.hdlc_station_model.specs.Frames.{Srej}
use Rattle.hdlc_station_model.specs.Stations.{Station, puts}
use Rattle.hdlc_station_model.specs.Selective.{held_for, is_found, is_one_of, without_gap, takes_run}

-- a number is asked for, where it didn't come and wasn't asked for
abbrev pub asks_one : ℕ → Station → Station
asks_one n s =
    if is_found (held_for n s.held) || is_one_of n s.asked then s else record (puts (Srej n) s) { asked = s.asked ++ n ∷ [] }

-- so are so many numbers from V(R) on, one by one
abbrev pub asks_below : ℕ → Station → Station
asks_below zero s = s
asks_below (suc up) s = asks_one (length (asks_below up s).taken + up) (asks_below up s)

-- the next payload is taken, with all that are held behind it without a gap
abbrev pub takes_first : List ℕ → Station → Station
takes_first payload s = takes_run payload (without_gap (length s.held) (length s.taken + 1) s.held) s
