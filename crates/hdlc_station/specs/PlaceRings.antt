-- Representation: how the places are kept in a ring; no claim rests on it.
use Rattle.std.specs.Prelude.{ℕ, ◌+◌, ◌-◌, nat_lt, if◌then◌else◌, List, ◌++◌, take, drop}
use Rattle.hdlc_station.specs.Places.{NumberPlace}

-- where the place is, in a ring of n, that lies i places behind the head
abbrev pub spot : (n head i : ℕ) → ℕ
spot n head i = if nat_lt i (n - head) then head + i else i - (n - head)

-- the places from the head on
abbrev pub from_head : ℕ → List NumberPlace → List NumberPlace
from_head head places = drop head places ++ take head places
