use Rattle.std.proofs.Common.{◌≡◌, ◌++◌}
use Rattle.std.specs.Prelude.{map, take, drop}
use Rattle.hdlc_station.specs.Places.{cleared}
use Rattle.hdlc_station.proofs.places.Places.drop_first.Given as goal

abbrev pub invariant-loop-i : goal.invariant-loop-i
invariant-loop-i l = l.self ≡ drop l.i l.fn.self ++ map cleared (take l.i l.fn.self)
