use Rattle.std.proofs.Common.{◌≡◌}
use Rattle.std.specs.Prelude.{replicate}
use Rattle.hdlc_station.specs.Places.{no_place}
use Rattle.hdlc_station.proofs.places.Places.new.Given as goal

abbrev pub invariant-loop-i : goal.invariant-loop-i
invariant-loop-i l = l.places.items ≡ replicate l.i no_place
