use Rattle.std.proofs.Common.{◌≡◌, ◌+◌, ◌-◌}
use Rattle.std.specs.Prelude.{length, drop}
use Rattle.hdlc_station.specs.Places.{run_of}
use Rattle.hdlc_station.proofs.places.Places.run.Given as goal

abbrev pub invariant-loop-i : goal.invariant-loop-i
invariant-loop-i l = length (run_of (drop 1 l.fn.self)) ≡ (l.i - 1) + length (run_of (drop l.i l.fn.self))
