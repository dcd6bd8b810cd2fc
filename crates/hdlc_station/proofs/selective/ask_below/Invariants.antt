use Rattle.std.proofs.Common.{◌≡◌, length}
use Rattle.hdlc_station.specs.Kept.{WritesFramesAtMost}
use Rattle.hdlc_station.specs.Held.{Moves}
use Rattle.hdlc_station.specs.Steps.{asks_below}
use Rattle.hdlc_station.proofs.selective.ask_below.Given as goal

abbrev pub invariant-loop-i : goal.invariant-loop-i
invariant-loop-i l =
    Moves l.station l.fn.places l.fn.out l.station l.places l.out (λ s. asks_below l.i s)
    × WritesFramesAtMost l.station l.fn.out l.station l.out l.i
    × (length l.places ≡ length l.fn.places)
