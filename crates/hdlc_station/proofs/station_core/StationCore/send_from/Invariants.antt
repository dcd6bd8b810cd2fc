use Rattle.er_base.specs.Stored.{Appends}
use Rattle.hdlc_station.specs.Kept.{WritesFramesAtMost}
use Rattle.hdlc_station.specs.Replies.{info_texts}
use Rattle.hdlc_station.proofs.station_core.StationCore.send_from.Given as goal

abbrev pub invariant-loop-i : goal.invariant-loop-i
invariant-loop-i l = Appends l.fn.out l.out (info_texts l.self l.first l.i) × WritesFramesAtMost l.self l.fn.out l.self l.out l.i
