use Rattle.std.proofs.Common.{ℕ, Bool, List, length}
use Rattle.hdlc_station_model.specs.Stations.{Station}
use Rattle.drill_ends.specs.KeptStations.{StandsStation}
use Rattle.drill_ends.specs.StationEnds.{IsWithinReading}
use Rattle.drill_ends.proofs.station_end.StationEnd.receive.Given as goal

abbrev pub invariant-loop-rest : goal.invariant-loop-rest
invariant-loop-rest l =
    (selective : Bool) (s : Station) (stream : List ℕ) → StandsStation l.fn.self selective s stream
    → IsWithinReading selective l.now s stream l.octets l.rest l.self l.fn.told.items l.told.items

abbrev pub decreases-loop-rest : goal.decreases-loop-rest
decreases-loop-rest l = length l.rest
