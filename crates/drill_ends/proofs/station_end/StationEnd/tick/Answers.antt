use Rattle.drill_ends.proofs.StationRows.{ticks_so}
use Rattle.drill_ends.proofs.station_end.StationEnd.tick.Goals as goal

pub returns : goal.returns
returns c =
    ticks_so c.releases_are_told.ensures.calls c.releases_are_told.ensures.finish c.args.self.now c.tick.new.self c.in_ok-released.released c.newer-self.result
    c.args.now c.args.told.now.items c.tick.new.told.items c.in_ok-released.ensures c.newer-self.ensures
