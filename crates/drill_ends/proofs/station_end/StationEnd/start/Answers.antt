use Rattle.std.proofs.lemmas.Result.{on_ok_weaker}
use Rattle.drill_ends.proofs.StationRows.{starts_so}
use Rattle.drill_ends.proofs.station_end.StationEnd.start.Goals as goal

pub returns : goal.returns
returns c =
    on_ok_weaker c.start.result
    (starts_so c.releases_are_told.ensures.calls c.releases_are_told.ensures.finish c.args.self.now c.start.new.self c.args.now c.args.told.now.items c.start.new.told.items)
    c.start.ensures
