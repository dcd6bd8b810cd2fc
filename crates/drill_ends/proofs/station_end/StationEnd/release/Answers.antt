use Rattle.std.proofs.Common.{sym, ◌∙◌}
use Rattle.drill_ends.proofs.StationRows.{quits_so}
use Rattle.drill_ends.proofs.station_end.StationEnd.release.Goals as goal

pub returns : goal.returns
returns c =
    quits_so c.args.self.now c.quit.new.self c.args.sub c.in_ok-release.release c.args.told.now.items c.quit.new.told.items (sym c.is_some.ensures ∙ c.if-is_some.false)
    c.in_ok-release.ensures
