use Rattle.std.proofs.lemmas.Result.{on_ok_weaker}
use Rattle.drill_ends.proofs.StationRows.{sends_so, length_refused}
use Rattle.drill_ends.proofs.station_end.StationEnd.send.Goals as goal

pub returns : goal.returns
returns c =
    on_ok_weaker c.hand.result
    (sends_so c.releases_are_told.ensures.calls c.releases_are_told.ensures.finish c.others_keep.ensures.hands c.args.self.now c.hand.new.self c.args.now c.args.payload.now
    c.args.told.now.items c.hand.new.told.items c.in_default.is)
    (rw c.in-Some-of.ensures at c.hand.ensures)

pub returns-in_default-of : goal.returns-in_default-of
returns-in_default-of c =
    length_refused c.args.self.now c.args.now c.args.payload.now c.args.told.now.items c.push_back-in_default-of.new.self.items c.in_default.is
    c.in_default-of.ensures c.in_ok-push_back-2.ensures.items
