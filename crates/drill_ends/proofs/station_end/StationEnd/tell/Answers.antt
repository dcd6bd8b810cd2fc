use Rattle.std.proofs.lemmas.Result.{on_ok_weaker}
use Rattle.drill_model.specs.StationEnds.{station_start, frames_heard, station_send, station_release, station_tick}
use Rattle.hdlc_station_model.specs.Events.{news}
use Rattle.std.proofs.Common.{◌++◌}
use Rattle.drill_ends.proofs.StationRows.{went_so}
use Rattle.drill_ends.proofs.station_end.StationEnd.tell.Goals as goal

pub returns-in-Start : goal.returns-in-Start
returns-in-Start c =
    on_ok_weaker c.start.result
    (λ did selective s stream h. rw c.in-Start.is (went_so c.start.new.self selective stream c.args.told.now.items c.start.new.told.items (station_start c.args.now s) (did selective s stream h)))
    c.start.ensures

pub returns-in-Send : goal.returns-in-Send
returns-in-Send c =
    on_ok_weaker c.send.result
    (λ did selective s stream h. rw c.in-Send.is (went_so c.send.new.self selective stream c.args.told.now.items c.send.new.told.items (station_send c.args.now c.in-Send.payload.now s) (did selective s stream h)))
    c.send.ensures

pub returns-in-Release : goal.returns-in-Release
returns-in-Release c =
    on_ok_weaker c.release.result
    (λ did selective s stream h. rw c.in-Release.is (went_so c.release.new.self selective stream c.args.told.now.items c.release.new.told.items (station_release c.in-Release.sub s) (did selective s stream h)))
    c.release.ensures

pub returns-in-Tick : goal.returns-in-Tick
returns-in-Tick c =
    on_ok_weaker c.tick.result
    (λ did selective s stream h. rw c.in-Tick.is (went_so c.tick.new.self selective stream c.args.told.now.items c.tick.new.told.items (station_tick c.args.now s) (did selective s stream h)))
    c.tick.ensures

pub returns-in-Receive : goal.returns-in-Receive
returns-in-Receive c =
    on_ok_weaker c.receive.result
    (λ did selective s stream h. rw c.in-Receive.is
    (went_so c.receive.new.self selective (stream ++ c.in-Receive.octets.now) c.args.told.now.items c.receive.new.told.items (frames_heard selective c.args.now (news stream c.in-Receive.octets.now) s) (did selective s stream h)))
    c.receive.ensures
