use Rattle.std.proofs.Common.{ap, arith}
use Rattle.hdlc_station.specs.Kept.{KeptStation}
use Rattle.hdlc_station.proofs.Saying.{few_frames, frames_within}
use Rattle.hdlc_station.proofs.station_core.StationCore.bounds.Goals as goal

pub returns-clause-frames : goal.returns-clause-frames
returns-clause-frames c = few_frames c.args.self.now

pub returns-clause-few : goal.returns-clause-few
returns-clause-few c = λ reply.
    let window = ap (λ (k : KeptStation). k.window) c.self.view_is in
    let ahead = ap (λ (k : KeptStation). k.ahead) c.self.view_is in
    frames_within c.args.self.now reply (omega (arith, c.self.invariant.some_window)) (omega (arith, c.self.invariant.near))
