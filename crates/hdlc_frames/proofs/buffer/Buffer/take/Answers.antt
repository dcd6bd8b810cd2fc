use Rattle.std.proofs.Common.{take}
use Rattle.hdlc_frames.proofs.ScanningLaws.{goes_before_of}
use Rattle.hdlc_frames.proofs.buffer.Buffer.take.Goals as goal

pub returns-then-not-self-clause-goes : goal.returns-then-not-self-clause-goes
returns-then-not-self-clause-goes c =
    goes_before_of c.args.self.now.begun c.args.self.now.escaping (take c.args.self.now.len c.args.self.now.octets) c.before_flag.result c.args.rest.now c.if-not-self.true c.before_flag.ensures.within
    c.before_flag.ensures.none
