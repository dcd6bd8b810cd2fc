use Rattle.hdlc_frames.proofs.StreamOfLaws.{buffer_is_kept}
use Rattle.hdlc_frames.proofs.buffer.Buffer.scan.Goals as goal

pub returns-in-Some-clause-stands : goal.returns-in-Some-clause-stands
returns-in-Some-clause-stands c =
    buffer_is_kept c.args.self.now.begun c.args.self.now.escaping c.args.self.now.len c.args.self.now.octets c.args.self.now.fits c.args.self.now.fresh

pub returns-clause-stands : goal.returns-clause-stands
returns-clause-stands c =
    buffer_is_kept c.args.self.now.begun c.args.self.now.escaping c.args.self.now.len c.args.self.now.octets c.args.self.now.fits c.args.self.now.fresh
