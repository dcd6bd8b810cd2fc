use Rattle.hdlc_frames.proofs.ScanningLaws.{flag_comes_later}
use Rattle.hdlc_frames.proofs.buffer.Buffer.take_content.Goals as goal

pub returns-then-octet-eq-FLAG-clause-moves : goal.returns-then-octet-eq-FLAG-clause-moves
returns-then-octet-eq-FLAG-clause-moves c = flag_comes_later c.args.rest.now _ c.requires.no_flag c.if-octet-eq-FLAG.true
