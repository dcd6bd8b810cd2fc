use Rattle.std.proofs.Common.{arith}
use Rattle.hdlc_frames.proofs.BufferLaws.{keep_more, keep_full}
use Rattle.hdlc_frames.proofs.buffer.keep.Goals as goal

pub returns-then-len-lt-CAPACITY-clause-content : goal.returns-then-len-lt-CAPACITY-clause-content
returns-then-len-lt-CAPACITY-clause-content c = keep_more c.args.octets.now c.args.len c.args.octet (omega arith) (omega arith)

pub returns-clause-content : goal.returns-clause-content
returns-clause-content c = keep_full c.args.octets.now c.args.len c.args.octet (omega arith) (omega arith)
