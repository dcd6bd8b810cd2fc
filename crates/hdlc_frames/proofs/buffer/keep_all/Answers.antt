use Rattle.hdlc_frames.proofs.BufferLaws.{keep_run}
use Rattle.hdlc_frames.proofs.buffer.keep_all.Goals as goal

pub returns-clause-content : goal.returns-clause-content
returns-clause-content c =
    keep_run c.args.octets.now c.copy_from_slice.new.self _ c.args.run.now c.args.len c.min-count.result c.requires c.told-octets c.min-count.ensures c.copy_from_slice.ensures.after
