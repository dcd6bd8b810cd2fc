use Rattle.hdlc_frames.proofs.BlockLaws.{kept_block}
use Rattle.hdlc_frames.proofs.buffer.keep_block.Goals as goal

pub returns : goal.returns
returns c n few =
    kept_block c.args.octets.now c.copy_from_slice.new.self _ c.args.block.now c.args.len n c.requires.fits c.told-octets c.requires.block few c.copy_from_slice.ensures.after
