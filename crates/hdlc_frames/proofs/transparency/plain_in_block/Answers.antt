use Rattle.std.proofs.Common.{refl}
use Rattle.std.proofs.lemmas.Simd.{zip2_splat, zip2_of_maps, length-chunk}
use lib.Lanes.{chunk}
use Rattle.hdlc_frames.proofs.BlockLaws.{block_within, block_plain}
use Rattle.hdlc_frames.proofs.transparency.plain_in_block.Goals as goal

pub returns : goal.returns
returns c =
    let d = c.args.octets.now in
    let v = chunk 0 16 d in
    let long = length-chunk 0 16 d c.requires in
    record {
      within = block_within d _ _ _ c.requires c.first_of.ensures (zip2_of_maps _ _ _ v (zip2_splat _ v 16 126 long) (zip2_splat _ v 16 125 long));
      none = block_plain d _ _ _ c.requires c.first_of.ensures (zip2_of_maps _ _ _ v (zip2_splat _ v 16 126 long) (zip2_splat _ v 16 125 long)) refl refl;
    }
