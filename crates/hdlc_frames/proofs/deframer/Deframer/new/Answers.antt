use Rattle.std.proofs.Common.{◌∙◌, sym}
use Rattle.hdlc_frames.proofs.DeframingLaws.{kept_of-nothing}
use Rattle.hdlc_frames.proofs.deframer.Deframer.new.Goals as goal

pub returns : goal.returns
returns c = c.new.ensures ∙ sym kept_of-nothing
