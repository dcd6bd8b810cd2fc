use Rattle.std.proofs.Common.{ap, ◌∙◌}
use Rattle.hdlc_fcs.specs.FrameCheck.{sent_bits}
use Rattle.hdlc_bits.proofs.RoomLaws.{seen_filled}
use Rattle.hdlc_bits.proofs.room.BitRoom.octets.Goals as goal

pub returns : goal.returns
returns c = ap sent_bits c.as_slice.ensures.value ∙ seen_filled c.args.self.now c.self.inside.len c.self.inside.capacity c.self.inside.octets.items c.self.invariant.0 c.self.view_is
