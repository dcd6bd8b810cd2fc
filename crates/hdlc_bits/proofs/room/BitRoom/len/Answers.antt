use Rattle.std.proofs.Common.{sym}
use Rattle.hdlc_bits.proofs.RoomLaws.{seen_length}
use Rattle.hdlc_bits.proofs.room.BitRoom.len.Goals as goal

pub returns : goal.returns
returns c = sym (seen_length c.args.self.now c.self.inside.len c.self.inside.capacity c.self.inside.octets.items c.self.invariant.0 c.self.view_is)
