use Rattle.std.proofs.Common.{arith}
use Rattle.hdlc_bits.proofs.RoomLaws.{seen_length, seen_capacity}
use Rattle.hdlc_bits.proofs.room.BitRoom.free.Goals as goal

pub returns : goal.returns
returns c =
    let len = seen_length c.args.self.now c.self.inside.len c.self.inside.capacity c.self.inside.octets.items c.self.invariant.0 c.self.view_is in
    let capacity = seen_capacity c.args.self.now c.self.inside.len c.self.inside.capacity c.self.inside.octets.items c.self.view_is in
    omega (arith, c.self.invariant.1)
