use Rattle.std.proofs.Common.{arith, sym, List, ℕ, subst}
use Rattle.hdlc_bits.specs.Rooms.{IsFilledUp}
use Rattle.hdlc_bits.proofs.RoomLaws.{empty_filled}
use Rattle.hdlc_bits.proofs.room.BitRoom.with_capacity.Goals as goal

pub invariant_of-result : goal.invariant_of-result
invariant_of-result c = (subst (λ (os : List ℕ). IsFilledUp 0 os) (sym c.in_ok-octets.ensures.items) empty_filled, omega arith, omega (arith, c.div_ceil.ensures, c.in_ok-octets.ensures.capacity))
