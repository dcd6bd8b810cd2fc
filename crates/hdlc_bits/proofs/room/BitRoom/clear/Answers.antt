use Rattle.std.proofs.Common.{arith, sym, List, ℕ, subst}
use Rattle.hdlc_bits.specs.Rooms.{IsFilledUp}
use Rattle.hdlc_bits.proofs.RoomLaws.{empty_filled}
use Rattle.hdlc_bits.proofs.room.BitRoom.clear.Goals as goal

pub invariant_of-self : goal.invariant_of-self
invariant_of-self c = (subst (λ (os : List ℕ). IsFilledUp 0 os) (sym c.clear.ensures.items) empty_filled, omega arith, omega (arith, c.self.invariant.2, c.clear.ensures.capacity))
