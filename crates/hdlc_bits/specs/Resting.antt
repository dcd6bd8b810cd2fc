-- Contract: how the clause of `feed` speaks of what a deframer keeps once the frame that it lent is let go, as a statement on the loan.
use Rattle.std.specs.Prelude.{◌≡◌, ⊤}
use Rattle.std.specs.Borrow.{MutBor, Fml, follows_so}
use mathlib.Core.Option.{none}
use Rattle.hdlc_bits.specs.Keeping.{KeptBitDeframer}
use Rattle.hdlc_bits.specs.declared.deframer.BitDeframer.{BitDeframer}
use Rattle.hdlc_bits.specs.contracts.deframer.BitDeframer.{the_row}

-- once the frame is let go, the deframer keeps this
abbrev pub LeavesBitDeframerAs : MutBor BitDeframer → KeptBitDeframer → Fml
LeavesBitDeframerAs deframer kept = follows_so the_row the_row deframer.ghost_name none (λ _ _. ⊤) (λ v. v ≡ kept)
