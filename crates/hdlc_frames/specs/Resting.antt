-- Contract: how the clause of `feed` speaks of what a deframer keeps once the frame that it lent is let go, as a statement on the loan.
use Rattle.std.specs.Prelude.{◌≡◌, ⊤}
use Rattle.std.specs.Borrow.{MutBor, Fml, follows_so}
use mathlib.Core.Option.{none}
use Rattle.hdlc_frames.specs.Deframing.{KeptDeframer}
use Rattle.hdlc_frames.specs.declared.deframer.Deframer.{Deframer}
use Rattle.hdlc_frames.specs.contracts.deframer.Deframer.{the_row}

-- once the frame is let go, the deframer keeps this
abbrev pub LeavesDeframerAs : MutBor Deframer → KeptDeframer → Fml
LeavesDeframerAs deframer kept = follows_so the_row the_row deframer.ghost_name none (λ _ _. ⊤) (λ v. v ≡ kept)
