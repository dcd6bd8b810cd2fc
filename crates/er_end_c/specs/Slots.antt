-- Contract: what a slot of a handle owns.
use base.Fml.{Fml, ftrue}
use denote.RattleType.{RattleType}
use denote.RawPtr.{Ptr}
use Rattle.std.specs.Prelude.{Option, Some, None}
use Rattle.std_alloc.specs.Box.Ownership.{box_owns}
use Rattle.libc.specs.Heap.{chunk}

-- nothing, or a value at the pointer and the right to free its block
abbrev pub slot_owns : (R : RattleType) → Ptr → Option R.Denot → Fml
slot_owns R p None = ftrue
slot_owns R p (Some x) = box_owns chunk R p x
