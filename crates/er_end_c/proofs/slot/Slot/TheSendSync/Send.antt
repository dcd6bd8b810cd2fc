-- A slot may go to another thread, as what it holds may.
use Rattle.std.specs.Prelude.{Option, Some, None}
use base.Fraction.{full_share}
use base.Shift.{Keyless}
use mir.Raw.{raw}
use denote.Memory.{lone}
use denote.RawPtr.{Ptr, block_ptr, null_ptr}
use denote.Struct.Struct.{exits_of}
use denote.Struct.Owning.{shape, fields, to}
use denote.Param.Send.{IsSend, AllSend, part_keyless, owning_send, struct_send, sendable}
use Rattle.libc.specs.Heap.{chunk-Keyless}
use Rattle.std_alloc.proofs.SendSync.{quiet}
use Rattle.er_end_c.specs.Slots.{slot_owns}
use Rattle.er_end_c.specs.contracts.held.Held.{the_row as Held}
use Rattle.er_end_c.proofs.held.Held.TheSendSync as held
use Rattle.er_end_c.specs.contracts.slot.Slot as slot

slot_keyless : (p : Ptr) (x : Option Held.Denot) → Keyless (slot_owns Held p x)
slot_keyless p None = tt
slot_keyless (block_ptr b o) (Some x) = (part_keyless Held held.the_send full_share x b o, chunk-Keyless (raw (lone Held.mir)) (block_ptr b o))
slot_keyless null_ptr (Some x) = (tt, chunk-Keyless (raw (lone Held.mir)) null_ptr)

pub send : IsSend slot.the_row
send =
    let O = slot.the_type in let all : AllSend (fields O) = (search sendable, tt) in
    owning_send O all (λ d. slot_keyless d.at d.held) (λ k. quiet (to O) (exits_of k (fields O)) ((struct_send (shape O) all).leaving k))
