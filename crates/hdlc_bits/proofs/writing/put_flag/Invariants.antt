use Rattle.std.proofs.Common.{take}
use Rattle.hdlc_bits.specs.Rooms.{AppendsBits}
use Rattle.hdlc_bits.specs.Stuffing.{flag_bits}
use Rattle.hdlc_bits.proofs.writing.put_flag.Given as goal

abbrev pub invariant-loop-place : goal.invariant-loop-place
invariant-loop-place l = AppendsBits l.fn.out l.out (take l.place flag_bits)
