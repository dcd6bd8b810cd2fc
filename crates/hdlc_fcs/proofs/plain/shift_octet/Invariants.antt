use Rattle.std.proofs.Common.{◌≡◌, ◌-◌}
use Rattle.hdlc_fcs.specs.Register.{shifted}
use Rattle.hdlc_fcs.proofs.plain.shift_octet.Given as goal

abbrev pub invariant-loop-bit : goal.invariant-loop-bit
invariant-loop-bit l = shifted (8 - l._bit) l.register ≡ shifted 8 l.fn.register
