use Rattle.std.proofs.Common.{◌≡◌, drop}
use Rattle.hdlc_fcs.specs.Register.{register_after}
use Rattle.hdlc_fcs.proofs.sequence.shift_one_by_one.Given as goal

abbrev pub invariant-loop-octet : goal.invariant-loop-octet
invariant-loop-octet l = register_after l.register (drop l.octet-index l.octets) ≡ register_after l.fn.register l.octets
