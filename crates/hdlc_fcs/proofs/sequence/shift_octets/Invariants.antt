use Rattle.std.proofs.Common.{◌≡◌, length}
use Rattle.hdlc_fcs.specs.Register.{register_after}
use Rattle.hdlc_fcs.proofs.sequence.shift_octets.Given as goal

abbrev pub invariant-loop-eight : goal.invariant-loop-eight
invariant-loop-eight l = register_after l.register l.rest ≡ register_after l.fn.register l.octets

abbrev pub decreases-loop-eight : goal.decreases-loop-eight
decreases-loop-eight l = length l.rest
