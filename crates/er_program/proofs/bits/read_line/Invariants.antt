-- The bits up to a place were read; what is left is the lines of the verdicts behind it, and the last line.
use Rattle.std.proofs.Common.{◌-◌}
use Rattle.er_program.specs.BitScripts.{ReadAt}
use Rattle.er_program.proofs.bits.read_line.Given as goal

abbrev pub invariant-loop-at : goal.invariant-loop-at
invariant-loop-at g l = ReadAt l.octets l.at l.frames l.deframer (g.O.Outside.told l.fn.outside) (g.O.Outside.told l.outside)

abbrev pub decreases-loop-at : goal.decreases-loop-at
decreases-loop-at g l = l.bits - l.at
