-- What is left holds the first refused parameter of all and, where none was passed, the first TPDU size
-- of all, and ends as all does.
use Rattle.std.proofs.Common.{◌≡◌, false, length, None}
use Rattle.x224_tpdu.specs.Parameters.{parameters_in, first_refused, size_octet}
use Rattle.x224_tpdu.specs.Parts.{size_behind}
use Rattle.x224_tpdu.proofs.parameters.check_parameters.Given as goal

abbrev pub invariant-loop-code : goal.invariant-loop-code
invariant-loop-code l = record {
  refused : first_refused l.kind l.sized (parameters_in l.rest).0 ≡ first_refused l.kind false (parameters_in l.part).0;
  left_over : (parameters_in l.rest).1 ≡ (parameters_in l.part).1;
  unsized : l.sized ≡ false → l.size ≡ None;
  size_is : size_behind l.sized l.size (parameters_in l.rest).0 ≡ size_octet (parameters_in l.part).0;
}

abbrev pub decreases-loop-code : goal.decreases-loop-code
decreases-loop-code l = length l.rest
