-- The digits so far, before those of the octets that are left.
use Rattle.std.proofs.Common.{◌≡◌, ◌++◌, length}
use Rattle.hex.specs.Hex.{encode_lower}
use Rattle.er_base.specs.Printing.{Begins}
use Rattle.er_base.proofs.digits.put_digits.Given as goal

abbrev pub invariant-loop-block : goal.invariant-loop-block
invariant-loop-block l = record {
  said : l.out.items ++ encode_lower l.rest ≡ l.fn.out.items ++ encode_lower l.octets;
  begins : Begins l.fn.out.items l.out.items;
}

abbrev pub decreases-loop-block : goal.decreases-loop-block
decreases-loop-block l = length l.rest
