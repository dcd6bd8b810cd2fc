-- The octets so far, before those of the digits that are left, where all are digits.
use Rattle.std.proofs.Common.{◌≡◌, ◌%◌, ◌++◌, length}
use Rattle.er_tap.specs.Digits.{AreValues, AreDigits, octets_by}
use Rattle.er_tap.proofs.digits.octets_in.Given as goal

abbrev pub invariant-loop-block : goal.invariant-loop-block
invariant-loop-block l = record {
  digits : AreValues l.greatest → AreDigits l.rest → AreDigits l.digits;
  octets : AreValues l.greatest → l.octets.items ++ octets_by l.rest ≡ octets_by l.digits;
  even : length l.rest % 2 ≡ 0;
}

abbrev pub decreases-loop-block : goal.decreases-loop-block
decreases-loop-block l = length l.rest
