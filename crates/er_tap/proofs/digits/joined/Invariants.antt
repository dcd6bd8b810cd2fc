-- The octets so far, before those of what is left.
use Rattle.std.proofs.Common.{◌≡◌, ◌*◌, ◌++◌, length, take, drop}
use Rattle.er_tap.specs.Digits.{octets_of_digit_pairs, AreValues}
use Rattle.er_tap.proofs.digits.joined.Given as goal

abbrev pub invariant-octets : goal.invariant-octets
invariant-octets l = record {
  so_far : AreValues l.values → take l.place l.octets ++ octets_of_digit_pairs (drop (2 * l.place) l.values) ≡ octets_of_digit_pairs l.values;
  long : length l.octets ≡ 16;
}
