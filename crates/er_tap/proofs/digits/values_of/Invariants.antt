-- The values so far.
use Rattle.std.proofs.Common.{◌≡◌, length, map, take}
use Rattle.er_tap.specs.Digits.{value_of_hexadecimal_digit}
use Rattle.er_tap.proofs.digits.values_of.Given as goal

abbrev pub invariant-digits : goal.invariant-digits
invariant-digits l = record {
  so_far : take l.place l.values ≡ map value_of_hexadecimal_digit (take l.place l.digits);
  long : length l.values ≡ 32;
}
