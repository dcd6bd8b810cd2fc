-- The digits of the octets so far.
use Rattle.std.proofs.Common.{◌≡◌, ◌*◌, length, take}
use Rattle.hex.specs.Hex.{encode_lower}
use Rattle.er_base.proofs.digits.digits_of.Given as goal

abbrev pub invariant-octets : goal.invariant-octets
invariant-octets l = record {
  so_far : take (2 * l.place) l.digits ≡ encode_lower (take l.place l.octets);
  long : length l.digits ≡ 32;
}
