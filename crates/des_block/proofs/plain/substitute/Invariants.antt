use Rattle.std.proofs.Common.{◌≡◌, ◌*◌, ◌^◌, ◌<◌, take}
use Rattle.bit_lists.specs.Bits.{bits}
use Rattle.des_block.specs.Boxes.{boxes}
use Rattle.des_block.specs.Des.{substituted}
use Rattle.des_block.proofs.plain.substitute.Given as goal

abbrev pub invariant-loop-j : goal.invariant-loop-j
invariant-loop-j l = record {
  value : bits (4 * l.j) l.out ≡ substituted (take l.j boxes) (bits 48 l.x);
  small : l.out < 2 ^ (4 * l.j);
}
