use Rattle.std.proofs.Common.{◌≡◌, ◌^◌, ◌<◌, take}
use Rattle.bit_lists.specs.Bits.{bits, pick}
use Rattle.des_block.proofs.plain.select.Given as goal

abbrev pub invariant-loop-place : goal.invariant-loop-place
invariant-loop-place l = record {
  value : bits l.place-index l.out ≡ pick (take l.place-index l.table) (bits l.width l.x);
  small : l.out < 2 ^ l.place-index;
}
