-- So far octets are held.
use Rattle.std.proofs.Common.{◌≡◌, true, []}
use Rattle.relay_carrier.specs.Cutting.{is_holding}
use Rattle.relay_carrier.proofs.Turns.{HeldSoFar}
use Rattle.relay_carrier.proofs.cutter.Cutter.take_held.Given as goal

abbrev pub invariant-loop-place : goal.invariant-loop-place
invariant-loop-place l = record {
  so_far : HeldSoFar l.fn.self l.octets l.place l.self;
  holds : is_holding l.self ≡ true;
  room : l.came.capacity ≡ 4096;
  empty : l.came.items ≡ [];
}
