use Rattle.std.proofs.Common.{◌≡◌, take}
use Rattle.std.specs.Prelude.{fold, bit_xor}
use Rattle.bench_c.specs.MacPieces.{macs}
use Rattle.bench_c.proofs.macs.bench_c_macs.Given as goal

abbrev pub invariant-loop-i : goal.invariant-loop-i
invariant-loop-i l = l.all ≡ fold bit_xor 0 (take l.i (macs l.key l.size l.texts))
