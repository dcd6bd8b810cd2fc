use Rattle.std.proofs.Common.{◌≡◌, take}
use Rattle.bit_lists.specs.Bits.{bits}
use Rattle.cbc_mac.specs.Mac.{blocks, chained}
use Rattle.cbc_mac.proofs.chaining.chain.Given as goal

abbrev pub invariant-loop-block : goal.invariant-loop-block
invariant-loop-block l = l.value ≡ chained (bits 64 l.schedule.first) (take l.block-index (blocks l.text))
