use Rattle.std.proofs.Common.{arith, ap, List, ℕ, take}
use Rattle.hdlc_bits.proofs.BufferLaws.{pushed_bits, pushed_narrow}
use Rattle.hdlc_bits.proofs.segment.Segment.push.Goals as goal

pub invariant_of-self-clause-narrow : goal.invariant_of-self-clause-narrow
invariant_of-self-clause-narrow c = pushed_narrow c.args.self.now.len c.args.self.now.last c.args.bits c.args.count c.requires.few c.requires.narrow c.args.self.now.narrow

pub returns : goal.returns
returns c =
    ap (λ (bs : List ℕ). record { ones = c.args.self.now.ones; begun = c.args.self.now.begun; gap = c.args.self.now.gap; content = take 8257 bs })
    (pushed_bits c.args.self.now.len c.args.self.now.last c.args.bits c.args.count c.args.self.now.octets (omega arith) c.requires.few c.requires.narrow c.args.self.now.narrow)
