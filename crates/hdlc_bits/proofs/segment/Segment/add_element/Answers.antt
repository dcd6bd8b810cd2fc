use Rattle.std.proofs.Common.{arith, ap, ◌∙◌, List, ℕ}
use Rattle.hdlc_bits.specs.Framing.{has_zero}
use Rattle.hdlc_bits.specs.Keeping.{added}
use Rattle.hdlc_bits.specs.Buffers.{buffer_bits}
use Rattle.bit_lists.specs.LowestFirst.{low_bits}
use Rattle.hdlc_bits.proofs.BufferLaws.{kept_element, full_stays}
use Rattle.hdlc_bits.proofs.segment.Segment.add_element.Goals as goal

pub returns-then-self-le-MOST_BITS : goal.returns-then-self-le-MOST_BITS
returns-then-self-le-MOST_BITS c =
    c.push.ensures
    ∙ ap (λ (bs : List ℕ). record { ones = c.args.self.now.ones; begun = c.args.self.now.begun; gap = has_zero c.args.ones; content = bs })
    (kept_element (buffer_bits c.args.self.now.len c.args.self.now.last c.args.self.now.octets) (low_bits c.element-bits.result.1 c.element-bits.result.0) (added c.args.self.now.gap c.args.ones) c.element-bits.ensures.bits)

pub returns-else-self-le-MOST_BITS : goal.returns-else-self-le-MOST_BITS
returns-else-self-le-MOST_BITS c =
    ap (λ (bs : List ℕ). record { ones = c.args.self.now.ones; begun = c.args.self.now.begun; gap = has_zero c.args.ones; content = bs })
    (full_stays c.args.self.now.len c.args.self.now.last c.args.self.now.octets (added c.args.self.now.gap c.args.ones) (omega arith) c.if-self-le-MOST_BITS.false)
