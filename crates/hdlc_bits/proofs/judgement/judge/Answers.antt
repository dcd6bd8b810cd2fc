use Rattle.std.proofs.Common.{arith}
use Rattle.hdlc_bits.proofs.BufferLaws.{judged_long, judged_ragged, judged_short, judged_frame, judged_bad}
use Rattle.hdlc_bits.proofs.judgement.judge.Goals as goal

pub returns-then-len-gt-MOST_BITS-clause-verdict : goal.returns-then-len-gt-MOST_BITS-clause-verdict
returns-then-len-gt-MOST_BITS-clause-verdict c = judged_long c.args.len c.args.last c.args.octets.now c.requires.fits (omega arith)

pub returns-then-len-gt0-clause-verdict : goal.returns-then-len-gt0-clause-verdict
returns-then-len-gt0-clause-verdict c = judged_ragged c.args.len c.args.last c.args.octets.now c.requires.fits (omega arith) (omega arith)

pub returns-then-len-lt-LEAST_BITS-clause-verdict : goal.returns-then-len-lt-LEAST_BITS-clause-verdict
returns-then-len-lt-LEAST_BITS-clause-verdict c = judged_short c.args.len c.args.last c.args.octets.now c.requires.fits (omega arith) (omega arith)

pub returns-then-is_intact-clause-verdict : goal.returns-then-is_intact-clause-verdict
returns-then-is_intact-clause-verdict c =
    judged_frame c.args.len c.args.last c.args.octets.now c.requires.fits (λ i. (c.type_inv.octets i).fits) c.if-len-gt-MOST_BITS.false c.if-len-gt0.false c.if-len-lt-LEAST_BITS.false (c.is_intact.ensures.0 c.if-is_intact.true)

pub returns-else-is_intact-clause-verdict : goal.returns-else-is_intact-clause-verdict
returns-else-is_intact-clause-verdict c =
    judged_bad c.args.len c.args.last c.args.octets.now c.requires.fits (λ i. (c.type_inv.octets i).fits) c.if-len-gt-MOST_BITS.false c.if-len-gt0.false c.if-len-lt-LEAST_BITS.false
    (λ h. let t = c.is_intact.ensures.1 h in let f = c.if-is_intact.false in cc)
