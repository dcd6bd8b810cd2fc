use Rattle.std.proofs.Common.{arith}
use Rattle.hdlc_bits.proofs.BufferLaws.{end_empty, end_aborted, end_judged}
use Rattle.hdlc_bits.proofs.segment.Segment.judged.Goals as goal

pub returns-then-self-eq0-clause-verdict : goal.returns-then-self-eq0-clause-verdict
returns-then-self-eq0-clause-verdict c = end_empty c.args.ones c.args.self.now.len c.args.self.now.last c.args.self.now.octets c.if-self-eq0.true

pub returns-then-ones-gt-FLAG_ONES-clause-verdict : goal.returns-then-ones-gt-FLAG_ONES-clause-verdict
returns-then-ones-gt-FLAG_ONES-clause-verdict c =
    end_aborted c.args.ones c.args.self.now.len c.args.self.now.last c.args.self.now.octets (omega arith) (omega arith) c.if-ones-gt-FLAG_ONES.true

pub returns-clause-verdict : goal.returns-clause-verdict
returns-clause-verdict c =
    end_judged c.args.ones c.args.self.now.len c.args.self.now.last c.args.self.now.octets _ (omega arith) (omega arith) c.if-ones-gt-FLAG_ONES.false c.judge.ensures.verdict
