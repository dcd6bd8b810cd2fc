-- Each turn goes through the ones of an octet, and through the 0 behind them where one stands there.
use Rattle.std.proofs.Common.{◌≡◌, ◌+◌, ◌-◌, arith, sym, ◌∙◌, None, Some}
use Rattle.hdlc_bits.specs.Judgements.{verdict_of}
use Rattle.hdlc_bits.specs.Keeping.{closing_verdict}
use Rattle.hdlc_bits.specs.Advancing.{Advances}
use Rattle.hdlc_bits.specs.Pieces.{bits_between}
use Rattle.hdlc_bits.specs.SegmentViews.{kept_in}
use Rattle.hdlc_bits.proofs.ScanningLaws.{Gives}
use Rattle.hdlc_bits.proofs.TurnLaws.{turn_ones, turn_zero, turn_gives, turn_ends, brings_none, brings_some}
use Rattle.hdlc_bits.proofs.segment.Segment.scan.Goals as goal

-- what the turn that brings a verdict gives
given : (c : goal.In-Some) → Gives (kept_in c.args.self.now) (bits_between c.args.octets.now c.args.first c.args.end) (c.loop-at.at + c.min-ones.result - c.args.first) (kept_in c.add_ones.new.self) (verdict_of c.end_ones.new.self.octets c.in-Some.judgement)
given c =
    let ones : Advances (kept_in c.args.self.now) (bits_between c.args.octets.now c.args.first c.args.end) (c.loop-at.at + c.min-ones.result - c.args.first) (kept_in c.add_ones.new.self) =
    rw (sym c.add_ones.ensures.kept) at (turn_ones (kept_in c.args.self.now) (kept_in c.loop-at.self) c.args.octets.now c.args.first c.loop-at.at c.args.end c.ones_from.result c.min-ones.result
    c.loop-at.invariant.behind c.loop-at-test.true c.requires.within c.loop-at.invariant.advances c.loop-at.self.few c.ones_from.ensures (omega arith) (omega arith)) in
    let some : Some (verdict_of c.end_ones.new.self.octets c.in-Some.judgement) ≡ closing_verdict (kept_in c.add_ones.new.self) = brings_some c.end_ones.new.self.octets c.end_ones.result (closing_verdict (kept_in c.add_ones.new.self)) c.in-Some.judgement c.end_ones.ensures.verdict c.in-Some.is in
    turn_gives (kept_in c.args.self.now) (kept_in c.add_ones.new.self) c.args.octets.now c.args.first c.loop-at.at c.args.end c.ones_from.result c.min-ones.result (verdict_of c.end_ones.new.self.octets c.in-Some.judgement)
    (omega arith) c.loop-at.invariant.behind c.loop-at-test.true c.requires.within ones c.ones_from.ensures (omega arith) (omega arith) some

pub returns-in-Some-clause-used : goal.returns-in-Some-clause-used
returns-in-Some-clause-used c = let more : c.loop-at.at + c.min-ones.result + 1 - c.args.first ≡ c.loop-at.at + c.min-ones.result - c.args.first + 1 = omega arith in more ∙ (given c).used

pub returns-in-Some-clause-kept : goal.returns-in-Some-clause-kept
returns-in-Some-clause-kept c = c.end_ones.ensures.kept ∙ (given c).kept

pub returns-in-Some-clause-verdict : goal.returns-in-Some-clause-verdict
returns-in-Some-clause-verdict c = (given c).verdict

pub loop-at-preserved-in_default : goal.loop-at-preserved-in_default
loop-at-preserved-in_default c =
    let ones : Advances (kept_in c.args.self.now) (bits_between c.args.octets.now c.args.first c.args.end) (c.loop-at.at + c.min-ones.result - c.args.first) (kept_in c.add_ones.new.self) =
    rw (sym c.add_ones.ensures.kept) at (turn_ones (kept_in c.args.self.now) (kept_in c.loop-at.self) c.args.octets.now c.args.first c.loop-at.at c.args.end c.ones_from.result c.min-ones.result
    c.loop-at.invariant.behind c.loop-at-test.true c.requires.within c.loop-at.invariant.advances c.loop-at.self.few c.ones_from.ensures (omega arith) (omega arith)) in
    let none : None ≡ closing_verdict (kept_in c.add_ones.new.self) = brings_none c.end_ones.new.self.octets c.end_ones.result (closing_verdict (kept_in c.add_ones.new.self)) c.end_ones.ensures.verdict c.in_default.not-Some in
    record {
      behind = omega arith;
      before = omega arith;
      advances = rw (sym c.end_ones.ensures.kept) at (turn_zero (kept_in c.args.self.now) (kept_in c.add_ones.new.self) c.args.octets.now c.args.first c.loop-at.at c.args.end c.ones_from.result c.min-ones.result
          (omega arith) c.loop-at.invariant.behind c.loop-at-test.true c.requires.within ones c.ones_from.ensures (omega arith) (omega arith) none);
    }

pub loop-at-preserved : goal.loop-at-preserved
loop-at-preserved c = record {
  behind = omega arith;
  before = omega arith;
  advances = rw (sym c.add_ones.ensures.kept) at (turn_ones (kept_in c.args.self.now) (kept_in c.loop-at.self) c.args.octets.now c.args.first c.loop-at.at c.args.end c.ones_from.result c.min-ones.result
      c.loop-at.invariant.behind c.loop-at-test.true c.requires.within c.loop-at.invariant.advances c.loop-at.self.few c.ones_from.ensures (omega arith) (omega arith));
}

pub returns-clause-used : goal.returns-clause-used
returns-clause-used c = (turn_ends (kept_in c.args.self.now) (kept_in c.loop-at.self) c.args.octets.now c.args.first c.loop-at.at c.args.end c.loop-at.invariant.behind c.loop-at.invariant.before c.loop-at-test.false c.requires.within c.loop-at.invariant.advances).used

pub returns-clause-kept : goal.returns-clause-kept
returns-clause-kept c = (turn_ends (kept_in c.args.self.now) (kept_in c.loop-at.self) c.args.octets.now c.args.first c.loop-at.at c.args.end c.loop-at.invariant.behind c.loop-at.invariant.before c.loop-at-test.false c.requires.within c.loop-at.invariant.advances).kept

pub returns-clause-verdict : goal.returns-clause-verdict
returns-clause-verdict c = (turn_ends (kept_in c.args.self.now) (kept_in c.loop-at.self) c.args.octets.now c.args.first c.loop-at.at c.args.end c.loop-at.invariant.behind c.loop-at.invariant.before c.loop-at-test.false c.requires.within c.loop-at.invariant.advances).verdict
