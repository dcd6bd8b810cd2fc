-- One line more, and all.
use Rattle.std.proofs.Common.{arith, ◌<◌, ◌≤◌, length}
use Rattle.relay_carrier.proofs.SoFar.{one_applied, all_applied, ranged_is}
use Rattle.relay_carrier.proofs.naming.load_of.Goals as goal

pub apply-requires-clause-range : goal.apply-requires-clause-range
apply-requires-clause-range c =
    ranged_is c.as_slice-line-items.result.now c.loop-line.line-index c.line-item.result (rw c.as_slice-line-items.ensures c.requires.range.lines)
    (omega arith) c.line-item.is

pub loop-line-preserved : goal.loop-line-preserved
loop-line-preserved c = λ before units.
    let inside : c.loop-line.line-index < length c.as_slice-line-items.result.now = omega arith in
    one_applied c.args.script.now.lines c.args.side before c.args.unit.now c.loop-line.line-index c.line-item.result c.loop-line.load _
    (rw c.as_slice-line-items.ensures at inside) (rw c.as_slice-line-items.ensures at c.line-item.is) (c.loop-line.invariant before units)
    (c.in_ok-apply.ensures before units)

pub returns : goal.returns
returns c = λ before units.
    let end : length c.as_slice-line-items.result.now ≤ c.loop-line.line-index = omega arith in
    all_applied c.args.script.now.lines c.args.side before c.args.unit.now c.loop-line.line-index c.loop-line.load
    (rw c.as_slice-line-items.ensures at end) (c.loop-line.invariant before units)
