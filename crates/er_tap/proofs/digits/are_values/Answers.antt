-- One value more, and all.
use Rattle.std.proofs.Common.{arith, ltb-true}
use Rattle.er_tap.proofs.Values.{greatest_more, all_small}
use Rattle.er_tap.proofs.digits.are_values.Goals as goal

pub values-preserved : goal.values-preserved
values-preserved c =
    let given = c.told-values in
    greatest_more c.args.values.now c.values.value-index c.values.greatest c.greater-greatest.result (omega (arith, given)) c.greater-greatest.ensures.one
    c.greater-greatest.ensures.other c.values.invariant

pub returns : goal.returns
returns c =
    let given = c.told-values in
    λ few. all_small c.args.values.now c.values.value-index c.values.greatest (omega (arith, given)) (ltb-true _ _ few) c.values.invariant
