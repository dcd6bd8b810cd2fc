-- One value more, and all.
use Rattle.std.proofs.Common.{arith, ◌∙◌}
use Rattle.std.proofs.lemmas.List.{length-set}
use Rattle.er_tap.proofs.Values.{value_more, all_values}
use Rattle.er_tap.proofs.digits.values_of.Goals as goal

pub digits-preserved : goal.digits-preserved
digits-preserved c =
    let long = c.digits.invariant.long in
    let given = c.told-digits in
    record {
      so_far = value_more c.args.digits.now c.digits.values c.digits.place _ (omega (arith, given)) (omega (arith, long)) c.value_of.ensures c.digits.invariant.so_far;
      long = length-set c.digits.values c.digits.place _ ∙ long;
    }

pub returns : goal.returns
returns c =
    let long = c.digits.invariant.long in
    let given = c.told-digits in
    all_values c.args.digits.now c.digits.values c.digits.place (omega (arith, given)) (omega (arith, long)) c.digits.invariant.so_far
