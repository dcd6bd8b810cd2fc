-- One octet more, and all.
use Rattle.std.proofs.Common.{◌+◌, ◌*◌, arith, ◌∙◌}
use Rattle.std.proofs.lemmas.List.{length-set}
use Rattle.er_tap.proofs.Values.{value_pair, octet_more, all_octets}
use Rattle.er_tap.proofs.digits.joined.Goals as goal

pub octets-preserved : goal.octets-preserved
octets-preserved c =
    let long = c.octets.invariant.long in
    let given = c.told-values in
    record {
      so_far = λ all.
          rw (value_pair _ _ (all (2 * c.octets.place) 0 (omega (arith, given))) (all (2 * c.octets.place + 1) 0 (omega (arith, given))))
          (octet_more c.args.values.now c.octets.octets c.octets.place (omega (arith, given)) (omega (arith, long)) (c.octets.invariant.so_far all));
      long = length-set c.octets.octets c.octets.place _ ∙ long;
    }

pub returns : goal.returns
returns c =
    let long = c.octets.invariant.long in
    let given = c.told-values in
    λ all. all_octets c.args.values.now c.octets.octets c.octets.place (omega (arith, given)) (omega (arith, long)) (c.octets.invariant.so_far all)
