-- Two digits more, and all.
use Rattle.std.proofs.Common.{ℕ, List, ◌+◌, ◌*◌, arith, refl, ap, ◌∙◌, slice_index_or}
use Rattle.std.proofs.lemmas.List.{length-set}
use Rattle.er_base.proofs.HexDigits.{no_digits, pair_more}
use Rattle.er_base.proofs.digits.digits_of.Goals as goal

pub octets-init : goal.octets-init
octets-init c = record { so_far = no_digits; long = refl }

pub octets-preserved : goal.octets-preserved
octets-preserved c =
    let long = c.octets.invariant.long in
    let given = c.told-octets in
    record {
      so_far = pair_more c.octets.digits c.args.octets.now c.octets.place _ _ (omega (arith, long)) (omega (arith, given))
          (ap (λ (l : List ℕ). slice_index_or l 0 0) c.pair_of.ensures) (ap (λ (l : List ℕ). slice_index_or l 1 0) c.pair_of.ensures) c.octets.invariant.so_far;
      long = length-set _ (2 * c.octets.place + 1) _ ∙ length-set c.octets.digits (2 * c.octets.place) _ ∙ long;
    }
