-- What is left of a block of zeros are zeros.
use Rattle.std.proofs.Common.{ℕ, List, ap, ◌++◌, length}
use Rattle.std.proofs.lemmas.List.{drop-replicate}
use Rattle.er_tap.proofs.digits.filled.Goals as goal

pub returns : goal.returns
returns c = rw c.copy_from_slice.ensures.after (ap (λ (l : List ℕ). c.args.digits.now ++ l) (drop-replicate (length c.args.digits.now) 32 48))
