-- None so far is above the greatest.
use Rattle.std.proofs.Common.{◌≤◌, take}
use Rattle.std.specs.List.{All}
use Rattle.er_tap.proofs.digits.are_values.Given as goal

abbrev pub invariant-values : goal.invariant-values
invariant-values l = All (λ value. value ≤ l.greatest) (take l.value-index l.values)
