-- What the lines so far made of the unit.
use Rattle.std.proofs.Common.{◌++◌, ◌∷◌, [], ℕ, List}
use Rattle.relay_carrier.specs.Counting.{CountsUnits}
use Rattle.relay_carrier.proofs.SoFar.{LoadSoFar}
use Rattle.relay_carrier.proofs.naming.load_of.Given as goal

abbrev pub invariant-loop-line : goal.invariant-loop-line
invariant-loop-line l =
    (before : List (List ℕ)) → CountsUnits l.counts (before ++ l.unit ∷ []) → LoadSoFar l.script.lines l.side before l.unit l.line-index l.load
