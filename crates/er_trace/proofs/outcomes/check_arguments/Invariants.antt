-- The words so far are arguments of the kinds so far.
use Rattle.std.proofs.Common.{◌≡◌, map, drop}
use Rattle.er_trace.specs.Readings.{are_arguments}
use Rattle.er_trace.proofs.outcomes.check_arguments.Given as goal

abbrev pub invariant-loop-place : goal.invariant-loop-place
invariant-loop-place l =
    are_arguments (drop l.place l.kinds) (map (λ w. w.now) (drop l.place l.words)) ≡ are_arguments l.kinds (map (λ w. w.now) l.words)
