-- The numbers so far, with those of the pairs that are left.
use Rattle.std.specs.Prelude.{◌≡◌, ◌+◌, ◌++◌, map}
use Rattle.std.specs.declared.ops.Bound.TheVariants.{Unbounded, Excluded}
use Rattle.std.specs.BTreeSet.{keys_between}
use Rattle.readiness_loop.specs.WakeTimes.{pair_cmp}
use Rattle.readiness_loop.proofs.wake_times.WakeTimes.due.Given as goal

abbrev pub invariant-loop-pair : goal.invariant-loop-pair
invariant-loop-pair l = l.out.items ++ map (λ p. p.1) l.pair-iterator ≡ map (λ p. p.1) (keys_between pair_cmp Unbounded (Excluded (l.fn.moment + 1, 0)) l.self.pairs)
