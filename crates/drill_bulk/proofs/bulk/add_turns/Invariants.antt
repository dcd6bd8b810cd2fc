use Rattle.std.proofs.Common.{◌≡◌, ◌++◌, ◌+◌, ◌-◌}
use Rattle.drill_bulk.specs.Turns.{turns}
use Rattle.drill_bulk.specs.Draws.{words_drawn}
use Rattle.drill_bulk.proofs.bulk.add_turns.Given as goal

abbrev pub invariant-loop-index : goal.invariant-loop-index
invariant-loop-index g l =
    l.steps.items ++ turns l.index (words_drawn (l.count - l.index) (g.R.Rng.stream l.rng))
    ≡ l.fn.steps.items ++ turns 0 (words_drawn l.count (g.R.Rng.stream l.fn.rng))
