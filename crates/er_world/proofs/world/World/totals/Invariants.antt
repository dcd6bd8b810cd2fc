-- The counts of the links that are left come to those of the links so far.
use Rattle.std.specs.Prelude.{◌≡◌, ◌≤◌, ◌-◌}
use Rattle.er_world.specs.Counts.{no_totals}
use Rattle.er_world.specs.WorldSteps.{summed}
use Rattle.er_world.proofs.world.World.totals.Given as goal

abbrev pub invariant-loop-number : goal.invariant-loop-number
invariant-loop-number l = (l.number ≤ 65) × (summed l.self l.number (65 - l.number) l.totals ≡ summed l.self 1 64 no_totals)

abbrev pub decreases-loop-number : goal.decreases-loop-number
decreases-loop-number l = 65 - l.number
