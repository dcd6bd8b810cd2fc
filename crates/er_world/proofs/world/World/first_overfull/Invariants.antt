-- None of the links so far is overfull.
use Rattle.std.specs.Prelude.{◌≡◌, ◌≤◌, ◌-◌}
use Rattle.er_world.specs.WorldSteps.{overfull_from}
use Rattle.er_world.proofs.world.World.first_overfull.Given as goal

abbrev pub invariant-loop-number : goal.invariant-loop-number
invariant-loop-number l = (l.number ≤ 65) × (overfull_from l.self 1 64 ≡ overfull_from l.self l.number (65 - l.number))

abbrev pub decreases-loop-number : goal.decreases-loop-number
decreases-loop-number l = 65 - l.number
