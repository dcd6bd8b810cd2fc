-- The closing lines that are left come behind those of the links so far.
use Rattle.std.specs.Prelude.{◌≡◌, ◌≤◌, ◌-◌, ◌++◌}
use Rattle.er_world.specs.WorldSteps.{closing_lines}
use Rattle.er_world.proofs.world.World.close.Given as goal

abbrev pub invariant-loop-number : goal.invariant-loop-number
invariant-loop-number l =
    (l.number ≤ 65) × (l.text.items ++ closing_lines l.self l.number (65 - l.number) ≡ l.fn.text.items ++ closing_lines l.self 1 64)

abbrev pub decreases-loop-number : goal.decreases-loop-number
decreases-loop-number l = 65 - l.number
