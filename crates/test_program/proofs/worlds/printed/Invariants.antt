-- The level stays.
use Rattle.std.specs.Prelude.{◌≡◌}
use Rattle.er_scenario.specs.declared.level.Level.TheVariants as level
use Rattle.test_program.proofs.worlds.printed.Given as goal

abbrev pub invariant-loop-link : goal.invariant-loop-link
invariant-loop-link l = l.world.plan.level ≡ level.Safe
