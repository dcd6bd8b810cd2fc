-- The level stays.
use Rattle.std.specs.Prelude.{◌≡◌}
use Rattle.er_scenario.specs.declared.level.Level.TheVariants as level
use Rattle.test_program.proofs.worlds.printed_of_wire.Given as goal

abbrev pub invariant-loop-made : goal.invariant-loop-made
invariant-loop-made l = l.world.plan.level ≡ level.Link
