-- The links so far are ticked.
use Rattle.std.specs.Prelude.{◌≡◌, ◌≤◌, ◌-◌, List}
use Rattle.drill_model.specs.Worlds.{World, Came}
use Rattle.er_world.specs.Standing.{StandsWorld}
use Rattle.er_world.specs.WorldSteps.{Ticking}
use Rattle.er_world.proofs.world.World.tick_links.Given as goal

abbrev pub invariant-loop-number : goal.invariant-loop-number
invariant-loop-number l =
    (l.number ≤ 65) × (l.self.plan ≡ l.fn.self.plan) × (l.self.spent ≡ l.fn.self.spent)
    × ((w : World) (came : List Came) → StandsWorld l.fn.self w came
    → Ticking l.moment w l.fn.self.plan.show came l.number l.self l.fn.out.items l.out.items)

abbrev pub decreases-loop-number : goal.decreases-loop-number
decreases-loop-number l = 65 - l.number
