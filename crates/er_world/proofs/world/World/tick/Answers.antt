use Rattle.std.proofs.Common.{◌≤◌, arith}
use Rattle.er_world.specs.Standing.{KeptWorld}
use Rattle.er_world.proofs.Ticks.{ticks_done_in}
use Rattle.er_world.proofs.world.World.tick.Goals as goal

pub returns-clause-does : goal.returns-clause-does
returns-clause-does c =
    let inside : KeptWorld = record {
      plan = record { level = c.self.inside.level; settings = c.self.inside.settings; show = c.self.inside.show };
      spent = c.self.inside.spent;
      links = c.self.inside.places.items;
      moment = c.self.inside.moment;
    } in
    let after : c.self.inside.moment ≤ c.args.moment = omega (arith, c.if-get.false, c.get.ensures.same, c.get-2.ensures.same) in
    ticks_done_in inside c.args.self.now c.tick_links.new.self c.args.moment c.args.out.now.items c.tick_links.new.out.items c.self.view_is after
    c.in_ok-tick_links.ensures.went
