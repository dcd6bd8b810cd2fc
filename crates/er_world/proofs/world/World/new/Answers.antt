use Rattle.std.proofs.Common.{refl, false}
use Rattle.er_world.proofs.WorldEnds.{ran_new}
use Rattle.er_world.proofs.world.World.new.Goals as goal

pub returns-clause-ran : goal.returns-clause-ran
returns-clause-ran c =
    ran_new (record { plan = record { level = c.args.level; settings = c.args.settings; show = c.args.show }; spent = false; links = c.loop-place.places.items; moment = c.new.result })
    (record { level = c.args.level; settings = c.args.settings; show = c.args.show }) c.loop-place._place refl c.loop-place.invariant c.new.ensures
