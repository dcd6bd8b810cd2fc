use Rattle.std.proofs.Common.{refl}
use Rattle.std.proofs.lemmas.Result.{IfOk-weaker}
use Rattle.er_base.specs.declared.side.Side.TheVariants.{E}
use Rattle.er_world.proofs.LinkRows.{place_at}
use Rattle.er_world.proofs.Opening.{opens_wired}
use Rattle.er_world.proofs.openings.wired.Goals as goal

pub returns : goal.returns
returns c =
    IfOk-weaker c.begun.result _ _
    (λ link does is now at.
    opens_wired c.args.plan.now.selective _ _ _ c.args.moment _ link c.args.plan.now.settings c.args.place c.args.place.show c.args.place.number
    c.args.out.now.items c.begun.new.out.items
    refl c.in_ok-e.ensures c.in-Ok.ensures c.new-keys.ensures (place_at c.args.place E is) does now at)
    c.begun.ensures
