use Rattle.std.proofs.Common.{refl, ap}
use Rattle.std.proofs.lemmas.Result.{IfOk-weaker}
use Rattle.er_base.specs.declared.side.Side.TheVariants.{E}
use Rattle.er_world.proofs.LinkRows.{place_at}
use Rattle.er_world.proofs.Opening.{opens_called}
use Rattle.er_world.proofs.openings.called.Goals as goal

pub returns : goal.returns
returns c =
    IfOk-weaker c.begun.result _ _
    (λ link does is settings now at.
    opens_called c.keys.ensures c.args.engine c.args.rbc c.args.ke c.args.kr c.args.ra c.args.rb _ _ _ c.args.moment _ link settings c.args.place c.args.place.show c.args.place.number
    c.args.out.now.items c.begun.new.out.items
    refl (ap (λ k. k.safety) (rw c.new.ensures at c.initiator.ensures.made)) (ap (λ k. k.safety) c.responder.ensures.made) (rw c.kmac_of.ensures at c.new-2.ensures) (place_at c.args.place E is) does now at)
    c.begun.ensures
