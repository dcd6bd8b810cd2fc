use Rattle.std.proofs.Common.{◌≤◌, refl, subst}
use Rattle.std.proofs.lemmas.Result.{IfOk-weaker}
use Rattle.er_base.specs.declared.side.Side.TheVariants.{E}
use Rattle.er_settings.specs.Ranges.{AllAllowed}
use Rattle.er_end_model.specs.Ends.{Call, Answer}
use Rattle.er_world.proofs.LinkRows.{place_at}
use Rattle.er_world.proofs.Opening.{stack_stands, opens_stacked}
use Rattle.er_world.proofs.openings.stacked.Goals as goal

pub returns : goal.returns
returns c =
    let allowed : AllAllowed c.args.settings.now = subst AllAllowed c.settings.view_is c.settings.invariant in
    let within : c.args.moment ≤ 1000000000000000 = rw c.get-within.ensures.same at c.get-within.ensures.within in
    IfOk-weaker c.begun.result _ _
    (λ link does is now at.
    opens_stacked c.keys.ensures c.args.engine c.args.rbc c.args.ke c.args.kr c.args.ra c.args.rb _ _ _ c.args.moment _ link c.args.settings.now c.args.place c.args.place.show c.args.place.number
    c.args.out.now.items c.begun.new.out.items
    refl
    (stack_stands c.standing.ensures.made c.stacks_report.ensures.opens (Call c.args.settings.now c.args.engine c.args.rbc c.args.ke c.args.rb c.args.moment) allowed within c.in_ok-e.e (rw c.new.ensures at c.in_ok-e.ensures))
    (stack_stands c.standing.ensures.made c.stacks_report.ensures.opens (Answer c.args.settings.now c.args.rbc c.args.ra c.args.moment) allowed within c.in-Ok.r c.in-Ok.ensures)
    (rw c.kmac_of.ensures at c.new-2.ensures) (place_at c.args.place E is) does now at)
    c.begun.ensures
