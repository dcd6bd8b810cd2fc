use Rattle.std.proofs.Common.{sym, ap, option_map, ◌∙◌}
use Rattle.er_end.specs.KeptEnds.{KEnd}
use Rattle.loop_session.specs.Parts.{rules_of_session}
use Rattle.loop_session.proofs.Hearings.{lets_go}
use Rattle.loop_session.proofs.session.Session.part.Goals as goal

pub returns-in-Some-take-clause-parts : goal.returns-in-Some-take-clause-parts
returns-in-Some-take-clause-parts g c = λ entries.
    rw c.closing.ensures (lets_go (rules_of_session entries c.args.when.now.setup) c.args.when.now.moment _ c.args.self.now c.in-Some.why
    (g.U.SafeUser.mind c.in-Some-take.user) (g.U.SafeUser.mind c.released-in-Some-take.new.self) (g.U.SafeUser.mind c.of.result.user)
    (option_map g.U.SafeUser.mind c.take.new.self)
    (sym c.self.view_is) (c.in-Some.ensures ∙ ap (λ (e : KEnd). e.core.released) c.deref.ensures) (ap (option_map g.U.SafeUser.mind) c.in-Some-take.ensures.value) c.released-in-Some-take.ensures
    (ap g.U.SafeUser.mind c.of.ensures) (ap (option_map g.U.SafeUser.mind) c.in-Some-take.ensures.after))
