use Rattle.std.proofs.Common.{◌||◌, refl, sym, ap, ◌∙◌}
use Rattle.er_end.specs.KeptEnds.{KEnd}
use Rattle.er_end.specs.Given.{outcomes_in, used_by}
use Rattle.loop_session.specs.Giving.{event_given_to_session}
use Rattle.loop_session.proofs.Written.{counted_lines, gave_of, heard_as}
use Rattle.loop_session.proofs.session.Session.give_heard.Goals as goal

pub returns-clause-gave : goal.returns-clause-gave
returns-clause-gave g c = λ r same.
    gave_of r c.args.moment c.args.self.now _ (event_given_to_session c.args.event.now) _ (outcomes_in c.apply.result) _ _ c.conclude.result
    (sym c.self.view_is) (c.at_end.ensures.event (record r { keys = g.K.KeyFinder.entries c.args.keys.now }) ∙ same) refl
    (ap (λ z. c.self.inside.broken || z) c.breaks.ensures) (rw c.deref_mut.ensures.value at c.apply.follows.holds-at-none) (rw c.deref_mut.ensures.value at c.apply.ensures.told)
    (c.conclude.ensures.tells c.self.inside.end.value (c.apply.ensures.used ∙ ap (λ (e : KEnd). used_by e c.at_end.result) c.deref_mut.ensures.value ∙ c.at_end.ensures.used c.self.inside.end.value)) c.conclude.ensures.joins c.conclude.ensures.refused

pub returns-clause-heard : goal.returns-clause-heard
returns-clause-heard g c = λ r same.
    heard_as r c.args.moment c.args.self.now _ (event_given_to_session c.args.event.now) _ (outcomes_in c.apply.result) _ _
    (sym c.self.view_is) (c.at_end.ensures.event (record r { keys = g.K.KeyFinder.entries c.args.keys.now }) ∙ same) (rw c.deref_mut.ensures.value at c.apply.ensures.told) c.hear.ensures

pub returns-clause-counts : goal.returns-clause-counts
returns-clause-counts g c =
    counted_lines _ _ c.conclude.result
    (c.conclude.ensures.tells c.self.inside.end.value (c.apply.ensures.used ∙ ap (λ (e : KEnd). used_by e c.at_end.result) c.deref_mut.ensures.value ∙ c.at_end.ensures.used c.self.inside.end.value))
    (c.conclude.ensures.counts c.self.inside.end.value)
