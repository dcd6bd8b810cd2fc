use Rattle.std.proofs.Common.{◌∙◌}
use Rattle.loop_session.specs.Keeping.{kept_ends}
use Rattle.loop_model.specs.Visits.{visited}
use Rattle.loop_session.specs.Parts.{rules_of_session}
use Rattle.loop_io.specs.Seeing.{seen}
use Rattle.loop_io.specs.Visiting.{visit_of}
use Rattle.readiness_loop.specs.Books.{sessions}
use Rattle.readiness_loop.proofs.DueNumbers.{due_is, numbers_rise}
use Rattle.readiness_loop.proofs.Fills.{by_moments, due_does}
use Rattle.readiness_loop.proofs.book.Book.sweep.Goals as goal

pub returns-clause-does : goal.returns-clause-does
returns-clause-does g c =
    due_does
    (seen (g.O.Outside.told c.args.outside.now))
    (seen (g.O.Outside.told c.visit_all.new.outside))
    c.args.when.now.moment (visited kept_ends (rules_of_session (g.K.KeyFinder.entries c.args.keys.now) c.args.when.now.setup) c.args.when.now.moment (visit_of c.args.reason)) c.as_slice.result.now
    (sessions c.args.self.now.slots c.args.self.now.places) _ c.visit_all.result
    (by_moments (rules_of_session (g.K.KeyFinder.entries c.args.keys.now) c.args.when.now.setup) c.args.when.now.moment (visit_of c.args.reason) c.requires.timed)
    (numbers_rise (g.O.Outside.told c.args.outside.now).wires.opened c.args.self.now.slots c.args.self.now.places c.args.self.now.wake_times.pairs c.requires.order.seated c.requires.order.awaited)
    (c.as_slice.ensures.value ∙ due_is (g.O.Outside.told c.args.outside.now).wires.opened c.args.when.now.moment c.args.self.now.slots c.args.self.now.places c.args.self.now.wake_times.pairs _ c.requires.order.seated c.requires.order.awaited
    c.in_ok-due.ensures.ordered c.in_ok-due.ensures.same c.in_ok-due.ensures.sorted)
    c.visit_all.ensures.does
