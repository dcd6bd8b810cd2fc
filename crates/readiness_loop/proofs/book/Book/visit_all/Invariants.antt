-- So many sessions were visited.
use Rattle.loop_session.specs.Keeping.{kept_ends}
use Rattle.loop_model.specs.Visits.{visited}
use Rattle.loop_session.specs.Parts.{rules_of_session}
use Rattle.loop_io.specs.Seeing.{seen}
use Rattle.loop_io.specs.Visiting.{visit_of, Keep}
use Rattle.readiness_loop.specs.Books.{AreSeated, AreAwaited, sessions}
use Rattle.readiness_loop.proofs.Sweeps.{SweptSome}
use Rattle.readiness_loop.proofs.book.Book.visit_all.Given as goal

abbrev pub invariant-loop-number : goal.invariant-loop-number
invariant-loop-number g l = record {
  swept : SweptSome (seen (g.O.Outside.told l.fn.outside))
      (seen (g.O.Outside.told l.outside))
      (visited kept_ends (rules_of_session (g.K.KeyFinder.entries l.keys) l.when.setup) l.when.moment (visit_of l.reason)) l.sequence l.number-index
      (sessions l.fn.self.slots l.fn.self.places) (sessions l.self.slots l.self.places);
  seated : AreSeated (g.O.Outside.told l.outside).wires.opened l.self.slots l.self.places.entries;
  awaited : AreAwaited l.self.slots l.self.places l.self.wake_times.pairs;
  keep : Keep (g.O.Outside.told l.fn.outside) (g.O.Outside.told l.outside);
}
