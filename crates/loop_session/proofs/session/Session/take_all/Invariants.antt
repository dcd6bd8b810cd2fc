use Rattle.std.proofs.Common.{◌≡◌}
use Rattle.loop_session.specs.Keeping.{kept_ends}
use Rattle.loop_model.specs.Sessions.{Rules, Takes, dealt}
use Rattle.loop_session.specs.Parts.{OnlyPrints, WentSome}
use Rattle.loop_session.proofs.session.Session.take_all.Given as goal

abbrev pub invariant-loop : goal.invariant-loop
invariant-loop g l = record {
  went : (r : Rules) → WentSome l.counter (g.O.Outside.told l.fn.outside) (g.O.Outside.told l.outside)
      (λ t free. dealt kept_ends r l.fn.moment t Takes free) l.fn.self l.self;
  number : l.self.number ≡ l.fn.self.number;
  only : OnlyPrints (g.O.Outside.told l.fn.outside) (g.O.Outside.told l.outside);
}
