use Rattle.std.proofs.Common.{◌≡◌, ◌≤◌, ◌-◌, length}
use Rattle.loop_session.specs.Parts.{rules_of_session, OnlyPrints, Pouring}
use Rattle.loop_session.proofs.session.Session.pour.Given as goal

abbrev pub invariant-loop-at : goal.invariant-loop-at
invariant-loop-at g l = record {
  pours : Pouring (rules_of_session (g.K.KeyFinder.entries l.fn.keys) l.fn.when.setup) l.fn.when.moment l.octets l.at
      (g.O.Outside.told l.fn.outside) (g.O.Outside.told l.outside) l.fn.self l.self;
  most : l.at ≤ length l.octets;
  number : l.self.number ≡ l.fn.self.number;
  only : OnlyPrints (g.O.Outside.told l.fn.outside) (g.O.Outside.told l.outside);
}

abbrev pub decreases-loop-at : goal.decreases-loop-at
decreases-loop-at g l = length l.octets - l.at
