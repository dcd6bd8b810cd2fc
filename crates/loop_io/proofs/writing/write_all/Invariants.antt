use Rattle.std.proofs.Common.{◌≡◌, length}
use Rattle.loop_io.specs.Visiting.{Keep}
use Rattle.loop_io.specs.Writing.{WroteSome}
use Rattle.loop_io.proofs.writing.write_all.Given as goal

abbrev pub invariant-loop-outside : goal.invariant-loop-outside
invariant-loop-outside g l = record {
  wrote : WroteSome (g.O.Outside.told l.fn.outside) (g.O.Outside.told l.outside) l.fn.session l.session;
  number : l.session.number ≡ l.fn.session.number;
  keep : Keep (g.O.Outside.told l.fn.outside) (g.O.Outside.told l.outside);
}

abbrev pub decreases-loop-outside : goal.decreases-loop-outside
decreases-loop-outside g l = length l.session.output
