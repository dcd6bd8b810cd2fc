-- What was written is the front of what waited.
use Rattle.std.proofs.Common.{◌≡◌, length}
use Rattle.application_loop.specs.Writing.{WritesFrom}
use Rattle.application_loop.proofs.link.Link.write_all.Given as goal

abbrev pub invariant-loop-outside : goal.invariant-loop-outside
invariant-loop-outside g l = record {
  writes : WritesFrom l.fn.self.number (g.O.Outside.told l.fn.outside) (g.O.Outside.told l.outside) l.fn.self.output.items l.self.output.items;
  number : l.self.number ≡ l.fn.self.number;
  end : l.self.end.value ≡ l.fn.self.end.value;
  peer : l.self.peer ≡ l.fn.self.peer;
}

abbrev pub decreases-loop-outside : goal.decreases-loop-outside
decreases-loop-outside g l = length l.self.output.items
