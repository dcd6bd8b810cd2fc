-- One more that is due.
use Rattle.std.proofs.Common.{ap, ◌∙◌}
use Rattle.relay_loop.specs.declared.way.Way.{Way}
use Rattle.relay_loop.proofs.WayPrints.{prints_none, prints_seen, prints_then}
use Rattle.relay_loop.proofs.way.Way.print_due.Goals as goal

pub returns-then-self-clause-prints : goal.returns-then-self-clause-prints
returns-then-self-clause-prints c = prints_none c.args.at c.args.self.now c.args.lines.now.items

pub loop-at-init : goal.loop-at-init
loop-at-init c = record {
  alive = ap (λ (w : Way). w.lost) c.see.ensures.new ∙ c.if-self.false;
  prints = prints_seen c.args.at c.args.self.now c.see.new.self c.see.new.self _ _ c.see.ensures.later c.see.ensures.new
      (prints_none c.args.at c.see.new.self c.args.lines.now.items);
}

pub loop-at-preserved : goal.loop-at-preserved
loop-at-preserved c = record {
  alive = c.in_ok-print_first.ensures.alive;
  prints = prints_then c.args.at _ _ _ _ _ _ c.loop-at.invariant.prints c.in_ok-print_first.ensures.prints;
}
