use Rattle.std.proofs.Common.{rules}
use Rattle.link_memory.proofs.ScriptWalks.{count_next, count_end}
use Rattle.link_memory.proofs.act.count_of.Goals as goal

pub loop-act-preserved : goal.loop-act-preserved
loop-act-preserved c = record {
  count = rw (c.brings.ensures) (count_next c.args.conn c.args.acts.now c.loop-act.act-index c.loop-act.count c.act-item.result c.loop-act-test.true c.act-item.is c.loop-act.invariant.count);
  small = search rules;
}

pub returns : goal.returns
returns c = count_end c.args.conn c.args.acts.now c.loop-act.act-index c.loop-act.count (search rules) c.loop-act.invariant.count
