use Rattle.std.proofs.Common.{rules, ◌+◌, length, take}
use Rattle.link_memory.proofs.ScriptWalks.{copy_next, copy_end, copied_count}
use Rattle.link_memory.specs.WiresMemory.{octets_to}
use Rattle.link_memory.proofs.act.copy_brought.Goals as goal

pub loop-act-preserved : goal.loop-act-preserved
loop-act-preserved c = record {
  same = search rules;
  most = search rules;
  copied = copy_next c.args.conn c.args.acts.now c.loop-act.act-index (length c.args.into.now) c.loop-act.passed c.min-skipped.result c.loop-act.filled c.put_part-filled.result
      c.act-item.result (take c.loop-act.filled c.loop-act.into) (take (c.loop-act.filled + c.put_part-filled.result) c.put_part-filled.new.into) _
      c.loop-act-test.true c.act-item.is (rw (← c.brings-octets.ensures) (search rules)) (search rules) (search rules) (rw (← c.brings-octets.ensures, ← c.behind.ensures) (search rules)) (rw (← c.brings-octets.ensures, ← c.behind.ensures) (search rules)) c.loop-act.invariant.copied;
}

pub returns-clause-copied : goal.returns-clause-copied
returns-clause-copied c =
    copy_end c.args.conn c.args.acts.now c.loop-act.act-index (length c.args.into.now) c.loop-act.passed (take c.loop-act.filled c.loop-act.into) _ (search rules) (search rules) c.loop-act.invariant.copied

pub returns-clause-count : goal.returns-clause-count
returns-clause-count c =
    copied_count (length c.args.into.now) c.args.taken c.loop-act.filled c.loop-act.into (octets_to c.args.conn c.args.acts.now) (search rules) (search rules)
    (copy_end c.args.conn c.args.acts.now c.loop-act.act-index (length c.args.into.now) c.loop-act.passed (take c.loop-act.filled c.loop-act.into) _ (search rules) (search rules) c.loop-act.invariant.copied)
