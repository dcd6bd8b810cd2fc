-- One entry more, by the lemmas on entries that were read.
use Rattle.key_store.proofs.Entries.{entry_step, range_step}
use Rattle.key_store.proofs.key_reader.read_entries.Goals as goal

pub loop-before-preserved : goal.loop-before-preserved
loop-before-preserved c = record {
  said =
      entry_step c.args.version c.loop-before.before c.loop-before.entries.items c.push.new.entries.items c.in_ok-read.read c.args.keys.now c.index-keys-before.result _ c.loop-before-test.true
      c.index-keys-before.is c.in_ok-push.ensures c.in_ok-read.ensures.said c.loop-before.invariant.said;
  range = range_step c.loop-before.entries.items c.push.new.entries.items c.in_ok-read.read c.in_ok-push.ensures c.loop-before.invariant.range c.in_ok-read.ensures.range;
}
