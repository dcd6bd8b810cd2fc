use Rattle.key_store.proofs.Spans.{range_of_first}
use Rattle.key_store.proofs.ranged_entries.RangedEntries.first.Goals as goal

pub invariant_of-result : goal.invariant_of-result
invariant_of-result c = range_of_first c.args.count c.self.inside.list.now c.self.invariant
