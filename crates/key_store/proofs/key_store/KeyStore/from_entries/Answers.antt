-- Where no two entries were found to be of one pair and one moment, they are distinct.
use Rattle.std.proofs.Common.{◌≡◌, sym, ◌∙◌}
use Rattle.key_store.proofs.Spans.{none_of}
use Rattle.key_store.proofs.Twices.{distinct_where_none}
use Rattle.key_store.proofs.key_store.KeyStore.from_entries.Goals as goal

pub invariant_of-result : goal.invariant_of-result
invariant_of-result c =
    let ranged = c.in_ok-ranged.ensures in
    let same : c.in_ok-ranged.ranged ≡ c.args.entries.items = ranged.0 ∙ c.as_slice.ensures.value in
    (distinct_where_none _ (none_of _ (sym (rw same at c.has_none_twice.ensures) ∙ c.if-not-has_none_twice.false)), rw c.as_slice.ensures.value at ranged.2)
