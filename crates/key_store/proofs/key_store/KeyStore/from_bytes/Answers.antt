-- Where no two entries were found to be of one pair and one moment, they are distinct.
use Rattle.std.proofs.Common.{sym, ◌∙◌}
use Rattle.key_store.proofs.Twices.{distinct_where_none}
use Rattle.key_store.proofs.key_store.KeyStore.from_bytes.Goals as goal

pub invariant_of-result : goal.invariant_of-result
invariant_of-result c =
    (distinct_where_none _ (sym (rw (c.new.ensures, c.as_slice.ensures.value) at c.in_ok-first.ensures) ∙ c.in-None.is), c.in_ok-entries.ensures.range)
