-- One table more, and all of them.
use Rattle.std.proofs.Common.{arith, ap, ◌∙◌, map}
use Rattle.std.proofs.lemmas.List.{take_all}
use Rattle.toml.specs.View.{items_view}
use Rattle.key_store.specs.Kept.{key_entry_of}
use Rattle.key_store.specs.Written.{entry_items}
use Rattle.key_store.proofs.Tables.{tables_more, range_left}
use Rattle.key_store.proofs.key_writer.entry_tables.Goals as goal

pub loop-entry-preserved : goal.loop-entry-preserved
loop-entry-preserved c = record {
  said =
      ap items_view c.in_ok-push.ensures
      ∙ tables_more c.loop-entry.list.items c.in_ok-value.value c.list-all.result.now c.loop-entry.entry-index c.loop-entry-test.true c.loop-entry.invariant.said c.in_ok-value.ensures;
  left = range_left c.list-all.result.now c.loop-entry.entry-index c.loop-entry.invariant.left;
}

pub returns-clause-made : goal.returns-clause-made
returns-clause-made c = rw (← c.list-all.ensures.list) (c.loop-entry.invariant.said ∙ ap (λ es. entry_items (map key_entry_of es)) (take_all _ c.list-all.result.now (omega (arith, c.loop-entry-test.false))))
