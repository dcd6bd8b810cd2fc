-- All so far are tables.
use Rattle.std.proofs.Common.{◌≡◌, drop}
use Rattle.toml.specs.View.{items_view}
use Rattle.key_store.specs.KeyFiles.{are_tables}
use Rattle.key_store.proofs.document.are_all_tables.Given as goal

abbrev pub invariant-loop-value : goal.invariant-loop-value
invariant-loop-value l = are_tables (items_view (drop l.value-index l.values)) ≡ are_tables (items_view l.values)
