-- The tables so far are those of the entries so far, and those that are left are in their ranges.
use Rattle.std.proofs.Common.{◌≡◌, map, take, drop}
use Rattle.toml.specs.View.{items_view}
use Rattle.key_store.specs.Ranges.{AreInRange}
use Rattle.key_store.specs.Kept.{key_entry_of}
use Rattle.key_store.specs.Written.{entry_items}
use Rattle.key_store.proofs.key_writer.entry_tables.Given as goal

abbrev pub invariant-loop-entry : goal.invariant-loop-entry
invariant-loop-entry l = record {
  said : items_view l.list.items ≡ entry_items (map key_entry_of (take l.entry-index l.all));
  left : AreInRange (map key_entry_of (drop l.entry-index l.all));
}
