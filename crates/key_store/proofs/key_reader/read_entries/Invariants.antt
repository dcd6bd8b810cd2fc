-- The entries so far before those of the tables that are left are all entries.
use Rattle.std.proofs.Common.{◌≡◌, map, drop}
use Rattle.toml.specs.View.{items_view}
use Rattle.key_store.specs.KeyFiles.{key_entries_in_items}
use Rattle.key_store.specs.Ranges.{AreInRange}
use Rattle.key_store.specs.Kept.{key_entry_of}
use Rattle.key_store.proofs.Entries.{behind}
use Rattle.key_store.proofs.key_reader.read_entries.Given as goal

abbrev pub invariant-loop-before : goal.invariant-loop-before
invariant-loop-before l = record {
  said : behind (map key_entry_of l.entries.items) (key_entries_in_items l.version l.before (items_view (drop l.before l.keys)))
      ≡ key_entries_in_items l.version 0 (items_view l.keys);
  range : AreInRange (map key_entry_of l.entries.items);
}
