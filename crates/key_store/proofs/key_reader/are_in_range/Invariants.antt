-- All so far are in range.
use Rattle.std.proofs.Common.{◌≡◌, map, drop}
use Rattle.key_store.specs.Kept.{key_entry_of}
use Rattle.key_store.specs.Ranges.{AreInRange}
use Rattle.key_store.specs.Lists.{are_in_range}
use Rattle.key_store.proofs.key_reader.are_in_range.Given as goal

abbrev pub invariant-loop-entry : goal.invariant-loop-entry
invariant-loop-entry l = record {
  same : are_in_range (map key_entry_of (drop l.entry-index l.entries)) ≡ are_in_range (map key_entry_of l.entries);
  range : AreInRange (map key_entry_of (drop l.entry-index l.entries)) → AreInRange (map key_entry_of l.entries);
}
