-- None of those so far is of one pair and one moment with the entry.
use Rattle.std.proofs.Common.{◌≡◌, map, drop}
use Rattle.key_store.specs.KeyFiles.{place_at_once}
use Rattle.key_store.specs.Kept.{key_entry_of}
use Rattle.key_store.proofs.twice.place_at_once.Given as goal

abbrev pub invariant-loop-before : goal.invariant-loop-before
invariant-loop-before l =
    place_at_once l.before (map key_entry_of (drop l.before l.entries)) (key_entry_of l.entry) ≡ place_at_once 0 (map key_entry_of l.entries) (key_entry_of l.entry)
