-- No entry so far has an earlier one at once with it.
use Rattle.std.proofs.Common.{◌≡◌, [], map, take, drop}
use Rattle.key_store.specs.KeyFiles.{first_twice}
use Rattle.key_store.specs.Kept.{key_entry_of}
use Rattle.key_store.proofs.twice.are_once_by_pairs.Given as goal

abbrev pub invariant-loop-before : goal.invariant-loop-before
invariant-loop-before l =
    first_twice (map key_entry_of (take l.before l.entries)) (map key_entry_of (drop l.before l.entries)) ≡ first_twice [] (map key_entry_of l.entries)
