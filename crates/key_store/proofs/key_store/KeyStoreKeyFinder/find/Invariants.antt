-- None of those so far is the one looked for.
use Rattle.std.proofs.Common.{◌≡◌, map, drop}
use Rattle.safety_automaton.specs.Keys.{key_at}
use Rattle.key_store.specs.Kept.{key_entry_of}
use Rattle.key_store.proofs.key_store.KeyStoreKeyFinder.find.Given as goal

abbrev pub invariant-loop-entry : goal.invariant-loop-entry
invariant-loop-entry l = key_at (map key_entry_of (drop l.entry-index l.entry-items)) l.now l.engine l.rbc ≡ key_at l.self l.now l.engine l.rbc
