-- Contract: how entries are kept, and what the parts of the reader answer.
use Rattle.std.specs.Prelude.{◌≡◌, Result, Ok, Err}
use Rattle.safety_automaton.specs.Keys.{KmacEntry}
use Rattle.key_store.specs.declared.key_entry.KeyEntry.{KeyEntry}
use Rattle.key_store.specs.declared.key_file_fault.KeyFileFault.{KeyFileFault}
use Rattle.key_store.specs.Answers.{RefusesAsKeyFileSays}

-- an entry, as the definitions have it
abbrev pub key_entry_of : KeyEntry → KmacEntry
key_entry_of e = record { engine = e.engine; rbc = e.rbc; kmac = e.kmac; first = e.first; last = e.last }

-- an answer is that of the definition, by a view of its value, want of memory aside
abbrev pub AnswersAsDefinitionSays : {A B : Type 0} → (A → B) → Result A KeyFileFault → Result B KeyFileFault → Type 0
AnswersAsDefinitionSays seen (Ok x) said = said ≡ Ok (seen x)
AnswersAsDefinitionSays seen (Err fault) said = RefusesAsKeyFileSays fault said
