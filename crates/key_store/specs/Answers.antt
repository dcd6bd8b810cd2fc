-- What reading a key file answers.
use Rattle.std.specs.Prelude.{◌≡◌, List, Result, Ok, Err}
use Rattle.safety_automaton.specs.Keys.{KmacEntry}
use Rattle.key_store.specs.declared.key_file_fault.KeyFileFault.{KeyFileFault}
use Rattle.key_store.specs.declared.key_file_fault.KeyFileFault.TheVariants.{Document, Field, Hex, Number, Range, Twice, Version, NoMemory}

-- a refusal is what the file says, but for want of memory
abbrev pub RefusesAsKeyFileSays : {A : Type 0} → KeyFileFault → Result A KeyFileFault → Type 0
RefusesAsKeyFileSays Document said = said ≡ Err Document
RefusesAsKeyFileSays (Field entry name) said = said ≡ Err (Field entry name)
RefusesAsKeyFileSays (Hex entry) said = said ≡ Err (Hex entry)
RefusesAsKeyFileSays (Number entry) said = said ≡ Err (Number entry)
RefusesAsKeyFileSays (Range entry) said = said ≡ Err (Range entry)
RefusesAsKeyFileSays (Twice first second) said = said ≡ Err (Twice first second)
RefusesAsKeyFileSays (Version n) said = said ≡ Err (Version n)
RefusesAsKeyFileSays (NoMemory want) said = Unit {0}

-- the answer is what the file says, but for want of memory
abbrev pub AnswersAsKeyFileSays : Result (List KmacEntry) KeyFileFault → Result (List KmacEntry) KeyFileFault → Type 0
AnswersAsKeyFileSays (Ok entries) said = said ≡ Ok entries
AnswersAsKeyFileSays (Err fault) said = RefusesAsKeyFileSays fault said
