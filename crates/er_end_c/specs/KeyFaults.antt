-- Why a key file is refused, as a program in C is told it: the first fault that key files have, as numbers.
use Rattle.std.specs.Prelude.{ℕ, ℤ, ◌≡◌, List, Result, Ok, Err, ◌⊎◌}
use Rattle.safety_automaton.specs.Keys.{KmacEntry}
use Rattle.key_store.specs.declared.field_name.FieldName.{FieldName}
use Rattle.key_store.specs.declared.field_name.FieldName.TheVariants as name
use Rattle.key_store.specs.declared.key_file_fault.KeyFileFault.{KeyFileFault}
use Rattle.key_store.specs.declared.key_file_fault.KeyFileFault.TheVariants.{Document, Field, Hex, Number, Range, Twice, Version, NoMemory}
use Rattle.er_end_c.specs.declared.face.CKeyFault.{CKeyFault}
use Rattle.er_end_c.specs.Statuses.{ok, wrong_keys, no_memory}

-- a field, from 1 on
abbrev pub field_number : FieldName → ℕ
field_number name.Version = 1
field_number name.Key = 2
field_number name.Engine = 3
field_number name.Rbc = 4
field_number name.Kmac = 5
field_number name.From = 6
field_number name.To = 7

-- no fault: all of it is zero
abbrev pub no_key_fault : CKeyFault
no_key_fault = record { kind = 0; field = 0; entry = 0; other = 0 }

-- 1 no document of TOML; 2 another version; 3 a field of an entry; 4 a KMAC's digits; 5 a number's range; 6 a first moment behind the last one; 7 two
-- entries of one pair with a moment in common, of which the second is the one at fault. What a kind doesn't have is zero
abbrev pub key_fault_shown : KeyFileFault → CKeyFault
key_fault_shown Document = record no_key_fault { kind = 1 }
key_fault_shown (Version said) = record no_key_fault { kind = 2 }
key_fault_shown (Field entry name) = record no_key_fault { kind = 3; field = field_number name; entry = entry }
key_fault_shown (Hex entry) = record no_key_fault { kind = 4; entry = entry }
key_fault_shown (Number entry) = record no_key_fault { kind = 5; entry = entry }
key_fault_shown (Range entry) = record no_key_fault { kind = 6; entry = entry }
key_fault_shown (Twice first second) = record no_key_fault { kind = 7; entry = second; other = first }
key_fault_shown (NoMemory want) = no_key_fault

-- by what a text says as a key file: OK where it is one, KEYS with its fault where it isn't; of either memory may have run out, and then no fault is told
abbrev pub JudgesKeyFile : Result (List KmacEntry) KeyFileFault → (status : ℤ) → (fault : CKeyFault) → Type 0
JudgesKeyFile (Ok entries) status fault = ((status ≡ ok) ⊎ (status ≡ no_memory)) × (fault ≡ no_key_fault)
JudgesKeyFile (Err why) status fault = ((status ≡ wrong_keys) × (fault ≡ key_fault_shown why)) ⊎ ((status ≡ no_memory) × (fault ≡ no_key_fault))
