-- The last line of a run whose key file is refused, status 4 (this profile): `! keys` and the fault.
use Rattle.std.specs.Prelude.{ℕ, List, [], ◌∷◌, codes}
use Rattle.std.specs.Fmt.{decimal, signed_decimal}
use Rattle.er_base.specs.LineTexts.{line_text}
use Rattle.key_store.specs.declared.key_file_fault.KeyFileFault.{KeyFileFault}
use Rattle.key_store.specs.declared.key_file_fault.KeyFileFault.TheVariants.{Document, Field, Hex, Number, Range, Twice, Version, NoMemory}
use Rattle.key_store.specs.Fields.{field_word}

-- the words behind `! keys`
abbrev pub fault_words : KeyFileFault → List (List ℕ)
fault_words Document = codes "document" ∷ []
fault_words (Field entry name) = codes "field" ∷ decimal entry ∷ field_word name ∷ []
fault_words (Hex entry) = codes "hex" ∷ decimal entry ∷ []
fault_words (Number entry) = codes "number" ∷ decimal entry ∷ []
fault_words (Range entry) = codes "range" ∷ decimal entry ∷ []
fault_words (Twice first second) = codes "twice" ∷ decimal first ∷ decimal second ∷ []
fault_words (Version n) = codes "version" ∷ signed_decimal n ∷ []
fault_words (NoMemory want) = []

abbrev pub keys_line : KeyFileFault → List ℕ
keys_line fault = line_text (codes "!" ∷ codes "keys" ∷ fault_words fault)
