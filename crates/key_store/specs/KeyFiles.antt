-- A key file (this profile), versions 1 and 2: a TOML document with `version` and tables `[[key]]`. What it says, or its first
-- fault. Entries are counted from 1; the document itself is entry 0.
use Rattle.std.specs.Prelude.{ℕ, ◌==◌, ◌+◌, ◌&&◌, nat_le, nat_lt, ℤ, pos, negsuc, Bool, true, if◌then◌else◌, List, [], ◌∷◌, ◌++◌, length, take, drop, Option}
use Rattle.std.specs.Prelude.{Some, None, option_map, option_and_then, Result, Ok, Err, is_some}
use Rattle.std.specs.Result.{result_ok}
use Rattle.std.specs.Str.{is_utf8}
use Rattle.toml.specs.Data.{Data, table, Items, no_items, item, get, as_integer, as_str, as_array, as_table}
use Rattle.toml.specs.Parse.{parse_document}
use Rattle.er_base.specs.Arguments.{exact_argument}
use Rattle.er_base.specs.Octets.{number_in}
use Rattle.des_block.specs.declared.triple_key.TripleKey.{TripleKey}
use Rattle.safety_automaton.specs.Keys.{KmacEntry}
use Rattle.key_store.specs.declared.field_name.FieldName.{FieldName}
use Rattle.key_store.specs.declared.field_name.FieldName.TheVariants as field
use Rattle.key_store.specs.declared.key_file_fault.KeyFileFault.{KeyFileFault}
use Rattle.key_store.specs.declared.key_file_fault.KeyFileFault.TheVariants.{Document, Field, Hex, Number, Range, Twice, Version}
use Rattle.key_store.specs.declared.version.Version.{Version as Form}
use Rattle.key_store.specs.declared.version.Version.TheVariants.{One, Two}
use Rattle.key_store.specs.Fields.{field_word}

-- one test behind another: the first fault counts
infixl 10 ◌>>=◌
abbrev pub ◌>>=◌ : {A B : Type 0} → Result A KeyFileFault → (A → Result B KeyFileFault) → Result B KeyFileFault
Ok x >>= f = f x
Err fault >>= f = Err fault

-- what is there, or else a fault
abbrev pub some_or : {A : Type 0} → KeyFileFault → Option A → Result A KeyFileFault
some_or fault None = Err fault
some_or fault (Some x) = Ok x

-- ---- the document

-- the octets are UTF-8, and their text is a document of TOML
unfoldable pub document_of : List ℕ → Option Data
document_of octets = if is_utf8 octets then option_map table (parse_document octets) else None

-- the two versions
abbrev pub form_numbered : ℤ → Result Form KeyFileFault
form_numbered (pos n) = if n == 1 then Ok One else if n == 2 then Ok Two else Err (Version (pos n))
form_numbered (negsuc n) = Err (Version (negsuc n))

unfoldable pub version_of : Data → Result Form KeyFileFault
version_of document =
    some_or (Field 0 field.Version) (option_and_then as_integer (get (field_word field.Version) document)) >>= form_numbered

-- each of these is a table
abbrev pub are_tables : Items → Bool
are_tables no_items = true
are_tables (item d ds) = is_some (as_table d) && are_tables ds

-- a list of tables
abbrev pub tables_in : Data → Option Items
tables_in d = option_and_then (λ items. if are_tables items then Some items else None) (as_array d)

-- the tables `[[key]]`; no `key` means no entries
abbrev pub listed : Option Data → Result Items KeyFileFault
listed None = Ok no_items
listed (Some d) = some_or (Field 0 field.Key) (tables_in d)

-- ---- one entry

-- a whole number from 0 to `most`
abbrev pub up_to : ℕ → ℤ → Option ℕ
up_to most (pos n) = if nat_le n most then Some n else None
up_to most (negsuc n) = None

-- a field that is a whole number: Field where it is missing or of another type, Number where it is out of its range
unfoldable pub number_in_field : (entry : ℕ) → FieldName → (most : ℕ) → Data → Result ℕ KeyFileFault
number_in_field entry name most key =
    some_or (Field entry name) (option_and_then as_integer (get (field_word name) key))
    >>= λ n. some_or (Number entry) (up_to most n)

-- 24 octets are three keys of eight octets
unfoldable pub three_keys : List ℕ → TripleKey
three_keys octets =
    record {
      first = number_in (take 8 octets);
      second = number_in (take 8 (drop 8 octets));
      third = number_in (drop 16 octets);
    }

-- a KMAC: 48 hexadecimal digits
unfoldable pub kmac_spelled : List ℕ → Option TripleKey
kmac_spelled word = option_map three_keys (result_ok (exact_argument 24 word))

-- the field `kmac`: Field where it is missing or no string, Hex where the string spells no KMAC
unfoldable pub kmac_in_field : (entry : ℕ) → Data → Result TripleKey KeyFileFault
kmac_in_field entry key =
    some_or (Field entry field.Kmac) (option_and_then as_str (get (field_word field.Kmac) key))
    >>= λ word. some_or (Hex entry) (kmac_spelled word)

-- the first and the last moment, in milliseconds: at version 1 from 0 to 10 ^ 15
unfoldable pub moments_in : Form → (entry : ℕ) → Data → Result (ℕ × ℕ) KeyFileFault
moments_in One entry key = Ok (0, 1000000000000000)
moments_in Two entry key = do
  first ← number_in_field entry field.From 1000000000000000 key
  last ← number_in_field entry field.To 1000000000000000 key
  if nat_lt last first then Err (Range entry) else Ok (first, last)

-- what an entry says, by its fields from engine to moments; other fields are ignored
unfoldable pub entry_in : Form → (entry : ℕ) → Data → Result KmacEntry KeyFileFault
entry_in form entry key = do
  engine ← number_in_field entry field.Engine 16777215 key
  rbc ← number_in_field entry field.Rbc 16777215 key
  kmac ← kmac_in_field entry key
  moments ← moments_in form entry key
  Ok (record { engine = engine; rbc = rbc; kmac = kmac; first = moments.0; last = moments.1 })

-- all entries, where so many stand before them
unfoldable pub key_entries_in_items : Form → (before : ℕ) → Items → Result (List KmacEntry) KeyFileFault
key_entries_in_items form before no_items = Ok []
key_entries_in_items form before (item key keys) = do
  entry ← entry_in form (before + 1) key
  entries ← key_entries_in_items form (before + 1) keys
  Ok (entry ∷ entries)

-- ---- entries of one pair

-- two entries are of one pair, and have a moment in common
abbrev pub is_at_once : KmacEntry → KmacEntry → Bool
is_at_once a b = (a.engine == b.engine) && (a.rbc == b.rbc) && nat_le a.first b.last && nat_le b.first a.last

-- the place of the first entry that is so with another one, where so many stand before these
unfoldable pub place_at_once : (before : ℕ) → List KmacEntry → KmacEntry → Option ℕ
place_at_once before [] entry = None
place_at_once before (other ∷ others) entry =
    if is_at_once other entry then Some (before + 1) else place_at_once (before + 1) others entry

-- an entry's place behind that of an earlier one, where there is an earlier one
abbrev pub twice_or : Option ℕ → (second : ℕ) → Option (ℕ × ℕ) → Option (ℕ × ℕ)
twice_or None second further = further
twice_or (Some first) second further = Some (first, second)

-- the first entry that has an earlier one of its pair with a moment in common, behind the first such earlier one
unfoldable pub first_twice : (earlier : List KmacEntry) → List KmacEntry → Option (ℕ × ℕ)
first_twice earlier [] = None
first_twice earlier (entry ∷ entries) =
    twice_or (place_at_once 0 earlier entry) (length earlier + 1) (first_twice (earlier ++ entry ∷ []) entries)

abbrev pub entries_unless_twice : List KmacEntry → Option (ℕ × ℕ) → Result (List KmacEntry) KeyFileFault
entries_unless_twice entries None = Ok entries
entries_unless_twice entries (Some places) = Err (Twice places.0 places.1)

-- ---- the file

-- the entries of a key file, in their order, or its first fault
unfoldable pub keys_of : List ℕ → Result (List KmacEntry) KeyFileFault
keys_of octets = do
  document ← some_or Document (document_of octets)
  form ← version_of document
  keys ← listed (get (field_word field.Key) document)
  entries ← key_entries_in_items form 0 keys
  entries_unless_twice entries (first_twice [] entries)
