-- The fields of a key file (this profile), by their words.
use Rattle.std.specs.Prelude.{ℕ, List, codes}
use Rattle.key_store.specs.declared.field_name.FieldName.{FieldName}
use Rattle.key_store.specs.declared.field_name.FieldName.TheVariants.{Version, Key, Engine, Rbc, Kmac, From, To}

abbrev pub field_word : FieldName → List ℕ
field_word Version = codes "version"
field_word Key = codes "key"
field_word Engine = codes "engine"
field_word Rbc = codes "rbc"
field_word Kmac = codes "kmac"
field_word From = codes "from"
field_word To = codes "to"
