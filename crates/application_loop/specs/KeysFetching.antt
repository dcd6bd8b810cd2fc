-- Representation: a key file that was fetched is read, and what is told of it; no claim rests on it.
use Rattle.std.specs.Prelude.{ℕ, ◌≡◌, ◌⊎◌, List, [], ◌∷◌}
use Rattle.safety_automaton.specs.Keys.{KmacEntry}
use Rattle.key_store.specs.declared.key_file_fault.KeyFileFault.{KeyFileFault}
use Rattle.key_store.specs.declared.key_file_fault.KeyFileFault.TheVariants.{Document, Field, Hex, Number, Range, Twice, Version, NoMemory}
use Rattle.key_store.specs.KeyFiles.{keys_of}
use Rattle.application_lines.specs.Notices.{Keys, KeysFault}
use Rattle.application_port.specs.Ports.{PortState}
use Rattle.application_serving.specs.Serving.{entries_if_read}
use Rattle.application_loop.specs.Telling.{PortTells, DeskTells}
use Rattle.application_loop.specs.Living.{entries_for_service}
use Rattle.application_loop.specs.declared.live_service.LiveService.{LiveService}

-- a fault of the file, not want of memory
abbrev pub IsOfFile : KeyFileFault → Type 0
IsOfFile Document = Unit {0}
IsOfFile (Field entry name) = Unit {0}
IsOfFile (Hex entry) = Unit {0}
IsOfFile (Number entry) = Unit {0}
IsOfFile (Range entry) = Unit {0}
IsOfFile (Twice first second) = Unit {0}
IsOfFile (Version n) = Unit {0}
IsOfFile (NoMemory want) = ⊥

-- words of a fault are told
pub record TellsKeysFault (old now : PortState) : Type 0 where
  pub words : List (List ℕ)
  pub tells : PortTells (KeysFault words) old now

-- only the keys and the desk change
pub record KeepsAllButKeys (old now : LiveService) : Type 0 where
  pub links : now.links.list.items ≡ old.links.list.items
  pub held : now.speaker.held.items ≡ old.speaker.held.items
  pub moment : now.moment ≡ old.moment
  pub draining : now.draining ≡ old.draining
  pub calls : now.calls ≡ old.calls

-- these entries are used from now on, and that so many hold is told
pub record UsesKeys (entries : List KmacEntry) (old now : LiveService) : Type 0 where
  pub count : ℕ
  pub keys : entries_for_service now.keys ≡ entries
  pub tells : DeskTells (Keys count) old.desk now.desk
  pub keeps : KeepsAllButKeys old now

-- the entries that were used stay, and the words of a fault are told
pub record RefusesKeys (old now : LiveService) : Type 0 where
  pub words : List (List ℕ)
  pub keys : now.keys ≡ old.keys
  pub tells : DeskTells (KeysFault words) old.desk now.desk
  pub keeps : KeepsAllButKeys old now

-- the octets of a file are read
pub record UsesFile (octets : List ℕ) (old now : LiveService) : Type 0 where
  pub entries : List KmacEntry
  pub are : entries_if_read (keys_of octets) ≡ entries ∷ []
  pub uses : UsesKeys entries old now

pub record RefusesFile (octets : List ℕ) (old now : LiveService) : Type 0 where
  pub none : entries_if_read (keys_of octets) ≡ []
  pub refuses : RefusesKeys old now

abbrev pub ReadsFile : List ℕ → (old now : LiveService) → Type 0
ReadsFile octets old now = UsesFile octets old now ⊎ RefusesFile octets old now
