-- What a run of the program answers: a status and a text; and what of it rests on a file word, or on a key file that is refused (this profile).
use Rattle.std.specs.Prelude.{◌≡◌, ℕ, List, [], ◌∷◌, Option, Some, None, Err}
use Rattle.link_trait.specs.Outside.{Grew, HasFile, Rose}
use Rattle.key_store.specs.declared.key_file_fault.KeyFileFault.{KeyFileFault}
use Rattle.key_store.specs.declared.key_file_fault.KeyFileFault.TheVariants as keys
use Rattle.key_store.specs.KeyFiles.{keys_of}
use Rattle.er_statuses.specs.KeyLines.{keys_line}
use Rattle.er_statuses.specs.LastLines.{memory_line}

pub record Answer : Type 0 where
  pub status : ℕ
  pub text : List ℕ

-- ---- a file word

-- files by their names, where they are told
abbrev pub Files : Type 0
Files = Option (List (List ℕ × List ℕ))

-- what the fetch of a name gave: no file only where the cabinet's count of faults rose, and else the file of that name, where it is told
abbrev pub HasFetched : List ℕ → Option (List ℕ) → Files → ℕ → ℕ → Type 0
HasFetched name None files c d = Rose c d
HasFetched name (Some file) files c d = HasFile files name file

-- ---- a key file

-- a key file that is refused
abbrev pub keys_answer : KeyFileFault → Answer
keys_answer keys.Document = record { status = 4; text = keys_line keys.Document }
keys_answer (keys.Field entry name) = record { status = 4; text = keys_line (keys.Field entry name) }
keys_answer (keys.Hex entry) = record { status = 4; text = keys_line (keys.Hex entry) }
keys_answer (keys.Number entry) = record { status = 4; text = keys_line (keys.Number entry) }
keys_answer (keys.Range entry) = record { status = 4; text = keys_line (keys.Range entry) }
keys_answer (keys.Twice first second) = record { status = 4; text = keys_line (keys.Twice first second) }
keys_answer (keys.Version n) = record { status = 4; text = keys_line (keys.Version n) }
keys_answer (keys.NoMemory want) = record { status = 7; text = memory_line }

-- the file of that name, which was asked for last, is a key file that is refused: its first fault, which is printed alone
pub record AreKeysRefused (name : List ℕ) (files : Files) (asked asked_now : Option (List (List ℕ))) (before now : Option (List ℕ)) : Type 0 where
  pub asked_for : Grew asked asked_now (name ∷ [])
  pub file : List ℕ
  pub stands : HasFile files name file
  pub fault : KeyFileFault
  pub refused : keys_of file ≡ Err fault
  pub printed : Grew before now (keys_line fault)
