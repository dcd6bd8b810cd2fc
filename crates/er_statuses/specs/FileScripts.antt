-- The scripts of a run over files (this profile): a file that can't be had ends it with its line and status 2, and a key file that is refused
-- with its line and status 4.
use Rattle.std.specs.Prelude.{ℕ, List, Option, Some, None, Result, Ok, Err}
use Rattle.safety_automaton.specs.Keys.{KmacEntry}
use Rattle.key_store.specs.declared.key_file_fault.KeyFileFault.{KeyFileFault}
use Rattle.key_store.specs.declared.key_file_fault.KeyFileFault.TheVariants as keys
use Rattle.outside.specs.Scripts.{Script, Ends, Fetches, Knowing, says_last}
use Rattle.er_statuses.specs.Answers.{Answer}
use Rattle.er_statuses.specs.KeyLines.{keys_line}
use Rattle.er_statuses.specs.LastLines.{fetch_line}

-- behind a fetch: the octets of the file, or none
abbrev pub behind_fetch : (name : List ℕ) → (List ℕ → Script) → Option (List ℕ) → Script
behind_fetch name behind None = says_last 2 (fetch_line name)
behind_fetch name behind (Some file) = behind file

-- the file of that name is asked for, and what its octets say is done
abbrev pub fetches_file : (name : List ℕ) → (List ℕ → Script) → Script
fetches_file name behind = Fetches name (behind_fetch name behind)

-- an answer is given
abbrev pub answers : Answer → Script
answers answer = says_last answer.status answer.text

-- a key file that is refused prints its first fault alone; with the entries of any other this is done. What a file says is never want of memory
abbrev pub behind_keys : Result (List KmacEntry) KeyFileFault → (List KmacEntry → Script) → Script
behind_keys (Ok entries) behind = behind entries
behind_keys (Err keys.Document) behind = says_last 4 (keys_line keys.Document)
behind_keys (Err (keys.Field entry name)) behind = says_last 4 (keys_line (keys.Field entry name))
behind_keys (Err (keys.Hex entry)) behind = says_last 4 (keys_line (keys.Hex entry))
behind_keys (Err (keys.Number entry)) behind = says_last 4 (keys_line (keys.Number entry))
behind_keys (Err (keys.Range entry)) behind = says_last 4 (keys_line (keys.Range entry))
behind_keys (Err (keys.Twice first second)) behind = says_last 4 (keys_line (keys.Twice first second))
behind_keys (Err (keys.Version n)) behind = says_last 4 (keys_line (keys.Version n))
behind_keys (Err (keys.NoMemory want)) behind = Knowing ⊥ (Ends 7)
