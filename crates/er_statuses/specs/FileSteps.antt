-- Lemmas: what a run does behind a key file, by how it was read; for the proofs of the crates above.
use Rattle.std.proofs.Common.{◌≡◌, List, Result, Ok, Err}
use Rattle.safety_automaton.specs.Keys.{KmacEntry}
use Rattle.key_store.specs.Answers.{RefusesAsKeyFileSays}
use Rattle.key_store.specs.declared.key_file_fault.KeyFileFault.{KeyFileFault}
use Rattle.key_store.specs.declared.key_file_fault.KeyFileFault.TheVariants as keys
use Rattle.outside.specs.Doings.{Told}
use Rattle.outside.specs.Scripts.{End, Ends, OutOfMemory, Script, Does}
use Rattle.outside.specs.ScriptSteps.{does_spent, does_spent_unknowing}
use Rattle.er_statuses.specs.FileScripts.{behind_keys}
use Rattle.er_statuses.specs.KeyLines.{keys_line}
use Rattle.er_statuses.specs.ScriptEnds.{EndsRefused}

module _ (behind : List KmacEntry → Script) where
  -- it is good
  pub does_keyed : (read : Result (List KmacEntry) KeyFileFault) (entries : List KmacEntry) (before now : Told) (end : End) → read ≡ Ok entries
      → Does (behind entries) before now end
      → Does (behind_keys read behind) before now end
  does_keyed read entries before now end is does = rw is does

  -- memory may run out whatever the file says
  does_spent_keys : ((entries : List KmacEntry) (t : Told) → Does (behind entries) t t OutOfMemory) → (read : Result (List KmacEntry) KeyFileFault) (t : Told)
      → Does (behind_keys read behind) t t OutOfMemory
  does_spent_keys spent (Ok entries) t = spent entries t
  does_spent_keys spent (Err keys.Document) t = does_spent (λ text. text ≡ keys_line keys.Document) (Ends 4) t
  does_spent_keys spent (Err (keys.Field entry name)) t = does_spent (λ text. text ≡ keys_line (keys.Field entry name)) (Ends 4) t
  does_spent_keys spent (Err (keys.Hex entry)) t = does_spent (λ text. text ≡ keys_line (keys.Hex entry)) (Ends 4) t
  does_spent_keys spent (Err (keys.Number entry)) t = does_spent (λ text. text ≡ keys_line (keys.Number entry)) (Ends 4) t
  does_spent_keys spent (Err (keys.Range entry)) t = does_spent (λ text. text ≡ keys_line (keys.Range entry)) (Ends 4) t
  does_spent_keys spent (Err (keys.Twice first second)) t = does_spent (λ text. text ≡ keys_line (keys.Twice first second)) (Ends 4) t
  does_spent_keys spent (Err (keys.Version n)) t = does_spent (λ text. text ≡ keys_line (keys.Version n)) (Ends 4) t
  does_spent_keys spent (Err (keys.NoMemory want)) t = does_spent_unknowing ⊥ (Ends 7) t

  -- it is refused
  pub does_keyless : ((entries : List KmacEntry) (t : Told) → Does (behind entries) t t OutOfMemory)
      → (fault : KeyFileFault) (read : Result (List KmacEntry) KeyFileFault)
      (before now : Told) (end : End) → RefusesAsKeyFileSays fault read → EndsRefused fault before now end → Does (behind_keys read behind) before now end
  does_keyless spent keys.Document read before now end is does = rw is does
  does_keyless spent (keys.Field entry name) read before now end is does = rw is does
  does_keyless spent (keys.Hex entry) read before now end is does = rw is does
  does_keyless spent (keys.Number entry) read before now end is does = rw is does
  does_keyless spent (keys.Range entry) read before now end is does = rw is does
  does_keyless spent (keys.Twice first second) read before now end is does = rw is does
  does_keyless spent (keys.Version n) read before now end is does = rw is does
  does_keyless spent (keys.NoMemory want) read before now end is ends = rw (ends.0, ends.1) (does_spent_keys spent read before)
