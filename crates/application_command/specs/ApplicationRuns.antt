-- What `serve` and `call` with an application do before their loop, and how a run ends (this profile).
use Rattle.std.specs.Prelude.{◌≡◌, ◌⊎◌, ℕ, List, [], ◌∷◌, Option, Some, None, Result, Ok, Err, codes}
use Rattle.std.specs.Fmt.{decimal}
use Rattle.er_base.specs.LineTexts.{line_text}
use Rattle.er_settings.specs.Making.{usual_settings}
use Rattle.des_block.specs.declared.triple_key.TripleKey.{TripleKey}
use Rattle.safety_automaton.specs.Keys.{KmacEntry, key_at}
use Rattle.safety_automaton.specs.Pairs.{pair_entries}
use Rattle.key_store.specs.declared.key_file_fault.KeyFileFault.{KeyFileFault}
use Rattle.key_store.specs.KeyFiles.{keys_of}
use Rattle.outside.specs.Acts.{Fetch, Gave, Failed, Spent, Fetched, Asked}
use Rattle.outside.specs.Doings.{Told, Did}
use Rattle.outside.specs.Scripts.{End, With, Sunk, OutOfMemory, Does, says_last}
use Rattle.er_statuses.specs.LastLines.{fetch_line}
use Rattle.er_statuses.specs.ScriptEnds.{EndsRefused, ExitsBy}
use Rattle.application_serving.specs.Serving.{found_in_entries, Serves}
use Rattle.application_command.specs.ApplicationCommands.{ApplicationCommand, ServeBeside, CallBeside, key_file_beside}

-- the closed list of statuses
abbrev pub IsApplicationStatus : ℕ → Type 0
IsApplicationStatus s = (s ≡ 0) ⊎ (s ≡ 2) ⊎ (s ≡ 4) ⊎ (s ≡ 5) ⊎ (s ≡ 6) ⊎ (s ≡ 7)

-- how the loop ended: it stopped, a write failed, or memory ran out, in it or before; or the wires failed, and behind what it did the last line was said
abbrev pub EndsLoop : (looped now : Told) → End → Type 0
EndsLoop looped now end =
    ((now ≡ looped) × ((end ≡ With 0) ⊎ (end ≡ Sunk) ⊎ (end ≡ OutOfMemory))) ⊎ Does (says_last 6 (codes "! wires\n")) looped now end

-- the loop ran with the usual settings and these keys: over wires that had opened no connection, what it did is a history of a loop with an application
pub record EndsService (entries : List KmacEntry) (before now : Told) (end : End) : Type 0 where
  pub looped : Told
  pub serves : before.wires.opened ≡ 0 → Serves usual_settings (found_in_entries entries) before looped
  pub ends : EndsLoop looped now end

-- the line of a pair that has no key that holds
abbrev pub keyless_line : (engine rbc : ℕ) → List ℕ
keyless_line engine rbc = line_text (codes "!" ∷ codes "keys" ∷ codes "none" ∷ decimal engine ∷ decimal rbc ∷ [])

-- what follows the look-up of a call: without a key its line is said, and nothing else is done
abbrev pub EndsLookUp : (engine rbc : ℕ) → Option TripleKey → (before now : Told) → End → Type 0
EndsLookUp engine rbc None before now end = Does (says_last 4 (keyless_line engine rbc)) before now end
EndsLookUp engine rbc (Some kmac) before now end = EndsService (pair_entries (record { engine = engine; rbc = rbc; kmac = kmac })) before now end

-- the clock was asked for the moment at which the key of a call is to hold, and what follows rests on it
pub record EndsCall (engine rbc : ℕ) (entries : List KmacEntry) (before now : Told) (end : End) : Type 0 where
  pub moment : ℕ
  pub mid : Told
  pub asked : Did before mid (Asked moment ∷ [])
  pub follows : EndsLookUp engine rbc (key_at entries moment engine rbc) mid now end

-- what follows a key file that is good, with its entries
abbrev pub EndsWithKeys : ApplicationCommand → List KmacEntry → (before now : Told) → End → Type 0
EndsWithKeys (ServeBeside keys address rbc turns application) entries before now end = EndsService entries before now end
EndsWithKeys (CallBeside keys address engine rbc turns application) entries before now end = EndsCall engine rbc entries before now end

-- what follows a key file, by what it says: of one that is refused its first fault is said, and nothing else is done; or memory ran out as it was read
abbrev pub EndsKeyFile : Result (List KmacEntry) KeyFileFault → ApplicationCommand → (before now : Told) → End → Type 0
EndsKeyFile (Ok entries) command before now end = EndsWithKeys command entries before now end ⊎ ((now ≡ before) × (end ≡ OutOfMemory))
EndsKeyFile (Err fault) command before now end = EndsRefused fault before now end

-- what follows the fetch of the key file, by what it gave
abbrev pub EndsKeyFetch : ApplicationCommand → Fetch → (before now : Told) → End → Type 0
EndsKeyFetch command (Gave file) before now end = EndsKeyFile (keys_of file) command before now end
EndsKeyFetch command Failed before now end = Does (says_last 2 (fetch_line (key_file_beside command))) before now end
EndsKeyFetch command Spent before now end = (now ≡ before) × (end ≡ OutOfMemory)

-- the key file is fetched first, and what follows rests on it
pub record EndsBesideApplication (command : ApplicationCommand) (before now : Told) (end : End) : Type 0 where
  pub answer : Fetch
  pub mid : Told
  pub fetched : Did before mid (Fetched (key_file_beside command) answer ∷ [])
  pub follows : EndsKeyFetch command answer mid now end

-- a run, with its status
pub record RunsBesideApplication (command : ApplicationCommand) (before now : Told) (status : ℕ) : Type 0 where
  pub end : End
  pub mid : Told
  pub ends : EndsBesideApplication command before mid end
  pub exits : ExitsBy end mid now status
