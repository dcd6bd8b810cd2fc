-- Contract: how the code says that a script ended, what it did where it refused a key file, and with which status it exits.
use Rattle.std.specs.Prelude.{◌≡◌, ◌⊎◌, ℕ, false, List, [], ◌∷◌, Result, Ok, Err}
use Rattle.link_trait.specs.declared.sink.Failed.{Failed}
use Rattle.key_store.specs.declared.key_file_fault.KeyFileFault.{KeyFileFault}
use Rattle.key_store.specs.declared.key_file_fault.KeyFileFault.TheVariants as keys
use Rattle.outside.specs.Acts.{Act, Wrote}
use Rattle.outside.specs.Doings.{Told, Did}
use Rattle.outside.specs.Scripts.{End, With, Sunk, OutOfMemory, Does, printing, says_last}
use Rattle.er_statuses.specs.KeyLines.{keys_line}
use Rattle.er_statuses.specs.LastLines.{memory_line}
use Rattle.er_statuses.specs.declared.status.Status.{Status}
use Rattle.er_statuses.specs.declared.stop.Stop.{Stop}
use Rattle.er_statuses.specs.declared.stop.Stop.TheVariants as stop

abbrev pub end_of_run : Result Status Stop → End
end_of_run (Ok status) = With status.0
end_of_run (Err stop.Sink) = Sunk
end_of_run (Err (stop.NoMemory want)) = OutOfMemory

-- the acts by which a text was printed, or its write failed
abbrev pub said_acts : List ℕ → Result (Unit {0}) Failed → List Act
said_acts text (Ok done) = printing text
said_acts text (Err failed) = Wrote text false ∷ []

-- a key file was refused: its line was said; or memory had run out as it was read, and nothing was done
abbrev pub EndsRefused : KeyFileFault → (before now : Told) → End → Type 0
EndsRefused keys.Document before now end = Does (says_last 4 (keys_line keys.Document)) before now end
EndsRefused (keys.Field entry name) before now end = Does (says_last 4 (keys_line (keys.Field entry name))) before now end
EndsRefused (keys.Hex entry) before now end = Does (says_last 4 (keys_line (keys.Hex entry))) before now end
EndsRefused (keys.Number entry) before now end = Does (says_last 4 (keys_line (keys.Number entry))) before now end
EndsRefused (keys.Range entry) before now end = Does (says_last 4 (keys_line (keys.Range entry))) before now end
EndsRefused (keys.Twice first second) before now end = Does (says_last 4 (keys_line (keys.Twice first second))) before now end
EndsRefused (keys.Version n) before now end = Does (says_last 4 (keys_line (keys.Version n))) before now end
EndsRefused (keys.NoMemory want) before now end = (now ≡ before) × (end ≡ OutOfMemory)

-- memory had run out, and its line was said, or the write of it failed
abbrev pub EndsSpent : (before now : Told) → (status : ℕ) → Type 0
EndsSpent before now status = ((status ≡ 7) × Did before now (printing memory_line)) ⊎ ((status ≡ 5) × Did before now (Wrote memory_line false ∷ []))

-- the status of a run that ended so
abbrev pub ExitsBy : End → (before now : Told) → (status : ℕ) → Type 0
ExitsBy (With s) before now status = (status ≡ s) × (now ≡ before)
ExitsBy Sunk before now status = (status ≡ 5) × (now ≡ before)
ExitsBy OutOfMemory before now status = EndsSpent before now status
