-- Contract: what a run of `serve` or `call` means by its status, what it left alone, and which file it asked for.
use Rattle.std.specs.Prelude.{◌≡◌, ◌≢◌, ◌⊎◌, ℕ, [], ◌∷◌}
use Rattle.link_trait.specs.Outside.{Grew, GrewPart, Rose}
use Rattle.er_statuses.specs.Answers.{AreKeysRefused}
use Rattle.er_statuses.specs.LastLines.{fetch_line, memory_line}
use Rattle.er_serving.specs.Outsides.{Outside, IsSteady}
use Rattle.er_serving.specs.LineCommands.{LineCommand, key_file_of}
use Rattle.er_serving.specs.LineRuns.{GivenToLoop, IsLineStatus, IsLineIdle, IsServed, IsPairKeyless, IsLineBegun, IsLoopFailed, IsMemoryTold, HasLineStatus}

-- the fetch of the key file failed
pub record IsLineUnfetched (command : LineCommand) (before now : Outside) : Type 0 where
  pub asked_for : Grew before.asked now.asked (key_file_of command ∷ [])
  pub rose : Rose before.unfetched now.unfetched
  pub printed : Grew before.held now.held (fetch_line (key_file_of command))

-- a write failed
pub record LineBroke (command : LineCommand) (g : GivenToLoop) (before now : Outside) : Type 0 where
  pub rose : Rose before.sunk now.sunk
  pub beginning : IsLineBegun command g before now

-- all of it
pub record IsLineRun (command : LineCommand) (g : GivenToLoop) (before now : Outside) (status : ℕ) : Type 0 where
  pub known : IsLineStatus status
  pub served : status ≡ 0 → IsServed command g before now
  pub unfetched : status ≡ 2 → IsLineUnfetched command before now
  pub keyless : status ≡ 4 → AreKeysRefused (key_file_of command) now.files before.asked now.asked before.held now.held ⊎ IsPairKeyless command before now
  pub sunk : status ≡ 5 → LineBroke command g before now
  pub wires : status ≡ 6 → IsLoopFailed command g before now
  pub memory : status ≡ 7 → IsMemoryTold command g before now (λ held held_now. Grew held held_now memory_line)
  pub idle : IsLineIdle command before now status
  -- the key file is asked for once, and nothing else is
  pub part : GrewPart before.asked now.asked (key_file_of command ∷ [])
  pub asked : status ≢ 5 → status ≢ 7 → Grew before.asked now.asked (key_file_of command ∷ [])
  pub complete : (Rose before.unfetched now.unfetched → ⊥) → (Rose before.sunk now.sunk → ⊥) → (Rose before.turns_failed now.turns_failed → ⊥)
      → HasLineStatus command before now status ⊎ (status ≡ 7)
  pub steady : IsSteady before now
