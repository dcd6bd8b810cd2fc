-- Representation: how far the reading of a recorded line is in its script, and what one call of it told; no claim rests on it.
use Rattle.std.specs.Prelude.{◌≡◌, ℕ, ◌≤◌, ◌*◌, false, List, [], ◌∷◌, length, take, drop, Option, None, Some, Result, Ok, Err}
use Rattle.hdlc_fcs.specs.FrameCheck.{sent_bits}
use Rattle.hdlc_bits.specs.Framing.{Verdict, frames_of_bits}
use Rattle.hdlc_bits.specs.Keeping.{KeptBitDeframer, kept_of}
use Rattle.outside.specs.Acts.{Wrote}
use Rattle.outside.specs.Doings.{Told, Did}
use Rattle.outside.specs.Scripts.{LeadsOn, printing}
use Rattle.er_statuses.specs.declared.stop.Stop.{Stop}
use Rattle.er_statuses.specs.declared.stop.Stop.TheVariants as stop
use Rattle.er_program.specs.BitTexts.{verdicts_in, frame_count}
use Rattle.er_program.specs.BitWriting.{found_count}
use Rattle.er_program.specs.FileScripts.{prints_each, verdict_line, counts_bits, reads_bits}

-- the line of a verdict was printed, or its write failed, or memory ran out before it; so many frames are in it
abbrev pub SaysVerdict : Verdict → (before now : Told) → Result ℕ Stop → Type 0
SaysVerdict v before now (Ok n) = (n ≡ found_count (Some v)) × Did before now (printing (verdict_line v))
SaysVerdict v before now (Err stop.Sink) = Did before now (Wrote (verdict_line v) false ∷ [])
SaysVerdict v before now (Err (stop.NoMemory want)) = now ≡ before

-- the same of what one call found, which may be nothing
abbrev pub SaysFound : Option Verdict → (before now : Told) → Result ℕ Stop → Type 0
SaysFound None before now (Ok n) = (n ≡ 0) × (now ≡ before)
SaysFound None before now (Err stop) = ⊥
SaysFound (Some v) before now result = SaysVerdict v before now result

-- the verdicts behind a place
abbrev pub verdicts_behind : List ℕ → ℕ → List Verdict
verdicts_behind file at = drop (length (frames_of_bits (take at (sent_bits file)))) (verdicts_in file)

-- the bits of a file up to a place were read; what is left to do is the lines of the verdicts behind it, and the last line
pub record ReadAt (file : List ℕ) (at frames : ℕ) (kept : KeptBitDeframer) (before now : Told) : Type 0 where
  pub within : at ≤ 8 * length file
  pub few : frames ≤ at
  pub kept_is : kept ≡ kept_of (take at (sent_bits file))
  pub count : frames ≡ frame_count (frames_of_bits (take at (sent_bits file)))
  pub leads : LeadsOn (reads_bits false file) (prints_each verdict_line (verdicts_behind file at) (counts_bits file)) before now
