-- Representation: what a recorded line leaves in the sink, and how its command ends; no claim rests on it.
use Rattle.std.specs.Prelude.{ℕ, ◌≤◌, List, take, Option, None, Some, Result, Ok, Err, if◌then◌else◌}
use Rattle.link_trait.specs.Outside.{Grew}
use Rattle.hdlc_bits.specs.Framing.{Verdict}
use Rattle.er_program.specs.Answers.{bits_answer}
use Rattle.er_program.specs.BitTexts.{verdict_lines, verdicts_in, is_frame}
use Rattle.er_statuses.specs.Writing.{GivesAnswer}
use Rattle.er_statuses.specs.declared.status.Status.{Status}
use Rattle.er_statuses.specs.declared.stop.Stop.{Stop}
use Rattle.er_statuses.specs.declared.stop.Stop.TheVariants as stop

-- how many frames one call found
abbrev pub found_count : Option Verdict → ℕ
found_count None = 0
found_count (Some v) = if is_frame v then 1 else 0

-- the lines of some first verdicts were written, and nothing else
pub record FirstVerdicts (file : List ℕ) (before now : Option (List ℕ)) : Type 0 where
  pub count : ℕ
  pub grew : Grew before now (verdict_lines (take count (verdicts_in file)))

-- a file was answered; where memory ran out, the lines of some first verdicts were written
abbrev pub EndsBits : List ℕ → Option (List ℕ) → Option (List ℕ) → ℕ → ℕ → Result Status Stop → Type 0
EndsBits file before now f g (Ok s) = GivesAnswer (bits_answer file) before now f g (Ok s)
EndsBits file before now f g (Err stop.Sink) = GivesAnswer (bits_answer file) before now f g (Err stop.Sink)
EndsBits file before now f g (Err (stop.NoMemory want)) = FirstVerdicts file before now × (f ≤ g)
