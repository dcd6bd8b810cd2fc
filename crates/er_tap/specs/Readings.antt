-- Representation: what the reading calls answer, want of memory aside; no claim rests on it.
use Rattle.std.specs.Prelude.{ℕ, ◌≡◌, ◌==◌, ◌<◌, List, length, Result, Ok, Err}
use Rattle.er_base.specs.declared.why.Why.{Why}
use Rattle.er_base.specs.declared.why.Why.TheVariants as why
use Rattle.er_base.specs.declared.line_fault.LineFault.{LineFault}
use Rattle.er_base.specs.declared.line_fault.LineFault.TheVariants as line
use Rattle.er_base.specs.declared.text_fault.TextFault.{TextFault}
use Rattle.er_base.specs.declared.text_fault.TextFault.TheVariants as text
use Rattle.er_base.specs.Arguments.{◌>>=◌}
use Rattle.er_base.specs.Lines.{lines_of, rows_of}
use Rattle.er_base.specs.LineFaults.{demand, values_of}
use Rattle.er_tap.specs.declared.line_name.LineName.{LineName}
use Rattle.er_tap.specs.declared.tap_step.TapStep.{TapStep}
use Rattle.er_tap.specs.declared.tap_line.TapLine.{TapLine}
use Rattle.er_tap.specs.Files.{tap_lines_with_first, lines_said}
use Rattle.er_tap.specs.Ranges.{IsInRange}
use Rattle.er_tap.specs.Table.{argument_of, line_kinds, step_made}

-- what a line says whose first word names it and that has as many words as it wants
abbrev pub step_said : LineName → List (List ℕ) → Result TapStep Why
step_said name words = values_of argument_of (line_kinds name) words >>= λ values. Ok (step_made name values)

-- what a line says whose first word names it: as many words as it wants, then its arguments
abbrev pub step_of : LineName → List (List ℕ) → Result TapStep Why
step_of name words = demand (length words == length (line_kinds name)) why.Count >>= λ _. step_said name words

-- where the text is faulty, where its line was
abbrev pub tap_text_fault : ℕ → LineFault → TextFault
tap_text_fault number (line.Refused why) = text.At number why
tap_text_fault number (line.NoMemory want) = text.NoMemory want

-- what is left of a tap, behind so many lines
pub record KRest : Type 0 where
  pub before : ℕ
  pub text : List ℕ

-- the first line that isn't skipped, of what was left, says this, and this is left behind it
pub record SaysFirst (old : KRest) (line : TapLine) (new : KRest) : Type 0 where
  pub said : lines_said (rows_of old.before (lines_of old.text)) ≡ tap_lines_with_first line (lines_said (rows_of new.before (lines_of new.text)))
  pub range : IsInRange line.step
  pub less : length new.text < length old.text

-- the lines are refused so, but for want of memory
abbrev pub RefusesLines : {A : Type 0} → TextFault → Result A TextFault → Type 0
RefusesLines (text.At number why) said = said ≡ Err (text.At number why)
RefusesLines (text.NoMemory want) said = Unit {0}
