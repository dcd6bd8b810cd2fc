-- Representation: what the reading calls answer, want of memory aside; no claim rests on it.
use Rattle.std.specs.Prelude.{ℕ, ◌==◌, List, length, Result, Ok}
use Rattle.er_base.specs.declared.why.Why.{Why}
use Rattle.er_base.specs.declared.why.Why.TheVariants as why
use Rattle.er_base.specs.declared.line_fault.LineFault.{LineFault}
use Rattle.er_base.specs.declared.line_fault.LineFault.TheVariants as line
use Rattle.er_base.specs.declared.text_fault.TextFault.{TextFault}
use Rattle.er_base.specs.declared.text_fault.TextFault.TheVariants as text
use Rattle.er_base.specs.Arguments.{◌>>=◌}
use Rattle.er_base.specs.LineFaults.{demand, values_of}
use Rattle.relay_script.specs.declared.change_name.ChangeName.{ChangeName}
use Rattle.relay_script.specs.declared.script_line.ScriptLine.{ScriptLine}
use Rattle.relay_script.specs.Table.{script_argument_of, change_kinds, script_line_made}

-- what a line says whose first word begins it and that has as many words as it wants
abbrev pub change_said : ChangeName → List (List ℕ) → Result ScriptLine Why
change_said name words = values_of script_argument_of (change_kinds name) words >>= λ values. Ok (script_line_made name values)

-- what a line says whose first word begins it: as many words as it wants, then its arguments
abbrev pub line_of_change : ChangeName → List (List ℕ) → Result ScriptLine Why
line_of_change name words = demand (length words == length (change_kinds name)) why.Count >>= λ _. change_said name words

-- where the text is faulty, where its line was
abbrev pub script_text_fault : ℕ → LineFault → TextFault
script_text_fault number (line.Refused why) = text.At number why
script_text_fault number (line.NoMemory want) = text.NoMemory want
