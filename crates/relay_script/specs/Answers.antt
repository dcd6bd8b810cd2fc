-- What reading a script answers.
use Rattle.std.specs.Prelude.{◌≡◌, Result, Ok, Err}
use Rattle.er_base.specs.declared.text_fault.TextFault.{TextFault}
use Rattle.er_base.specs.declared.text_fault.TextFault.TheVariants.{At, NoMemory}
use Rattle.relay_script.specs.declared.script.Script.{Script}

-- the answer is what the file says, but for want of memory
abbrev pub AnswersAsScriptSays : Result Script TextFault → Result Script TextFault → Type 0
AnswersAsScriptSays (Ok script) said = said ≡ Ok script
AnswersAsScriptSays (Err (At line why)) said = said ≡ Err (At line why)
AnswersAsScriptSays (Err (NoMemory want)) said = Unit {0}
