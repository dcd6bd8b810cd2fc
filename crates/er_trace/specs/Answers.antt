-- What reading a trace answers.
use Rattle.std.specs.Prelude.{◌≡◌, Result, Ok, Err}
use Rattle.er_base.specs.declared.text_fault.TextFault.{TextFault}
use Rattle.er_base.specs.declared.text_fault.TextFault.TheVariants.{At, NoMemory}

-- the answer is what the file says, but for want of memory
abbrev pub AnswersAsTraceSays : {A : Type 0} → Result A TextFault → Result A TextFault → Type 0
AnswersAsTraceSays (Ok value) said = said ≡ Ok value
AnswersAsTraceSays (Err (At line why)) said = said ≡ Err (At line why)
AnswersAsTraceSays (Err (NoMemory want)) said = Unit {0}
