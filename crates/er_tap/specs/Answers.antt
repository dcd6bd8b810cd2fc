-- What reading a tap answers.
use Rattle.std.specs.Prelude.{◌≡◌, Result, Ok, Err}
use Rattle.er_base.specs.declared.text_fault.TextFault.{TextFault}
use Rattle.er_base.specs.declared.text_fault.TextFault.TheVariants.{At, NoMemory}

-- the answer is what the file says, but for want of memory
abbrev pub AnswersAsTapSays : {A : Type 0} → Result A TextFault → Result A TextFault → Type 0
AnswersAsTapSays (Ok value) said = said ≡ Ok value
AnswersAsTapSays (Err (At line why)) said = said ≡ Err (At line why)
AnswersAsTapSays (Err (NoMemory want)) said = Unit {0}
