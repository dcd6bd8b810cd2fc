-- What a fault of a text is (this profile).
use Rattle.er_base.specs.declared.text_fault.TextFault.{TextFault}
use Rattle.er_base.specs.declared.text_fault.TextFault.TheVariants as fault

-- it is want of memory
abbrev pub IsNoMemory : TextFault → Type 0
IsNoMemory (fault.At line why) = ⊥
IsNoMemory (fault.NoMemory want) = Unit {0}
