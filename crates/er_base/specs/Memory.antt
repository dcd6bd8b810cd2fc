-- Want of memory, the one answer that no clause ties to a cause: its value tells nothing but that it came.
use Rattle.std.specs.Prelude.{◌≡◌}
use Rattle.er_base.specs.declared.no_memory.NoMemory.{NoMemory}

-- there is one such value
abbrev pub IsOne : Type 0
IsOne = (a b : NoMemory) → a ≡ b
