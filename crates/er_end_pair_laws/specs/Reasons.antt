-- Why an end that was released may have been, on an order-keeping line, where the keys agree (this profile).
use Rattle.std.specs.Prelude.{Option, Some, None}
use Rattle.er_base.specs.declared.release.Release.{Release}
use Rattle.er_end_model.specs.Reasons.{IsLosingLineReason}

-- an end isn't released, or for one of the reasons that such a line allows
abbrev pub IsLosingLineRelease : Option Release → Type 0
IsLosingLineRelease None = Unit {0}
IsLosingLineRelease (Some release) = IsLosingLineReason release
