-- Which bodies begin with the octets of a control (ISO/IEC 13239), as a relation.
use Rattle.std.specs.Prelude.{◌≡◌, ℕ, ◌+◌, ◌<◌, Bool, Some, List, ◌++◌}
use Rattle.hdlc_frames.specs.declared.controls.Control.{Control}
use Rattle.hdlc_frames.specs.declared.controls.Control.TheVariants.{Info, Rr, Rnr, Rej, Srej, Sabm, Sabme, Disc, Ua, Dm, Frmr}
use Rattle.hdlc_frames.specs.Controls.{control_octets}

-- the numbers of a control are below the modulo
abbrev pub IsBelow : ℕ → Control → Type 0
IsBelow modulo (Info ns nr) = (ns < modulo) × (nr < modulo)
IsBelow modulo (Rr nr) = nr < modulo
IsBelow modulo (Rnr nr) = nr < modulo
IsBelow modulo (Rej nr) = nr < modulo
IsBelow modulo (Srej nr) = nr < modulo
IsBelow modulo (Sabm poll) = Unit {0}
IsBelow modulo (Sabme poll) = Unit {0}
IsBelow modulo (Disc poll) = Unit {0}
IsBelow modulo Ua = Unit {0}
IsBelow modulo Dm = Unit {0}
IsBelow modulo Frmr = Unit {0}

-- a body is the octets of a control, whatever its P/F bit, and then information
abbrev pub HasControl : ℕ → List ℕ → Control → List ℕ → Type 0
HasControl modulo body control information =
    IsBelow modulo control
    × ((bit : Bool) × ((octets : List ℕ) × ((control_octets modulo control bit ≡ Some octets) × (body ≡ octets ++ information))))

-- a body does not begin with the octets of a control
abbrev pub HasNoControl : ℕ → List ℕ → Type 0
HasNoControl modulo body = (control : Control) (information : List ℕ) → HasControl modulo body control information → ⊥
