-- Representation: which connections are told of room for writing.
use Rattle.std.specs.Prelude.{◌≡◌, ℕ, true, Result, Ok, Err, IsSomeAnd}
use Rattle.std.specs.IoError.{error_kind}
use Rattle.std.specs.declared.io.Error.{Error}
use Rattle.std.specs.declared.io.ErrorKind.{ErrorKind}
use Rattle.slab.specs.Slab.{get}
use Rattle.mio_wires.specs.declared.lines.Lines.{Lines}
use Rattle.mio_wires.specs.Standing.{HasSlot}

-- a write took all of so many octets, or its connection is gone
abbrev pub LeavesNothing : Result ℕ Error → ℕ → Type 0
LeavesNothing (Ok count) octets = count ≡ octets
LeavesNothing (Err error) octets = error_kind error ≡ ErrorKind.BrokenPipe

-- the connection of this number is open, and is told to be writable once the system reports room
abbrev pub AwaitsRoom : Lines → ℕ → Type 0
AwaitsRoom lines number =
    (slot : ℕ) × HasSlot lines.places.items number slot × IsSomeAnd (get lines.slots slot) (λ line. line.awaits_room ≡ true)
