-- Representation: the moment of the wires' own clock, by the system's monotonic clock from a moment on that it was told.
use Rattle.std.specs.Prelude.{ℕ, ◌+◌, ◌-◌, ◌/◌, ◌^◌, min, Option, Some, None}
use Rattle.std.specs.Duration.{as_nanos}
use Rattle.mio_wires.specs.declared.moments.Moments.{Moments}

-- the moment, in milliseconds and at most 2^64 - 1, at which the system's clock reads `read`, where it read `first` at the moment `begun`;
-- both readings are nanoseconds
abbrev pub wires_moment_since : (begun first read : ℕ) → ℕ
wires_moment_since begun first read = min (begun + (read - first) / 1000000) (2 ^ 64 - 1)

-- the moment at which it read what it read last
abbrev pub wires_moment : Moments → ℕ
wires_moment m = wires_moment_since m.begun (as_nanos m.first) (as_nanos m.read)
