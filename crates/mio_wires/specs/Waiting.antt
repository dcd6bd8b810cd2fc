-- How long a turn waits (this profile).
use Rattle.std.specs.Prelude.{◌≡◌, ℕ, ◌*◌, ◌-◌, min, Option, None, Some, IsSomeAnd}
use Rattle.std.specs.Duration.{as_nanos}
use Rattle.std.specs.declared.time.Duration.{Duration}

-- the earlier of two moments, where they are
abbrev pub earlier : Option ℕ → Option ℕ → Option ℕ
earlier None other = other
earlier (Some one) None = Some one
earlier (Some one) (Some other) = Some (min one other)

-- a wait from one moment to another: not at all where that is past, and without an end where there is none. A wait is reckoned in nanoseconds,
-- moments in milliseconds
abbrev pub WaitsUntil : (until : Option ℕ) (now : ℕ) → Option Duration → Type 0
WaitsUntil None now wait = wait ≡ None
WaitsUntil (Some until) now wait = IsSomeAnd wait (λ time. as_nanos time ≡ (until - now) * 1000000)
