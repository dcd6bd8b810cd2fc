-- The moments of a clock that begins at the wall's clock and then goes with the monotonic one (this profile).
use Rattle.std.specs.Prelude.{ℕ, ◌+◌, ◌-◌, ◌/◌, min}

-- the moment, in milliseconds and at most 10^15, at which the monotonic clock reads `read`, where the two clocks read `wall` and `begun` at the
-- beginning; all three are nanoseconds
abbrev pub moment_since : (wall begun read : ℕ) → ℕ
moment_since wall begun read = min ((wall + (read - begun)) / 1000000) 1000000000000000

-- what a clause sees of such a clock: what both clocks read at the beginning, and the latest that the monotonic one read since, in nanoseconds
pub record Readings : Type 0 where
  pub wall : ℕ
  pub begun : ℕ
  pub latest : ℕ

-- the moment at which it read that
abbrev pub machine_moment : Readings → ℕ
machine_moment clock = moment_since clock.wall clock.begun clock.latest
