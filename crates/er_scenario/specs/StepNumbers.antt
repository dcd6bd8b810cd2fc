-- The ETCS numbers that a step of a drill may name, and its moments, in milliseconds (this profile).
use Rattle.std.specs.Prelude.{ℕ, ◌<◌, ◌≤◌}

-- an ETCS number, below 2 ^ 24
abbrev pub IsEtcsNumber : ℕ → Type 0
IsEtcsNumber n = n < 16777216

-- a moment in milliseconds, at most 10 ^ 15
abbrev pub IsMoment : ℕ → Type 0
IsMoment n = n ≤ 1000000000000000
