-- A message of the user has 1 to 1,023 octets (this profile), so that the longest SaPDU, its DT, has 1,032.
use Rattle.std.specs.Prelude.{ℕ, ◌≤◌, ◌&&◌, nat_le, Bool, List, length}

-- the most octets of a message, and of an SaPDU
abbrev pub most_user_octets : ℕ
most_user_octets = 1023

abbrev pub most_octets : ℕ
most_octets = 1032

-- user octets that a DT can carry
abbrev pub IsMessage : List ℕ → Type 0
IsMessage user = (1 ≤ length user) × (length user ≤ most_user_octets)

-- the same as a test
abbrev pub is_message : List ℕ → Bool
is_message user = nat_le 1 (length user) && nat_le (length user) most_user_octets
