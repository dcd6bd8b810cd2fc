-- Representation: how the messages that wait are kept, and the ranges of what the code keeps; no claim rests on it.
use Rattle.std.specs.Prelude.{ℕ, ◌≡◌, ◌<◌, ◌≤◌, List, [], ◌∷◌, length, drop}

-- the messages of which n octets of the first were given
abbrev pub left_of : ℕ → List (List ℕ) → List (List ℕ)
left_of n [] = []
left_of n (m ∷ ms) = drop n m ∷ ms

-- each message has an octet at least
abbrev pub AreNonempty : List (List ℕ) → Type 0
AreNonempty [] = Unit {0}
AreNonempty (m ∷ ms) = (0 < length m) × AreNonempty ms

-- of the first message fewer octets were given than it has
abbrev pub IsFirstMessageBegun : ℕ → List (List ℕ) → Type 0
IsFirstMessageBegun n [] = n ≡ 0
IsFirstMessageBegun n (m ∷ ms) = n < length m

-- messages of which n octets of the first were given may wait so
pub record AreWaitingMessages (n : ℕ) (messages : List (List ℕ)) : Type 0 where
  pub count : length messages ≤ 16
  pub nonempty : AreNonempty messages
  pub begun : IsFirstMessageBegun n messages
