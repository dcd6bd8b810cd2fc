-- What a room for bits is seen as (this profile): the bits that it holds, and how many it can hold.
use Rattle.std.specs.Prelude.{ℕ, ◌≡◌, ◌<◌, ◌≤◌, ◌+◌, ◌-◌, ◌*◌, ◌%◌, Bool, List, ◌++◌, length, drop, replicate, if◌then◌else◌}
use Rattle.hdlc_fcs.specs.FrameCheck.{sent_bits}

pub record StoredBits : Type 0 where
  pub bits : List ℕ
  pub capacity : ℕ

-- bits with as many ones behind them as fill up the last octet
unfoldable pub filled_up : List ℕ → List ℕ
filled_up bits = bits ++ replicate ((8 - length bits % 8) % 8) 1

-- there is room for so many bits more
abbrev pub HasRoomForBits : StoredBits → ℕ → Type 0
HasRoomForBits out n = length out.bits + n ≤ out.capacity

-- these bits were appended, and the room is as large as before
pub record AppendsBits (old new : StoredBits) (bits : List ℕ) : Type 0 where
  pub bits_are : new.bits ≡ old.bits ++ bits
  pub capacity : new.capacity ≡ old.capacity

-- a bit by a test
abbrev pub bit_of : Bool → ℕ
bit_of one = if one then 1 else 0

-- as few octets as hold so many bits, with ones behind them
pub record IsFilledUp (len : ℕ) (octets : List ℕ) : Type 0 where
  pub fits : len ≤ 8 * length octets
  pub few : 8 * length octets < len + 8
  pub ones : drop len (sent_bits octets) ≡ replicate (8 * length octets - len) 1
