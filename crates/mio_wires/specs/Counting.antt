-- What a clause sees of wires over sockets (this profile): numbers, and counts of faults. Of content they tell nothing.
use Rattle.std.specs.Prelude.{ℕ, Bool, false}

-- the number of the newest connection, whether a listen was Ok, how often a call failed, how often a listen, dial or turn did
pub record Counting : Type 0 where
  pub opened : ℕ
  pub listening : Bool
  pub faults : ℕ
  pub turn_faults : ℕ

-- wires as they are made
abbrev pub unused : Counting
unused = record { opened = 0; listening = false; faults = 0; turn_faults = 0 }
