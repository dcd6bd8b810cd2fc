-- What the objects of the outside tell, and what they count (this profile). What one tells is optional: one in memory tells it, a real
-- one doesn't.
use Rattle.std.specs.Prelude.{ℕ, Bool, List, Option}
use Rattle.link_trait.specs.Wires.{Call, Lines}

pub record SinkState : Type 0 where
  -- the octets that it was given, in their order
  pub held : Option (List ℕ)
  -- how often it failed
  pub faults : ℕ

pub record ClockState : Type 0 where
  -- its answers so far, in their order
  pub answers : Option (List ℕ)

pub record WiresState : Type 0 where
  -- the calls made so far, in their order
  pub calls : Option (List Call)
  -- what is told of each connection, by its number
  pub lines : Option Lines
  -- the number of the newest connection, 0 where there was none
  pub opened : ℕ
  -- whether a listen was Ok
  pub listening : Bool
  -- how often a call failed
  pub faults : ℕ
  -- how often a listen, dial or turn failed
  pub turn_faults : ℕ

pub record CabinetState : Type 0 where
  -- its files, name and octets, of which a name means the first
  pub files : Option (List (List ℕ × List ℕ))
  -- the names asked for, in their order
  pub asked : Option (List (List ℕ))
  -- how often it failed
  pub faults : ℕ
