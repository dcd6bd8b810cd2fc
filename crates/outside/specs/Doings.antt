-- The outside as it is seen: the acts of its history, and what each of its parts tells; and what acts do to it (this profile).
use Rattle.std.specs.Prelude.{◌≡◌, List, ◌++◌}
use Rattle.std.specs.Borrow.{GName}
use Rattle.rand_core.specs.Stream.{Stream}
use Rattle.link_trait.specs.States.{CabinetState, SinkState, WiresState, ClockState}
use Rattle.outside.specs.Acts.{Act, words_in_acts}
use Rattle.outside.specs.Ties.{CabinetDid, SinkDid, WiresDid, ClockDid, AreDrawn}

-- which objects the parts are, where they are lent
pub record PartNames : Type 0 where
  pub cabinet : GName
  pub sink : GName
  pub wires : GName
  pub clock : GName
  pub randoms : GName

pub record Told : Type 0 where
  -- the acts so far, in their order
  pub acts : List Act
  -- what the parts tell by themselves
  pub cabinet : CabinetState
  pub sink : SinkState
  pub wires : WiresState
  pub clock : ClockState
  -- all random words that are still to come
  pub words : Stream
  pub names : PartNames

-- these acts were done, in this order, and nothing else: the history grew by them, and so did what each part tells
pub record Did (before now : Told) (acts : List Act) : Type 0 where
  pub grew : now.acts ≡ before.acts ++ acts
  pub cabinet : CabinetDid before.cabinet now.cabinet acts
  pub sink : SinkDid before.sink now.sink acts
  pub wires : WiresDid before.wires now.wires acts
  pub clock : ClockDid before.clock now.clock acts
  pub words : AreDrawn before.words (words_in_acts acts) now.words
  pub names : now.names ≡ before.names
