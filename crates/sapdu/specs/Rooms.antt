-- Contract: there is room for any SaPDU.
use Rattle.er_base.specs.Stored.{Stored, HasRoom}
use Rattle.sapdu.specs.Messages.{most_octets}

-- there is room for any SaPDU
abbrev pub HasRoomForSapdu : Stored → Type 0
HasRoomForSapdu out = HasRoom out most_octets
