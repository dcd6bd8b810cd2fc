-- What an event gives to the safety side of an end (UNISIG SUBSET-037): the request of its user, the request to connect as the link came up,
-- or the text that the station, the blocks and the transport made of a frame (ISO/IEC 13239, ITU-T T.70, ITU-T X.224).
use Rattle.std.specs.Prelude.{ℕ, ◌≡◌, max, List, Option, Some, None, Ok}
use Rattle.hdlc_frames.specs.Framing.{Verdict}
use Rattle.hdlc_station_model.specs.Stations.{Station, settled}
use Rattle.hdlc_station_model.specs.Calls.{receives}
use Rattle.t70_header.specs.Joining as joining
use Rattle.x224_class2.specs.Transport.{ReceptionDeed, Nothing, Called, Confirmed, Message, Disconnected, Refused, reception}
use Rattle.er_end_model.specs.Layers.{Core}

-- the text that a TPDU brought: the user data of a CR or a CC, or the message that a DT completes
abbrev pub text_in_deed : ReceptionDeed → Option (List ℕ)
text_in_deed Nothing = None
text_in_deed (Called user) = Some user
text_in_deed (Confirmed user) = Some user
text_in_deed (Message message) = Some message
text_in_deed (Disconnected user) = None
text_in_deed (Refused sub reason) = None

-- the station behind a frame that came to this end at a moment
abbrev pub station_behind : Core → ℕ → Verdict → Station
station_behind x now verdict = receives (max x.moment now) verdict (settled x.line)

-- a text that the layers below made of a frame: the station took a payload of it, this completed a TPDU, and the TPDU brought the text
pub record IsTextOf (x : Core) (now : ℕ) (verdict : Verdict) (text : List ℕ) : Type 0 where
  pub payload : List ℕ
  pub taken : (station_behind x now verdict).deed.payload ≡ Some payload
  pub tpdu : List ℕ
  pub joined : (joining.block_step x.joined payload).1 ≡ Ok (Some tpdu)
  pub brought : text_in_deed (reception x.upper.transport tpdu).1 ≡ Some text
