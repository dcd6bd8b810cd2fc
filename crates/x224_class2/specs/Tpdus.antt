-- The TPDUs that one side of a connection gives (ITU-T X.224, clause 13), with absolute numbers. They show numbers
-- modulo 128. Both references are 0001, but the destination of CR, which isn't known yet, is 0000: this profile.
use Rattle.std.specs.Prelude.{ℕ, ◌%◌, Bool, List}
use Rattle.x224_tpdu.specs.Spelling.{TransportPdu, connection_request, connection_confirm, disconnect_request, disconnect_confirm, data_tpdu, acknowledgement}
use Rattle.x224_tpdu.specs.Writing.{written_octets}

-- a TPDU that is given; the last two are written by the layer above
pub data GivenTpdu : Type 0 where
  Cr : (credit size : ℕ) → (user : List ℕ) → GivenTpdu
  Cc : (credit size : ℕ) → (user : List ℕ) → GivenTpdu
  Dt : (last : Bool) → (number : ℕ) → (user : List ℕ) → GivenTpdu
  Ak : (credit number : ℕ) → GivenTpdu
  Dr : (reason : ℕ) → (user : List ℕ) → GivenTpdu
  Dc : GivenTpdu

-- the TPDU with its references, its number modulo 128
abbrev pub pdu_given : GivenTpdu → TransportPdu
pdu_given (Cr credit size user) = connection_request credit 0 1 size user
pdu_given (Cc credit size user) = connection_confirm credit 1 1 size user
pdu_given (Dt last number user) = data_tpdu 1 last (number % 128) user
pdu_given (Ak credit number) = acknowledgement credit 1 (number % 128)
pdu_given (Dr reason user) = disconnect_request 1 1 reason user
pdu_given Dc = disconnect_confirm 1 1

-- its octets
abbrev pub octets_given : GivenTpdu → List ℕ
octets_given tpdu = written_octets (pdu_given tpdu)
