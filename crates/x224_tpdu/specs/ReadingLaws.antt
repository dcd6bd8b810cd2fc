-- The laws of reading a TPDU (ITU-T X.224, clause 13): octets that spell one are read as this one, none other are read as a TPDU, and faulty octets are read as
-- their first fault.
use Rattle.std.specs.Prelude.{◌≡◌, ℕ, ◌<◌, ◌≤◌, List, length, Some, Result, Ok, Err}
use Rattle.er_base.specs.Octets.{AreOctets}
use Rattle.x224_tpdu.specs.declared.tpdu.Tpdu.{Tpdu}
use Rattle.x224_tpdu.specs.declared.fault.TpFault.{TpFault}
use Rattle.x224_tpdu.specs.Kinds.{least_user, most_user}
use Rattle.x224_tpdu.specs.Spelling.{TransportPdu, connection_request, connection_confirm, disconnect_request, disconnect_confirm, data_tpdu, acknowledgement}
use Rattle.x224_tpdu.specs.Spelling.{tpdu_error, user_in}
use Rattle.x224_tpdu.specs.Spellings.{pdu_of, kind_in, Spells, IsSize, IsWritable}
use Rattle.x224_tpdu.specs.Faults.{first_fault}
use Rattle.x224_tpdu.specs.Writing.{written_octets}
use Rattle.x224_tpdu.specs.Function.{reading}

-- the answer of the code, whose TPDU lends its user data
abbrev pub answer_of : Result Tpdu TpFault → Result TransportPdu TpFault
answer_of (Ok tpdu) = Ok (pdu_of tpdu)
answer_of (Err fault) = Err fault

-- octets that spell a TPDU are read as this TPDU
abbrev pub ReadingOfSpelled : Type 0
ReadingOfSpelled = (octets : List ℕ) (p : TransportPdu) → Spells p octets → reading octets ≡ Ok p

-- faulty octets are read as their first fault
abbrev pub ReadingOfFaulty : Type 0
ReadingOfFaulty = (octets : List ℕ) (fault : TpFault) → first_fault octets ≡ Some fault → reading octets ≡ Err fault

-- what was written is read as the same TPDU
abbrev pub ReadingOfWritten : Type 0
ReadingOfWritten = (p : TransportPdu) → IsWritable p → reading (written_octets p) ≡ Ok p

-- the bits of a field, the size and the user data are within their bounds; references and reasons are left out
abbrev pub IsInRange : TransportPdu → Type 0
IsInRange p = FieldsInRange p × (least_user (kind_in p) ≤ length (user_in p)) × (length (user_in p) ≤ most_user (kind_in p))
  where
    FieldsInRange : TransportPdu → Type 0
    FieldsInRange (connection_request credit dst src size user) = (credit < 16) × IsSize size
    FieldsInRange (connection_confirm credit dst src size user) = (credit < 16) × IsSize size
    FieldsInRange (disconnect_request dst src reason user) = Unit {0}
    FieldsInRange (disconnect_confirm dst src) = Unit {0}
    FieldsInRange (data_tpdu dst last number user) = number < 128
    FieldsInRange (acknowledgement credit dst number) = (credit < 16) × (number < 128)
    FieldsInRange (tpdu_error dst cause) = Unit {0}

-- what is read is within its bounds
abbrev pub ReadingIsInRange : Type 0
ReadingIsInRange = (octets : List ℕ) (p : TransportPdu) → reading octets ≡ Ok p → IsInRange p

-- octets are read as a TPDU only where they spell it
abbrev pub ReadingSpells : Type 0
ReadingSpells = (octets : List ℕ) (p : TransportPdu) → AreOctets octets → reading octets ≡ Ok p → Spells p octets
