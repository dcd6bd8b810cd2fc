-- What reading octets as a TPDU answers, and what follows from the definitions alone.
use Rattle.std.specs.Prelude.{◌≡◌, ◌≢◌, ◌≤◌, ℕ, List, length, None, Some, Result, Ok, Err}
use Rattle.x224_tpdu.specs.declared.tpdu.Tpdu.{Tpdu}
use Rattle.x224_tpdu.specs.declared.fault.TpFault.{TpFault}
use Rattle.x224_tpdu.specs.declared.kind.Kind.TheVariants.{Er}
use Rattle.x224_tpdu.specs.Spelling.{TransportPdu}
use Rattle.x224_tpdu.specs.Spellings.{pdu_of, kind_in, Spells, IsWritable}
use Rattle.x224_tpdu.specs.Faults.{first_fault}
use Rattle.x224_tpdu.specs.Writing.{written_octets}

-- the TPDU that the octets spell, or their first fault
abbrev pub Reads : List ℕ → Result Tpdu TpFault → Type 0
Reads octets (Ok tpdu) = Spells (pdu_of tpdu) octets
Reads octets (Err fault) = first_fault octets ≡ Some fault

-- octets spell one TPDU at most
abbrev pub SpellsOne : Type 0
SpellsOne = (octets : List ℕ) (p q : TransportPdu) → Spells p octets → Spells q octets → p ≡ q

-- octets that spell a TPDU have no fault
abbrev pub SpelledHasNoFault : Type 0
SpelledHasNoFault = (octets : List ℕ) (p : TransportPdu) → Spells p octets → first_fault octets ≡ None

-- what is written is a spelling
abbrev pub WrittenIsSpelled : Type 0
WrittenIsSpelled = (p : TransportPdu) → IsWritable p → Spells p (written_octets p)

-- what can be written is what octets can spell, ER aside
abbrev pub SpelledIsWritable : Type 0
SpelledIsWritable = (octets : List ℕ) (p : TransportPdu) → Spells p octets → kind_in p ≢ Er → IsWritable p

-- what is written has 1,024 octets at most
abbrev pub WrittenIsShort : Type 0
WrittenIsShort = (p : TransportPdu) → IsWritable p → length (written_octets p) ≤ 1024
