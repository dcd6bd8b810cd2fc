-- What an SaPDU may hold, its first fault, and the laws of spellings (UNISIG SUBSET-037): octets are read as what they spell, and as nothing else.
use Rattle.std.specs.Prelude.{ℕ, ◌^◌, ◌≡◌, ◌<◌, ◌≤◌, ◌↔◌, Bool, List, [], ◌∷◌, length, Option, Some, None, Ok, true}
use Rattle.er_base.specs.Octets.{AreOctets}
use Rattle.sapdu.specs.declared.fault.SaFault.{SaFault}
use Rattle.sapdu.specs.declared.fault.SaFault.TheVariants.{Short, Kind}
use Rattle.sapdu.specs.declared.kind.SaKind.{SaKind}
use Rattle.sapdu.specs.Kinds.{row_of_sapdu_kind, kind_with}
use Rattle.sapdu.specs.Messages.{IsMessage, most_octets, is_message}
use Rattle.sapdu.specs.Spelling.{Ar, Au1, Au2, Au3, Di, Dt, SafetyPdu, di_in, fault_of_length, kind_of, read_of, spelling}

-- the user octets of a DT are a message
abbrev pub HasUserOctets : SafetyPdu → Type 0
HasUserOctets (Au1 id feature rb) = Unit {0}
HasUserOctets (Au2 id feature ra mac) = Unit {0}
HasUserOctets (Au3 mac) = Unit {0}
HasUserOctets (Ar mac) = Unit {0}
HasUserOctets (Dt user mac) = IsMessage user
HasUserOctets (Di reason sub) = Unit {0}

-- an ETCS number fits its three octets
abbrev pub HasNumber : SafetyPdu → Type 0
HasNumber (Au1 id feature rb) = id < 2 ^ 24
HasNumber (Au2 id feature ra mac) = id < 2 ^ 24
HasNumber (Au3 mac) = Unit {0}
HasNumber (Ar mac) = Unit {0}
HasNumber (Dt user mac) = Unit {0}
HasNumber (Di reason sub) = Unit {0}

-- each number fits its octets
abbrev pub HasOctets : SafetyPdu → Type 0
HasOctets (Au1 id feature rb) = (id < 2 ^ 24) × (feature < 256) × (rb < 2 ^ 64)
HasOctets (Au2 id feature ra mac) = (id < 2 ^ 24) × (feature < 256) × (ra < 2 ^ 64) × (mac < 2 ^ 64)
HasOctets (Au3 mac) = mac < 2 ^ 64
HasOctets (Ar mac) = mac < 2 ^ 64
HasOctets (Dt user mac) = AreOctets user × (mac < 2 ^ 64)
HasOctets (Di reason sub) = (reason < 256) × (sub < 256)

-- an SaPDU that has a spelling
pub record Fits (pdu : SafetyPdu) : Type 0 where
  pub user : HasUserOctets pdu
  pub octets : HasOctets pdu

-- the fault of so many octets, of which the first is this one
abbrev pub sapdu_fault_behind_header : ℕ → Option SaKind → ℕ → Option SaFault
sapdu_fault_behind_header octet None found = Some (Kind octet)
sapdu_fault_behind_header octet (Some one) found = fault_of_length (row_of_sapdu_kind one) found

-- the first fault of octets, where there is one: no octet, an unknown header, too few octets, too many
abbrev pub first_fault : List ℕ → Option SaFault
first_fault [] = Some (Short 1 0)
first_fault (octet ∷ rest) = sapdu_fault_behind_header octet (kind_with octet) (length (octet ∷ rest))

-- what is spelled is read back
abbrev pub IsReadBack : Type 0
IsReadBack = (pdu : SafetyPdu) (flag : Bool) → Fits pdu → read_of (spelling pdu flag) ≡ Ok (pdu, flag)

-- what is read has a spelling, which is what it was read from
abbrev pub IsSpelledBack : Type 0
IsSpelledBack = (octets : List ℕ) (pdu : SafetyPdu) (flag : Bool) → AreOctets octets → read_of octets ≡ Ok (pdu, flag) → Fits pdu × (octets ≡ spelling pdu flag)

-- a list of octets spells at most one SaPDU and flag
abbrev pub SpellsOne : Type 0
SpellsOne = (p q : SafetyPdu) (f g : Bool) → Fits p → Fits q → spelling p f ≡ spelling q g → (p ≡ q) × (f ≡ g)

-- a DI with this flag is what is read as one
abbrev pub IsReadAsDi : Type 0
IsReadAsDi = (octets : List ℕ) (flag : Bool) (reason sub : ℕ) → (di_in octets flag ≡ Some (reason, sub)) ↔ (read_of octets ≡ Ok (Di reason sub, flag))

-- a spelling is octets
abbrev pub SpellsOctets : Type 0
SpellsOctets = (pdu : SafetyPdu) (flag : Bool) → Fits pdu → AreOctets (spelling pdu flag)

-- as many as its kind has
abbrev pub SpellsItsLength : Type 0
SpellsItsLength =
    (pdu : SafetyPdu) (flag : Bool) → HasUserOctets pdu
    → ((row_of_sapdu_kind (kind_of pdu)).least ≤ length (spelling pdu flag)) × (length (spelling pdu flag) ≤ (row_of_sapdu_kind (kind_of pdu)).greatest)

-- and never more than 1,032
abbrev pub SpellsFew : Type 0
SpellsFew = (pdu : SafetyPdu) (flag : Bool) → HasUserOctets pdu → length (spelling pdu flag) ≤ most_octets

abbrev pub IsTested : Type 0
IsTested = (user : List ℕ) → (is_message user ≡ true) ↔ IsMessage user
