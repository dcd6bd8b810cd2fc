-- Representation: how the code takes the fields behind a header octet, and makes a sealed text; no claim rests on it.
use Rattle.std.specs.Prelude.{ℕ, ◌≡◌, ◌≤◌, List, ◌++◌, length}
use Rattle.er_base.specs.Octets.{two}
use Rattle.sapdu.specs.declared.kind.SaKind.{SaKind}
use Rattle.sapdu.specs.Kinds.{SapduKindRow}
use Rattle.sapdu.specs.Spelling.{SafetyPdu, kind_of, body}
use Rattle.sapdu.specs.SpellingLaws.{Fits}

-- these are the octets behind the header of an SaPDU of this kind
abbrev pub IsBody : SaKind → List ℕ → SafetyPdu → Type 0
IsBody kind fields pdu = (kind_of pdu ≡ kind) × Fits pdu × (fields ≡ body pdu)

-- a length that a row allows
abbrev pub IsLong : SapduKindRow → ℕ → Type 0
IsLong of found = (of.least ≤ found) × (found ≤ of.greatest)

-- a text is the length of these octets and the octets
abbrev pub IsLengthAndOctets : List ℕ → List ℕ → Type 0
IsLengthAndOctets octets text = text ≡ two (length octets) ++ octets
