-- The SaPDUs of SUBSET-037 (the structure of the safety layer's messages) that this profile has: the header octet of each kind
-- and the number of its octets. The header octet has three bits ETY, four bits MTI and last the bit DF: 0 from the initiator,
-- 1 from the responder.
use Rattle.std.specs.Prelude.{ℕ, ◌-◌, ◌%◌, ◌==◌, if◌then◌else◌, List, [], ◌∷◌, Option, Some, None}
use Rattle.sapdu.specs.Messages.{most_octets}
use Rattle.sapdu.specs.declared.kind.SaKind.{SaKind}
use Rattle.sapdu.specs.declared.kind.SaKind.TheVariants as kind

-- a row of the table: the header octet with DF 0, the least and the greatest number of octets
pub record SapduKindRow : Type 0 where
  pub header : ℕ
  pub least : ℕ
  pub greatest : ℕ

-- the table
abbrev pub row_of_sapdu_kind : SaKind → SapduKindRow
row_of_sapdu_kind kind.Au1 = record { header = 0x42; least = 13; greatest = 13 }
row_of_sapdu_kind kind.Au2 = record { header = 0x24; least = 21; greatest = 21 }
row_of_sapdu_kind kind.Au3 = record { header = 0x06; least = 9; greatest = 9 }
row_of_sapdu_kind kind.Ar = record { header = 0x12; least = 9; greatest = 9 }
row_of_sapdu_kind kind.Dt = record { header = 0x0a; least = 10; greatest = most_octets }
row_of_sapdu_kind kind.Di = record { header = 0x10; least = 3; greatest = 3 }

-- all kinds
abbrev pub kinds : List SaKind
kinds = kind.Au1 ∷ kind.Au2 ∷ kind.Au3 ∷ kind.Ar ∷ kind.Dt ∷ kind.Di ∷ []

-- the kind among these with this header octet, where there is one
abbrev pub kind_among : List SaKind → ℕ → Option SaKind
kind_among [] octet = None
kind_among (one ∷ others) octet = if octet - octet % 2 == (row_of_sapdu_kind one).header then Some one else kind_among others octet

-- the kind with this header octet, whatever its bit DF
abbrev pub kind_with : ℕ → Option SaKind
kind_with octet = kind_among kinds octet
