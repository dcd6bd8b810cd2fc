-- Contract: what octets of a side came to.
use Rattle.std.specs.Prelude.{◌≡◌, ℕ, List, [], ◌∷◌}
use Rattle.relay_carrier.specs.declared.came.CutOutcome.{CutOutcome}
use Rattle.relay_carrier.specs.declared.came.CutOutcome.TheVariants as came
use Rattle.relay_model.specs.Units.{Part, Outside, Whole, octets_in_parts}

-- the parts that one octet brought
abbrev pub parts_told : CutOutcome → (octets : List ℕ) → List Part
parts_told came.Held octets = []
parts_told came.Outside octets = Outside octets ∷ []
parts_told came.Unit octets = Whole octets ∷ []

abbrev pub AreOutside : List Part → Type 0
AreOutside [] = Unit {0}
AreOutside (Outside octets ∷ parts) = AreOutside parts
AreOutside (Whole unit ∷ parts) = ⊥

-- the parts that octets brought: none, octets of no unit, or one unit
abbrev pub TellsParts : CutOutcome → (octets : List ℕ) → List Part → Type 0
TellsParts came.Held octets parts = (parts ≡ []) × (octets ≡ [])
TellsParts came.Outside octets parts = AreOutside parts × (octets_in_parts parts ≡ octets)
TellsParts came.Unit octets parts = parts ≡ Whole octets ∷ []
