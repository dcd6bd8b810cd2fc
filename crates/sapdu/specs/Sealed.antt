-- The text that the MAC of an SaPDU seals (SUBSET-037, computation of the MAC): the length of what follows in two octets,
-- the receiver's number DA in three, and the part m of the SaPDU. It isn't padded here.
use Rattle.std.specs.Prelude.{ℕ, Bool, List, [], ◌∷◌, ◌++◌, length}
use Rattle.er_base.specs.Octets.{two, three, eight}
use Rattle.sapdu.specs.Spelling.{SafetyPdu, Au1, Au2, Au3, Ar, Dt, Di, header}

-- the part m of an SaPDU with its flag, by the random numbers Ra and Rb: of an AU2 its first 13 octets and Rb, of an AU3 its header
-- and both random numbers, of an AR its header, of a DT its header and user octets
abbrev pub sealed_part : SafetyPdu → Bool → ℕ → ℕ → List ℕ
sealed_part (Au1 id feature own) flag ra rb = []
sealed_part (Au2 id feature own mac) flag ra rb =
    header (Au2 id feature own mac) flag ∷ three id ++ feature ∷ eight own ++ eight rb
sealed_part (Au3 mac) flag ra rb = header (Au3 mac) flag ∷ eight ra ++ eight rb
sealed_part (Ar mac) flag ra rb = header (Ar mac) flag ∷ []
sealed_part (Dt user mac) flag ra rb = header (Dt user mac) flag ∷ user
sealed_part (Di reason sub) flag ra rb = []

-- what follows the length: DA and m
abbrev pub addressed : SafetyPdu → Bool → ℕ → ℕ → ℕ → List ℕ
addressed pdu flag da ra rb = three da ++ sealed_part pdu flag ra rb

-- the sealed text of an SaPDU with its flag, to the receiver `da`
abbrev pub sealed_text : SafetyPdu → Bool → ℕ → ℕ → ℕ → List ℕ
sealed_text pdu flag da ra rb = two (length (addressed pdu flag da ra rb)) ++ addressed pdu flag da ra rb
