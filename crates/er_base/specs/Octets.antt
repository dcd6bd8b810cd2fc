-- Whole numbers as octets, the most significant octet first, as ITU-T X.224 (13.2) and SUBSET-037 write them.
use Rattle.std.specs.Prelude.{ℕ, ◌≡◌, ◌+◌, ◌*◌, ◌/◌, ◌%◌, ◌^◌, ◌<◌, List, [], ◌∷◌, ◌++◌, length, slice_index, Option, MatchOption, refl}
use Rattle.std.specs.Int.{to_be_bytes, w64}

-- each element is below 256 (past its end a list reads as 0)
abbrev pub AreOctets : List ℕ → Type 0
AreOctets octets = (k : ℕ) → slice_index octets k < 256

-- a number below 2 ^ 8 as one octet
abbrev pub one : ℕ → List ℕ
one n = n ∷ []

-- a number below 2 ^ 16 as two octets
abbrev pub two : ℕ → List ℕ
two n = n / 256 ∷ n % 256 ∷ []

-- a number below 2 ^ 24 as three octets
abbrev pub three : ℕ → List ℕ
three n = n / 65536 ∷ n / 256 % 256 ∷ n % 256 ∷ []

-- a number below 2 ^ 64 as eight octets
unfoldable pub eight : ℕ → List ℕ
eight n = to_be_bytes w64 n

-- the number that octets spell
unfoldable pub number_in : List ℕ → ℕ
number_in [] = 0
number_in (octet ∷ octets) = octet * 256 ^ length octets + number_in octets

-- a number of `width` octets was taken from the front: None exactly where fewer are left, and then all stay
abbrev pub TakesNumberFromFront : (ℕ → List ℕ) → ℕ → ℕ → List ℕ → Option ℕ → List ℕ → Type 0
TakesNumberFromFront spelled width limit old result new =
    MatchOption result ((length old < width) × (new ≡ old)) (λ n. (n < limit) × (old ≡ spelled n ++ new))

-- known answers: 258 in two octets and in eight
pub known_number : number_in (1 ∷ 2 ∷ []) ≡ 258
unfolding number_in
known_number = refl

pub known_octets : eight 258 ≡ 0 ∷ 0 ∷ 0 ∷ 0 ∷ 0 ∷ 0 ∷ 1 ∷ 2 ∷ []
unfolding eight
known_octets = refl
