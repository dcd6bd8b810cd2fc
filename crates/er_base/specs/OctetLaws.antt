-- What is so of numbers and the octets that spell them.
use Rattle.std.specs.Prelude.{ℕ, ◌≡◌, ◌<◌, List, ◌++◌, length}
use Rattle.er_base.specs.Octets.{number_in, AreOctets}

-- a spelling has as many octets as its name says
abbrev pub HasLength : (ℕ → List ℕ) → ℕ → Type 0
HasLength spelled width = (n : ℕ) → length (spelled n) ≡ width

-- what is spelled are octets
abbrev pub SpellsOctets : (ℕ → List ℕ) → ℕ → Type 0
SpellsOctets spelled limit = (n : ℕ) → n < limit → AreOctets (spelled n)

-- the number of what is spelled is the number that was spelled
abbrev pub TellsNumber : (ℕ → List ℕ) → ℕ → Type 0
TellsNumber spelled limit = (n : ℕ) → n < limit → number_in (spelled n) ≡ n

-- two numbers that are spelled alike are one
abbrev pub SpellsOneNumber : (ℕ → List ℕ) → ℕ → Type 0
SpellsOneNumber spelled limit = (m n : ℕ) → m < limit → n < limit → spelled m ≡ spelled n → m ≡ n

-- so many octets are the spelling of their number, which is below the limit
abbrev pub AreSpelled : (ℕ → List ℕ) → ℕ → ℕ → Type 0
AreSpelled spelled width limit =
    (octets : List ℕ) → AreOctets octets → length octets ≡ width → (number_in octets < limit) × (spelled (number_in octets) ≡ octets)

-- all of this of a spelling in `width` octets of the numbers below `limit`
pub record IsSpelling (spelled : ℕ → List ℕ) (width limit : ℕ) : Type 0 where
  pub long : HasLength spelled width
  pub octets : SpellsOctets spelled limit
  pub number : TellsNumber spelled limit
  pub one : SpellsOneNumber spelled limit
  pub back : AreSpelled spelled width limit

-- octets before octets are octets, and so are the parts of octets
abbrev pub JoinsOctets : Type 0
JoinsOctets = (front back : List ℕ) → AreOctets front → AreOctets back → AreOctets (front ++ back)

abbrev pub PartsOctets : Type 0
PartsOctets = (front back : List ℕ) → AreOctets (front ++ back) → AreOctets front × AreOctets back
