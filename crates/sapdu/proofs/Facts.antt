-- What er_base's laws say of numbers and octets, as the lemmas of this crate take it.
use Rattle.std.proofs.Common.{◌≡◌, ℕ, ◌^◌, ◌<◌, List, ◌∷◌, ◌++◌, take, drop, zero, suc, ap, ◌∙◌}
use Rattle.std.proofs.lemmas.List.{take_at, drop_at}
use Rattle.er_base.specs.Octets.{three, eight, number_in, AreOctets}
use Rattle.er_base.specs.OctetLaws.{IsSpelling, JoinsOctets, PartsOctets}

pub record Facts : Type 0 where
  pub three : IsSpelling three 3 (2 ^ 24)
  pub eight : IsSpelling eight 8 (2 ^ 64)

pub record PartFacts : Type 0 where
  pub joined : JoinsOctets
  pub parts : PartsOctets

-- an octet in front of octets
pub octets_before : (x : ℕ) (xs : List ℕ) → x < 256 → AreOctets xs → AreOctets (x ∷ xs)
octets_before x xs small all zero = small
octets_before x xs small all (suc k) = all k

-- two numbers in eight octets each, by their places
pub number_in_front : Facts → (n : ℕ) (octets : List ℕ) → n < 2 ^ 64 → number_in (take 8 (eight n ++ octets)) ≡ n
number_in_front facts n octets small = ap number_in (take_at (eight n) octets 8 (facts.eight.long n)) ∙ facts.eight.number n small

pub number_in_back : Facts → (n m : ℕ) → m < 2 ^ 64 → number_in (drop 8 (eight n ++ eight m)) ≡ m
number_in_back facts n m small = ap number_in (drop_at (eight n) (eight m) 8 (facts.eight.long n)) ∙ facts.eight.number m small
