-- A number and the octets that spell it, two, three or eight of them.
use Rattle.std.proofs.Common.{arith, ◌≡◌, ℕ, zero, suc, ◌<◌, ◌/◌, ◌%◌, ◌^◌, List, [], ◌∷◌, length, get_or, refl, ap, sym, ◌∙◌}
use Rattle.std.specs.Int.{from_be_bytes, w64}
use Rattle.std.proofs.lemmas.Nat.{from_be_bytes-to_be_bytes_8, be_bytes_8}
use Rattle.er_base.specs.Octets.{AreOctets, two, three, eight, number_in}
use Rattle.er_base.specs.OctetLaws.{HasLength, SpellsOctets, TellsNumber, SpellsOneNumber, AreSpelled, IsSpelling, JoinsOctets, PartsOctets}

-- a spelling that tells its number spells one number
one_number : (spelled : ℕ → List ℕ) (limit : ℕ) → TellsNumber spelled limit → SpellsOneNumber spelled limit
one_number spelled limit tells m n small small' same = sym (tells m small) ∙ ap number_in same ∙ tells n small'

-- ---- two octets

two_octets : SpellsOctets two (2 ^ 16)
two_octets n small zero = omega arith
two_octets n small (suc zero) = omega arith
two_octets n small (suc (suc k)) = omega arith

two_number : TellsNumber two (2 ^ 16)
unfolding number_in
two_number n small = omega arith

two_back : AreSpelled two 2 (2 ^ 16)
unfolding number_in
two_back [] all long = absurd (omega arith)
two_back (a ∷ []) all long = absurd (omega arith)
two_back (a ∷ b ∷ c ∷ octets) all long = absurd (omega arith)
two_back (a ∷ b ∷ []) all long =
    let high : a < 256 = all 0 in
    let low : b < 256 = all 1 in
    let first : number_in (a ∷ b ∷ []) / 256 ≡ a = omega arith in
    let second : number_in (a ∷ b ∷ []) % 256 ≡ b = omega arith in
    (omega arith, rw (first, second) refl)

pub is_two : IsSpelling two 2 (2 ^ 16)
is_two = record { long = λ n. refl; octets = two_octets; number = two_number; one = one_number two (2 ^ 16) two_number; back = two_back }

-- ---- three octets

three_octets : SpellsOctets three (2 ^ 24)
three_octets n small zero = omega arith
three_octets n small (suc zero) = omega arith
three_octets n small (suc (suc zero)) = omega arith
three_octets n small (suc (suc (suc k))) = omega arith

three_number : TellsNumber three (2 ^ 24)
unfolding number_in
three_number n small = omega arith

three_back : AreSpelled three 3 (2 ^ 24)
unfolding number_in
three_back [] all long = absurd (omega arith)
three_back (a ∷ []) all long = absurd (omega arith)
three_back (a ∷ b ∷ []) all long = absurd (omega arith)
three_back (a ∷ b ∷ c ∷ d ∷ octets) all long = absurd (omega arith)
three_back (a ∷ b ∷ c ∷ []) all long =
    let high : a < 256 = all 0 in
    let middle : b < 256 = all 1 in
    let low : c < 256 = all 2 in
    let first : number_in (a ∷ b ∷ c ∷ []) / 65536 ≡ a = omega arith in
    let second : number_in (a ∷ b ∷ c ∷ []) / 256 % 256 ≡ b = omega arith in
    let third : number_in (a ∷ b ∷ c ∷ []) % 256 ≡ c = omega arith in
    (omega arith, rw (first, second, third) refl)

pub is_three : IsSpelling three 3 (2 ^ 24)
is_three =
    record { long = λ n. refl; octets = three_octets; number = three_number; one = one_number three (2 ^ 24) three_number; back = three_back }

-- ---- eight octets

-- the number of eight octets is what the library reads of them
pub number_from_octets : (octets : List ℕ) → length octets ≡ 8 → number_in octets ≡ from_be_bytes w64 octets
unfolding number_in
number_from_octets [] long = absurd (omega arith)
number_from_octets (a ∷ []) long = absurd (omega arith)
number_from_octets (a ∷ b ∷ []) long = absurd (omega arith)
number_from_octets (a ∷ b ∷ c ∷ []) long = absurd (omega arith)
number_from_octets (a ∷ b ∷ c ∷ d ∷ []) long = absurd (omega arith)
number_from_octets (a ∷ b ∷ c ∷ d ∷ e ∷ []) long = absurd (omega arith)
number_from_octets (a ∷ b ∷ c ∷ d ∷ e ∷ f ∷ []) long = absurd (omega arith)
number_from_octets (a ∷ b ∷ c ∷ d ∷ e ∷ f ∷ g ∷ []) long = absurd (omega arith)
number_from_octets (a ∷ b ∷ c ∷ d ∷ e ∷ f ∷ g ∷ h ∷ []) long = omega arith
number_from_octets (a ∷ b ∷ c ∷ d ∷ e ∷ f ∷ g ∷ h ∷ i ∷ octets) long = absurd (omega arith)

eight_octets : SpellsOctets eight (2 ^ 64)
unfolding eight
eight_octets n small zero = omega arith
eight_octets n small (suc zero) = omega arith
eight_octets n small (suc (suc zero)) = omega arith
eight_octets n small (suc (suc (suc zero))) = omega arith
eight_octets n small (suc (suc (suc (suc zero)))) = omega arith
eight_octets n small (suc (suc (suc (suc (suc zero))))) = omega arith
eight_octets n small (suc (suc (suc (suc (suc (suc zero)))))) = omega arith
eight_octets n small (suc (suc (suc (suc (suc (suc (suc zero))))))) = omega arith
eight_octets n small (suc (suc (suc (suc (suc (suc (suc (suc k)))))))) = omega arith

length_eight : HasLength eight 8
unfolding eight
length_eight n = refl

eight_number : TellsNumber eight (2 ^ 64)
unfolding eight
eight_number n small = number_from_octets (eight n) (length_eight n) ∙ from_be_bytes-to_be_bytes_8 n small

-- the number that the library reads of eight octets is below 2 ^ 64
number_small : (octets : List ℕ) → AreOctets octets → from_be_bytes w64 octets < 2 ^ 64
number_small octets all =
    let o0 : get_or octets 0 0 < 256 = all 0 in
    let o1 : get_or octets 1 0 < 256 = all 1 in
    let o2 : get_or octets 2 0 < 256 = all 2 in
    let o3 : get_or octets 3 0 < 256 = all 3 in
    let o4 : get_or octets 4 0 < 256 = all 4 in
    let o5 : get_or octets 5 0 < 256 = all 5 in
    let o6 : get_or octets 6 0 < 256 = all 6 in
    let o7 : get_or octets 7 0 < 256 = all 7 in
    omega arith

eight_back : AreSpelled eight 8 (2 ^ 64)
unfolding eight
eight_back octets all long =
    let read : number_in octets ≡ from_be_bytes w64 octets = number_from_octets octets long in
    (rw read (number_small octets all), be_bytes_8 octets (number_in octets) long all read)

pub is_eight : IsSpelling eight 8 (2 ^ 64)
is_eight =
    record {
      long = length_eight;
      octets = eight_octets;
      number = eight_number;
      one = one_number eight (2 ^ 64) eight_number;
      back = eight_back;
    }

-- ---- octets before octets

pub octets_joined : JoinsOctets
octets_joined [] back all more k = more k
octets_joined (x ∷ front) back all more zero = all 0
octets_joined (x ∷ front) back all more (suc k) = octets_joined front back (λ i. all (suc i)) more k

-- an octet in front of octets
pub octets_before : (x : ℕ) (xs : List ℕ) → x < 256 → AreOctets xs → AreOctets (x ∷ xs)
octets_before x xs small all zero = small
octets_before x xs small all (suc k) = all k

pub octets_parted : PartsOctets
octets_parted [] back all = ((λ k. omega arith), all)
octets_parted (x ∷ front) back all =
    let rest = octets_parted front back (λ i. all (suc i)) in
    (octets_before x front (all 0) rest.0, rest.1)
