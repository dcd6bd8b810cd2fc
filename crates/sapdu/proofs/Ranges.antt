-- What a spelling and a sealed text are made of: octets.
use Rattle.std.proofs.Common.{arith, ℕ, zero, suc, ◌+◌, ◌<◌, ◌≤◌, ◌^◌, Bool, true, false, List, [], ◌∷◌, ◌++◌, length, length-append}
use Rattle.er_base.specs.Octets.{two, three, eight, AreOctets}
use Rattle.sapdu.specs.declared.kind.SaKind.{SaKind}
use Rattle.sapdu.specs.declared.kind.SaKind.TheVariants as kind
use Rattle.sapdu.specs.Kinds.{row_of_sapdu_kind}
use Rattle.sapdu.specs.Spelling.{SafetyPdu, Au1, Au2, Au3, Ar, Dt, Di, df, kind_of, header}
use Rattle.sapdu.specs.SpellingLaws.{Fits, HasUserOctets, SpellsOctets}
use Rattle.sapdu.specs.Sealed.{sealed_part, addressed}
use Rattle.sapdu.specs.SealedLaws.{SealsOctets}
use Rattle.sapdu.proofs.Facts.{Facts, PartFacts, octets_before}

no_octets : AreOctets []
no_octets k = omega arith

-- a header octet is one
head_small : (one : SaKind) (flag : Bool) → (row_of_sapdu_kind one).header + df flag < 256
head_small kind.Au1 false = omega arith
head_small kind.Au1 true = omega arith
head_small kind.Au2 false = omega arith
head_small kind.Au2 true = omega arith
head_small kind.Au3 false = omega arith
head_small kind.Au3 true = omega arith
head_small kind.Ar false = omega arith
head_small kind.Ar true = omega arith
head_small kind.Dt false = omega arith
head_small kind.Dt true = omega arith
head_small kind.Di false = omega arith
head_small kind.Di true = omega arith

-- octets behind a header octet
behind_header : (p : SafetyPdu) (flag : Bool) (xs : List ℕ) → AreOctets xs → AreOctets (header p flag ∷ xs)
behind_header p flag xs all = octets_before (header p flag) xs (head_small (kind_of p) flag) all

-- octets behind a number below 2 ^ 24, and behind one below 2 ^ 64
behind_three : Facts → PartFacts → (n : ℕ) (xs : List ℕ) → n < 2 ^ 24 → AreOctets xs → AreOctets (three n ++ xs)
behind_three facts part n xs small all = part.joined (three n) xs (facts.three.octets n small) all

behind_eight : Facts → PartFacts → (n : ℕ) (xs : List ℕ) → n < 2 ^ 64 → AreOctets xs → AreOctets (eight n ++ xs)
behind_eight facts part n xs small all = part.joined (eight n) xs (facts.eight.octets n small) all

-- a spelling is octets
pub spelling_octets : Facts → PartFacts → SpellsOctets
spelling_octets facts part (Au1 id feature rb) flag fits =
    behind_header (Au1 id feature rb) flag (three id ++ feature ∷ eight rb)
    (behind_three facts part id (feature ∷ eight rb) fits.octets.0 (octets_before feature (eight rb) fits.octets.1 (facts.eight.octets rb fits.octets.2)))
spelling_octets facts part (Au2 id feature ra mac) flag fits =
    behind_header (Au2 id feature ra mac) flag (three id ++ feature ∷ eight ra ++ eight mac)
    (behind_three facts part id (feature ∷ eight ra ++ eight mac) fits.octets.0
    (octets_before feature (eight ra ++ eight mac) fits.octets.1
    (behind_eight facts part ra (eight mac) fits.octets.2 (facts.eight.octets mac fits.octets.3))))
spelling_octets facts part (Au3 mac) flag fits = behind_header (Au3 mac) flag (eight mac) (facts.eight.octets mac fits.octets)
spelling_octets facts part (Ar mac) flag fits = behind_header (Ar mac) flag (eight mac) (facts.eight.octets mac fits.octets)
spelling_octets facts part (Dt user mac) flag fits =
    behind_header (Dt user mac) flag (user ++ eight mac) (part.joined user (eight mac) fits.octets.0 (facts.eight.octets mac fits.octets.1))
spelling_octets facts part (Di reason sub) flag fits =
    behind_header (Di reason sub) flag (reason ∷ sub ∷ [])
    (octets_before reason (sub ∷ []) fits.octets.0 (octets_before sub [] fits.octets.1 no_octets))

-- the part of an SaPDU that its MAC seals is octets, and short
part_octets : Facts → PartFacts → (p : SafetyPdu) (flag : Bool) (ra rb : ℕ) → Fits p → ra < 2 ^ 64 → rb < 2 ^ 64 → AreOctets (sealed_part p flag ra rb)
part_octets facts part (Au1 id feature own) flag ra rb fits small small' = no_octets
part_octets facts part (Au2 id feature own mac) flag ra rb fits small small' =
    behind_header (Au2 id feature own mac) flag (three id ++ feature ∷ eight own ++ eight rb)
    (behind_three facts part id (feature ∷ eight own ++ eight rb) fits.octets.0
    (octets_before feature (eight own ++ eight rb) fits.octets.1 (behind_eight facts part own (eight rb) fits.octets.2 (facts.eight.octets rb small'))))
part_octets facts part (Au3 mac) flag ra rb fits small small' =
    behind_header (Au3 mac) flag (eight ra ++ eight rb) (behind_eight facts part ra (eight rb) small (facts.eight.octets rb small'))
part_octets facts part (Ar mac) flag ra rb fits small small' = behind_header (Ar mac) flag [] no_octets
part_octets facts part (Dt user mac) flag ra rb fits small small' = behind_header (Dt user mac) flag user fits.octets.0
part_octets facts part (Di reason sub) flag ra rb fits small small' = no_octets

part_length : Facts → (p : SafetyPdu) (flag : Bool) (ra rb : ℕ) → HasUserOctets p → length (sealed_part p flag ra rb) ≤ 1024
part_length facts (Au1 id feature own) flag ra rb sized = omega arith
part_length facts (Au2 id feature own mac) flag ra rb sized = omega (arith, length-append (eight own) (eight rb), facts.eight.long own, facts.eight.long rb)
part_length facts (Au3 mac) flag ra rb sized = omega (arith, length-append (eight ra) (eight rb), facts.eight.long ra, facts.eight.long rb)
part_length facts (Ar mac) flag ra rb sized = omega arith
part_length facts (Dt user mac) flag ra rb sized = omega (arith, sized.1)
part_length facts (Di reason sub) flag ra rb sized = omega arith

-- a length below 2 ^ 16 in front of octets
behind_two : (n : ℕ) (xs : List ℕ) → n < 2 ^ 16 → AreOctets xs → AreOctets (two n ++ xs)
behind_two n xs small all zero = omega arith
behind_two n xs small all (suc zero) = omega arith
behind_two n xs small all (suc (suc k)) = all k

-- a sealed text is octets
pub text_octets : Facts → PartFacts → SealsOctets
text_octets facts part it is =
    let few : length (sealed_part it.pdu it.flag it.ra it.rb) ≤ 1024 = part_length facts it.pdu it.flag it.ra it.rb is.fits.user in
    behind_two (length (addressed it.pdu it.flag it.receiver it.ra it.rb)) (addressed it.pdu it.flag it.receiver it.ra it.rb) (omega arith)
    (behind_three facts part it.receiver (sealed_part it.pdu it.flag it.ra it.rb) is.receiver
    (part_octets facts part it.pdu it.flag it.ra it.rb is.fits is.ra is.rb))
