-- A sealed text tells its kind, flag, receiver and content, also where zero octets are padded behind it.
use Rattle.std.proofs.Common.{arith, ◌≡◌, ℕ, ◌<◌, ◌%◌, ◌/◌, ◌^◌, ◌==◌, Bool, List, ◌++◌, length, take, drop, replicate, get_or, refl, ap, sym, ◌∙◌, Option, Some, None}
use Rattle.std.proofs.lemmas.List.{take_at}
use Rattle.er_base.specs.Octets.{two, three, eight, number_in}
use Rattle.sapdu.specs.declared.kind.SaKind.{SaKind}
use Rattle.sapdu.specs.declared.kind.SaKind.TheVariants as kind
use Rattle.sapdu.specs.Kinds.{kind_with}
use Rattle.sapdu.specs.Spelling.{SafetyPdu, Au1, Au2, Au3, Ar, Dt, Di, kind_of, header}
use Rattle.sapdu.specs.SpellingLaws.{Fits}
use Rattle.sapdu.specs.Sealed.{sealed_part, addressed}
use Rattle.sapdu.specs.SealedLaws.{HasMac, Content, OfAu2, OfAu3, OfDt, OfNone, sealed_content_of_sapdu, SealedSapdu, padded_text, SameHeading, SealsOne}
use Rattle.sapdu.proofs.Facts.{Facts, number_in_front, number_in_back}
use Rattle.sapdu.proofs.ReadBack.{kind_read, flag_read}

-- ---- the length in front

-- a list behind its length in two octets is told by it, whatever is padded behind
same_behind_length : (x y : List ℕ) (j k : ℕ) → (two (length x) ++ x) ++ replicate j 0 ≡ (two (length y) ++ y) ++ replicate k 0 → x ≡ y
same_behind_length x y j k e =
    let high : length x / 256 ≡ length y / 256 = ap (λ (l : List ℕ). get_or l 0 0) e in
    let low : length x % 256 ≡ length y % 256 = ap (λ (l : List ℕ). get_or l 1 0) e in
    let long : length y ≡ length x = omega arith in
    let rest : x ++ replicate j 0 ≡ y ++ replicate k 0 = ap (λ (l : List ℕ). drop 2 l) e in
    sym (take_at x (replicate j 0) (length x) refl) ∙ ap (λ (l : List ℕ). take (length x) l) rest ∙ take_at y (replicate k 0) (length x) long

-- three octets tell their number
three_injective : (m n : ℕ) (x y : List ℕ) → three m ++ x ≡ three n ++ y → m ≡ n
three_injective m n x y e =
    let high : m / 65536 ≡ n / 65536 = ap (λ (l : List ℕ). get_or l 0 0) e in
    let middle : m / 256 % 256 ≡ n / 256 % 256 = ap (λ (l : List ℕ). get_or l 1 0) e in
    let low : m % 256 ≡ n % 256 = ap (λ (l : List ℕ). get_or l 2 0) e in
    omega arith

-- ---- the header in the part

-- the part of an SaPDU with a MAC begins with its header octet
part_header : (p : SafetyPdu) (f : Bool) (ra rb : ℕ) → HasMac p → get_or (sealed_part p f ra rb) 0 0 ≡ header p f
part_header (Au1 id feature own) f ra rb has = absurd has
part_header (Au2 id feature own mac) f ra rb has = refl
part_header (Au3 mac) f ra rb has = refl
part_header (Ar mac) f ra rb has = refl
part_header (Dt user mac) f ra rb has = refl
part_header (Di reason sub) f ra rb has = absurd has

-- a kind that is there
kind_or : SaKind → Option SaKind → SaKind
kind_or other None = other
kind_or other (Some one) = one

-- a header octet tells its kind and flag
same_kind : (p q : SafetyPdu) (f g : Bool) → header p f ≡ header q g → kind_of p ≡ kind_of q
unfolding kind_or
same_kind p q f g e =
    ap (kind_or (kind_of p)) (sym (kind_read (kind_of p) f) ∙ ap kind_with e ∙ kind_read (kind_of q) g)

same_flag : (p q : SafetyPdu) (f g : Bool) → header p f ≡ header q g → f ≡ g
same_flag p q f g e = sym (flag_read (kind_of p) f) ∙ ap (λ (o : ℕ). o % 2 == 1) e ∙ flag_read (kind_of q) g

-- ---- the content of a part by its places

content_in : SaKind → List ℕ → Content
content_in kind.Au1 part = OfNone
content_in kind.Au2 part =
    OfAu2 (number_in (take 3 (drop 1 part))) (get_or part 4 0) (number_in (take 8 (drop 5 part))) (number_in (drop 8 (drop 5 part)))
content_in kind.Au3 part = OfAu3 (number_in (take 8 (drop 1 part))) (number_in (drop 8 (drop 1 part)))
content_in kind.Ar part = OfNone
content_in kind.Dt part = OfDt (drop 1 part)
content_in kind.Di part = OfNone

-- is that of its SaPDU
content_read : Facts → (p : SafetyPdu) (f : Bool) (ra rb : ℕ) → Fits p → ra < 2 ^ 64 → rb < 2 ^ 64
    → content_in (kind_of p) (sealed_part p f ra rb) ≡ sealed_content_of_sapdu p ra rb
unfolding content_in
content_read facts (Au1 id feature own) f ra rb fits small small' = refl
content_read facts (Au2 id feature own mac) f ra rb fits small small' =
    rw (facts.three.number id fits.octets.0, number_in_front facts own (eight rb) fits.octets.2, number_in_back facts own rb small') refl
content_read facts (Au3 mac) f ra rb fits small small' = rw (number_in_front facts ra (eight rb) small, number_in_back facts ra rb small') refl
content_read facts (Ar mac) f ra rb fits small small' = refl
content_read facts (Dt user mac) f ra rb fits small small' = refl
content_read facts (Di reason sub) f ra rb fits small small' = refl

-- ---- the law

-- texts that are equal after padding have one part
same_addressed : (a b : SealedSapdu) (j k : ℕ) → padded_text a j ≡ padded_text b k
    → addressed a.pdu a.flag a.receiver a.ra a.rb ≡ addressed b.pdu b.flag b.receiver b.ra b.rb
same_addressed a b j k e =
    same_behind_length (addressed a.pdu a.flag a.receiver a.ra a.rb) (addressed b.pdu b.flag b.receiver b.ra b.rb) j k e

same_part : (a b : SealedSapdu) → addressed a.pdu a.flag a.receiver a.ra a.rb ≡ addressed b.pdu b.flag b.receiver b.ra b.rb
    → sealed_part a.pdu a.flag a.ra a.rb ≡ sealed_part b.pdu b.flag b.ra b.rb
same_part a b e = ap (λ (l : List ℕ). drop 3 l) e

same_heading : (a b : SealedSapdu) → HasMac a.pdu → HasMac b.pdu
    → addressed a.pdu a.flag a.receiver a.ra a.rb ≡ addressed b.pdu b.flag b.receiver b.ra b.rb → SameHeading a b
same_heading a b has has' e =
    let heads : header a.pdu a.flag ≡ header b.pdu b.flag =
    sym (part_header a.pdu a.flag a.ra a.rb has) ∙ ap (λ (l : List ℕ). get_or l 0 0) (same_part a b e) ∙ part_header b.pdu b.flag b.ra b.rb has'
    in
    record {
      kind = same_kind a.pdu b.pdu a.flag b.flag heads;
      flag = same_flag a.pdu b.pdu a.flag b.flag heads;
      receiver = three_injective a.receiver b.receiver (sealed_part a.pdu a.flag a.ra a.rb) (sealed_part b.pdu b.flag b.ra b.rb) e;
    }

pub seals_one : Facts → SealsOne
seals_one facts a b j k is is' e =
    let behind = same_addressed a b j k e in
    let heading = same_heading a b is.has_mac is'.has_mac behind in
    record {
      heading = heading;
      content =
          sym (content_read facts a.pdu a.flag a.ra a.rb is.fits is.ra is.rb)
          ∙ ap (content_in (kind_of a.pdu)) (same_part a b behind)
          ∙ ap (λ (one : SaKind). content_in one (sealed_part b.pdu b.flag b.ra b.rb)) heading.kind
          ∙ content_read facts b.pdu b.flag b.ra b.rb is'.fits is'.ra is'.rb;
    }
