-- The laws of sealed texts (UNISIG SUBSET-037, computation of the MAC): which texts a MAC seals, that equal texts seal one content, and known answers.
use Rattle.std.specs.Prelude.{ℕ, ◌^◌, ◌≡◌, ◌<◌, ◌≤◌, Bool, true, false, List, [], ◌∷◌, ◌++◌, length, replicate, refl}
use Rattle.er_base.specs.Octets.{eight, AreOctets}
use Rattle.sapdu.specs.Spelling.{SafetyPdu, Au1, Au2, Au3, Ar, Dt, Di, kind_of}
use Rattle.sapdu.specs.SpellingLaws.{Fits, HasUserOctets}
use Rattle.sapdu.specs.Sealed.{sealed_text}

-- AU1 and DI have no MAC
abbrev pub HasMac : SafetyPdu → Type 0
HasMac (Au1 id feature rb) = ⊥
HasMac (Au2 id feature ra mac) = Unit {0}
HasMac (Au3 mac) = Unit {0}
HasMac (Ar mac) = Unit {0}
HasMac (Dt user mac) = Unit {0}
HasMac (Di reason sub) = ⊥

-- what is sealed: an SaPDU with its flag, to a receiver, in a set-up with these random numbers
pub record SealedSapdu : Type 0 where
  pub pdu : SafetyPdu
  pub flag : Bool
  pub receiver : ℕ
  pub ra : ℕ
  pub rb : ℕ

-- its text
abbrev pub text_of_sealing : SealedSapdu → List ℕ
text_of_sealing it = sealed_text it.pdu it.flag it.receiver it.ra it.rb

-- its text as a MAC takes it, with so many zero octets behind it
abbrev pub padded_text : SealedSapdu → ℕ → List ℕ
padded_text it zeros = text_of_sealing it ++ replicate zeros 0

-- an SaPDU that has a MAC and a spelling, and numbers that fit their octets
pub record IsSealing (it : SealedSapdu) : Type 0 where
  pub fits : Fits it.pdu
  pub has_mac : HasMac it.pdu
  pub receiver : it.receiver < 2 ^ 24
  pub ra : it.ra < 2 ^ 64
  pub rb : it.rb < 2 ^ 64

-- what the text of an SaPDU seals beside its kind and flag
pub data Content : Type 0 where
  -- of an AU2: the responder's number, the safety feature, both random numbers
  OfAu2 : (id feature ra rb : ℕ) → Content
  -- of an AU3: both random numbers
  OfAu3 : (ra rb : ℕ) → Content
  -- of a DT: the user octets
  OfDt : (user : List ℕ) → Content
  -- of the others: nothing
  OfNone : Content

abbrev pub sealed_content_of_sapdu : SafetyPdu → ℕ → ℕ → Content
sealed_content_of_sapdu (Au1 id feature own) ra rb = OfNone
sealed_content_of_sapdu (Au2 id feature own mac) ra rb = OfAu2 id feature own rb
sealed_content_of_sapdu (Au3 mac) ra rb = OfAu3 ra rb
sealed_content_of_sapdu (Ar mac) ra rb = OfNone
sealed_content_of_sapdu (Dt user mac) ra rb = OfDt user
sealed_content_of_sapdu (Di reason sub) ra rb = OfNone

-- the same kind, flag and receiver
pub record SameHeading (a b : SealedSapdu) : Type 0 where
  pub kind : kind_of a.pdu ≡ kind_of b.pdu
  pub flag : a.flag ≡ b.flag
  pub receiver : a.receiver ≡ b.receiver

-- and the same content
pub record SameSealed (a b : SealedSapdu) : Type 0 where
  pub heading : SameHeading a b
  pub content : sealed_content_of_sapdu a.pdu a.ra a.rb ≡ sealed_content_of_sapdu b.pdu b.ra b.rb

-- sealed texts that are equal, or equal after padding with zero octets, are those of the same content
abbrev pub SealsOne : Type 0
SealsOne = (a b : SealedSapdu) (j k : ℕ) → IsSealing a → IsSealing b → padded_text a j ≡ padded_text b k → SameSealed a b

-- texts that are equal have the same kind, flag and receiver, whatever their numbers are
abbrev pub TellsHeading : Type 0
TellsHeading = (a b : SealedSapdu) → HasMac a.pdu → HasMac b.pdu → text_of_sealing a ≡ text_of_sealing b → SameHeading a b

-- and those of two messages have the same user octets
abbrev pub TellsUser : Type 0
TellsUser =
    (user user' : List ℕ) (mac mac' da da' ra ra' rb rb' : ℕ) (f g : Bool)
    → sealed_text (Dt user mac) f da ra rb ≡ sealed_text (Dt user' mac') g da' ra' rb' → user ≡ user'

-- a sealed text is octets
abbrev pub SealsOctets : Type 0
SealsOctets = (it : SealedSapdu) → IsSealing it → AreOctets (text_of_sealing it)

-- and has at most 1,029 of them
abbrev pub SealsFew : Type 0
SealsFew = (it : SealedSapdu) → HasUserOctets it.pdu → length (text_of_sealing it) ≤ 1029

-- the messages 6162 and 616200 of an engine to the radio block centre 9
pub known_text : sealed_text (Dt (97 ∷ 98 ∷ []) 0) false 9 0 0 ≡ 0 ∷ 6 ∷ 0 ∷ 0 ∷ 9 ∷ 10 ∷ 97 ∷ 98 ∷ []
known_text = refl

pub known_longer_text : sealed_text (Dt (97 ∷ 98 ∷ 0 ∷ []) 0) false 9 0 0 ≡ 0 ∷ 7 ∷ 0 ∷ 0 ∷ 9 ∷ 10 ∷ 97 ∷ 98 ∷ 0 ∷ []
known_longer_text = refl

-- the set-up of engine 5 and the radio block centre 9, with Ra 0102030405060708 and Rb 1112131415161718 (hexadecimal)
pub known_au2_text : sealed_text (Au2 9 1 0x0102030405060708 0) true 5 0 0x1112131415161718
    ≡ 0 ∷ 24 ∷ 0 ∷ 0 ∷ 5 ∷ 0x25 ∷ 0 ∷ 0 ∷ 9 ∷ 1 ∷ 1 ∷ 2 ∷ 3 ∷ 4 ∷ 5 ∷ 6 ∷ 7 ∷ 8 ∷ 0x11 ∷ 0x12 ∷ 0x13 ∷ 0x14 ∷ 0x15 ∷ 0x16 ∷ 0x17 ∷ 0x18 ∷ []
unfolding eight
known_au2_text = refl

pub known_au3_text : sealed_text (Au3 0) false 9 0x0102030405060708 0x1112131415161718
    ≡ 0 ∷ 20 ∷ 0 ∷ 0 ∷ 9 ∷ 6 ∷ 1 ∷ 2 ∷ 3 ∷ 4 ∷ 5 ∷ 6 ∷ 7 ∷ 8 ∷ 0x11 ∷ 0x12 ∷ 0x13 ∷ 0x14 ∷ 0x15 ∷ 0x16 ∷ 0x17 ∷ 0x18 ∷ []
unfolding eight
known_au3_text = refl

pub known_ar_text : sealed_text (Ar 0) true 5 0 0 ≡ 0 ∷ 4 ∷ 0 ∷ 0 ∷ 5 ∷ 0x13 ∷ []
known_ar_text = refl
