-- The SaPDUs of SUBSET-037 as octets, the most significant octet of a number first: what they hold, how they are spelled, and what
-- octets are read as.
use Rattle.std.specs.Prelude.{ℕ, ◌+◌, ◌-◌, ◌%◌, ◌==◌, nat_lt, Bool, true, false, if◌then◌else◌, List, [], ◌∷◌, ◌++◌, length, take, drop, slice_index, Option}
use Rattle.std.specs.Prelude.{Some, None, Result, Ok, Err}
use Rattle.er_base.specs.Octets.{three, eight, number_in}
use Rattle.sapdu.specs.declared.fault.SaFault.{SaFault}
use Rattle.sapdu.specs.declared.fault.SaFault.TheVariants.{Short, Kind, Long}
use Rattle.sapdu.specs.declared.kind.SaKind.{SaKind}
use Rattle.sapdu.specs.declared.kind.SaKind.TheVariants as kind
use Rattle.sapdu.specs.Kinds.{SapduKindRow, row_of_sapdu_kind, kind_with}

-- an SaPDU without its flag
pub data SafetyPdu : Type 0 where
  -- the first message of the initiator: its ETCS number, the safety feature, its random number Rb
  Au1 : (id feature rb : ℕ) → SafetyPdu
  -- the responder's answer: its ETCS number, the safety feature, its random number Ra, a MAC
  Au2 : (id feature ra mac : ℕ) → SafetyPdu
  -- the initiator's answer to that
  Au3 : (mac : ℕ) → SafetyPdu
  -- the responder's last message of the set-up
  Ar : (mac : ℕ) → SafetyPdu
  -- a message of the user
  Dt : (user : List ℕ) (mac : ℕ) → SafetyPdu
  -- the end of the connection: a reason and a sub-reason
  Di : (reason sub : ℕ) → SafetyPdu

-- its kind
abbrev pub kind_of : SafetyPdu → SaKind
kind_of (Au1 id feature rb) = kind.Au1
kind_of (Au2 id feature ra mac) = kind.Au2
kind_of (Au3 mac) = kind.Au3
kind_of (Ar mac) = kind.Ar
kind_of (Dt user mac) = kind.Dt
kind_of (Di reason sub) = kind.Di

-- the header octet with DF 0
abbrev pub header_without_flag : SafetyPdu → ℕ
header_without_flag pdu = (row_of_sapdu_kind (kind_of pdu)).header

-- the bit DF
abbrev pub df : Bool → ℕ
df false = 0
df true = 1

-- the header octet
abbrev pub header : SafetyPdu → Bool → ℕ
header pdu flag = header_without_flag pdu + df flag

-- what follows the header octet: an ETCS number in three octets, the safety feature in one, a random number and a MAC in eight
abbrev pub body : SafetyPdu → List ℕ
body (Au1 id feature rb) = three id ++ feature ∷ eight rb
body (Au2 id feature ra mac) = three id ++ feature ∷ eight ra ++ eight mac
body (Au3 mac) = eight mac
body (Ar mac) = eight mac
body (Dt user mac) = user ++ eight mac
body (Di reason sub) = reason ∷ sub ∷ []

-- the octets of an SaPDU with its flag
abbrev pub spelling : SafetyPdu → Bool → List ℕ
spelling pdu flag = header pdu flag ∷ body pdu

-- the fault of so many octets of a kind, where they have one
abbrev pub fault_of_length : SapduKindRow → ℕ → Option SaFault
fault_of_length of found =
    if nat_lt found of.least then Some (Short of.least found)
    else if nat_lt of.greatest found then Some (Long of.greatest found)
    else None

-- the fields of a kind by their places behind the header octet
abbrev pub fields_of : SaKind → List ℕ → SafetyPdu
fields_of kind.Au1 rest = Au1 (number_in (take 3 rest)) (slice_index rest 3) (number_in (drop 4 rest))
fields_of kind.Au2 rest = Au2 (number_in (take 3 rest)) (slice_index rest 3) (number_in (take 8 (drop 4 rest))) (number_in (drop 12 rest))
fields_of kind.Au3 rest = Au3 (number_in rest)
fields_of kind.Ar rest = Ar (number_in rest)
fields_of kind.Dt rest = Dt (take (length rest - 8) rest) (number_in (drop (length rest - 8) rest))
fields_of kind.Di rest = Di (slice_index rest 0) (slice_index rest 1)

-- the fault where there is one, else the value
abbrev pub unless : Option SaFault → SafetyPdu × Bool → Result (SafetyPdu × Bool) SaFault
unless (Some fault) value = Err fault
unless None value = Ok value

-- what octets behind a header octet are read as
abbrev pub read_behind : ℕ → Option SaKind → List ℕ → Result (SafetyPdu × Bool) SaFault
read_behind octet None rest = Err (Kind octet)
read_behind octet (Some one) rest = unless (fault_of_length (row_of_sapdu_kind one) (length (octet ∷ rest))) (fields_of one rest, octet % 2 == 1)

-- what octets are read as
abbrev pub read_of : List ℕ → Result (SafetyPdu × Bool) SaFault
read_of [] = Err (Short 1 0)
read_of (octet ∷ rest) = read_behind octet (kind_with octet) rest

-- the reason and sub-reason of octets that are a DI with this flag
abbrev pub di_in : List ℕ → Bool → Option (ℕ × ℕ)
di_in [] flag = None
di_in (octet ∷ []) flag = None
di_in (octet ∷ reason ∷ []) flag = None
di_in (octet ∷ reason ∷ sub ∷ []) flag = if octet == (row_of_sapdu_kind kind.Di).header + df flag then Some (reason, sub) else None
di_in (octet ∷ reason ∷ sub ∷ more ∷ rest) flag = None
