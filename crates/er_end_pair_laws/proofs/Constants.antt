-- What each side says where the keys agree: constants of the opening.
use Rattle.std.proofs.Common.{ℕ, Bool, true, false, not, List, [], ◌∷◌, map, Result, Ok, Err}
use Rattle.er_base.specs.Octets.{AreOctets}
use Rattle.des_block.specs.declared.triple_key.TripleKey.{TripleKey}
use Rattle.cbc_mac.specs.Mac.{mac_of}
use Rattle.session_keys.specs.Session.{session_of}
use Rattle.sapdu.specs.Spelling.{SafetyPdu, Au1, Au2, Au3, Ar, Dt, spelling, read_of}
use Rattle.sapdu.specs.Messages.{IsMessage}
use Rattle.sapdu.specs.declared.fault.SaFault.{SaFault}
use Rattle.safety_automaton.specs.declared.role.Role.{Role}
use Rattle.safety_automaton.specs.declared.role.Role.TheVariants.{Initiator, Responder}
use Rattle.safety_automaton.specs.Safety.{Safety, Connection, Phase, flag_of, au2_text, au3_text, ar_text, message_text}
use Rattle.er_end_pair_laws.specs.Openings.{EndLinkOpening}

-- everywhere c says whether the side is the engine's, the caller

abbrev pub role_at : Bool → Role
role_at true = Initiator
role_at false = Responder

abbrev pub own_number : EndLinkOpening → Bool → ℕ
own_number s true = s.engine
own_number s false = s.rbc

-- a side in a phase
abbrev pub side_in : EndLinkOpening → Bool → Phase → Safety
side_in s c p = record { me = own_number s c; role = role_at c; phase = p }

abbrev pub session : EndLinkOpening → TripleKey
session s = session_of s.kmac s.ra s.rb

-- what a side knows of both
abbrev pub connection_at : EndLinkOpening → Bool → Connection
connection_at s c = record { me = own_number s c; peer = own_number s (not c); ra = s.ra; rb = s.rb; session = session s }

-- the flag of what a side sends
abbrev pub flag_at : Bool → Bool
flag_at c = flag_of (role_at c)

-- what stands in CR and in CC
abbrev pub greeting : EndLinkOpening → Bool → List ℕ
greeting s true = spelling (Au1 s.engine 1 s.rb) (flag_at true)
greeting s false = spelling (Au2 s.rbc 1 s.ra (mac_of (session s) (au2_text (flag_at false) s.engine s.rbc 1 s.ra s.rb))) (flag_at false)

-- the first message
abbrev pub opening_text : EndLinkOpening → Bool → List ℕ
opening_text s true = spelling (Au3 (mac_of (session s) (au3_text (flag_at true) s.rbc s.ra s.rb))) (flag_at true)
opening_text s false = spelling (Ar (mac_of (session s) (ar_text (flag_at false) s.engine))) (flag_at false)

-- a message of the user
abbrev pub sealed_text : EndLinkOpening → Bool → List ℕ → List ℕ
sealed_text s c user = spelling (Dt user (mac_of (session s) (message_text (flag_at c) (own_number s (not c)) user))) (flag_at c)

-- all that is said once it is more than nothing
abbrev pub said_all : EndLinkOpening → Bool → List (List ℕ) → List (List ℕ)
said_all s c users = opening_text s c ∷ map (sealed_text s c) users

-- ---- the user octets of what is read

abbrev pub users_of_pdu : SafetyPdu → List (List ℕ)
users_of_pdu (Dt user mac) = user ∷ []
users_of_pdu _ = []

abbrev pub users_of_reading : Result (SafetyPdu × Bool) SaFault → List (List ℕ)
users_of_reading (Err fault) = []
users_of_reading (Ok read) = users_of_pdu read.0

abbrev pub users_of : List ℕ → List (List ℕ)
users_of text = users_of_reading (read_of text)

-- octets that a user may send
abbrev pub Sendable : List ℕ → Type 0
Sendable user = IsMessage user × AreOctets user
