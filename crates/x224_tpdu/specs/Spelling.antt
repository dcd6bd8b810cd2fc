-- TPDUs as octets (ITU-T X.224, clause 13, class 2, normal formats): the length indicator (LI), which
-- counts the header octets behind it, the fixed part, parameters, and user data. The greatest lengths
-- of user data are this profile's. A TPDU has several spellings where its parameters may be skipped.
use Rattle.std.specs.Prelude.{ℕ, ◌+◌, if◌then◌else◌, Bool, List, [], ◌∷◌, ◌++◌, length}
use Rattle.er_base.specs.Octets.{two}
use Rattle.x224_tpdu.specs.Parameters.{Parameter, parameter_octets}

-- a TPDU by its fields, user data last
pub data TransportPdu : Type 0 where
  connection_request : (credit dst src size : ℕ) → List ℕ → TransportPdu
  connection_confirm : (credit dst src size : ℕ) → List ℕ → TransportPdu
  disconnect_request : (dst src reason : ℕ) → List ℕ → TransportPdu
  disconnect_confirm : (dst src : ℕ) → TransportPdu
  data_tpdu : (dst : ℕ) → (last : Bool) → (number : ℕ) → List ℕ → TransportPdu
  acknowledgement : (credit dst number : ℕ) → TransportPdu
  tpdu_error : (dst cause : ℕ) → TransportPdu

-- the fixed part of the header, LI left out; in DT the top bit before the number is EOT
abbrev pub fixed_part : TransportPdu → List ℕ
fixed_part (connection_request credit dst src size user) =
    (0xE0 + credit) ∷ two dst ++ two src ++ 0x20 ∷ []
fixed_part (connection_confirm credit dst src size user) =
    (0xD0 + credit) ∷ two dst ++ two src ++ 0x20 ∷ []
fixed_part (disconnect_request dst src reason user) = 0x80 ∷ two dst ++ two src ++ reason ∷ []
fixed_part (disconnect_confirm dst src) = 0xC0 ∷ two dst ++ two src
fixed_part (data_tpdu dst last number user) =
    0xF0 ∷ two dst ++ ((if last then 0x80 else 0) + number) ∷ []
fixed_part (acknowledgement credit dst number) = (0x60 + credit) ∷ two dst ++ number ∷ []
fixed_part (tpdu_error dst cause) = 0x70 ∷ two dst ++ cause ∷ []

-- the user data
abbrev pub user_in : TransportPdu → List ℕ
user_in (connection_request credit dst src size user) = user
user_in (connection_confirm credit dst src size user) = user
user_in (disconnect_request dst src reason user) = user
user_in (data_tpdu dst last number user) = user
user_in _ = []

-- the header without LI
abbrev pub header_without_length_indicator : TransportPdu → List Parameter → List ℕ
header_without_length_indicator p ps = fixed_part p ++ parameter_octets ps

-- the spelling of a TPDU with these parameters
abbrev pub spelling : TransportPdu → List Parameter → List ℕ
spelling p ps = length (header_without_length_indicator p ps) ∷ header_without_length_indicator p ps ++ user_in p
