-- Which octets spell a TPDU (ITU-T X.224, clause 13): the fields and the parameters that it may have. A TPDU has several spellings where its parameters may be
-- skipped.
use Rattle.std.specs.Prelude.{ℕ, ◌≡◌, ◌^◌, ◌<◌, ◌≤◌, false, List, length, Option, None, MatchOption, ◌≢◌, ◌⊎◌}
use Rattle.x224_tpdu.specs.declared.kind.Kind.{Kind}
use Rattle.x224_tpdu.specs.declared.kind.Kind.TheVariants.{Cr, Cc, Dr, Dc, Dt, Ak, Er}
use Rattle.x224_tpdu.specs.declared.tpdu.Tpdu.{Tpdu}
use Rattle.x224_tpdu.specs.declared.tpdu.Tpdu.TheVariants as code
use Rattle.x224_tpdu.specs.Kinds.{least_user, most_user}
use Rattle.x224_tpdu.specs.Parameters.{Parameter, first_refused, size_octet}
use Rattle.x224_tpdu.specs.Spelling.{TransportPdu, acknowledgement, connection_confirm, connection_request, data_tpdu, disconnect_confirm, disconnect_request}
use Rattle.x224_tpdu.specs.Spelling.{header_without_length_indicator, spelling, tpdu_error, user_in}

-- the TPDU that a value of the program is
abbrev pub pdu_of : Tpdu → TransportPdu
pdu_of (code.Cr credit dst src size user) = connection_request credit dst src size user.now
pdu_of (code.Cc credit dst src size user) = connection_confirm credit dst src size user.now
pdu_of (code.Dr dst src reason user) = disconnect_request dst src reason user.now
pdu_of (code.Dc dst src) = disconnect_confirm dst src
pdu_of (code.Dt dst last number user) = data_tpdu dst last number user.now
pdu_of (code.Ak credit dst number) = acknowledgement credit dst number
pdu_of (code.Er dst cause) = tpdu_error dst cause

-- the kind of a TPDU
abbrev pub kind_in : TransportPdu → Kind
kind_in (connection_request credit dst src size user) = Cr
kind_in (connection_confirm credit dst src size user) = Cc
kind_in (disconnect_request dst src reason user) = Dr
kind_in (disconnect_confirm dst src) = Dc
kind_in (data_tpdu dst last number user) = Dt
kind_in (acknowledgement credit dst number) = Ak
kind_in (tpdu_error dst cause) = Er

-- each field fits its bits, and the user data its bounds
abbrev pub FitsTpduFields : TransportPdu → Type 0
FitsTpduFields p = FitsBits p × (least_user (kind_in p) ≤ length (user_in p)) × (length (user_in p) ≤ most_user (kind_in p))
  where
    FitsBits : TransportPdu → Type 0
    FitsBits (connection_request credit dst src size user) = (credit < 16) × (dst < 2 ^ 16) × (src < 2 ^ 16)
    FitsBits (connection_confirm credit dst src size user) = (credit < 16) × (dst < 2 ^ 16) × (src < 2 ^ 16)
    FitsBits (disconnect_request dst src reason user) = (dst < 2 ^ 16) × (src < 2 ^ 16) × (reason < 2 ^ 8)
    FitsBits (disconnect_confirm dst src) = (dst < 2 ^ 16) × (src < 2 ^ 16)
    FitsBits (data_tpdu dst last number user) = (dst < 2 ^ 16) × (number < 128)
    FitsBits (acknowledgement credit dst number) = (credit < 16) × (dst < 2 ^ 16) × (number < 128)
    FitsBits (tpdu_error dst cause) = (dst < 2 ^ 16) × (cause < 2 ^ 8)

-- the TPDU size that the octet of C0 names, 07 to 0D; 128 where there is no C0
abbrev pub NamesSize : Option ℕ → ℕ → Type 0
NamesSize octet size = MatchOption octet (size ≡ 128) (λ k. (7 ≤ k) × (k ≤ 13) × (size ≡ 2 ^ k))

-- these parameters may stand in this TPDU, and name its size where it has one
abbrev pub HasParameters : TransportPdu → List Parameter → Type 0
HasParameters p ps = (first_refused (kind_in p) false ps ≡ None) × NamesSizeOf p
  where
    NamesSizeOf : TransportPdu → Type 0
    NamesSizeOf (connection_request credit dst src size user) = NamesSize (size_octet ps) size
    NamesSizeOf (connection_confirm credit dst src size user) = NamesSize (size_octet ps) size
    NamesSizeOf _ = Unit {0}

-- these octets are a spelling of this TPDU, with some parameters
pub record Spells (p : TransportPdu) (octets : List ℕ) : Type 0 where
  pub parameters : List Parameter
  pub fits : FitsTpduFields p
  pub may_stand : HasParameters p parameters
  pub below_ff : length (header_without_length_indicator p parameters) < 0xFF
  pub spelled_so : octets ≡ spelling p parameters

-- a TPDU size that C0 can name
abbrev pub IsSize : ℕ → Type 0
IsSize n =
    (n ≡ 128) ⊎ (n ≡ 256) ⊎ (n ≡ 512) ⊎ (n ≡ 1024) ⊎ (n ≡ 2048) ⊎ (n ≡ 4096) ⊎ (n ≡ 8192)

-- a TPDU that can be read and isn't ER
abbrev pub IsWritable : TransportPdu → Type 0
IsWritable p = FitsTpduFields p × HasSize p × (kind_in p ≢ Er)
  where
    HasSize : TransportPdu → Type 0
    HasSize (connection_request credit dst src size user) = IsSize size
    HasSize (connection_confirm credit dst src size user) = IsSize size
    HasSize _ = Unit {0}
