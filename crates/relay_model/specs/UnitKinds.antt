-- The kinds of a unit (this profile): by the verdict on the frame that its last flag closes (ISO/IEC 13239), by the control at modulo 8 of a frame of
-- any address, and by the TPDU (ITU-T X.224) in the one block (ITU-T T.70) that an I frame may carry.
use Rattle.std.specs.Prelude.{ℕ, List, [], ◌∷◌, slice_get, Option, Some, None, Result, Ok, Err, Bool, if◌then◌else◌}
use Rattle.std.specs.List.{list_any}
use Rattle.hdlc_frames.specs.declared.controls.Control.{Control}
use Rattle.hdlc_frames.specs.declared.controls.Control.TheVariants as control
use Rattle.hdlc_frames.specs.ControlOctets.{control_of}
use Rattle.hdlc_frames.specs.Framing.{flag, Verdict, Frame, BadFcs, TooShort, TooLong, Aborted, frames_of}
use Rattle.t70_header.specs.Blocks.{has_header, content_of_block}
use Rattle.x224_tpdu.specs.declared.fault.TpFault.{TpFault}
use Rattle.x224_tpdu.specs.Spelling.{TransportPdu, connection_request, connection_confirm, disconnect_request, disconnect_confirm, data_tpdu, acknowledgement}
use Rattle.x224_tpdu.specs.Spelling.{tpdu_error}
use Rattle.x224_tpdu.specs.Function.{reading}
use Rattle.relay_script.specs.declared.unit_kind.UnitKind.{UnitKind}
use Rattle.relay_script.specs.declared.unit_kind.UnitKind.TheVariants.{Any, Bad, Info, Rr, Rnr, Rej, Srej, Sabm, Ua, Disc, Dm, Frmr, Other, Cr, Cc, Dr, Dc, Dt}
use Rattle.relay_script.specs.declared.unit_kind.UnitKind.TheVariants.{Ak, Er}
use Rattle.relay_script.specs.Kinds.{is_same_kind}

-- what is found in a unit, where a flag stands before it: it has one frame (a public law of this crate)
unfoldable pub found_in : (unit : List ℕ) → Option Verdict
found_in unit = slice_get (frames_of (flag ∷ unit)) 0

-- ---- TPDUs

abbrev pub kind_of_pdu : TransportPdu → UnitKind
kind_of_pdu (connection_request credit dst src size user) = Cr
kind_of_pdu (connection_confirm credit dst src size user) = Cc
kind_of_pdu (disconnect_request dst src reason user) = Dr
kind_of_pdu (disconnect_confirm dst src) = Dc
kind_of_pdu (data_tpdu dst last number user) = Dt
kind_of_pdu (acknowledgement credit dst number) = Ak
kind_of_pdu (tpdu_error dst cause) = Er

abbrev pub kinds_of_read : Result TransportPdu TpFault → List UnitKind
kinds_of_read (Ok pdu) = kind_of_pdu pdu ∷ []
kinds_of_read (Err fault) = []

-- of the one block of a TPDU that isn't cut
abbrev pub kinds_of_information : List ℕ → List UnitKind
kinds_of_information information = if has_header 0x00 information then kinds_of_read (reading (content_of_block information)) else []

-- ---- frames

-- of a control and the information behind it
abbrev pub kinds_of_control : Control → (information : List ℕ) → List UnitKind
kinds_of_control (control.Info ns nr) information = Info ∷ kinds_of_information information
kinds_of_control (control.Rr nr) information = Rr ∷ []
kinds_of_control (control.Rnr nr) information = Rnr ∷ []
kinds_of_control (control.Rej nr) information = Rej ∷ []
kinds_of_control (control.Srej nr) information = Srej ∷ []
kinds_of_control (control.Sabm poll) information = Sabm ∷ []
kinds_of_control (control.Sabme poll) information = Other ∷ []
kinds_of_control (control.Disc poll) information = Disc ∷ []
kinds_of_control control.Ua information = Ua ∷ []
kinds_of_control control.Dm information = Dm ∷ []
kinds_of_control control.Frmr information = Frmr ∷ []

abbrev pub kinds_of_body : Option (Control × List ℕ) → List UnitKind
kinds_of_body None = Other ∷ []
kinds_of_body (Some read) = kinds_of_control read.0 read.1

-- whatever its address
abbrev pub kinds_of_found : Option Verdict → List UnitKind
kinds_of_found None = Bad ∷ []
kinds_of_found (Some (Frame address body)) = kinds_of_body (control_of 8 body)
kinds_of_found (Some BadFcs) = Bad ∷ []
kinds_of_found (Some TooShort) = Bad ∷ []
kinds_of_found (Some TooLong) = Bad ∷ []
kinds_of_found (Some Aborted) = Bad ∷ []

-- ---- units

-- all kinds of a unit
unfoldable pub kinds_in : (unit : List ℕ) → List UnitKind
kinds_in unit = Any ∷ kinds_of_found (found_in unit)

abbrev pub is_among : UnitKind → List UnitKind → Bool
is_among kind kinds = list_any (λ other. is_same_kind kind other) kinds

unfoldable pub is_of_kind : UnitKind → (unit : List ℕ) → Bool
is_of_kind kind unit = is_among kind (kinds_in unit)
