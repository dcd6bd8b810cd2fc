-- What the receiver of a stream hears of it (this profile): the texts of the sender's safety layer, in six steps of total functions. Frames are
-- those of ISO/IEC 13239 at modulo 8, blocks those of ITU-T T.70, TPDUs those of ITU-T X.224 class 2.
use Rattle.std.specs.Prelude.{ℕ, ◌+◌, ◌%◌, ◌==◌, nat_lt, Bool, true, false, not, ◌&&◌, if◌then◌else◌, List, [], ◌∷◌, ◌++◌, length, Option, Some, None, Result}
use Rattle.std.specs.Prelude.{Ok, Err}
use Rattle.std.specs.List.{flat_map}
use Rattle.std.specs.Option.{option_to_list}
use Rattle.er_base.specs.declared.side.Side.{Side}
use Rattle.er_base.specs.declared.side.Side.TheVariants.{E, R}
use Rattle.er_base.specs.Sides.{other}
use Rattle.hdlc_frames.specs.declared.controls.Control.{Control}
use Rattle.hdlc_frames.specs.declared.controls.Control.TheVariants as control
use Rattle.hdlc_frames.specs.ControlOctets.{control_of}
use Rattle.hdlc_frames.specs.Framing.{Verdict, Frame, BadFcs, TooShort, TooLong, Aborted, frames_of}
use Rattle.t70_header.specs.Joining as joining
use Rattle.x224_tpdu.specs.declared.fault.TpFault.{TpFault}
use Rattle.x224_tpdu.specs.Spelling.{TransportPdu, connection_request, connection_confirm, disconnect_request, disconnect_confirm, data_tpdu, acknowledgement}
use Rattle.x224_tpdu.specs.Spelling.{tpdu_error}
use Rattle.x224_tpdu.specs.Function.{reading}
use Rattle.sapdu.specs.Messages.{most_octets}

-- ---- frames

-- a frame whose control could be read
pub record ReadFrame : Type 0 where
  pub address : ℕ
  pub control : Control
  pub information : List ℕ

abbrev pub read_as : (address : ℕ) → Option (Control × List ℕ) → List ReadFrame
read_as address None = []
read_as address (Some read) = record { address = address; control = read.0; information = read.1 } ∷ []

-- at modulo 8; what is no frame is left out
abbrev pub read_frame : Verdict → List ReadFrame
read_frame (Frame address body) = read_as address (control_of 8 body)
read_frame BadFcs = []
read_frame TooShort = []
read_frame TooLong = []
read_frame Aborted = []

unfoldable pub frames_read : List Verdict → List ReadFrame
frames_read verdicts = flat_map read_frame verdicts

-- the address of each end (ISO/IEC 13239): 03 of the one that calls, 01 of the other
abbrev pub address_of_side : Side → ℕ
address_of_side E = 0x03
address_of_side R = 0x01

-- what a control is to what is heard
pub data Sort : Type 0 where
  -- an I frame with this N(S)
  Carries : (ns : ℕ) → Sort
  -- the set-up frame, and the agreement to it
  SetsUp : Sort
  Agrees : Sort
  -- DISC
  Disconnects : Sort
  -- DM and FRMR
  Leaves : Sort
  -- any other
  Passes : Sort

abbrev pub sort_of : Control → Sort
sort_of (control.Info ns nr) = Carries ns
sort_of (control.Rr nr) = Passes
sort_of (control.Rnr nr) = Passes
sort_of (control.Rej nr) = Passes
sort_of (control.Srej nr) = Passes
sort_of (control.Sabm poll) = SetsUp
sort_of (control.Sabme poll) = Passes
sort_of (control.Disc poll) = Disconnects
sort_of control.Ua = Agrees
sort_of control.Dm = Leaves
sort_of control.Frmr = Leaves

-- ---- step 1: what opens the link, and all before it, is left out

-- of the engine's side the set-up frame without information, of the other side the agreement
abbrev pub is_opening : Side → Sort → List ℕ → Bool
is_opening E (Carries ns) information = false
is_opening E SetsUp information = length information == 0
is_opening E Agrees information = false
is_opening E Disconnects information = false
is_opening E Leaves information = false
is_opening E Passes information = false
is_opening R (Carries ns) information = false
is_opening R SetsUp information = false
is_opening R Agrees information = true
is_opening R Disconnects information = false
is_opening R Leaves information = false
is_opening R Passes information = false

-- both bear the address of the radio block centre's side
abbrev pub is_link_opening : Side → ReadFrame → Bool
is_link_opening side f = (f.address == address_of_side R) && is_opening side (sort_of f.control) f.information

-- where none opens the link, nothing is left
unfoldable pub behind_opening : Side → List ReadFrame → List ReadFrame
behind_opening side [] = []
behind_opening side (f ∷ fs) = if is_link_opening side f then fs else behind_opening side fs

-- ---- step 6: the end of the link

-- a command bears the receiver's address, a response the sender's
abbrev pub is_end : Side → Sort → (address : ℕ) → Bool
is_end side (Carries ns) address = false
is_end side SetsUp address = false
is_end side Agrees address = false
is_end side Disconnects address = address == address_of_side (other side)
is_end side Leaves address = address == address_of_side side
is_end side Passes address = false

abbrev pub ends : Side → ReadFrame → Bool
ends side f = is_end side (sort_of f.control) f.address

-- the first that ends the link, and all behind it, is left out
unfoldable pub before_end : Side → List ReadFrame → List ReadFrame
before_end side [] = []
before_end side (f ∷ fs) = if ends side f then [] else f ∷ before_end side fs

-- ---- step 2: I frames in their sequence

abbrev pub has_number : ℕ → Sort → Bool
has_number count (Carries ns) = count % 8 == ns
has_number count SetsUp = false
has_number count Agrees = false
has_number count Disconnects = false
has_number count Leaves = false
has_number count Passes = false

-- an I frame to the receiver that has the next number
abbrev pub is_next : Side → (count : ℕ) → ReadFrame → Bool
is_next side count f = (f.address == address_of_side (other side)) && has_number count (sort_of f.control)

unfoldable pub in_sequence : Side → (count : ℕ) → List ReadFrame → List (List ℕ)
in_sequence side count [] = []
in_sequence side count (f ∷ fs) =
    if is_next side count f then f.information ∷ in_sequence side (count + 1) fs else in_sequence side count fs

-- the pieces of information that count
unfoldable pub payloads : Side → (stream : List ℕ) → List (List ℕ)
payloads side stream = in_sequence side 0 (before_end side (behind_opening side (frames_read (frames_of stream))))

-- ---- step 3: blocks, and TPDUs

abbrev pub tpdu_before : joining.BlockJoiningResult → List (List ℕ) → List (List ℕ)
tpdu_before (Ok None) rest = rest
tpdu_before (Ok (Some tpdu)) rest = tpdu ∷ rest
tpdu_before (Err fault) rest = []

-- those that are joined behind the octets that are held, up to the first block that is faulty
unfoldable pub tpdus_from : (held : List ℕ) → List (List ℕ) → List (List ℕ)
tpdus_from held [] = []
tpdus_from held (block ∷ blocks) = let joined = joining.block_step held block in tpdu_before joined.1 (tpdus_from joined.0 blocks)

abbrev pub pdu_before : Result TransportPdu TpFault → List TransportPdu → List TransportPdu
pdu_before (Ok pdu) rest = pdu ∷ rest
pdu_before (Err fault) rest = []

-- what they are read as, up to the first that is faulty
unfoldable pub pdus_in : List (List ℕ) → List TransportPdu
pdus_in [] = []
pdus_in (tpdu ∷ tpdus) = pdu_before (reading tpdu) (pdus_in tpdus)

-- ---- steps 4 and 5: the texts

-- the texts of CR, CC and of the messages of DTs; and that of the DR that ended them
pub record Hearing : Type 0 where
  pub texts : List (List ℕ)
  pub parting : Option (List ℕ)

abbrev pub silence : Hearing
silence = record { texts = []; parting = None }

abbrev pub with_text : List ℕ → Hearing → Hearing
with_text text h = record { texts = text ∷ h.texts; parting = h.parting }

-- where so many DTs came, and a message was begun with these octets: a DT out of number, a message above 1,032 octets, a DC and an ER end them
unfoldable pub texts_from : (dts : ℕ) → (begun : List ℕ) → List TransportPdu → Hearing
texts_from dts begun [] = silence
texts_from dts begun (connection_request credit dst src size user ∷ pdus) = with_text user (texts_from dts begun pdus)
texts_from dts begun (connection_confirm credit dst src size user ∷ pdus) = with_text user (texts_from dts begun pdus)
texts_from dts begun (disconnect_request dst src reason user ∷ pdus) = record { texts = []; parting = Some user }
texts_from dts begun (disconnect_confirm dst src ∷ pdus) = silence
texts_from dts begun (data_tpdu dst last number user ∷ pdus) =
    if not (number == dts % 128) then silence
    else if nat_lt most_octets (length (begun ++ user)) then silence
    else if last then with_text (begun ++ user) (texts_from (dts + 1) [] pdus)
    else texts_from (dts + 1) (begun ++ user) pdus
texts_from dts begun (acknowledgement credit dst number ∷ pdus) = texts_from dts begun pdus
texts_from dts begun (tpdu_error dst cause ∷ pdus) = silence

-- ---- all steps

unfoldable pub heard_of : List (List ℕ) → Hearing
heard_of pieces = texts_from 0 [] (pdus_in (tpdus_from [] pieces))

-- what is heard of a stream of this side
unfoldable pub heard : Side → (stream : List ℕ) → Hearing
heard side stream = heard_of (payloads side stream)

-- as one list: the text of the DR is the last item
abbrev pub items : Hearing → List (List ℕ)
items h = h.texts ++ option_to_list h.parting
