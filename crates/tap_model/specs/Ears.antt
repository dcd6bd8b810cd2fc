-- Contract: hearing one frame at a time.
use Rattle.std.specs.Prelude.{ℕ, ◌≡◌, ◌+◌, ◌%◌, ◌==◌, nat_lt, Bool, true, false, not, if◌then◌else◌, List, [], ◌∷◌, ◌++◌, length, Some, None, Result, Ok, Err}
use Rattle.er_base.specs.declared.side.Side.{Side}
use Rattle.hdlc_frames.specs.Framing.{frames_of}
use Rattle.t70_header.specs.Joining as joining
use Rattle.x224_tpdu.specs.declared.fault.TpFault.{TpFault}
use Rattle.x224_tpdu.specs.Spelling.{TransportPdu, connection_request, connection_confirm, disconnect_request, disconnect_confirm, data_tpdu, acknowledgement}
use Rattle.x224_tpdu.specs.Spelling.{tpdu_error}
use Rattle.x224_tpdu.specs.Function.{reading}
use Rattle.sapdu.specs.Messages.{most_octets}
use Rattle.tap_model.specs.Hearing.{ReadFrame, frames_read, is_link_opening, behind_opening, ends, before_end, is_next, in_sequence, tpdus_from, pdus_in}
use Rattle.tap_model.specs.Hearing.{Hearing, silence, with_text, texts_from, heard_of, heard}

-- how far the hearing is
pub record Ear : Type 0 where
  pub opened : Bool
  pub count : ℕ  -- I frames that counted
  pub held : List ℕ  -- octets of a TPDU that was begun
  pub dts : ℕ
  pub begun : List ℕ  -- octets of a message that was begun

abbrev pub new_ear : Ear
new_ear = record { opened = false; count = 0; held = []; dts = 0; begun = [] }

-- behind what opens the link
abbrev pub open_ear : Ear
open_ear = record { opened = true; count = 0; held = []; dts = 0; begun = [] }

-- what it hears of further pieces of information
abbrev pub hears_of : Ear → List (List ℕ) → Hearing
hears_of k pieces = texts_from k.dts k.begun (pdus_in (tpdus_from k.held pieces))

abbrev pub hears_if : (opened : Bool) → Side → Ear → List ReadFrame → Hearing
hears_if true side k frames = hears_of k (in_sequence side k.count (before_end side frames))
hears_if false side k frames = heard_of (in_sequence side 0 (before_end side (behind_opening side frames)))

-- what it hears of further frames
unfoldable pub hearing_of_frames : Side → Ear → List ReadFrame → Hearing
hearing_of_frames side k frames = hears_if k.opened side k frames

-- what one frame comes to
pub data TapFrameTurn : Type 0 where
  GoesOn : (next : Ear) → TapFrameTurn
  Says : (text : List ℕ) (next : Ear) → TapFrameTurn
  Parts : (text : List ℕ) → TapFrameTurn
  Ends : TapFrameTurn

-- a DT
abbrev pub turn_at_data : Ear → (last : Bool) → (number : ℕ) → List ℕ → TapFrameTurn
turn_at_data k last number user =
    if not (number == k.dts % 128) then Ends
    else if nat_lt most_octets (length (k.begun ++ user)) then Ends
    else if last then Says (k.begun ++ user) (record k { dts = k.dts + 1; begun = [] })
    else GoesOn (record k { dts = k.dts + 1; begun = k.begun ++ user })

-- what a TPDU is read as
abbrev pub turn_at_pdu : Ear → Result TransportPdu TpFault → TapFrameTurn
turn_at_pdu k (Ok (connection_request credit dst src size user)) = Says user k
turn_at_pdu k (Ok (connection_confirm credit dst src size user)) = Says user k
turn_at_pdu k (Ok (disconnect_request dst src reason user)) = Parts user
turn_at_pdu k (Ok (disconnect_confirm dst src)) = Ends
turn_at_pdu k (Ok (data_tpdu dst last number user)) = turn_at_data k last number user
turn_at_pdu k (Ok (acknowledgement credit dst number)) = GoesOn k
turn_at_pdu k (Ok (tpdu_error dst cause)) = Ends
turn_at_pdu k (Err fault) = Ends

-- what a block comes to
abbrev pub turn_at_block : Ear → joining.BlockJoiningResult → TapFrameTurn
turn_at_block k (Ok None) = GoesOn k
turn_at_block k (Ok (Some tpdu)) = turn_at_pdu k (reading tpdu)
turn_at_block k (Err fault) = Ends

-- information that counts
abbrev pub turn_at_piece : Ear → (piece : List ℕ) → TapFrameTurn
turn_at_piece k piece =
    let joined = joining.block_step k.held piece in turn_at_block (record k { count = k.count + 1; held = joined.0 }) joined.1

abbrev pub turn_if : (opened : Bool) → Side → Ear → ReadFrame → TapFrameTurn
turn_if true side k f = if ends side f then Ends else if is_next side k.count f then turn_at_piece k f.information else GoesOn k
turn_if false side k f = if is_link_opening side f then GoesOn open_ear else GoesOn k

unfoldable pub turn_of_tap_frame : Side → Ear → ReadFrame → TapFrameTurn
turn_of_tap_frame side k f = turn_if k.opened side k f

abbrev pub behind_turn : TapFrameTurn → (Ear → Hearing) → Hearing
behind_turn (GoesOn next) rest = rest next
behind_turn (Says text next) rest = with_text text (rest next)
behind_turn (Parts text) rest = record { texts = []; parting = Some text }
behind_turn Ends rest = silence

-- frame by frame an ear hears what all frames say
pub record HearingTurns : Type 0 where
  pub begins : (side : Side) (stream : List ℕ) → hearing_of_frames side new_ear (frames_read (frames_of stream)) ≡ heard side stream
  pub rests : (side : Side) (k : Ear) → hearing_of_frames side k [] ≡ silence
  pub goes_on : (side : Side) (k : Ear) (f : ReadFrame) (fs : List ReadFrame)
      → hearing_of_frames side k (f ∷ fs) ≡ behind_turn (turn_of_tap_frame side k f) (λ next. hearing_of_frames side next fs)
