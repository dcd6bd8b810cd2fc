-- How far a stream was heard, and why no further (this profile), frame by frame: which I frames counted, which frame ended the list of texts, and
-- how many are left behind it. Frames are those of ISO/IEC 13239 at modulo 8, blocks those of ITU-T T.70, TPDUs those of ITU-T X.224 class 2.
use Rattle.std.specs.Prelude.{ℕ, ◌+◌, ◌%◌, ◌==◌, nat_lt, Bool, true, false, not, ◌&&◌, ◌||◌, if◌then◌else◌, List, [], ◌∷◌, length, filter, Option, Some, None}
use Rattle.std.specs.Prelude.{Result, Ok, Err}
use Rattle.er_base.specs.declared.side.Side.{Side}
use Rattle.er_base.specs.Sides.{other}
use Rattle.hdlc_frames.specs.Framing.{Verdict, Frame, BadFcs, TooShort, TooLong, Aborted}
use Rattle.t70_header.specs.Joining as joining
use Rattle.x224_tpdu.specs.declared.fault.TpFault.{TpFault}
use Rattle.x224_tpdu.specs.Spelling.{TransportPdu, connection_request, connection_confirm, disconnect_request, disconnect_confirm, data_tpdu, acknowledgement}
use Rattle.x224_tpdu.specs.Spelling.{tpdu_error}
use Rattle.x224_tpdu.specs.Function.{reading}
use Rattle.sapdu.specs.Messages.{most_octets}
use Rattle.tap_model.specs.declared.end_cause.EndCause.{EndCause}
use Rattle.tap_model.specs.declared.end_cause.EndCause.TheVariants.{Unopened, Open, Gap, Disc, Dm, Block, Tpdu, Number, Long, Dr}
use Rattle.tap_model.specs.Hearing.{ReadFrame, read_frame, address_of_side, Sort, Carries, SetsUp, Agrees, Disconnects, Leaves, Passes, sort_of}
use Rattle.tap_model.specs.Hearing.{is_link_opening, is_next}

-- ---- frames

abbrev pub is_frame : Verdict → Bool
is_frame (Frame address body) = true
is_frame BadFcs = false
is_frame TooShort = false
is_frame TooLong = false
is_frame Aborted = false

-- how many of them are intact frames, whatever their address and control
unfoldable pub frames_among : List Verdict → ℕ
frames_among verdicts = length (filter is_frame verdicts)

-- ---- how far a stream was heard

pub record ReceiverState : Type 0 where
  pub vr : ℕ  -- V(R), the N(S) of the next I frame that counts
  pub held : List ℕ  -- octets of a TPDU that was begun
  pub number : ℕ  -- of the next DT
  pub begun : ℕ  -- how many octets of a message were begun
  pub gap : Bool  -- since the last I frame that counted, one came that didn't

-- behind what opens the link
abbrev pub receiver_at_opening : ReceiverState
receiver_at_opening = record { vr = 0; held = []; number = 0; begun = 0; gap = false }

-- what a frame comes to: it counts or not and the list goes on, or the list ends with it
pub data FrameOutcome : Type 0 where
  PassedOver : (next : ReceiverState) → FrameOutcome
  Counted : (next : ReceiverState) → FrameOutcome
  CountedLast : (why : EndCause) → FrameOutcome
  LinkEnded : (why : EndCause) → FrameOutcome

-- a DT has the next number, modulo 128, and its message at most 1,032 octets
abbrev pub outcome_at_data : ReceiverState → (last : Bool) → (number : ℕ) → List ℕ → FrameOutcome
outcome_at_data r last number user =
    if not (number == r.number) then CountedLast Number
    else if nat_lt most_octets (r.begun + length user) then CountedLast Long
    else Counted (record r { number = (r.number + 1) % 128; begun = if last then 0 else r.begun + length user })

-- a DR, a DC, an ER and what is no TPDU end the list
abbrev pub outcome_at_pdu : ReceiverState → Result TransportPdu TpFault → FrameOutcome
outcome_at_pdu r (Ok (connection_request credit dst src size user)) = Counted r
outcome_at_pdu r (Ok (connection_confirm credit dst src size user)) = Counted r
outcome_at_pdu r (Ok (disconnect_request dst src reason user)) = CountedLast Dr
outcome_at_pdu r (Ok (disconnect_confirm dst src)) = CountedLast Tpdu
outcome_at_pdu r (Ok (data_tpdu dst last number user)) = outcome_at_data r last number user
outcome_at_pdu r (Ok (acknowledgement credit dst number)) = Counted r
outcome_at_pdu r (Ok (tpdu_error dst cause)) = CountedLast Tpdu
outcome_at_pdu r (Err fault) = CountedLast Tpdu

abbrev pub outcome_at_block : ReceiverState → joining.BlockJoiningResult → FrameOutcome
outcome_at_block r (Ok None) = Counted r
outcome_at_block r (Ok (Some tpdu)) = outcome_at_pdu r (reading tpdu)
outcome_at_block r (Err fault) = CountedLast Block

-- the information of an I frame that counts, a block
abbrev pub outcome_at_piece : ReceiverState → List ℕ → FrameOutcome
outcome_at_piece r piece =
    let joined = joining.block_step r.held piece in
    outcome_at_block (record r { vr = (r.vr + 1) % 8; held = joined.0; gap = false }) joined.1

-- DISC to the receiver, DM and FRMR of the sender; else whether it is the next I frame to the receiver, or another one
abbrev pub outcome_at_sort : Side → ReceiverState → ReadFrame → Sort → FrameOutcome
outcome_at_sort side r f (Carries ns) =
    if is_next side r.vr f then outcome_at_piece r f.information
    else PassedOver (record r { gap = r.gap || (f.address == address_of_side (other side)) })
outcome_at_sort side r f SetsUp = PassedOver r
outcome_at_sort side r f Agrees = PassedOver r
outcome_at_sort side r f Disconnects = if f.address == address_of_side (other side) then LinkEnded Disc else PassedOver r
outcome_at_sort side r f Leaves = if f.address == address_of_side side then LinkEnded Dm else PassedOver r
outcome_at_sort side r f Passes = PassedOver r

-- what a verdict comes to: of what is no frame, or has no control, nothing
abbrev pub outcome_of_verdict : Side → ReceiverState → List ReadFrame → FrameOutcome
outcome_of_verdict side r [] = PassedOver r
outcome_of_verdict side r (f ∷ more) = outcome_at_sort side r f (sort_of f.control)

-- ---- the end of a stream

pub record StreamEnd : Type 0 where
  pub heard : ℕ  -- I frames that counted, the one that ended the list among them
  pub left : ℕ  -- intact frames behind the one that ended it
  pub why : EndCause

abbrev pub behind_outcome : FrameOutcome → (left : ℕ) → (ReceiverState → StreamEnd) → StreamEnd
behind_outcome (PassedOver next) left rest = rest next
behind_outcome (Counted next) left rest = let e = rest next in record e { heard = e.heard + 1 }
behind_outcome (CountedLast why) left rest = record { heard = 1; left = left; why = why }
behind_outcome (LinkEnded why) left rest = record { heard = 0; left = left; why = why }

-- of what comes behind the opening
unfoldable pub end_from : Side → ReceiverState → List Verdict → StreamEnd
end_from side r [] = record { heard = 0; left = 0; why = if r.gap then Gap else Open }
end_from side r (verdict ∷ verdicts) =
    behind_outcome (outcome_of_verdict side r (read_frame verdict)) (frames_among verdicts) (λ next. end_from side next verdicts)

abbrev pub opens_link_of : Side → List ReadFrame → Bool
opens_link_of side [] = false
opens_link_of side (f ∷ more) = is_link_opening side f

-- of a whole stream, by the verdicts on its pieces
unfoldable pub stream_end : Side → List Verdict → StreamEnd
stream_end side [] = record { heard = 0; left = 0; why = Unopened }
stream_end side (verdict ∷ verdicts) =
    if opens_link_of side (read_frame verdict) then end_from side receiver_at_opening verdicts else stream_end side verdicts
