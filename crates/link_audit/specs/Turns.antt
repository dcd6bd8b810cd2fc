-- Representation: how the code hears one frame at a time, with numbers modulo 8 and 128; no claim rests on it.
use Rattle.std.specs.Prelude.{ℕ, ◌≡◌, ◌+◌, ◌%◌, ◌==◌, nat_lt, Bool, true, false, not, if◌then◌else◌, List, [], ◌++◌, length, Some, None, Result, Ok, Err}
use Rattle.er_base.specs.declared.side.Side.{Side}
use Rattle.er_base.specs.Sides.{other}
use Rattle.t70_header.specs.Joining as joining
use Rattle.x224_tpdu.specs.declared.fault.TpFault.{TpFault}
use Rattle.x224_tpdu.specs.Spelling.{TransportPdu, connection_request, connection_confirm, disconnect_request, disconnect_confirm, data_tpdu, acknowledgement}
use Rattle.x224_tpdu.specs.Spelling.{tpdu_error}
use Rattle.x224_tpdu.specs.Function.{reading}
use Rattle.sapdu.specs.Messages.{most_octets}
use Rattle.tap_model.specs.declared.end_cause.EndCause.{EndCause}
use Rattle.tap_model.specs.declared.end_cause.EndCause.TheVariants.{Disc, Dm, Block, Tpdu, Number, Long}
use Rattle.tap_model.specs.Hearing.{ReadFrame, address_of_side, Sort, Carries, SetsUp, Agrees, Disconnects, Leaves, Passes, sort_of, is_link_opening, ends}
use Rattle.tap_model.specs.Hearing.{has_number}
use Rattle.tap_model.specs.Ears.{Ear, new_ear, open_ear}
use Rattle.link_audit.specs.declared.frame_outcome.FrameOutcome.{FrameOutcome}
use Rattle.link_audit.specs.declared.frame_outcome.FrameOutcome.TheVariants as it
use Rattle.link_audit.specs.declared.frame_outcome.TextOutcome.{TextOutcome}
use Rattle.link_audit.specs.declared.frame_outcome.TextOutcome.TheVariants as said

-- ---- texts

-- the number of the next DT, what was begun, and the newest text
pub record KTexts : Type 0 where
  pub dts : ℕ
  pub begun : List ℕ
  pub text : List ℕ

abbrev pub no_texts : KTexts
no_texts = record { dts = 0; begun = []; text = [] }

-- what a TPDU comes to
pub data TextTurn : Type 0 where
  Waits : (dts : ℕ) (begun : List ℕ) → TextTurn
  Tells : (text : List ℕ) (dts : ℕ) (begun : List ℕ) → TextTurn
  Closes : (text : List ℕ) → TextTurn
  Stops : (why : EndCause) → TextTurn

abbrev pub text_turn_at_data : (dts : ℕ) (begun : List ℕ) (last : Bool) (number : ℕ) (user : List ℕ) → TextTurn
text_turn_at_data dts begun last number user =
    if not (number == dts) then Stops Number
    else if nat_lt most_octets (length (begun ++ user)) then Stops Long
    else if last then Tells (begun ++ user) ((dts + 1) % 128) []
    else Waits ((dts + 1) % 128) (begun ++ user)

abbrev pub text_turn : (dts : ℕ) (begun : List ℕ) → Result TransportPdu TpFault → TextTurn
text_turn dts begun (Ok (connection_request credit dst src size user)) = Tells user dts begun
text_turn dts begun (Ok (connection_confirm credit dst src size user)) = Tells user dts begun
text_turn dts begun (Ok (disconnect_request dst src reason user)) = Closes user
text_turn dts begun (Ok (disconnect_confirm dst src)) = Stops Tpdu
text_turn dts begun (Ok (data_tpdu dst last number user)) = text_turn_at_data dts begun last number user
text_turn dts begun (Ok (acknowledgement credit dst number)) = Waits dts begun
text_turn dts begun (Ok (tpdu_error dst cause)) = Stops Tpdu
text_turn dts begun (Err fault) = Stops Tpdu

-- the same by what the code answers and keeps then
abbrev pub text_turned : TextOutcome → KTexts → TextTurn
text_turned said.NoText k = Waits k.dts k.begun
text_turned said.Text k = Tells k.text k.dts k.begun
text_turned said.LastText k = Closes k.text
text_turned (said.Ended why) k = Stops why

-- ---- frames

-- how far the hearing is, whether an I frame came since the last one that counted, and the newest text
pub record KEar : Type 0 where
  pub side : Side
  pub ear : Ear
  pub gap : Bool
  pub text : List ℕ

abbrev pub new_receiver : Side → KEar
new_receiver side = record { side = side; ear = new_ear; gap = false; text = [] }

-- before what opens the link nothing is kept
abbrev pub IsFresh : (opened : Bool) → (count : ℕ) → (held : List ℕ) → (dts : ℕ) → (begun : List ℕ) → (gap : Bool) → Type 0
IsFresh true count held dts begun gap = Unit {0}
IsFresh false count held dts begun gap = (count ≡ 0) × ((held ≡ []) × ((dts ≡ 0) × ((begun ≡ []) × (gap ≡ false))))

-- what a frame comes to: it is passed over; it counts, with a text or without, or as the last one; or it ends the link
pub data FrameTurn : Type 0 where
  PassesOver : (next : Ear) (gap : Bool) → FrameTurn
  Counts : (next : Ear) (gap : Bool) → FrameTurn
  CountsText : (text : List ℕ) (next : Ear) (gap : Bool) → FrameTurn
  CountsLastText : (text : List ℕ) → FrameTurn
  CountsLast : (why : EndCause) → FrameTurn
  EndsLink : (why : EndCause) → FrameTurn

-- the information of one that counts, by what its TPDU comes to
abbrev pub turn_at_text : Ear → TextTurn → FrameTurn
turn_at_text k (Waits dts begun) = Counts (record k { dts = dts; begun = begun }) false
turn_at_text k (Tells text dts begun) = CountsText text (record k { dts = dts; begun = begun }) false
turn_at_text k (Closes text) = CountsLastText text
turn_at_text k (Stops why) = CountsLast why

abbrev pub turn_at_joined : Ear → joining.BlockJoiningResult → FrameTurn
turn_at_joined k (Ok None) = Counts k false
turn_at_joined k (Ok (Some tpdu)) = turn_at_text k (text_turn k.dts k.begun (reading tpdu))
turn_at_joined k (Err fault) = CountsLast Block

abbrev pub turn_at_information : Ear → (information : List ℕ) → FrameTurn
turn_at_information k information =
    let joined = joining.block_step k.held information in turn_at_joined (record k { count = (k.count + 1) % 8; held = joined.0 }) joined.1

-- for which cause one that ends the link does
abbrev pub link_end_cause : Sort → EndCause
link_end_cause (Carries ns) = Dm
link_end_cause SetsUp = Dm
link_end_cause Agrees = Dm
link_end_cause Disconnects = Disc
link_end_cause Leaves = Dm
link_end_cause Passes = Dm

abbrev pub is_information : Sort → Bool
is_information (Carries ns) = true
is_information SetsUp = false
is_information Agrees = false
is_information Disconnects = false
is_information Leaves = false
is_information Passes = false

abbrev pub frame_turn_where : (opened : Bool) → Side → Ear → (gap : Bool) → ReadFrame → FrameTurn
frame_turn_where true side k gap f =
    if ends side f then EndsLink (link_end_cause (sort_of f.control))
    else if not (f.address == address_of_side (other side)) then PassesOver k gap
    else if has_number k.count (sort_of f.control) then turn_at_information k f.information
    else PassesOver k (if is_information (sort_of f.control) then true else gap)
frame_turn_where false side k gap f = if is_link_opening side f then PassesOver open_ear false else PassesOver k gap

unfoldable pub frame_turn : Side → Ear → (gap : Bool) → ReadFrame → FrameTurn
frame_turn side k gap f = frame_turn_where k.opened side k gap f

-- the same by what the code answers and keeps then
abbrev pub turned : FrameOutcome → KEar → FrameTurn
turned it.PassedOver k = PassesOver k.ear k.gap
turned (it.Counted said.NoText) k = Counts k.ear k.gap
turned (it.Counted said.Text) k = CountsText k.text k.ear k.gap
turned (it.Counted said.LastText) k = CountsLastText k.text
turned (it.Counted (said.Ended why)) k = CountsLast why
turned (it.LinkEnded why) k = EndsLink why
