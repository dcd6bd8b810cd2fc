-- What the end of a stream tells, in words of what is heard of its frames (this profile): which frame ended the list of texts, by which rule of
-- ISO/IEC 13239, ITU-T T.70 or ITU-T X.224, and that nothing behind it is heard, whatever it is; where none did, that the next I frame would be heard.
use Rattle.std.specs.Prelude.{ℕ, ◌≡◌, ◌<◌, ◌+◌, ◌⊎◌, ◌%◌, Bool, true, false, List, [], ◌∷◌, ◌++◌, length, Some, None, Ok, Err, Result}
use Rattle.std.specs.List.{AllByRecursion}
use Rattle.er_base.specs.declared.side.Side.{Side}
use Rattle.er_base.specs.Sides.{other}
use Rattle.er_tap.specs.declared.tap_line.TapLine.{TapLine}
use Rattle.hdlc_frames.specs.declared.controls.Control.TheVariants as control
use Rattle.hdlc_frames.specs.Framing.{Verdict}
use Rattle.t70_header.specs.declared.fault.BlockFault.{BlockFault}
use Rattle.t70_header.specs.Joining as joining
use Rattle.x224_tpdu.specs.declared.fault.TpFault.{TpFault}
use Rattle.x224_tpdu.specs.Spelling.{TransportPdu, connection_request, connection_confirm, disconnect_request, disconnect_confirm, data_tpdu, acknowledgement}
use Rattle.x224_tpdu.specs.Spelling.{tpdu_error}
use Rattle.x224_tpdu.specs.Function.{reading}
use Rattle.sapdu.specs.Messages.{most_octets}
use Rattle.er_end_model.specs.Steps.{Finds}
use Rattle.tap_model.specs.declared.end_cause.EndCause.{EndCause}
use Rattle.tap_model.specs.declared.end_cause.EndCause.TheVariants.{Unopened, Open, Gap, Disc, Dm, Block, Tpdu, Number, Long, Dr}
use Rattle.tap_model.specs.Hearing.{ReadFrame, frames_read, read_frame, address_of_side, Carries, sort_of, is_link_opening, behind_opening, before_end, is_next}
use Rattle.tap_model.specs.Hearing.{in_sequence, tpdus_from, pdus_in, Hearing, heard_of, heard, items}
use Rattle.tap_model.specs.Lines.{TapOpening, stream_of}
use Rattle.tap_model.specs.Texts.{judged_at}
use Rattle.tap_model.specs.Ends.{frames_among, StreamEnd, stream_end}

-- ---- what is heard of frames

-- the blocks in the I frames that count
abbrev pub blocks_in : Side → List Verdict → List (List ℕ)
blocks_in side verdicts = in_sequence side 0 (before_end side (behind_opening side (frames_read verdicts)))

abbrev pub heard_of_verdicts : Side → List Verdict → Hearing
heard_of_verdicts side verdicts = heard_of (blocks_in side verdicts)

-- the TPDUs that blocks were joined to, and what they are
abbrev pub pdus_of_blocks : List (List ℕ) → List TransportPdu
pdus_of_blocks blocks = pdus_in (tpdus_from [] blocks)

-- the octets of a TPDU that blocks began, behind these
unfoldable pub tpdu_begun : (held : List ℕ) → (blocks : List (List ℕ)) → List ℕ
tpdu_begun held [] = held
tpdu_begun held (block ∷ blocks) = tpdu_begun (joining.block_step held block).0 blocks

-- how many of them are DTs
unfoldable pub dts_among : List TransportPdu → ℕ
dts_among [] = 0
dts_among (connection_request credit dst src size user ∷ pdus) = dts_among pdus
dts_among (connection_confirm credit dst src size user ∷ pdus) = dts_among pdus
dts_among (disconnect_request dst src reason user ∷ pdus) = dts_among pdus
dts_among (disconnect_confirm dst src ∷ pdus) = dts_among pdus
dts_among (data_tpdu dst last number user ∷ pdus) = dts_among pdus + 1
dts_among (acknowledgement credit dst number ∷ pdus) = dts_among pdus
dts_among (tpdu_error dst cause ∷ pdus) = dts_among pdus

-- the octets of a message that DTs began, behind these: a DT that is its last ends it
unfoldable pub message_begun : (begun : List ℕ) → List TransportPdu → List ℕ
message_begun begun [] = begun
message_begun begun (connection_request credit dst src size user ∷ pdus) = message_begun begun pdus
message_begun begun (connection_confirm credit dst src size user ∷ pdus) = message_begun begun pdus
message_begun begun (disconnect_request dst src reason user ∷ pdus) = message_begun begun pdus
message_begun begun (disconnect_confirm dst src ∷ pdus) = message_begun begun pdus
message_begun begun (data_tpdu dst true number user ∷ pdus) = message_begun [] pdus
message_begun begun (data_tpdu dst false number user ∷ pdus) = message_begun (begun ++ user) pdus
message_begun begun (acknowledgement credit dst number ∷ pdus) = message_begun begun pdus
message_begun begun (tpdu_error dst cause ∷ pdus) = message_begun begun pdus

-- a block behind others ends a TPDU
abbrev pub CompletesTpdu : (blocks : List (List ℕ)) → (block tpdu : List ℕ) → Type 0
CompletesTpdu blocks block tpdu = (joining.block_step (tpdu_begun [] blocks) block).1 ≡ Ok (Some tpdu)

-- ---- the opening

-- one of them opens the link, SABM of the engine's side, UA of the other
pub record IsOpened (side : Side) (verdicts : List Verdict) : Type 0 where
  pub before : List ReadFrame
  pub opening : ReadFrame
  pub behind : List ReadFrame
  pub frames_are : frames_read verdicts ≡ before ++ opening ∷ behind
  pub opens : is_link_opening side opening ≡ true

-- and none
abbrev pub IsUnopened : Side → List Verdict → Type 0
IsUnopened side verdicts = AllByRecursion (λ f. is_link_opening side f ≡ false) (frames_read verdicts)

-- ---- where the list of texts goes on

-- the I frame that has the next N(S) would count, and a text that its block completes would be heard behind those that are
pub record GoesOn (side : Side) (verdicts : List Verdict) : Type 0 where
  pub opened : IsOpened side verdicts
  pub next_counts : (v : Verdict) (f : ReadFrame) → read_frame v ≡ f ∷ [] → is_next side (length (blocks_in side verdicts)) f ≡ true
      → blocks_in side (verdicts ++ v ∷ []) ≡ blocks_in side verdicts ++ f.information ∷ []
  pub next_is_heard : (block tpdu user : List ℕ) (credit dst src size : ℕ) → CompletesTpdu (blocks_in side verdicts) block tpdu
      → reading tpdu ≡ Ok (connection_request credit dst src size user)
      → heard_of (blocks_in side verdicts ++ block ∷ []) ≡ record { texts = (heard_of_verdicts side verdicts).texts ++ user ∷ []; parting = None }

-- behind all I frames that counted, one came to the receiver
pub record HasGap (side : Side) (verdicts : List Verdict) : Type 0 where
  pub before : List Verdict
  pub verdict : Verdict
  pub behind : List Verdict
  pub frame : ReadFrame
  pub ns : ℕ
  pub verdicts_are : verdicts ≡ before ++ verdict ∷ behind
  pub frame_is : read_frame verdict ≡ frame ∷ []
  pub opened : IsOpened side before
  pub address_is : frame.address ≡ address_of_side (other side)
  pub carries : sort_of frame.control ≡ Carries ns
  pub none_counts : blocks_in side verdicts ≡ blocks_in side before

-- ---- where it ended

-- the I frame that has the next N(S), behind these blocks, ends a TPDU that is read so
pub record BringsTpdu (side : Side) (blocks : List (List ℕ)) (f : ReadFrame) (read : Result TransportPdu TpFault) : Type 0 where
  pub tpdu : List ℕ
  pub next : is_next side (length blocks) f ≡ true
  pub completes : CompletesTpdu blocks f.information tpdu
  pub read_is : reading tpdu ≡ read

-- the rule by which a frame ended it, behind these blocks
pub data EndsList (side : Side) (blocks : List (List ℕ)) (f : ReadFrame) : EndCause → Type 0 where
  -- DISC is a command, with the receiver's address; DM and FRMR are responses, with the sender's
  ByDisc : (poll : Bool) → f.control ≡ control.Disc poll → f.address ≡ address_of_side (other side) → EndsList side blocks f Disc
  ByDm : (f.control ≡ control.Dm) ⊎ (f.control ≡ control.Frmr) → f.address ≡ address_of_side side → EndsList side blocks f Dm
  -- the next I frame has a block with another header, or too long with what it is joined to
  ByBlock : (fault : BlockFault) → is_next side (length blocks) f ≡ true → (joining.block_step (tpdu_begun [] blocks) f.information).1 ≡ Err fault
      → EndsList side blocks f Block
  -- or it brings what is no TPDU, a DC or an ER
  ByTpdu : (fault : TpFault) → BringsTpdu side blocks f (Err fault) → EndsList side blocks f Tpdu
  ByDc : (dst src : ℕ) → BringsTpdu side blocks f (Ok (disconnect_confirm dst src)) → EndsList side blocks f Tpdu
  ByEr : (dst cause : ℕ) → BringsTpdu side blocks f (Ok (tpdu_error dst cause)) → EndsList side blocks f Tpdu
  -- a DT whose number isn't that of all before it, modulo 128
  ByNumber : (dst : ℕ) (last : Bool) (number : ℕ) (user : List ℕ) → BringsTpdu side blocks f (Ok (data_tpdu dst last number user))
      → (number ≡ dts_among (pdus_of_blocks blocks) % 128 → ⊥) → EndsList side blocks f Number
  -- one that has it, whose message is above 1,032 octets
  ByLong : (dst : ℕ) (last : Bool) (number : ℕ) (user : List ℕ) → BringsTpdu side blocks f (Ok (data_tpdu dst last number user))
      → number ≡ dts_among (pdus_of_blocks blocks) % 128 → most_octets < length (message_begun [] (pdus_of_blocks blocks) ++ user)
      → EndsList side blocks f Long
  -- a DR
  ByDr : (dst src reason : ℕ) (user : List ℕ) → BringsTpdu side blocks f (Ok (disconnect_request dst src reason user)) → EndsList side blocks f Dr

-- up to this frame the list went on; with it it ended; the frames behind it are left, and nothing of them is heard, whatever they are
pub record IsEndedByFrame (side : Side) (verdicts : List Verdict) (e : StreamEnd) : Type 0 where
  pub before : List Verdict
  pub verdict : Verdict
  pub behind : List Verdict
  pub frame : ReadFrame
  pub verdicts_are : verdicts ≡ before ++ verdict ∷ behind
  pub frame_is : read_frame verdict ≡ frame ∷ []
  pub goes_on : GoesOn side before
  pub rule : EndsList side (blocks_in side before) frame e.why
  pub heard_is : e.heard ≡ length (blocks_in side (before ++ verdict ∷ []))
  pub left_is : e.left ≡ frames_among behind
  pub no_more : (more : List Verdict) → heard_of_verdicts side (before ++ verdict ∷ more) ≡ heard_of_verdicts side (before ++ verdict ∷ [])

-- ---- of each stream

pub data IsEndOf (side : Side) (verdicts : List Verdict) (e : StreamEnd) : Type 0 where
  NeverOpens : IsUnopened side verdicts → e ≡ record { heard = 0; left = 0; why = Unopened } → IsEndOf side verdicts e
  StaysOpen : GoesOn side verdicts → (HasGap side verdicts → ⊥) → e ≡ record { heard = length (blocks_in side verdicts); left = 0; why = Open }
      → IsEndOf side verdicts e
  StaysInGap : GoesOn side verdicts → HasGap side verdicts → e ≡ record { heard = length (blocks_in side verdicts); left = 0; why = Gap }
      → IsEndOf side verdicts e
  EndsByFrame : IsEndedByFrame side verdicts e → IsEndOf side verdicts e

-- of all verdicts on the pieces of whatever stream: what the end tells is so. It refuses an audit that counts the frame that ended the list as left
abbrev pub EndsAreTold : Type 0
EndsAreTold = (side : Side) (verdicts : List Verdict) → IsEndOf side verdicts (stream_end side verdicts)

-- the end of a beginning of a stream that goes on
abbrev pub IsGoingOn : EndCause → Type 0
IsGoingOn Unopened = ⊥
IsGoingOn Open = Unit {0}
IsGoingOn Gap = Unit {0}
IsGoingOn Disc = ⊥
IsGoingOn Dm = ⊥
IsGoingOn Block = ⊥
IsGoingOn Tpdu = ⊥
IsGoingOn Number = ⊥
IsGoingOn Long = ⊥
IsGoingOn Dr = ⊥

-- and whatever is so is told: a frame that meets a rule behind a beginning that goes on ends the list, for that cause, whatever comes behind it. It
-- refuses an audit that goes on behind a DC, what is heard and what the end tells changed together
abbrev pub RulesEnd : Type 0
RulesEnd =
    (side : Side) (before : List Verdict) (verdict : Verdict) (behind : List Verdict) (frame : ReadFrame) (cause : EndCause)
    → IsGoingOn (stream_end side before).why → read_frame verdict ≡ frame ∷ [] → EndsList side (blocks_in side before) frame cause
    → stream_end side (before ++ verdict ∷ behind)
    ≡ record { heard = length (blocks_in side (before ++ verdict ∷ [])); left = frames_among behind; why = cause }

-- the items that the line of an end counts are those that have a line each. It refuses an audit that counts a DR's text as no item
abbrev pub ItemsAreCounted : Type 0
ItemsAreCounted =
    (finds : Finds) (n : ℕ) (o : TapOpening) (lines : List TapLine) (side : Side)
    → length (judged_at finds n o lines side) ≡ length (items (heard side (stream_of n side lines)))
