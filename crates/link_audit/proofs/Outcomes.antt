-- How a stream ends, by what the code makes of a frame.
use Rattle.std.proofs.Common.{◌≡◌, ℕ, ◌+◌, ◌%◌, ◌==◌, Bool, true, false, not, if◌then◌else◌, List, [], ◌∷◌, ◌++◌, length, nat_lt, Option, Some, None, Result, Ok, Err, refl, sym, ap, ◌∙◌}
use Rattle.std.specs.Prelude.{◌&&◌, ◌||◌}
use Rattle.std.proofs.lemmas.List.{length-append}
use Rattle.er_base.specs.declared.side.Side.{Side}
use Rattle.er_base.specs.Sides.{other}
use Rattle.hdlc_frames.specs.declared.controls.Control.{Control}
use Rattle.hdlc_frames.specs.Framing.{Verdict, Frame}
use Rattle.hdlc_frames.specs.ControlOctets.{control_of}
use Rattle.t70_header.specs.Joining as joining
use Rattle.x224_tpdu.specs.declared.fault.TpFault.{TpFault}
use Rattle.x224_tpdu.specs.Spelling.{TransportPdu, connection_request, connection_confirm, disconnect_request, disconnect_confirm, data_tpdu, acknowledgement, tpdu_error}
use Rattle.x224_tpdu.specs.Function.{reading}
use Rattle.sapdu.specs.Messages.{most_octets}
use Rattle.tap_model.specs.declared.end_cause.EndCause.{EndCause}
use Rattle.tap_model.specs.declared.end_cause.EndCause.TheVariants.{Disc, Dm, Number, Long, Dr}
use Rattle.tap_model.specs.Hearing.{ReadFrame, read_as, address_of_side, Sort, Carries, SetsUp, Agrees, Disconnects, Leaves, Passes, sort_of, is_link_opening, ends, is_end, has_number}
use Rattle.tap_model.specs.Ears.{Ear, open_ear}
use Rattle.tap_model.specs.Ends.{ReceiverState, receiver_at_opening, FrameOutcome, PassedOver, Counted, CountedLast, LinkEnded, frames_among, outcome_at_pdu, outcome_at_block, outcome_at_piece, outcome_at_sort, outcome_of_verdict, behind_outcome, end_from, opens_link_of, stream_end}
use Rattle.link_audit.specs.Turns.{TextTurn, Waits, Tells, Closes, Stops, text_turn, FrameTurn, PassesOver, Counts, CountsText, CountsLastText, CountsLast, EndsLink, turn_at_text, turn_at_joined, turn_at_information, link_end_cause, is_information, frame_turn_where, frame_turn}
use Rattle.link_audit.specs.Counts.{receiver_state_of, end_where, end_at_turn}

-- ---- what a frame comes to

abbrev outcome_of_turn : FrameTurn → FrameOutcome
outcome_of_turn (PassesOver next gap) = PassedOver (receiver_state_of next gap)
outcome_of_turn (Counts next gap) = Counted (receiver_state_of next gap)
outcome_of_turn (CountsText text next gap) = Counted (receiver_state_of next gap)
outcome_of_turn (CountsLastText text) = CountedLast Dr
outcome_of_turn (CountsLast why) = CountedLast why
outcome_of_turn (EndsLink why) = LinkEnded why

or_true : (b : Bool) → (b || true) ≡ true
or_true true = refl
or_true false = refl

or_false : (b : Bool) → (b || false) ≡ b
or_false true = refl
or_false false = refl

module _ (k : Ear) where
  -- one more counts, with these octets held, and so of the state of a receiver
  abbrev counted : List ℕ → Ear
  counted held = record k { count = (k.count + 1) % 8; held = held }

  abbrev state : (held : List ℕ) → (number begun : ℕ) → ReceiverState
  state held number begun = record { vr = (k.count + 1) % 8; held = held; number = number; begun = begun; gap = false }

  data_outcome : (held : List ℕ) (number long last : Bool) (n : ℕ) (text : List ℕ) → length text ≡ n
      → (if not number then CountedLast Number
      else if long then CountedLast Long
      else Counted (state held ((k.dts + 1) % 128) (if last then 0 else n)))
      ≡ outcome_of_turn (turn_at_text (counted held) (
      if not number then Stops Number
      else if long then Stops Long
      else if last then Tells text ((k.dts + 1) % 128) []
      else Waits ((k.dts + 1) % 128) text))
  data_outcome held false long last n text is = refl
  data_outcome held true true last n text is = refl
  data_outcome held true false true n text is = refl
  data_outcome held true false false n text is = ap (λ (begun : ℕ). Counted (state held ((k.dts + 1) % 128) begun)) (sym is)

  pdu_outcome : (held : List ℕ) (read : Result TransportPdu TpFault)
      → outcome_at_pdu (state held k.dts (length k.begun)) read ≡ outcome_of_turn (turn_at_text (counted held) (text_turn k.dts k.begun read))
  pdu_outcome held (Ok (connection_request credit dst src size user)) = refl
  pdu_outcome held (Ok (connection_confirm credit dst src size user)) = refl
  pdu_outcome held (Ok (disconnect_request dst src reason user)) = refl
  pdu_outcome held (Ok (disconnect_confirm dst src)) = refl
  pdu_outcome held (Ok (data_tpdu dst last number user)) =
      let long : length (k.begun ++ user) ≡ length k.begun + length user = length-append k.begun user in
      data_outcome held (number == k.dts) (nat_lt most_octets (length k.begun + length user)) last (length k.begun + length user) (k.begun ++ user) long
      ∙ ap (λ (n : ℕ). outcome_of_turn (turn_at_text (counted held) (
      if not (number == k.dts) then Stops Number
      else if nat_lt most_octets n then Stops Long
      else if last then Tells (k.begun ++ user) ((k.dts + 1) % 128) []
      else Waits ((k.dts + 1) % 128) (k.begun ++ user)))) (sym long)
  pdu_outcome held (Ok (acknowledgement credit dst number)) = refl
  pdu_outcome held (Ok (tpdu_error dst cause)) = refl
  pdu_outcome held (Err fault) = refl

  block_outcome : (held : List ℕ) (answer : joining.BlockJoiningResult)
      → outcome_at_block (state held k.dts (length k.begun)) answer ≡ outcome_of_turn (turn_at_joined (counted held) answer)
  block_outcome held (Ok None) = refl
  block_outcome held (Ok (Some tpdu)) = pdu_outcome held (reading tpdu)
  block_outcome held (Err fault) = refl

  module _ (gap : Bool) (f : ReadFrame) where
    abbrev r : ReceiverState
    r = receiver_state_of k gap

    -- an I frame, by its tests
    information_outcome : (to number : Bool)
        → (if to && number then outcome_at_piece r f.information else PassedOver (record r { gap = gap || to }))
        ≡ outcome_of_turn (if not to then PassesOver k gap else if number then turn_at_information k f.information else PassesOver k true)
    information_outcome false number = ap (λ (g : Bool). PassedOver (record r { gap = g })) (or_false gap)
    information_outcome true false = ap (λ (g : Bool). PassedOver (record r { gap = g })) (or_true gap)
    information_outcome true true = block_outcome (joining.block_step k.held f.information).0 (joining.block_step k.held f.information).1

    -- a frame that ends the link, or doesn't
    ending_outcome : (over to : Bool) (cause : EndCause)
        → (if over then LinkEnded cause else PassedOver r) ≡ outcome_of_turn (if over then EndsLink cause else if not to then PassesOver k gap else PassesOver k gap)
    ending_outcome true to cause = refl
    ending_outcome false true cause = refl
    ending_outcome false false cause = refl

    -- one of another sort
    other_outcome : (to : Bool) → PassedOver r ≡ outcome_of_turn (if not to then PassesOver k gap else PassesOver k gap)
    other_outcome true = refl
    other_outcome false = refl

    by_sort : (side : Side) (sort : Sort) → sort_of f.control ≡ sort
        → outcome_at_sort side r f sort
        ≡ outcome_of_turn (
        if is_end side sort f.address then EndsLink (link_end_cause sort)
        else if not (f.address == address_of_side (other side)) then PassesOver k gap
        else if has_number k.count sort then turn_at_information k f.information
        else PassesOver k (if is_information sort then true else gap))
    by_sort side (Carries ns) is =
        rw is (information_outcome (f.address == address_of_side (other side)) (k.count % 8 == ns))
    by_sort side SetsUp is = other_outcome (f.address == address_of_side (other side))
    by_sort side Agrees is = other_outcome (f.address == address_of_side (other side))
    by_sort side Disconnects is = ending_outcome (f.address == address_of_side (other side)) (f.address == address_of_side (other side)) Disc
    by_sort side Leaves is = ending_outcome (f.address == address_of_side side) (f.address == address_of_side (other side)) Dm
    by_sort side Passes is = other_outcome (f.address == address_of_side (other side))

    frame_outcome : (side : Side) → outcome_at_sort side r f (sort_of f.control) ≡ outcome_of_turn (frame_turn_where true side k gap f)
    frame_outcome side = by_sort side (sort_of f.control) refl

-- ---- behind the opening all stay open

abbrev StaysOpen : FrameTurn → Type 0
StaysOpen (PassesOver next gap) = next.opened ≡ true
StaysOpen (Counts next gap) = next.opened ≡ true
StaysOpen (CountsText text next gap) = next.opened ≡ true
StaysOpen (CountsLastText text) = Unit {0}
StaysOpen (CountsLast why) = Unit {0}
StaysOpen (EndsLink why) = Unit {0}

module _ (k : Ear) (opened : k.opened ≡ true) where
  text_open : (held : List ℕ) (turn : TextTurn) → StaysOpen (turn_at_text (counted k held) turn)
  text_open held (Waits dts begun) = opened
  text_open held (Tells text dts begun) = opened
  text_open held (Closes text) = tt
  text_open held (Stops why) = tt

  joined_open : (held : List ℕ) (answer : joining.BlockJoiningResult) → StaysOpen (turn_at_joined (counted k held) answer)
  joined_open held (Ok None) = opened
  joined_open held (Ok (Some tpdu)) = text_open held (text_turn k.dts k.begun (reading tpdu))
  joined_open held (Err fault) = tt

  tests_open : (over to number gap next : Bool) (cause : EndCause) (information : List ℕ)
      → StaysOpen (
      if over then EndsLink cause
      else if not to then PassesOver k gap
      else if number then turn_at_information k information
      else PassesOver k next)
  tests_open true to number gap next cause information = tt
  tests_open false false number gap next cause information = opened
  tests_open false true false gap next cause information = opened
  tests_open false true true gap next cause information = joined_open (joining.block_step k.held information).0 (joining.block_step k.held information).1

  frame_open : (side : Side) (gap : Bool) (f : ReadFrame) → StaysOpen (frame_turn_where true side k gap f)
  frame_open side gap f =
      tests_open (ends side f) (f.address == address_of_side (other side)) (has_number k.count (sort_of f.control)) gap (if is_information (sort_of f.control) then true else gap)
      (link_end_cause (sort_of f.control)) f.information

-- ---- the end of the stream

ends_so : (side : Side) (turn : FrameTurn) (verdicts : List Verdict) → StaysOpen turn
    → behind_outcome (outcome_of_turn turn) (frames_among verdicts) (λ next. end_from side next verdicts) ≡ end_at_turn side turn verdicts
ends_so side (PassesOver next gap) verdicts open_still = rw open_still refl
ends_so side (Counts next gap) verdicts open_still = rw open_still refl
ends_so side (CountsText text next gap) verdicts open_still = rw open_still refl
ends_so side (CountsLastText text) verdicts open_still = refl
ends_so side (CountsLast why) verdicts open_still = refl
ends_so side (EndsLink why) verdicts open_still = refl

module _ (side : Side) (k : Ear) (gap : Bool) (address : ℕ) (body : List ℕ) (verdicts : List Verdict) where
  -- at a frame whose control can't be read
  pub unread_end : (opened : Bool) (r : ReceiverState) → control_of 8 body ≡ None → end_where opened side r (Frame address body ∷ verdicts) ≡ end_where opened side r verdicts
  unfolding end_from stream_end
  unread_end true r none = rw none refl
  unread_end false r none = rw none refl

  module _ (control : Control) (information : List ℕ) (is : control_of 8 body ≡ Some (control, information)) where
    abbrev f : ReadFrame
    f = record { address = address; control = control; information = information }

    -- at one that was read, behind the opening
    open_end : k.opened ≡ true → end_from side (receiver_state_of k gap) (Frame address body ∷ verdicts) ≡ end_at_turn side (frame_turn_where true side k gap f) verdicts
    unfolding end_from
    open_end opened =
        ap (λ (read : Option (Control × List ℕ)). behind_outcome (outcome_of_verdict side (receiver_state_of k gap) (read_as address read)) (frames_among verdicts)
        (λ next. end_from side next verdicts)) is
        ∙ ap (λ (o : FrameOutcome). behind_outcome o (frames_among verdicts) (λ next. end_from side next verdicts)) (frame_outcome k gap f side)
        ∙ ends_so side (frame_turn_where true side k gap f) verdicts (frame_open k opened side gap f)

    -- and before it
    opens_end : (opens : Bool) → k.opened ≡ false
        → (if opens then end_from side receiver_at_opening verdicts else stream_end side verdicts)
        ≡ end_at_turn side (if opens then PassesOver open_ear false else PassesOver k gap) verdicts
    opens_end true shut = refl
    opens_end false shut = rw shut refl

    shut_end : k.opened ≡ false → stream_end side (Frame address body ∷ verdicts) ≡ end_at_turn side (frame_turn_where false side k gap f) verdicts
    unfolding stream_end
    shut_end shut =
        ap (λ (read : Option (Control × List ℕ)). if opens_link_of side (read_as address read) then end_from side receiver_at_opening verdicts else stream_end side verdicts) is
        ∙ opens_end (is_link_opening side f) shut

    by_opened : (opened : Bool) → k.opened ≡ opened
        → end_where opened side (receiver_state_of k gap) (Frame address body ∷ verdicts) ≡ end_at_turn side (frame_turn_where opened side k gap f) verdicts
    by_opened true is_opened = open_end is_opened
    by_opened false is_shut = shut_end is_shut

    pub read_end : end_where k.opened side (receiver_state_of k gap) (Frame address body ∷ verdicts) ≡ end_at_turn side (frame_turn side k gap f) verdicts
    unfolding frame_turn
    read_end = by_opened k.opened refl
