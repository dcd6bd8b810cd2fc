-- By the code's numbers, modulo 8 and 128, the same is heard.
use Rattle.std.proofs.Common.{arith, ◌≡◌, ℕ, ◌+◌, ◌<◌, ◌%◌, ◌==◌, Bool, true, false, not, if◌then◌else◌, List, [], ◌∷◌, ◌++◌, length, nat_lt, Option, Some, None, Result, Ok, Err, refl, sym, ap, ◌∙◌}
use Rattle.std.specs.Prelude.{◌&&◌}
use Rattle.std.proofs.Math.Nat.{mod-mod, mod-eq_of_lt}
use Rattle.er_base.specs.declared.side.Side.{Side}
use Rattle.er_base.specs.Sides.{other}
use Rattle.hdlc_frames.specs.declared.controls.Control.{Control}
use Rattle.hdlc_frames.specs.Framing.{Verdict, Frame}
use Rattle.hdlc_frames.specs.ControlOctets.{control_of}
use Rattle.t70_header.specs.Joining as joining
use Rattle.x224_tpdu.specs.declared.fault.TpFault.{TpFault}
use Rattle.x224_tpdu.specs.Spelling.{TransportPdu, connection_request, connection_confirm, disconnect_request, disconnect_confirm, data_tpdu, acknowledgement, tpdu_error}
use Rattle.x224_tpdu.specs.Function.{reading}
use Rattle.sapdu.specs.Messages.{most_octets}
use Rattle.tap_model.specs.declared.end_cause.EndCause.{EndCause}
use Rattle.tap_model.specs.declared.end_cause.EndCause.TheVariants.{Number, Long}
use Rattle.tap_model.specs.Hearing.{ReadFrame, read_as, frames_read, address_of_side, Sort, Carries, SetsUp, Agrees, Disconnects, Leaves, Passes, sort_of, is_link_opening, ends, has_number, is_next, in_sequence, before_end, pdus_in, tpdus_from, Hearing, silence, with_text, texts_from, items}
use Rattle.tap_model.specs.Ears.{Ear, open_ear, hears_if, hearing_of_frames, TapFrameTurn, GoesOn, Says, Parts, Ends, turn_at_pdu, turn_at_block, turn_at_piece, turn_if, turn_of_tap_frame, behind_turn, HearingTurns}
use Rattle.link_audit.specs.Turns.{Stops, Tells, Waits, text_turn, FrameTurn, PassesOver, Counts, CountsText, CountsLastText, CountsLast, EndsLink, turn_at_text, turn_at_joined, turn_at_information, link_end_cause, is_information, frame_turn_where, frame_turn}
use Rattle.link_audit.specs.Counts.{items_heard_of, items_at_turn}

-- numbers modulo 8 and 128
abbrev reduced : Ear → Ear
reduced k = record k { count = k.count % 8; dts = k.dts % 128 }

abbrev reduced_turn : TapFrameTurn → TapFrameTurn
reduced_turn (GoesOn next) = GoesOn (reduced next)
reduced_turn (Says text next) = Says text (reduced next)
reduced_turn (Parts text) = Parts text
reduced_turn Ends = Ends

-- ---- I frames

has_same : (m n : ℕ) (sort : Sort) → m % 8 ≡ n % 8 → has_number m sort ≡ has_number n sort
has_same m n (Carries ns) e = ap (λ k. k == ns) e
has_same m n SetsUp e = refl
has_same m n Agrees e = refl
has_same m n Disconnects e = refl
has_same m n Leaves e = refl
has_same m n Passes e = refl

sequence_if : (test : Bool) (a b c d : List (List ℕ)) → a ≡ b → c ≡ d → (if test then a else c) ≡ (if test then b else d)
sequence_if true a b c d p q = p
sequence_if false a b c d p q = q

sequence_same : (side : Side) (m n : ℕ) (fs : List ReadFrame) → m % 8 ≡ n % 8 → in_sequence side m fs ≡ in_sequence side n fs
unfolding in_sequence
sequence_same side m n [] e = refl
sequence_same side m n (f ∷ fs) e =
    let next : (m + 1) % 8 ≡ (n + 1) % 8 = omega (arith, e) in
    rw (has_same m n (sort_of f.control) e)
    (sequence_if (is_next side n f) (f.information ∷ in_sequence side (m + 1) fs) (f.information ∷ in_sequence side (n + 1) fs)
    (in_sequence side m fs) (in_sequence side n fs) (ap (λ (l : List (List ℕ)). f.information ∷ l) (sequence_same side (m + 1) (n + 1) fs next)) (sequence_same side m n fs e))

-- ---- DTs

texts_if : (other long last : Bool) (text : List ℕ) (a b c d : Hearing) → a ≡ b → c ≡ d
    → (if other then silence else if long then silence else if last then with_text text a else c)
    ≡ (if other then silence else if long then silence else if last then with_text text b else d)
texts_if true long last text a b c d p q = refl
texts_if false true last text a b c d p q = refl
texts_if false false true text a b c d p q = ap (with_text text) p
texts_if false false false text a b c d p q = q

texts_same : (m n : ℕ) (begun : List ℕ) (pdus : List TransportPdu) → m % 128 ≡ n % 128 → texts_from m begun pdus ≡ texts_from n begun pdus
unfolding texts_from
texts_same m n begun [] e = refl
texts_same m n begun (connection_request credit dst src size user ∷ pdus) e = ap (with_text user) (texts_same m n begun pdus e)
texts_same m n begun (connection_confirm credit dst src size user ∷ pdus) e = ap (with_text user) (texts_same m n begun pdus e)
texts_same m n begun (disconnect_request dst src reason user ∷ pdus) e = refl
texts_same m n begun (disconnect_confirm dst src ∷ pdus) e = refl
texts_same m n begun (data_tpdu dst last number user ∷ pdus) e =
    let next : (m + 1) % 128 ≡ (n + 1) % 128 = omega (arith, e) in
    rw e (texts_if (not (number == n % 128)) (nat_lt most_octets (length (begun ++ user))) last (begun ++ user)
    (texts_from (m + 1) [] pdus) (texts_from (n + 1) [] pdus) (texts_from (m + 1) (begun ++ user) pdus) (texts_from (n + 1) (begun ++ user) pdus)
    (texts_same (m + 1) (n + 1) [] pdus next) (texts_same (m + 1) (n + 1) (begun ++ user) pdus next))
texts_same m n begun (acknowledgement credit dst number ∷ pdus) e = texts_same m n begun pdus e
texts_same m n begun (tpdu_error dst cause ∷ pdus) e = refl

-- ---- an ear

if_reduced : (opened : Bool) (side : Side) (k : Ear) (fs : List ReadFrame) → hears_if opened side (reduced k) fs ≡ hears_if opened side k fs
if_reduced true side k fs =
    texts_same (k.dts % 128) k.dts k.begun (pdus_in (tpdus_from k.held (in_sequence side (k.count % 8) (before_end side fs)))) (mod-mod k.dts 128)
    ∙ ap (λ (l : List (List ℕ)). texts_from k.dts k.begun (pdus_in (tpdus_from k.held l))) (sequence_same side (k.count % 8) k.count (before_end side fs) (mod-mod k.count 8))
if_reduced false side k fs = refl

reduced_hears : (side : Side) (k : Ear) (fs : List ReadFrame) → hearing_of_frames side (reduced k) fs ≡ hearing_of_frames side k fs
unfolding hearing_of_frames
reduced_hears side k fs = if_reduced k.opened side k fs

reduced_behind : (side : Side) (t : TapFrameTurn) (fs : List ReadFrame) → behind_turn t (λ next. hearing_of_frames side next fs) ≡ behind_turn (reduced_turn t) (λ next. hearing_of_frames side next fs)
reduced_behind side (GoesOn next) fs = sym (reduced_hears side next fs)
reduced_behind side (Says text next) fs = ap (with_text text) (sym (reduced_hears side next fs))
reduced_behind side (Parts text) fs = refl
reduced_behind side Ends fs = refl

-- ---- what a frame comes to

abbrev tap_turn : FrameTurn → TapFrameTurn
tap_turn (PassesOver next gap) = GoesOn next
tap_turn (Counts next gap) = GoesOn next
tap_turn (CountsText text next gap) = Says text next
tap_turn (CountsLastText text) = Parts text
tap_turn (CountsLast why) = Ends
tap_turn (EndsLink why) = Ends

module _ (k : Ear) (few : k.count < 8) (low : k.dts < 128) where
  same : reduced k ≡ k
  same = rw (mod-eq_of_lt few, mod-eq_of_lt low) refl

  -- one more counts, with these octets held
  abbrev counting : List ℕ → Ear
  counting held = record k { count = k.count + 1; held = held }

  abbrev counted : List ℕ → Ear
  counted held = record k { count = (k.count + 1) % 8; held = held }

  counted_same : (held : List ℕ) → reduced (counting held) ≡ counted held
  counted_same held = ap (λ (dts : ℕ). record k { count = (k.count + 1) % 8; held = held; dts = dts }) (mod-eq_of_lt low)

  data_turns : (held : List ℕ) (number long last : Bool) (text : List ℕ)
      → reduced_turn (
      if not number then Ends
      else if long then Ends
      else if last then Says text (record (counting held) { dts = k.dts + 1; begun = [] })
      else GoesOn (record (counting held) { dts = k.dts + 1; begun = text }))
      ≡ tap_turn (turn_at_text (counted held) (
      if not number then Stops Number
      else if long then Stops Long
      else if last then Tells text ((k.dts + 1) % 128) []
      else Waits ((k.dts + 1) % 128) text))
  data_turns held false long last text = refl
  data_turns held true true last text = refl
  data_turns held true false true text = refl
  data_turns held true false false text = refl

  pdu_turns : (held : List ℕ) (read : Result TransportPdu TpFault)
      → reduced_turn (turn_at_pdu (counting held) read) ≡ tap_turn (turn_at_text (counted held) (text_turn k.dts k.begun read))
  pdu_turns held (Ok (connection_request credit dst src size user)) = ap (Says user) (counted_same held)
  pdu_turns held (Ok (connection_confirm credit dst src size user)) = ap (Says user) (counted_same held)
  pdu_turns held (Ok (disconnect_request dst src reason user)) = refl
  pdu_turns held (Ok (disconnect_confirm dst src)) = refl
  pdu_turns held (Ok (data_tpdu dst last number user)) =
      ap (λ (m : ℕ). reduced_turn (
      if not (number == m) then Ends
      else if nat_lt most_octets (length (k.begun ++ user)) then Ends
      else if last then Says (k.begun ++ user) (record (counting held) { dts = k.dts + 1; begun = [] })
      else GoesOn (record (counting held) { dts = k.dts + 1; begun = k.begun ++ user }))) (mod-eq_of_lt low)
      ∙ data_turns held (number == k.dts) (nat_lt most_octets (length (k.begun ++ user))) last (k.begun ++ user)
  pdu_turns held (Ok (acknowledgement credit dst number)) = ap GoesOn (counted_same held)
  pdu_turns held (Ok (tpdu_error dst cause)) = refl
  pdu_turns held (Err fault) = refl

  block_turns : (held : List ℕ) (answer : joining.BlockJoiningResult) → reduced_turn (turn_at_block (counting held) answer) ≡ tap_turn (turn_at_joined (counted held) answer)
  block_turns held (Ok None) = ap GoesOn (counted_same held)
  block_turns held (Ok (Some tpdu)) = pdu_turns held (reading tpdu)
  block_turns held (Err fault) = refl

  -- by the tests on a frame: behind the opening
  open_turns : (over to number carries gap : Bool) (cause : EndCause) (information : List ℕ)
      → reduced_turn (if over then Ends else if to && number then turn_at_piece k information else GoesOn k)
      ≡ tap_turn (
      if over then EndsLink cause
      else if not to then PassesOver k gap
      else if number then turn_at_information k information
      else PassesOver k (if carries then true else gap))
  open_turns true to number carries gap cause information = refl
  open_turns false false number carries gap cause information = ap GoesOn same
  open_turns false true false carries gap cause information = ap GoesOn same
  open_turns false true true carries gap cause information =
      block_turns (joining.block_step k.held information).0 (joining.block_step k.held information).1

  -- and before it
  shut_turns : (opens gap : Bool) → reduced_turn (if opens then GoesOn open_ear else GoesOn k) ≡ tap_turn (if opens then PassesOver open_ear false else PassesOver k gap)
  shut_turns true gap = refl
  shut_turns false gap = ap GoesOn same

  by_opened : (opened : Bool) (side : Side) (gap : Bool) (f : ReadFrame) → reduced_turn (turn_if opened side k f) ≡ tap_turn (frame_turn_where opened side k gap f)
  by_opened true side gap f =
      open_turns (ends side f) (f.address == address_of_side (other side)) (has_number k.count (sort_of f.control)) (is_information (sort_of f.control)) gap
      (link_end_cause (sort_of f.control)) f.information
  by_opened false side gap f = shut_turns (is_link_opening side f) gap

  frame_turns : (side : Side) (gap : Bool) (f : ReadFrame) → reduced_turn (turn_of_tap_frame side k f) ≡ tap_turn (frame_turn side k gap f)
  unfolding turn_of_tap_frame frame_turn
  frame_turns side gap f = by_opened k.opened side gap f

-- ---- what is heard of it

turn_heard : (side : Side) (turn : FrameTurn) (verdicts : List Verdict)
    → items (behind_turn (tap_turn turn) (λ next. hearing_of_frames side next (frames_read verdicts))) ≡ items_at_turn side turn verdicts
turn_heard side (PassesOver next gap) verdicts = refl
turn_heard side (Counts next gap) verdicts = refl
turn_heard side (CountsText text next gap) verdicts = refl
turn_heard side (CountsLastText text) verdicts = refl
turn_heard side (CountsLast why) verdicts = refl
turn_heard side (EndsLink why) verdicts = refl

module _ (turns : HearingTurns) (side : Side) (k : Ear) (address : ℕ) (body : List ℕ) (verdicts : List Verdict) where
  -- of a frame whose control can't be read
  pub unread_heard : control_of 8 body ≡ None → items_heard_of side k (Frame address body ∷ verdicts) ≡ items_heard_of side k verdicts
  unfolding frames_read
  unread_heard none = ap (λ (read : Option (Control × List ℕ)). items (hearing_of_frames side k (read_as address read ++ frames_read verdicts))) none

  -- of one that was read
  pub read_heard : (gap : Bool) (control : Control) (information : List ℕ) → k.count < 8 → k.dts < 128 → control_of 8 body ≡ Some (control, information)
      → items_heard_of side k (Frame address body ∷ verdicts)
      ≡ items_at_turn side (frame_turn side k gap (record { address = address; control = control; information = information })) verdicts
  unfolding frames_read
  read_heard gap control information few low is =
      let f : ReadFrame = record { address = address; control = control; information = information } in
      ap (λ (read : Option (Control × List ℕ)). items (hearing_of_frames side k (read_as address read ++ frames_read verdicts))) is
      ∙ ap items (turns.goes_on side k f (frames_read verdicts) ∙ reduced_behind side (turn_of_tap_frame side k f) (frames_read verdicts))
      ∙ ap (λ (turn : TapFrameTurn). items (behind_turn turn (λ next. hearing_of_frames side next (frames_read verdicts)))) (frame_turns k few low side gap f)
      ∙ turn_heard side (frame_turn side k gap f) verdicts
