-- A stream is heard frame by frame.
use Rattle.std.proofs.Common.{◌≡◌, ℕ, ◌+◌, Bool, true, false, List, [], ◌∷◌, ◌++◌, length, Some, None, Result, Ok, Err, refl}
use Rattle.std.specs.Prelude.{◌%◌, ◌==◌, nat_lt, not, if◌then◌else◌}
use Rattle.er_base.specs.declared.side.Side.{Side}
use Rattle.hdlc_frames.specs.Framing.{frames_of}
use Rattle.t70_header.specs.Joining as joining
use Rattle.x224_tpdu.specs.declared.fault.TpFault.{TpFault}
use Rattle.x224_tpdu.specs.Spelling.{TransportPdu, connection_request, connection_confirm, disconnect_request, disconnect_confirm, data_tpdu, acknowledgement, tpdu_error}
use Rattle.x224_tpdu.specs.Function.{reading}
use Rattle.sapdu.specs.Messages.{most_octets}
use Rattle.tap_model.specs.Hearing.{ReadFrame, frames_read, is_link_opening, behind_opening, ends, before_end, is_next, in_sequence, pdu_before, tpdu_before, tpdus_from, pdus_in, Hearing, silence, with_text, texts_from, heard_of, payloads, heard}
use Rattle.tap_model.specs.Ears.{Ear, new_ear, hears_of, hearing_of_frames, GoesOn, Says, Ends, turn_at_pdu, turn_at_block, turn_at_piece, turn_of_tap_frame, behind_turn, HearingTurns}

module _ (side : Side) (fs : List ReadFrame) where
  abbrev later : Ear → Hearing
  later next = hearing_of_frames side next fs

  -- the pieces that count behind so many
  abbrev pieces : ℕ → List (List ℕ)
  pieces n = in_sequence side n (before_end side fs)

  module _ (n : ℕ) (held : List ℕ) (dts : ℕ) (begun : List ℕ) where
    abbrev ear : Ear
    ear = record { opened = true; count = n; held = held; dts = dts; begun = begun }

    -- a DT, by its tests
    data_turns : (user : List ℕ) (a b last : Bool)
        → (if not a then silence
        else if b then silence
        else if last then with_text (begun ++ user) (texts_from (dts + 1) [] (pdus_in (tpdus_from held (pieces n))))
        else texts_from (dts + 1) (begun ++ user) (pdus_in (tpdus_from held (pieces n))))
        ≡ behind_turn (
        if not a then Ends
        else if b then Ends
        else if last then Says (begun ++ user) (record ear { dts = dts + 1; begun = [] })
        else GoesOn (record ear { dts = dts + 1; begun = begun ++ user })) later
    unfolding hearing_of_frames
    data_turns user false b last = refl
    data_turns user true true last = refl
    data_turns user true false true = refl
    data_turns user true false false = refl

    pdu_turns : (read : Result TransportPdu TpFault) → texts_from dts begun (pdu_before read (pdus_in (tpdus_from held (pieces n)))) ≡ behind_turn (turn_at_pdu ear read) later
    unfolding hearing_of_frames texts_from
    pdu_turns (Ok (connection_request credit dst src size user)) = refl
    pdu_turns (Ok (connection_confirm credit dst src size user)) = refl
    pdu_turns (Ok (disconnect_request dst src reason user)) = refl
    pdu_turns (Ok (disconnect_confirm dst src)) = refl
    pdu_turns (Ok (data_tpdu dst last number user)) = data_turns user (number == dts % 128) (nat_lt most_octets (length (begun ++ user))) last
    pdu_turns (Ok (acknowledgement credit dst number)) = refl
    pdu_turns (Ok (tpdu_error dst cause)) = refl
    pdu_turns (Err fault) = refl

    block_turns : (answer : joining.BlockJoiningResult) → texts_from dts begun (pdus_in (tpdu_before answer (tpdus_from held (pieces n)))) ≡ behind_turn (turn_at_block ear answer) later
    unfolding hearing_of_frames texts_from pdus_in
    block_turns (Ok None) = refl
    block_turns (Ok (Some tpdu)) = pdu_turns (reading tpdu)
    block_turns (Err fault) = refl

  piece_turns : (n : ℕ) (held : List ℕ) (dts : ℕ) (begun : List ℕ) (piece : List ℕ)
      → hears_of (ear n held dts begun) (piece ∷ pieces (n + 1)) ≡ behind_turn (turn_at_piece (ear n held dts begun) piece) later
  unfolding tpdus_from
  piece_turns n held dts begun piece =
      let joined = joining.block_step held piece in block_turns (n + 1) joined.0 dts begun joined.1

  module _ (f : ReadFrame) (n : ℕ) (held : List ℕ) (dts : ℕ) (begun : List ℕ) where
    abbrev here : Ear
    here = ear n held dts begun

    -- whether it ends the link, and whether it counts
    open_turns : (e b : Bool) → ends side f ≡ e → is_next side n f ≡ b → hearing_of_frames side here (f ∷ fs) ≡ behind_turn (turn_of_tap_frame side here f) later
    unfolding hearing_of_frames turn_of_tap_frame before_end in_sequence tpdus_from pdus_in texts_from
    open_turns true b is next = rw is refl
    open_turns false true is next = rw (is, next) (piece_turns n held dts begun f.information)
    open_turns false false is next = rw (is, next) refl

    closed_turns : (o : Bool) → is_link_opening side f ≡ o → hearing_of_frames side (record here { opened = false }) (f ∷ fs) ≡ behind_turn (turn_of_tap_frame side (record here { opened = false }) f) later
    unfolding hearing_of_frames turn_of_tap_frame behind_opening heard_of
    closed_turns true is = rw is refl
    closed_turns false is = rw is refl

    turns : (opened : Bool) → hearing_of_frames side (record here { opened = opened }) (f ∷ fs) ≡ behind_turn (turn_of_tap_frame side (record here { opened = opened }) f) later
    turns true = open_turns (ends side f) (is_next side n f) refl refl
    turns false = closed_turns (is_link_opening side f) refl

rests : (side : Side) (n : ℕ) (held : List ℕ) (dts : ℕ) (begun : List ℕ) (opened : Bool)
    → hearing_of_frames side (record { opened = opened; count = n; held = held; dts = dts; begun = begun }) [] ≡ silence
unfolding hearing_of_frames behind_opening before_end in_sequence heard_of tpdus_from pdus_in texts_from
rests side n held dts begun true = refl
rests side n held dts begun false = refl

begins : (side : Side) (stream : List ℕ) → hearing_of_frames side new_ear (frames_read (frames_of stream)) ≡ heard side stream
unfolding hearing_of_frames heard payloads
begins side stream = refl

pub hearing_turns : HearingTurns
hearing_turns = record {
  begins = begins;
  rests = λ side k. rests side k.count k.held k.dts k.begun k.opened;
  goes_on = λ side k f fs. turns side fs f k.count k.held k.dts k.begun k.opened;
}
