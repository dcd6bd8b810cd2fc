-- Known answers, worked out by hand: what is heard of frames, verdicts, lines in their order, and the text of a short audit.
use Rattle.std.specs.Prelude.{◌≡◌, ℕ, ◌+◌, true, false, List, [], ◌∷◌, ◌++◌, Some, None, Ok, Err, codes, refl}
use Rattle.std.specs.Fmt.{digits}
use Rattle.bit_lists.specs.LowestFirst.{low_bits, low_number}
use Rattle.er_base.specs.declared.side.Side.{Side}
use Rattle.er_base.specs.declared.side.Side.TheVariants.{E, R}
use Rattle.er_base.specs.Octets.{eight, number_in}
use Rattle.er_base.specs.LineTexts.{line_text, line_end}
use Rattle.er_tap.specs.declared.tap_line.TapLine.{TapLine}
use Rattle.er_tap.specs.declared.tap_step.TapStep.{TapStep}
use Rattle.er_tap.specs.declared.tap_step.TapStep.TheVariants.{Link, Octets}
use Rattle.hdlc_fcs.specs.FrameCheck.{fcs_of, fcs_bits, dividend, remainder, divided_once, add_front, sent_bits}
use Rattle.hdlc_fcs.specs.Contents.{content_of, checked_part, check_number}
use Rattle.hdlc_frames.specs.Framing.{Verdict, Frame, unescaped, ends_in_escape, verdict_on_content, cut, all_but_last, between_flags, frames_of}
use Rattle.hdlc_frames.specs.Framing as framing
use Rattle.hdlc_frames.specs.Spelling.{escaped_octet, escaped, spelling}
use Rattle.hdlc_frames.specs.ControlOctets.{control_of}
use Rattle.x224_tpdu.specs.Parameters.{parameters_in}
use Rattle.x224_tpdu.specs.Function.{reading}
use Rattle.sapdu.specs.declared.fault.SaFault.TheVariants.{Short}
use Rattle.sapdu.specs.Spelling.{Au1, Au2, Au3, Ar, Dt, Di}
use Rattle.er_settings.specs.Making.{usual_settings}
use Rattle.er_end_model.specs.Steps.{Finds, hand_waiting_tpdus}
use Rattle.er_end_model.specs.Ends.{Opening, Call, Answer, Start, Come, Moment, opened}
use Rattle.tap_model.specs.declared.audit_verdict.AuditVerdict.{AuditVerdict}
use Rattle.tap_model.specs.declared.audit_verdict.AuditVerdict.TheVariants.{Good, Malformed, Flag, Unexpected, Feature, Identity, NoKey}
use Rattle.tap_model.specs.Hearing.{frames_read, behind_opening, before_end, in_sequence, payloads, tpdus_from, pdus_in, Hearing, silence, texts_from, heard_of}
use Rattle.tap_model.specs.Hearing.{heard}
use Rattle.tap_model.specs.Given.{received}
use Rattle.tap_model.specs.Verdicts.{Known, Read, ra_in, first_number, audit_verdict_on_item, judged_from}
use Rattle.tap_model.specs.Lines.{NoLinkAt, TwiceAt, has, fault_from, fault_of_tap_lines, tap_opening_of_link, stream_of}
use Rattle.tap_model.specs.Texts.{side_text, links_text, audit_text}

-- ---- frames

-- SABM, UA, and DISC to either end
abbrev sabm : Verdict
sabm = Frame 0x01 (0x3f ∷ [])

abbrev ua : Verdict
ua = Frame 0x01 (0x73 ∷ [])

abbrev disc_to : ℕ → Verdict
disc_to address = Frame address (0x53 ∷ [])

-- an AU1 of engine 5, in a CR in one block; an I frame to the radio block centre with it, N(S) as said
abbrev au1 : List ℕ
au1 = 0x42 ∷ 0x00 ∷ 0x00 ∷ 0x05 ∷ 0x01 ∷ 0x01 ∷ 0x02 ∷ 0x03 ∷ 0x04 ∷ 0x05 ∷ 0x06 ∷ 0x07 ∷ 0x08 ∷ []

abbrev cr_block : List ℕ
cr_block = 0x01 ∷ 0x00 ∷ 0x09 ∷ 0xef ∷ 0x00 ∷ 0x00 ∷ 0x00 ∷ 0x01 ∷ 0x20 ∷ 0xc0 ∷ 0x01 ∷ 0x07 ∷ au1

abbrev cr_i : (control : ℕ) → Verdict
cr_i control = Frame 0x01 (control ∷ cr_block)

-- a DT that ends a message of one octet, its number as said
abbrev dt_i : (control number octet : ℕ) → Verdict
dt_i control number octet = Frame 0x01 (control ∷ 0x01 ∷ 0x00 ∷ 0x04 ∷ 0xf0 ∷ 0x00 ∷ 0x01 ∷ (0x80 + number) ∷ octet ∷ [])

-- what is heard of frames of a side
abbrev hears : Side → List Verdict → Hearing
hears side frames = heard_of (in_sequence side 0 (before_end side (behind_opening side (frames_read frames))))

abbrev one_text : Hearing
one_text = record { texts = au1 ∷ []; parting = None }

-- the CR's AU1 is heard behind SABM; nothing is without it; an I frame that is repeated counts once
pub hears_once : (hears E (sabm ∷ cr_i 0x00 ∷ []) ≡ one_text) × (hears E (cr_i 0x00 ∷ []) ≡ silence)
    × (hears E (sabm ∷ cr_i 0x00 ∷ cr_i 0x00 ∷ sabm ∷ []) ≡ one_text)
unfolding heard_of in_sequence before_end behind_opening frames_read control_of tpdus_from pdus_in reading parameters_in texts_from
hears_once = (refl, refl, refl)

-- DISC to the receiver ends the list, with the sender's address it ends nothing
pub hearing_ended_by_disconnect : (hears E (sabm ∷ disc_to 0x01 ∷ cr_i 0x00 ∷ []) ≡ silence) × (hears E (sabm ∷ disc_to 0x03 ∷ cr_i 0x00 ∷ []) ≡ one_text)
unfolding heard_of in_sequence before_end behind_opening frames_read control_of tpdus_from pdus_in reading parameters_in texts_from
hearing_ended_by_disconnect = (refl, refl)

-- the second I frame, N(S) 1, has DT number 0; with DT number 1 it ends the list
pub in_number : (hears E (sabm ∷ cr_i 0x00 ∷ dt_i 0x02 0 0x61 ∷ []) ≡ record { texts = au1 ∷ (0x61 ∷ []) ∷ []; parting = None })
    × (hears E (sabm ∷ cr_i 0x00 ∷ dt_i 0x02 1 0x61 ∷ cr_i 0x04 ∷ []) ≡ one_text)
unfolding heard_of in_sequence before_end behind_opening frames_read control_of tpdus_from pdus_in reading parameters_in texts_from
in_number = (refl, refl)

-- of the other side UA opens the link, and I frames have the engine's address
pub other_side : (hears R (ua ∷ Frame 0x03 (0x00 ∷ cr_block) ∷ []) ≡ one_text) × (hears R (ua ∷ cr_i 0x00 ∷ []) ≡ silence)
    × (hears R (sabm ∷ Frame 0x03 (0x00 ∷ cr_block) ∷ []) ≡ silence)
unfolding heard_of in_sequence before_end behind_opening frames_read control_of tpdus_from pdus_in reading parameters_in texts_from
other_side = (refl, refl, refl)

-- ---- verdicts

-- of the link of engine 5 and radio block centre 9, without a session
abbrev known : Known
known = record { engine = 5; rbc = 9; session = None }

abbrev at_e : (place : ℕ) → Read → AuditVerdict
at_e place read = audit_verdict_on_item known E place read

pub of_au1 : (at_e 0 (Ok (Au1 5 1 7, false)) ≡ Good) × (at_e 0 (Ok (Au1 6 1 7, false)) ≡ Identity) × (at_e 0 (Ok (Au1 6 2 7, false)) ≡ Feature)
    × (at_e 1 (Ok (Au1 6 2 7, false)) ≡ Unexpected) × (at_e 1 (Ok (Au1 6 2 7, true)) ≡ Flag) × (at_e 0 (Err (Short 1 0)) ≡ Malformed)
unfolding audit_verdict_on_item
of_au1 = (refl, refl, refl, refl, refl, refl)

pub of_others : (at_e 1 (Ok (Au3 7, false)) ≡ NoKey) × (at_e 2 (Ok (Au3 7, false)) ≡ Unexpected) × (at_e 1 (Ok (Dt (0x61 ∷ []) 7, false)) ≡ Unexpected)
    × (at_e 9 (Ok (Dt (0x61 ∷ []) 7, false)) ≡ NoKey) × (at_e 3 (Ok (Di 0 7, false)) ≡ Good)
unfolding audit_verdict_on_item
of_others = (refl, refl, refl, refl, refl)

pub at_r : (audit_verdict_on_item known R 0 (Ok (Au2 9 1 7 8, true)) ≡ NoKey) × (audit_verdict_on_item known R 0 (Ok (Au2 5 1 7 8, true)) ≡ Identity)
    × (audit_verdict_on_item known R 1 (Ok (Ar 8, false)) ≡ Flag) × (audit_verdict_on_item known R 0 (Ok (Ar 8, true)) ≡ Unexpected)
unfolding audit_verdict_on_item
at_r = (refl, refl, refl, refl)

-- ---- a CC without user data says an empty text, so an AU2 in a DT behind it isn't the first

abbrev bare_cc_block : List ℕ
bare_cc_block = 0x01 ∷ 0x00 ∷ 0x09 ∷ 0xdf ∷ 0x00 ∷ 0x01 ∷ 0x00 ∷ 0x01 ∷ 0x20 ∷ 0xc0 ∷ 0x01 ∷ 0x07 ∷ []

-- an AU2 of radio block centre 9; a DT with number 0 that ends a message, in one block
abbrev au2 : List ℕ
au2 =
    0x25 ∷ 0x00 ∷ 0x00 ∷ 0x09 ∷ 0x01 ∷ 0x11 ∷ 0x22 ∷ 0x33 ∷ 0x44 ∷ 0x55 ∷ 0x66 ∷ 0x77 ∷ 0x88
    ∷ 0x01 ∷ 0x02 ∷ 0x03 ∷ 0x04 ∷ 0x05 ∷ 0x06 ∷ 0x07 ∷ 0x08 ∷ []

abbrev dt_block : List ℕ → List ℕ
dt_block user = 0x01 ∷ 0x00 ∷ 0x04 ∷ 0xf0 ∷ 0x00 ∷ 0x01 ∷ 0x80 ∷ user

pub says_nothing_first :
    hears R (ua ∷ Frame 0x03 (0x00 ∷ bare_cc_block) ∷ Frame 0x03 (0x02 ∷ dt_block au2) ∷ []) ≡ record { texts = [] ∷ au2 ∷ []; parting = None }
unfolding heard_of in_sequence before_end behind_opening frames_read control_of tpdus_from pdus_in reading parameters_in texts_from
says_nothing_first = refl

pub later_au2 :
    (first_number ra_in ([] ∷ au2 ∷ []) ≡ None)
    × (audit_verdict_on_item known R 1 (Ok (Au2 9 1 0x1122334455667788 7, true)) ≡ Unexpected)
unfolding audit_verdict_on_item
later_au2 = (refl, refl)

-- ---- a tap of the engine's first two frames

abbrev line : ℕ → TapStep → TapLine
line number step = record { line = number; step = step }

abbrev first_octets : List ℕ
first_octets = 0x7e ∷ 0x01 ∷ 0x3f ∷ 0xeb ∷ 0xdf ∷ 0x7e ∷ []

abbrev more_octets : List ℕ
more_octets = 0x7e ∷ 0x01 ∷ 0x00 ∷ cr_block ++ 0xf7 ∷ 0x00 ∷ 0x7e ∷ []

abbrev tap : List TapLine
tap = line 2 (Link 1 5 9 0) ∷ line 3 (Octets 1 E first_octets) ∷ line 4 (Octets 1 E more_octets) ∷ []

abbrev no_keys : Finds
no_keys now engine rbc = None

pub in_order : (fault_of_tap_lines tap ≡ None) × (fault_of_tap_lines (line 2 (Octets 1 E []) ∷ []) ≡ Some (NoLinkAt 2 1))
    × (fault_of_tap_lines (line 2 (Link 1 5 9 0) ∷ line 3 (Link 1 5 9 0) ∷ []) ≡ Some (TwiceAt 3 1))
unfolding fault_from has
in_order = (refl, refl, refl)

pub first_frames : audit_text no_keys tap ≡ codes "1 e au1 good\n"
unfolding links_text side_text tap_opening_of_link stream_of judged_from audit_verdict_on_item line_text line_end heard payloads heard_of in_sequence
    before_end behind_opening frames_read control_of tpdus_from pdus_in reading parameters_in texts_from digits number_in frames_of between_flags all_but_last
    cut framing.verdict_on verdict_on_content checked_part check_number unescaped ends_in_escape fcs_of fcs_bits dividend remainder divided_once add_front
    sent_bits low_bits low_number
first_frames = refl

-- ---- what a radio block centre's end is given of them: the text of the CR, although it has no key for it

abbrev callee : Opening
callee = Answer usual_settings 9 1 0

abbrev events : List Moment
events = record { now = 0; event = Come no_keys first_octets } ∷ record { now = 1; event = Come no_keys more_octets } ∷ []

pub given_it : received events (opened callee) ≡ au1 ∷ []
unfolding hand_waiting_tpdus eight number_in reading parameters_in frames_of between_flags all_but_last cut framing.verdict_on verdict_on_content checked_part
    check_number unescaped ends_in_escape spelling escaped escaped_octet content_of control_of fcs_of fcs_bits dividend remainder divided_once add_front
    sent_bits low_bits low_number
given_it = refl

-- ---- and what an engine's end is given of UA and a CC without user data: its empty text, which is no AU2

abbrev caller : Opening
caller = Call usual_settings 5 9 (record { first = 1; second = 2; third = 3 }) 0x0102030405060708 0

abbrev agreed : List Moment
agreed =
    record { now = 0; event = Start }
    ∷ record { now = 0; event = Come no_keys (0x7e ∷ 0x01 ∷ 0x73 ∷ 0x83 ∷ 0x57 ∷ 0x7e ∷ []) }
    ∷ record { now = 1; event = Come no_keys (0x7e ∷ 0x03 ∷ 0x00 ∷ bare_cc_block ++ 0x38 ∷ 0xdd ∷ 0x7e ∷ []) }
    ∷ []

pub given_nothing_first : received agreed (opened caller) ≡ [] ∷ []
unfolding hand_waiting_tpdus eight number_in reading parameters_in frames_of between_flags all_but_last cut framing.verdict_on verdict_on_content checked_part
    check_number unescaped ends_in_escape spelling escaped escaped_octet content_of control_of fcs_of fcs_bits dividend remainder divided_once add_front
    sent_bits low_bits low_number
given_nothing_first = refl
