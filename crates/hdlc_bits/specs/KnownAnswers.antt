-- Known answers, worked out by hand: lines and what they are read as.
use Rattle.std.specs.Prelude.{◌≡◌, [], ◌∷◌, ◌++◌, refl}
use Rattle.bit_lists.specs.LowestFirst.{low_bits, low_number}
use Rattle.hdlc_fcs.specs.FrameCheck.{fcs_of, fcs_bits, dividend, remainder, divided_once, add_front, sent_bits}
use Rattle.hdlc_fcs.specs.Contents.{content_of, checked_part, check_number}
use Rattle.hdlc_bits.specs.Framing.{Frame, TooShort, Aborted, all_but_last, lengths, runs, first_segment, segments_between_flags, segment_bits, octets_from}
use Rattle.hdlc_bits.specs.Framing.{octets_of_bits, verdict_by_frame_check_sequence, verdict_on_bits, verdict_on_segment, frames_of_bits}
use Rattle.hdlc_bits.specs.Stuffing.{stuffed_behind, stuffed, spelling_in_bits}

pub one_frame : frames_of_bits (sent_bits (0x7e ∷ 0x01 ∷ 0x5f ∷ 0xd6 ∷ 0x77 ∷ 0xfb ∷ 0xfd ∷ [])) ≡ Frame 0x01 (0x3f ∷ []) ∷ []
unfolding frames_of_bits runs all_but_last lengths segments_between_flags first_segment verdict_on_segment segment_bits verdict_on_bits
    verdict_by_frame_check_sequence octets_of_bits octets_from checked_part check_number fcs_of fcs_bits dividend remainder divided_once add_front sent_bits
    low_bits low_number
one_frame = refl

pub an_abort : frames_of_bits (sent_bits (0x7e ∷ 0x01 ∷ 0xff ∷ 0x7e ∷ [])) ≡ Aborted ∷ []
unfolding frames_of_bits runs all_but_last lengths segments_between_flags first_segment verdict_on_segment segment_bits verdict_on_bits
    verdict_by_frame_check_sequence octets_of_bits octets_from checked_part check_number fcs_of fcs_bits dividend remainder divided_once add_front sent_bits
    low_bits low_number
an_abort = refl

-- nothing stands between a flag and an abort right behind it
pub an_abort_behind_a_flag : frames_of_bits (sent_bits (0x7e ∷ 0xff ∷ 0x7e ∷ [])) ≡ []
unfolding frames_of_bits runs all_but_last lengths segments_between_flags first_segment verdict_on_segment segment_bits verdict_on_bits
    verdict_by_frame_check_sequence octets_of_bits octets_from checked_part check_number fcs_of fcs_bits dividend remainder divided_once add_front sent_bits
    low_bits low_number
an_abort_behind_a_flag = refl

pub one_octet : frames_of_bits (sent_bits (0x7e ∷ 0x01 ∷ 0x7e ∷ [])) ≡ TooShort ∷ []
unfolding frames_of_bits runs all_but_last lengths segments_between_flags first_segment verdict_on_segment segment_bits verdict_on_bits
    verdict_by_frame_check_sequence octets_of_bits octets_from checked_part check_number fcs_of fcs_bits dividend remainder divided_once add_front sent_bits
    low_bits low_number
one_octet = refl

-- a 0 behind each five ones
pub five_ones : stuffed (1 ∷ 1 ∷ 1 ∷ 1 ∷ 1 ∷ 1 ∷ 0 ∷ []) ≡ 1 ∷ 1 ∷ 1 ∷ 1 ∷ 1 ∷ 0 ∷ 1 ∷ 0 ∷ []
unfolding stuffed_behind
five_ones = refl

-- the bits of six octets and two bits more, which the last two of these octets have
pub spelled : spelling_in_bits 0x01 (0x3f ∷ []) ≡ sent_bits (0x7e ∷ 0x01 ∷ 0x5f ∷ 0xd6 ∷ 0x77 ∷ 0xfb ∷ []) ++ 1 ∷ 0 ∷ []
unfolding spelling_in_bits stuffed_behind content_of fcs_of fcs_bits dividend remainder divided_once add_front sent_bits low_bits low_number
spelled = refl
