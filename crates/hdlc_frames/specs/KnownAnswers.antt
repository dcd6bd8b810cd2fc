-- Known answers, worked out by hand: streams and what they are read as, and the octets of controls at modulo 8 and 128.
use Rattle.std.specs.Prelude.{◌≡◌, ℕ, Bool, true, false, List, [], ◌∷◌, ◌++◌, Some, None, refl}
use Rattle.bit_lists.specs.LowestFirst.{low_bits, low_number}
use Rattle.hdlc_fcs.specs.FrameCheck.{fcs_of, fcs_bits, dividend, remainder, divided_once, add_front, sent_bits}
use Rattle.hdlc_fcs.specs.Contents.{content_of, checked_part, check_number}
use Rattle.hdlc_frames.specs.Framing.{Frame, BadFcs, TooShort, Aborted, unescaped, ends_in_escape, verdict_on_content, verdict_on, cut, all_but_last}
use Rattle.hdlc_frames.specs.Framing.{between_flags, frames_of}
use Rattle.hdlc_frames.specs.Spelling.{escaped_octet, escaped, spelling}
use Rattle.hdlc_frames.specs.declared.controls.Control.{Control}
use Rattle.hdlc_frames.specs.declared.controls.Control.TheVariants.{Info, Rr, Rnr, Rej, Srej, Sabm, Sabme, Disc, Ua, Dm, Frmr}
use Rattle.hdlc_frames.specs.Controls.{control_octets}
use Rattle.hdlc_frames.specs.ControlOctets.{control_of}

pub one_frame : frames_of (0x7e ∷ 0x01 ∷ 0x3f ∷ 0xeb ∷ 0xdf ∷ 0x7e ∷ []) ≡ Frame 0x01 (0x3f ∷ []) ∷ []
unfolding frames_of between_flags all_but_last cut verdict_on verdict_on_content checked_part check_number unescaped ends_in_escape fcs_of fcs_bits dividend
    remainder divided_once add_front sent_bits low_bits low_number
one_frame = refl

pub another_octet : frames_of (0x7e ∷ 0x01 ∷ 0x3f ∷ 0xea ∷ 0xdf ∷ 0x7e ∷ []) ≡ BadFcs ∷ []
unfolding frames_of between_flags all_but_last cut verdict_on verdict_on_content checked_part check_number unescaped ends_in_escape fcs_of fcs_bits dividend
    remainder divided_once add_front sent_bits low_bits low_number
another_octet = refl

pub an_escape_there : frames_of (0x7e ∷ 0x01 ∷ 0x3f ∷ 0x7d ∷ 0xdf ∷ 0x7e ∷ []) ≡ TooShort ∷ []
unfolding frames_of between_flags all_but_last cut verdict_on verdict_on_content checked_part check_number unescaped ends_in_escape fcs_of fcs_bits dividend
    remainder divided_once add_front sent_bits low_bits low_number
an_escape_there = refl

pub one_octet : frames_of (0x7e ∷ 0x01 ∷ 0x7e ∷ []) ≡ TooShort ∷ []
unfolding frames_of between_flags all_but_last cut verdict_on verdict_on_content checked_part check_number unescaped ends_in_escape
one_octet = refl

pub an_escape_at_the_end : frames_of (0x7e ∷ 0x01 ∷ 0x7d ∷ 0x7e ∷ []) ≡ Aborted ∷ []
unfolding frames_of between_flags all_but_last cut verdict_on verdict_on_content checked_part check_number unescaped ends_in_escape
an_escape_at_the_end = refl

pub flags_alone : frames_of (0x7e ∷ 0x7e ∷ 0x7e ∷ []) ≡ []
unfolding frames_of between_flags all_but_last cut
flags_alone = refl

-- one flag closes a frame and begins the next; octets before the first flag and behind the last are left out
pub shared_flag : frames_of (0x55 ∷ 0x7e ∷ 0x01 ∷ 0x3f ∷ 0xeb ∷ 0xdf ∷ 0x7e ∷ 0x01 ∷ 0x3f ∷ 0xeb ∷ 0xdf ∷ 0x7e ∷ 0x01 ∷ [])
    ≡ Frame 0x01 (0x3f ∷ []) ∷ Frame 0x01 (0x3f ∷ []) ∷ []
unfolding frames_of between_flags all_but_last cut verdict_on verdict_on_content checked_part check_number unescaped ends_in_escape fcs_of fcs_bits dividend
    remainder divided_once add_front sent_bits low_bits low_number
shared_flag = refl

pub spelled : spelling 0x01 (0x3f ∷ []) ≡ 0x7e ∷ 0x01 ∷ 0x3f ∷ 0xeb ∷ 0xdf ∷ 0x7e ∷ []
unfolding spelling escaped escaped_octet content_of fcs_of fcs_bits dividend remainder divided_once add_front sent_bits low_bits low_number
spelled = refl

-- an escaped escape is an octet of the content
pub escapes_escaped : unescaped (0x7d ∷ 0x5d ∷ 0x7d ∷ 0x5e ∷ 0x7d ∷ 0x7d ∷ []) false ≡ 0x7d ∷ 0x7e ∷ 0x5d ∷ []
unfolding unescaped
escapes_escaped = refl

-- ---- controls

-- a control with this P/F bit has these octets, and is read of them with the information behind
abbrev IsWritten : (modulo : ℕ) → Control → (bit : Bool) → List ℕ → Type 0
IsWritten modulo control bit octets =
    (control_octets modulo control bit ≡ Some octets) × (control_of modulo (octets ++ 0x55 ∷ 0xaa ∷ []) ≡ Some (control, 0x55 ∷ 0xaa ∷ []))

-- modulo 8: N(S) is 3 and N(R) is 5

pub i_8 : IsWritten 8 (Info 3 5) false (0xa6 ∷ [])
unfolding control_of
i_8 = (refl, refl)

pub i_poll_8 : IsWritten 8 (Info 3 5) true (0xb6 ∷ [])
unfolding control_of
i_poll_8 = (refl, refl)

pub i_greatest_8 : IsWritten 8 (Info 7 7) true (0xfe ∷ [])
unfolding control_of
i_greatest_8 = (refl, refl)

pub rr_8 : IsWritten 8 (Rr 5) false (0xa1 ∷ [])
unfolding control_of
rr_8 = (refl, refl)

pub rr_final_8 : IsWritten 8 (Rr 5) true (0xb1 ∷ [])
unfolding control_of
rr_final_8 = (refl, refl)

pub rnr_8 : IsWritten 8 (Rnr 5) false (0xa5 ∷ [])
unfolding control_of
rnr_8 = (refl, refl)

pub rnr_final_8 : IsWritten 8 (Rnr 5) true (0xb5 ∷ [])
unfolding control_of
rnr_final_8 = (refl, refl)

pub rej_8 : IsWritten 8 (Rej 5) false (0xa9 ∷ [])
unfolding control_of
rej_8 = (refl, refl)

pub rej_final_8 : IsWritten 8 (Rej 5) true (0xb9 ∷ [])
unfolding control_of
rej_final_8 = (refl, refl)

pub srej_8 : IsWritten 8 (Srej 5) false (0xad ∷ [])
unfolding control_of
srej_8 = (refl, refl)

pub srej_final_8 : IsWritten 8 (Srej 5) true (0xbd ∷ [])
unfolding control_of
srej_final_8 = (refl, refl)

pub sabm_8 : IsWritten 8 (Sabm false) false (0x2f ∷ [])
unfolding control_of
sabm_8 = (refl, refl)

pub sabm_poll_8 : IsWritten 8 (Sabm true) true (0x3f ∷ [])
unfolding control_of
sabm_poll_8 = (refl, refl)

pub disc_8 : IsWritten 8 (Disc false) false (0x43 ∷ [])
unfolding control_of
disc_8 = (refl, refl)

pub disc_poll_8 : IsWritten 8 (Disc true) true (0x53 ∷ [])
unfolding control_of
disc_poll_8 = (refl, refl)

pub ua_8 : IsWritten 8 (Ua) false (0x63 ∷ [])
unfolding control_of
ua_8 = (refl, refl)

pub ua_final_8 : IsWritten 8 (Ua) true (0x73 ∷ [])
unfolding control_of
ua_final_8 = (refl, refl)

pub dm_8 : IsWritten 8 (Dm) false (0x0f ∷ [])
unfolding control_of
dm_8 = (refl, refl)

pub dm_final_8 : IsWritten 8 (Dm) true (0x1f ∷ [])
unfolding control_of
dm_final_8 = (refl, refl)

pub frmr_8 : IsWritten 8 (Frmr) false (0x87 ∷ [])
unfolding control_of
frmr_8 = (refl, refl)

pub frmr_final_8 : IsWritten 8 (Frmr) true (0x97 ∷ [])
unfolding control_of
frmr_final_8 = (refl, refl)

-- SABME and UI with their P bits, an octet that no mode has, and no octet at all
pub unknown_8 : (control_of 8 (0x7f ∷ []) ≡ None) × (control_of 8 (0x13 ∷ []) ≡ None) × (control_of 8 (0x9f ∷ []) ≡ None) × (control_of 8 [] ≡ None)
unfolding control_of
unknown_8 = (refl, refl, refl, refl)

pub sabme_8 : control_octets 8 (Sabme true) true ≡ None
sabme_8 = refl

-- modulo 128: N(S) is 100 and N(R) is 77

pub i_128 : IsWritten 128 (Info 100 77) false (0xc8 ∷ 0x9a ∷ [])
unfolding control_of
i_128 = (refl, refl)

pub i_poll_128 : IsWritten 128 (Info 100 77) true (0xc8 ∷ 0x9b ∷ [])
unfolding control_of
i_poll_128 = (refl, refl)

pub i_greatest_128 : IsWritten 128 (Info 127 127) true (0xfe ∷ 0xff ∷ [])
unfolding control_of
i_greatest_128 = (refl, refl)

pub rr_128 : IsWritten 128 (Rr 77) false (0x01 ∷ 0x9a ∷ [])
unfolding control_of
rr_128 = (refl, refl)

pub rr_final_128 : IsWritten 128 (Rr 77) true (0x01 ∷ 0x9b ∷ [])
unfolding control_of
rr_final_128 = (refl, refl)

pub rnr_128 : IsWritten 128 (Rnr 77) false (0x05 ∷ 0x9a ∷ [])
unfolding control_of
rnr_128 = (refl, refl)

pub rnr_final_128 : IsWritten 128 (Rnr 77) true (0x05 ∷ 0x9b ∷ [])
unfolding control_of
rnr_final_128 = (refl, refl)

pub rej_128 : IsWritten 128 (Rej 77) false (0x09 ∷ 0x9a ∷ [])
unfolding control_of
rej_128 = (refl, refl)

pub rej_final_128 : IsWritten 128 (Rej 77) true (0x09 ∷ 0x9b ∷ [])
unfolding control_of
rej_final_128 = (refl, refl)

pub srej_128 : IsWritten 128 (Srej 77) false (0x0d ∷ 0x9a ∷ [])
unfolding control_of
srej_128 = (refl, refl)

pub srej_final_128 : IsWritten 128 (Srej 77) true (0x0d ∷ 0x9b ∷ [])
unfolding control_of
srej_final_128 = (refl, refl)

pub sabme_128 : IsWritten 128 (Sabme false) false (0x6f ∷ [])
unfolding control_of
sabme_128 = (refl, refl)

pub sabme_poll_128 : IsWritten 128 (Sabme true) true (0x7f ∷ [])
unfolding control_of
sabme_poll_128 = (refl, refl)

pub disc_128 : IsWritten 128 (Disc false) false (0x43 ∷ [])
unfolding control_of
disc_128 = (refl, refl)

pub disc_poll_128 : IsWritten 128 (Disc true) true (0x53 ∷ [])
unfolding control_of
disc_poll_128 = (refl, refl)

pub ua_128 : IsWritten 128 (Ua) false (0x63 ∷ [])
unfolding control_of
ua_128 = (refl, refl)

pub ua_final_128 : IsWritten 128 (Ua) true (0x73 ∷ [])
unfolding control_of
ua_final_128 = (refl, refl)

pub dm_128 : IsWritten 128 (Dm) false (0x0f ∷ [])
unfolding control_of
dm_128 = (refl, refl)

pub dm_final_128 : IsWritten 128 (Dm) true (0x1f ∷ [])
unfolding control_of
dm_final_128 = (refl, refl)

pub frmr_128 : IsWritten 128 (Frmr) false (0x87 ∷ [])
unfolding control_of
frmr_128 = (refl, refl)

pub frmr_final_128 : IsWritten 128 (Frmr) true (0x97 ∷ [])
unfolding control_of
frmr_final_128 = (refl, refl)

-- SABM and UI with their P bits, RR whose first octet has another bit, RR without its second octet, and no octet at all
pub unknown_128 : (control_of 128 (0x3f ∷ []) ≡ None) × (control_of 128 (0x13 ∷ []) ≡ None) × (control_of 128 (0x11 ∷ 0x9a ∷ []) ≡ None)
    × (control_of 128 (0x01 ∷ []) ≡ None) × (control_of 128 [] ≡ None)
unfolding control_of
unknown_128 = (refl, refl, refl, refl, refl)

pub sabm_128 : control_octets 128 (Sabm true) true ≡ None
sabm_128 = refl
