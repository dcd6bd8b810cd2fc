-- Known answers of the check sequence (ISO/IEC 13239).
use Rattle.std.specs.Prelude.{◌≡◌, [], refl, codes}
use Rattle.bit_lists.specs.LowestFirst.{low_bits, low_number}
use Rattle.hdlc_fcs.specs.FrameCheck.{fcs_of, fcs_bits, dividend, remainder, divided_once, add_front, sent_bits}

-- the check value that ISO/IEC 13239's sequence has for the nine digits
pub check_value : fcs_of (codes "123456789") ≡ 0x906e
unfolding fcs_of fcs_bits dividend remainder divided_once add_front sent_bits low_bits low_number
check_value = refl

-- no octets at all
pub no_octets : fcs_of [] ≡ 0
unfolding fcs_of fcs_bits dividend remainder divided_once add_front sent_bits low_bits low_number
no_octets = refl
