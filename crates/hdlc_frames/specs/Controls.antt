-- The controls of balanced mode (ISO/IEC 13239): one table for numbers modulo 8, one for numbers modulo 128.
use Rattle.std.specs.Prelude.{ℕ, ◌+◌, ◌*◌, Bool, true, false, ◌==◌, Option, None, Some, List, [], ◌∷◌, if◌then◌else◌}
use Rattle.hdlc_frames.specs.declared.controls.Control.{Control}
use Rattle.hdlc_frames.specs.declared.controls.Control.TheVariants.{Info, Rr, Rnr, Rej, Srej, Sabm, Sabme, Disc, Ua, Dm, Frmr}

-- what a set P/F bit adds to the one octet of a control
abbrev pub poll_final_value : Bool → ℕ
poll_final_value true = 0x10
poll_final_value false = 0

-- what a set P/F bit adds to the second of two octets
abbrev pub extended_bit_of : Bool → ℕ
extended_bit_of true = 0x01
extended_bit_of false = 0

-- the octet of a control with a P/F bit at modulo 8; the P bit of SABM and DISC is their own
abbrev pub octets_modulo_8 : Control → Bool → Option (List ℕ)
octets_modulo_8 (Info ns nr) bit = Some ((ns * 0x02 + nr * 0x20 + poll_final_value bit) ∷ [])
octets_modulo_8 (Rr nr) bit = Some ((0x01 + nr * 0x20 + poll_final_value bit) ∷ [])
octets_modulo_8 (Rnr nr) bit = Some ((0x05 + nr * 0x20 + poll_final_value bit) ∷ [])
octets_modulo_8 (Rej nr) bit = Some ((0x09 + nr * 0x20 + poll_final_value bit) ∷ [])
octets_modulo_8 (Srej nr) bit = Some ((0x0d + nr * 0x20 + poll_final_value bit) ∷ [])
octets_modulo_8 (Sabm poll) bit = Some ((0x2f + poll_final_value poll) ∷ [])
octets_modulo_8 (Sabme poll) bit = None
octets_modulo_8 (Disc poll) bit = Some ((0x43 + poll_final_value poll) ∷ [])
octets_modulo_8 Ua bit = Some ((0x63 + poll_final_value bit) ∷ [])
octets_modulo_8 Dm bit = Some ((0x0f + poll_final_value bit) ∷ [])
octets_modulo_8 Frmr bit = Some ((0x87 + poll_final_value bit) ∷ [])

-- the octets of a control with a P/F bit at modulo 128; the P bit of SABME and DISC is their own
abbrev pub octets_modulo_128 : Control → Bool → Option (List ℕ)
octets_modulo_128 (Info ns nr) bit = Some (ns * 0x02 ∷ (nr * 0x02 + extended_bit_of bit) ∷ [])
octets_modulo_128 (Rr nr) bit = Some (0x01 ∷ (nr * 0x02 + extended_bit_of bit) ∷ [])
octets_modulo_128 (Rnr nr) bit = Some (0x05 ∷ (nr * 0x02 + extended_bit_of bit) ∷ [])
octets_modulo_128 (Rej nr) bit = Some (0x09 ∷ (nr * 0x02 + extended_bit_of bit) ∷ [])
octets_modulo_128 (Srej nr) bit = Some (0x0d ∷ (nr * 0x02 + extended_bit_of bit) ∷ [])
octets_modulo_128 (Sabm poll) bit = None
octets_modulo_128 (Sabme poll) bit = Some ((0x6f + poll_final_value poll) ∷ [])
octets_modulo_128 (Disc poll) bit = Some ((0x43 + poll_final_value poll) ∷ [])
octets_modulo_128 Ua bit = Some ((0x63 + poll_final_value bit) ∷ [])
octets_modulo_128 Dm bit = Some ((0x0f + poll_final_value bit) ∷ [])
octets_modulo_128 Frmr bit = Some ((0x87 + poll_final_value bit) ∷ [])

-- the octets of a control with a P/F bit; there are no other moduli
abbrev pub control_octets : ℕ → Control → Bool → Option (List ℕ)
control_octets modulo control bit =
    if modulo == 8 then octets_modulo_8 control bit else
    if modulo == 128 then octets_modulo_128 control bit else None
