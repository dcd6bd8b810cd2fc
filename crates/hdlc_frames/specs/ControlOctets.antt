-- The control of a body (ISO/IEC 13239) as a function of the body. That it is the tables of controls is a public
-- law of this crate.
use Rattle.std.specs.Prelude.{ℕ, ◌/◌, Bool, not, ◌==◌, List, [], ◌∷◌, Option, None, Some, option_map, bit_and, if◌then◌else◌}
use Rattle.hdlc_frames.specs.declared.controls.Control.{Control}
use Rattle.hdlc_frames.specs.declared.controls.Control.TheVariants.{Info, Rr, Rnr, Rej, Srej, Sabm, Sabme, Disc, Ua, Dm, Frmr}

-- ---- modulo 8

-- what an octet without its P/F bit says, if it has no number
abbrev pub unnumbered_at : ℕ → Bool → Option Control
unnumbered_at octet poll =
    if octet == 0x2f then Some (Sabm poll) else
    if octet == 0x43 then Some (Disc poll) else
    if octet == 0x63 then Some Ua else
    if octet == 0x0f then Some Dm else
    if octet == 0x87 then Some Frmr else None

-- what an octet says
abbrev pub control_at : ℕ → Option Control
control_at octet =
    if bit_and octet 0x01 == 0 then Some (Info (bit_and (octet / 2) 0x07) (octet / 32)) else
    if bit_and octet 0x0f == 0x01 then Some (Rr (octet / 32)) else
    if bit_and octet 0x0f == 0x05 then Some (Rnr (octet / 32)) else
    if bit_and octet 0x0f == 0x09 then Some (Rej (octet / 32)) else
    if bit_and octet 0x0f == 0x0d then Some (Srej (octet / 32)) else
    unnumbered_at (bit_and octet 0xef) (not (bit_and octet 0x10 == 0))

-- what a body says, and the information behind it
abbrev pub control_modulo_8 : List ℕ → Option (Control × List ℕ)
control_modulo_8 [] = None
control_modulo_8 (octet ∷ information) = option_map (λ c. (c, information)) (control_at octet)

-- ---- modulo 128

-- what the one octet of a control without a number says, its P/F bit left out
abbrev pub extended_unnumbered_at : ℕ → Bool → Option Control
extended_unnumbered_at octet poll =
    if octet == 0x6f then Some (Sabme poll) else
    if octet == 0x43 then Some (Disc poll) else
    if octet == 0x63 then Some Ua else
    if octet == 0x0f then Some Dm else
    if octet == 0x87 then Some Frmr else None

-- what the two octets of a control with N(R) say
abbrev pub extended_numbered_at : ℕ → ℕ → Option Control
extended_numbered_at first second =
    if bit_and first 0x01 == 0 then Some (Info (first / 2) (second / 2)) else
    if first == 0x01 then Some (Rr (second / 2)) else
    if first == 0x05 then Some (Rnr (second / 2)) else
    if first == 0x09 then Some (Rej (second / 2)) else
    if first == 0x0d then Some (Srej (second / 2)) else None

-- what a body with N(R) says, and the information behind it
abbrev pub extended_numbered_of : ℕ → List ℕ → Option (Control × List ℕ)
extended_numbered_of first [] = None
extended_numbered_of first (second ∷ information) = option_map (λ c. (c, information)) (extended_numbered_at first second)

-- what a body says, and the information behind it
abbrev pub control_modulo_128 : List ℕ → Option (Control × List ℕ)
control_modulo_128 [] = None
control_modulo_128 (octet ∷ rest) =
    if bit_and octet 0x03 == 0x03
    then option_map (λ c. (c, rest)) (extended_unnumbered_at (bit_and octet 0xef) (not (bit_and octet 0x10 == 0)))
    else extended_numbered_of octet rest

-- what a body says, and the information behind it; there are no other moduli
unfoldable pub control_of : ℕ → List ℕ → Option (Control × List ℕ)
control_of modulo body =
    if modulo == 8 then control_modulo_8 body else
    if modulo == 128 then control_modulo_128 body else None
