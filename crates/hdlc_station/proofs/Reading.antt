-- What is read of a body is no longer than the body.
use Rattle.std.proofs.Common.{ℕ, ◌≤◌, Bool, true, false, if◌then◌else◌, List, [], ◌∷◌, length, Option, Some, None, arith}
use Rattle.std.specs.Prelude.{option_map, ◌==◌, not, bit_and}
use Rattle.hdlc_frames.specs.declared.controls.Control.{Control}
use Rattle.hdlc_frames.specs.ControlOctets.{control_of, control_at, extended_unnumbered_at, extended_numbered_at, extended_numbered_of}
use Rattle.hdlc_station_model.specs.Frames.{modulo}

abbrev pub left : Option (Control × List ℕ) → ℕ
left None = 0
left (Some read) = length read.1

left_map : (o : Option Control) (xs : List ℕ) (n : ℕ) → length xs ≤ n → left (option_map (λ c. (c, xs)) o) ≤ n
left_map None xs n low = omega arith
left_map (Some c) xs n low = low

left_if : (b : Bool) (x y : Option (Control × List ℕ)) (n : ℕ) → left x ≤ n → left y ≤ n → left (if b then x else y) ≤ n
left_if true x y n h g = h
left_if false x y n h g = g

left_numbered : (first : ℕ) (rest : List ℕ) (n : ℕ) → length rest ≤ n → left (extended_numbered_of first rest) ≤ n
left_numbered first [] n low = omega arith
left_numbered first (second ∷ rest) n low = left_map (extended_numbered_at first second) rest n (omega (arith, low))

pub left_control : (e : Bool) (body : List ℕ) → left (control_of (modulo e) body) ≤ length body
unfolding control_of
left_control false [] = omega arith
left_control true [] = omega arith
left_control false (octet ∷ rest) = left_map (control_at octet) rest (length (octet ∷ rest)) (omega arith)
left_control true (octet ∷ rest) =
    left_if (bit_and octet 0x03 == 0x03) (option_map (λ c. (c, rest)) (extended_unnumbered_at (bit_and octet 0xef) (not (bit_and octet 0x10 == 0)))) (extended_numbered_of octet rest) (length (octet ∷ rest))
    (left_map (extended_unnumbered_at (bit_and octet 0xef) (not (bit_and octet 0x10 == 0))) rest (length (octet ∷ rest)) (omega arith))
    (left_numbered octet rest (length (octet ∷ rest)) (omega arith))
