-- The frame check sequence of 16 bits of ISO/IEC 13239, by long division of polynomials over the numbers
-- 0 and 1. A polynomial is the list of its coefficients, that of the highest power first.
use Rattle.std.specs.Prelude.{ℕ, zero, suc, ◌-◌, ◌==◌, List, [], ◌∷◌, ◌++◌, length, map, replicate, flat_map, bit_xor, if◌then◌else◌}
use Rattle.bit_lists.specs.LowestFirst.{low_bits, low_number}

-- the bits of octets as a line sends them: octet by octet, each with its lowest bit first
unfoldable pub sent_bits : List ℕ → List ℕ
sent_bits octets = flat_map (low_bits 8) octets

-- the generator x^16 + x^12 + x^5 + 1 without its first term: the coefficients of x^15 down to x^0
abbrev pub generator_rest : List ℕ
generator_rest =
    0 ∷ 0 ∷ 0 ∷ 1 ∷ 0 ∷ 0 ∷ 0 ∷ 0
    ∷ 0 ∷ 0 ∷ 1 ∷ 0 ∷ 0 ∷ 0 ∷ 0 ∷ 1 ∷ []

-- the sum, without carries, of xs and the first coefficients of ys
unfoldable pub add_front : List ℕ → List ℕ → List ℕ
add_front [] ys = ys
add_front (x ∷ xs) [] = x ∷ xs
add_front (x ∷ xs) (y ∷ ys) = bit_xor x y ∷ add_front xs ys

-- one step of the division: the first coefficient goes, and where it is 1 the generator is taken away
unfoldable pub divided_once : List ℕ → List ℕ
divided_once [] = []
divided_once (b ∷ bs) = if b == 1 then add_front generator_rest bs else bs

-- what is left after n steps of the division
unfoldable pub remainder : ℕ → List ℕ → List ℕ
remainder zero bs = bs
remainder (suc n) bs = remainder n (divided_once bs)

-- the message times x^16, with sixteen ones added to its first coefficients
unfoldable pub dividend : List ℕ → List ℕ
dividend octets = add_front (replicate 16 1) (sent_bits octets ++ replicate 16 0)

-- the complement of the remainder: the sixteen bits of the check sequence in the order in which they are sent
unfoldable pub fcs_bits : List ℕ → List ℕ
fcs_bits octets = map (λ b. 1 - b) (remainder (length (sent_bits octets)) (dividend octets))

-- the check sequence as a number, whose low octet is sent first
unfoldable pub fcs_of : List ℕ → ℕ
fcs_of octets = low_number (fcs_bits octets)
