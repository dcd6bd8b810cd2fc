-- Representation: the check sequence of ISO/IEC 13239 as a register of 16 bits that octets are shifted through, as the code has it. That it
-- gives the remainder of the division is proved, not assumed.
use Rattle.std.specs.Prelude.{ℕ, zero, suc, ◌*◌, ◌/◌, ◌%◌, List, [], ◌∷◌, bit_xor}

-- the register after one bit: the generator, lowest bit first, goes in where the bit shifted out is 1
unfoldable pub shifted_once : ℕ → ℕ
shifted_once r = bit_xor (r / 2) (r % 2 * 0x8408)

-- the register after n bits
unfoldable pub shifted : ℕ → ℕ → ℕ
shifted zero r = r
shifted (suc n) r = shifted n (shifted_once r)

-- the register after octets
unfoldable pub register_after : ℕ → List ℕ → ℕ
register_after r [] = r
register_after r (octet ∷ octets) = register_after (shifted 8 (bit_xor r (octet % 256))) octets
