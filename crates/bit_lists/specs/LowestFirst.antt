-- Lists of bits with the lowest bit first: the order in which a line under start/stop transmission sends
-- the bits of an octet (ISO/IEC 13239).
use Rattle.std.specs.Prelude.{ℕ, zero, suc, ◌+◌, ◌*◌, ◌/◌, ◌%◌, List, [], ◌∷◌}

-- the w lowest bits of n, the lowest first
unfoldable pub low_bits : ℕ → ℕ → List ℕ
low_bits zero n = []
low_bits (suc w) n = n % 2 ∷ low_bits w (n / 2)

-- the number that bits write, the lowest first
unfoldable pub low_number : List ℕ → ℕ
low_number [] = 0
low_number (b ∷ bs) = b + 2 * low_number bs
