-- Strings of bits, as FIPS 46-3 writes blocks and keys: a bit is 0 or 1, the most significant bit stands first, and places
-- count from 1.
use Rattle.std.specs.Prelude.{ℕ, zero, suc, ◌-◌, List, [], ◌∷◌, ◌++◌, map, take, drop, bit_xor, slice_index, Bool, nat_lt}
use Rattle.std.specs.Int.{bit_at}
use Rattle.std.specs.Int.Digits.{number_from_digits}
use Rattle.std.specs.List.{list_all}

-- the last `width` bits of a number
unfoldable pub bits : ℕ → ℕ → List ℕ
bits zero n = []
bits (suc width) n = bit_at n width ∷ bits width n

-- the number that bits write
unfoldable pub number : List ℕ → ℕ
number xs = number_from_digits 2 xs

-- the bits at the places that a table names
unfoldable pub pick : List ℕ → List ℕ → List ℕ
pick table xs = map (λ place. slice_index xs (place - 1)) table

-- the exclusive or, place by place
unfoldable pub xor : List ℕ → List ℕ → List ℕ
xor [] ys = []
xor (x ∷ xs) [] = []
xor (x ∷ xs) (y ∷ ys) = bit_xor x y ∷ xor xs ys

-- the left shift of FIPS 46-3: the bits moved to the left by n places, those that leave coming in behind
abbrev pub left_shift : ℕ → List ℕ → List ℕ
left_shift n xs = drop n xs ++ take n xs

-- whether each number of a list is a bit
unfoldable pub all_bits : List ℕ → Bool
all_bits xs = list_all (λ b. nat_lt b 2) xs
