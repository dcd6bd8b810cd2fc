-- The Data Encryption Standard, FIPS 46-3, on strings of bits: a block and a key are lists of 64 bits, the first the most
-- significant of the first octet. Bits 8, 16, .. 64 of a key are not used.
use Rattle.std.specs.Prelude.{ℕ, ◌+◌, ◌*◌, List, [], ◌∷◌, ◌++◌, take, drop, reverse, slice_index}
use Rattle.bit_lists.specs.Bits.{bits, number, pick, xor, left_shift}
use Rattle.des_block.specs.Tables.{initial_permutation, inverse_initial_permutation, expansion, permutation, permuted_choice_1, permuted_choice_2, left_shifts}
use Rattle.des_block.specs.Boxes.{boxes}

-- what a box gives for six bits b1 to b6: the four bits of its entry in row b1 b6 and column b2 b3 b4 b5, both counted from 0
unfoldable pub box_output : List ℕ → List ℕ → List ℕ
box_output box six =
    bits 4 (slice_index box (16 * number (pick (1 ∷ 6 ∷ []) six) + number (pick (2 ∷ 3 ∷ 4 ∷ 5 ∷ []) six)))

-- S: each box in turn for the next six bits
unfoldable pub substituted : List (List ℕ) → List ℕ → List ℕ
substituted [] xs = []
substituted (box ∷ rest) xs = box_output box (take 6 xs) ++ substituted rest (drop 6 xs)

-- f(R, K) = P(S(E(R) xor K))
unfoldable pub cipher_function : List ℕ → List ℕ → List ℕ
cipher_function right key = pick permutation (substituted boxes (xor (pick expansion right) key))

-- a round for each key, L' = R and R' = L xor f(R, K); behind the last, R stands before L
unfoldable pub rounds : List (List ℕ) → List ℕ → List ℕ → List ℕ
rounds [] left right = right ++ left
rounds (key ∷ keys) left right = rounds keys right (xor left (cipher_function right key))

-- a block under a list of round keys: IP, the rounds on its two halves, IP⁻¹
unfoldable pub cipher : List (List ℕ) → List ℕ → List ℕ
cipher keys block =
    pick inverse_initial_permutation (rounds keys (take 32 (pick initial_permutation block)) (drop 32 (pick initial_permutation block)))

-- the round keys from C and D on: both are shifted to the left by the next number of places, and PC-2 chooses from C and then D
unfoldable pub keys_from : List ℕ → List ℕ → List ℕ → List (List ℕ)
keys_from [] c d = []
keys_from (shift ∷ rest) c d = pick permuted_choice_2 (left_shift shift c ++ left_shift shift d) ∷ keys_from rest (left_shift shift c) (left_shift shift d)

-- the key schedule: the sixteen round keys of a key
unfoldable pub round_keys : List ℕ → List (List ℕ)
round_keys key = keys_from left_shifts (take 28 (pick permuted_choice_1 key)) (drop 28 (pick permuted_choice_1 key))

-- DES enciphers under the round keys in their order
abbrev pub des_encipher : List ℕ → List ℕ → List ℕ
des_encipher key block = cipher (round_keys key) block

-- and deciphers under the same keys from the last to the first
abbrev pub des_decipher : List ℕ → List ℕ → List ℕ
des_decipher key block = cipher (reverse (round_keys key)) block
