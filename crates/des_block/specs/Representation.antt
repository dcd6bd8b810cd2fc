-- Representation: how the code keeps round keys and exchanges bits of a word; no claim rests on it.
use Rattle.std.specs.Prelude.{◌≡◌, ℕ, ◌-◌, ◌*◌, ◌/◌, ◌%◌, ◌^◌, List, ◌++◌, bit_and, bit_xor, replicate}
use Rattle.bit_lists.specs.Bits.{bits, number, pick}
use Rattle.des_block.specs.Des.{round_keys}
use Rattle.des_block.specs.Tables.{permutation}
use Rattle.des_block.specs.declared.triple_key.TripleKey.{TripleKey}

-- The 48 bits of the round key that a word of eight octets keeps, six in each octet. The groups for the first, third, fifth and
-- seventh box stand in the upper half of the word, those for the others in the lower half.
unfoldable pub kept_key : ℕ → List ℕ
kept_key word =
    bits 6 (word / 2 ^ 56) ++ (bits 6 (word / 2 ^ 24) ++ (bits 6 (word / 2 ^ 48) ++ (bits 6 (word / 2 ^ 16)
    ++ (bits 6 (word / 2 ^ 40) ++ (bits 6 (word / 2 ^ 8) ++ (bits 6 (word / 2 ^ 32) ++ bits 6 (word / 2 ^ 0)))))))

-- in a word of 64 bits, a bit at a place of the mask and the bit that lies `apart` above it change places
unfoldable pub swapped : ℕ → ℕ → ℕ → ℕ
swapped apart mask x =
    bit_xor (bit_xor x (bit_and (bit_xor x (x / 2 ^ apart)) mask)) (bit_and (bit_xor x (x / 2 ^ apart)) mask * 2 ^ apart % 2 ^ 64)

-- the places, in a word of 32 bits, to which P brings the four bits of a box
abbrev pub spread_places : ℕ → ℕ
spread_places box = number (pick permutation (replicate (4 * box) 0 ++ (replicate 4 1 ++ replicate (28 - 4 * box) 0)))

-- three key schedules are those of three keys, in their order
abbrev pub HasSchedules : TripleKey → List (List ℕ) → List (List ℕ) → List (List ℕ) → Type 0
HasSchedules key first second third =
    (first ≡ round_keys (bits 64 key.first)) × (second ≡ round_keys (bits 64 key.second)) × (third ≡ round_keys (bits 64 key.third))
