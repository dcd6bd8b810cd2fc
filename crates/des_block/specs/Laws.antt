-- The round trips of DES (FIPS 46-3): each direction undoes the other, for every key and every block of 64 bits. And that its
-- results are blocks.
use Rattle.std.specs.Prelude.{ℕ, ◌≡◌, List, length, IsTrue}
use Rattle.bit_lists.specs.Bits.{all_bits}
use Rattle.des_block.specs.Des.{des_encipher, des_decipher}

-- deciphering undoes enciphering
abbrev pub DecipherUndoesEncipher : Type 0
DecipherUndoesEncipher = (key block : List ℕ) → length block ≡ 64 → des_decipher key (des_encipher key block) ≡ block

-- enciphering undoes deciphering
abbrev pub EncipherUndoesDecipher : Type 0
EncipherUndoesDecipher = (key block : List ℕ) → length block ≡ 64 → des_encipher key (des_decipher key block) ≡ block

-- a list of 64 bits
abbrev pub IsBlock : List ℕ → Type 0
IsBlock xs = (length xs ≡ 64) × IsTrue (all_bits xs)

-- what a list of bits is enciphered or deciphered to is a block
abbrev pub GivesBlocks : Type 0
GivesBlocks = (key bits : List ℕ) → IsTrue (all_bits bits) → IsBlock (des_encipher key bits) × IsBlock (des_decipher key bits)
