-- The Triple Data Encryption Algorithm of FIPS 46-3, forward: a block is enciphered under the first key, deciphered under the
-- second and enciphered under the third.
use Rattle.std.specs.Prelude.{List, ℕ}
use Rattle.bit_lists.specs.Bits.{bits}
use Rattle.des_block.specs.Des.{des_encipher, des_decipher}
use Rattle.des_block.specs.declared.triple_key.TripleKey.{TripleKey}

-- E(K3, D(K2, E(K1, block)))
unfoldable pub triple_encipher : TripleKey → List ℕ → List ℕ
triple_encipher key block = des_encipher (bits 64 key.third) (des_decipher (bits 64 key.second) (des_encipher (bits 64 key.first) block))
