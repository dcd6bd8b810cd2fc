-- The derivation of the session keys from a KMAC of three keys and the random numbers Ra and Rb of the two ends, by the Triple
-- Data Encryption Algorithm of FIPS 46-3. The choice of halves and of the keys' order is this profile's, after SUBSET-037.
use Rattle.std.specs.Prelude.{ℕ, List, ◌++◌, take, drop}
use Rattle.bit_lists.specs.Bits.{bits, number}
use Rattle.des_block.specs.Triple.{triple_encipher}
use Rattle.des_block.specs.declared.triple_key.TripleKey.{TripleKey}

-- the left halves of both random numbers, Ra's first
abbrev pub left_halves : ℕ → ℕ → List ℕ
left_halves ra rb = take 32 (bits 64 ra) ++ take 32 (bits 64 rb)

-- the right halves of both random numbers, Ra's first
abbrev pub right_halves : ℕ → ℕ → List ℕ
right_halves ra rb = drop 32 (bits 64 ra) ++ drop 32 (bits 64 rb)

-- three keys from the last to the first
abbrev pub reversed_key : TripleKey → TripleKey
reversed_key key = record { first = key.third; second = key.second; third = key.first }

-- Ks1 is of the left halves and Ks2 of the right halves under the KMAC; Ks3 is of the left halves under the KMAC in that order
unfoldable pub session_of : TripleKey → ℕ → ℕ → TripleKey
session_of kmac ra rb = record {
  first = number (triple_encipher kmac (left_halves ra rb));
  second = number (triple_encipher kmac (right_halves ra rb));
  third = number (triple_encipher (reversed_key kmac) (left_halves ra rb));
}
