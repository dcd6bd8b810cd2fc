-- The message authentication code of a text under three keys: CBC chaining of ISO/IEC 9797-1 with padding method 1, over DES;
-- the last block goes through the Triple Data Encryption Algorithm of FIPS 46-3 under all three keys.
use Rattle.std.specs.Prelude.{ℕ, ◌-◌, ◌*◌, ◌/◌, ◌%◌, List, [], ◌++◌, length, map, take, drop, replicate, fold, slice_index_or}
use Rattle.std.specs.List.{range_with_len, flat_map}
use Rattle.bit_lists.specs.Bits.{bits, number, xor}
use Rattle.des_block.specs.Des.{des_encipher}
use Rattle.des_block.specs.Triple.{triple_encipher}
use Rattle.des_block.specs.declared.triple_key.TripleKey.{TripleKey}

-- the text with zero octets up to a multiple of eight, none where it is one already
abbrev pub padded : List ℕ → List ℕ
padded text = text ++ replicate ((8 - length text % 8) % 8) 0

-- the blocks of eight octets, X1 to Xq, each as its 64 bits
unfoldable pub blocks : List ℕ → List (List ℕ)
blocks octets = map (λ n. flat_map (bits 8) (take 8 (drop (8 * n) octets))) (range_with_len 0 (length octets / 8))

-- the chaining value behind some blocks under a key: H0 is zero, and Hi = E(K1, H(i-1) xor Xi)
unfoldable pub chained : List ℕ → List (List ℕ) → List ℕ
chained key xs = fold (λ h x. des_encipher key (xor h x)) (replicate 64 0) xs

-- the 64 bits E(K3, D(K2, E(K1, H(q-1) xor Xq))) of the blocks X1 to Xq
unfoldable pub mac_bits : TripleKey → List (List ℕ) → List ℕ
mac_bits key xs =
    triple_encipher key (xor (chained (bits 64 key.first) (take (length xs - 1) xs)) (slice_index_or xs (length xs - 1) []))

-- the MAC of a text
unfoldable pub mac_of : TripleKey → List ℕ → ℕ
mac_of key text = number (mac_bits key (blocks (padded text)))
