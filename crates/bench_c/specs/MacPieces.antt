-- The MACs of many texts of one length that stand one behind the other (this profile's measure of the MAC of cbc_mac).
use Rattle.std.specs.Prelude.{ℕ, ◌*◌, ◌/◌, List, length, map, take, drop, fold, bit_xor}
use Rattle.std.specs.List.{range_with_len}
use Rattle.des_block.specs.declared.triple_key.TripleKey.{TripleKey}
use Rattle.cbc_mac.specs.Mac.{mac_of}

-- the MACs of the whole texts of a length, in their order
unfoldable pub macs : TripleKey → ℕ → List ℕ → List ℕ
macs key size texts = map (λ n. mac_of key (take size (drop (size * n) texts))) (range_with_len 0 (length texts / size))

-- their exclusive or
unfoldable pub folded_macs : TripleKey → ℕ → List ℕ → ℕ
folded_macs key size texts = fold bit_xor 0 (macs key size texts)
