-- Known answers of the MAC, by computation from the definition.
use Rattle.std.proofs.Common.{◌≡◌, [], ◌∷◌, refl}
use Rattle.bit_lists.specs.Bits.{bits, number, pick, xor}
use Rattle.des_block.specs.Des.{cipher, rounds, cipher_function, substituted, box_output, round_keys, keys_from}
use Rattle.des_block.specs.Triple.{triple_encipher}
use Rattle.des_block.specs.declared.triple_key.TripleKey.{TripleKey}
use Rattle.cbc_mac.specs.Mac.{blocks, chained, mac_bits, mac_of}

-- three keys that are one, under which the three last steps are one
pub one_key : TripleKey
one_key = record { first = 0x133457799BBCDFF1; second = 0x133457799BBCDFF1; third = 0x133457799BBCDFF1 }

pub one_block : mac_of one_key (0x01 ∷ 0x23 ∷ 0x45 ∷ 0x67 ∷ 0x89 ∷ 0xab ∷ 0xcd ∷ 0xef ∷ []) ≡ 0x85E813540F0AB405
unfolding bits number pick xor cipher rounds cipher_function substituted box_output round_keys keys_from triple_encipher blocks chained mac_bits mac_of one_key
one_block = refl

pub two_blocks :
    mac_of one_key
    (0x01 ∷ 0x23 ∷ 0x45 ∷ 0x67 ∷ 0x89 ∷ 0xab ∷ 0xcd ∷ 0xef ∷ 0x84 ∷ 0xcb ∷ 0x56 ∷ 0x33 ∷ 0x86 ∷ 0xa1 ∷ 0x79 ∷ 0xea ∷ [])
    ≡ 0x85E813540F0AB405
unfolding bits number pick xor cipher rounds cipher_function substituted box_output round_keys keys_from triple_encipher blocks chained mac_bits mac_of one_key
two_blocks = refl
