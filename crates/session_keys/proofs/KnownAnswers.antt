-- A known answer of the derivation, by computation from the definition.
use Rattle.std.proofs.Common.{◌≡◌, refl}
use Rattle.bit_lists.specs.Bits.{bits, number, pick, xor}
use Rattle.des_block.specs.Des.{cipher, rounds, cipher_function, substituted, box_output, round_keys, keys_from}
use Rattle.des_block.specs.Triple.{triple_encipher}
use Rattle.des_block.specs.declared.triple_key.TripleKey.{TripleKey}
use Rattle.session_keys.specs.Session.{session_of}

-- three keys that are one
abbrev pub one_key : TripleKey
one_key = record { first = 0x133457799BBCDFF1; second = 0x133457799BBCDFF1; third = 0x133457799BBCDFF1 }

pub thrice_one_block :
    session_of one_key 0x0123456701234567 0x89ABCDEF89ABCDEF
    ≡ record { first = 0x85E813540F0AB405; second = 0x85E813540F0AB405; third = 0x85E813540F0AB405 }
unfolding bits number pick xor cipher rounds cipher_function substituted box_output round_keys keys_from triple_encipher session_of
thrice_one_block = refl
