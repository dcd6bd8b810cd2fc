-- Known answers of DES, by computation from the definition. Together they read 323 of the 512 entries of the boxes; that a wrong
-- entry of a table or box fails the check is the law `standard_tables`.
use Rattle.std.proofs.Common.{◌≡◌, refl}
use Rattle.bit_lists.specs.Bits.{bits, number, pick, xor}
use Rattle.des_block.specs.Des.{des_encipher, des_decipher, cipher, rounds, cipher_function, substituted, box_output, round_keys, keys_from}

pub worked_example : des_encipher (bits 64 0x133457799BBCDFF1) (bits 64 0x0123456789ABCDEF) ≡ bits 64 0x85E813540F0AB405
unfolding bits number pick xor cipher rounds cipher_function substituted box_output round_keys keys_from
worked_example = refl

pub worked_example_back : des_decipher (bits 64 0x133457799BBCDFF1) (bits 64 0x85E813540F0AB405) ≡ bits 64 0x0123456789ABCDEF
unfolding bits number pick xor cipher rounds cipher_function substituted box_output round_keys keys_from
worked_example_back = refl

pub to_zero : des_encipher (bits 64 0x0E329232EA6D0D73) (bits 64 0x8787878787878787) ≡ bits 64 0
unfolding bits number pick xor cipher rounds cipher_function substituted box_output round_keys keys_from
to_zero = refl

pub to_zero_back : des_decipher (bits 64 0x0E329232EA6D0D73) (bits 64 0) ≡ bits 64 0x8787878787878787
unfolding bits number pick xor cipher rounds cipher_function substituted box_output round_keys keys_from
to_zero_back = refl

pub all_zeros : des_encipher (bits 64 0) (bits 64 0) ≡ bits 64 0x8CA64DE9C1B123A7
unfolding bits number pick xor cipher rounds cipher_function substituted box_output round_keys keys_from
all_zeros = refl

pub all_zeros_back : des_decipher (bits 64 0) (bits 64 0x8CA64DE9C1B123A7) ≡ bits 64 0
unfolding bits number pick xor cipher rounds cipher_function substituted box_output round_keys keys_from
all_zeros_back = refl

pub all_ones : des_encipher (bits 64 0xFFFFFFFFFFFFFFFF) (bits 64 0xFFFFFFFFFFFFFFFF) ≡ bits 64 0x7359B2163E4EDC58
unfolding bits number pick xor cipher rounds cipher_function substituted box_output round_keys keys_from
all_ones = refl

pub all_ones_back : des_decipher (bits 64 0xFFFFFFFFFFFFFFFF) (bits 64 0x7359B2163E4EDC58) ≡ bits 64 0xFFFFFFFFFFFFFFFF
unfolding bits number pick xor cipher rounds cipher_function substituted box_output round_keys keys_from
all_ones_back = refl

-- made by OpenSSL 3.0; it reads row 1, column 3 of S3, which no other of these answers does
pub from_outside : des_encipher (bits 64 0xE8753FBC84820C5B) (bits 64 0xAAE4DEA4EA0AD008) ≡ bits 64 0xD03BAEDBED734CAF
unfolding bits number pick xor cipher rounds cipher_function substituted box_output round_keys keys_from
from_outside = refl

pub from_outside_back : des_decipher (bits 64 0xE8753FBC84820C5B) (bits 64 0xD03BAEDBED734CAF) ≡ bits 64 0xAAE4DEA4EA0AD008
unfolding bits number pick xor cipher rounds cipher_function substituted box_output round_keys keys_from
from_outside_back = refl
