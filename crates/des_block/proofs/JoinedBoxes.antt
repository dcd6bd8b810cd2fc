-- The boxes of the code with P joined to them, entry by entry: each of the 256 octets of each box is tried.
use Rattle.std.proofs.Common.{◌≡◌, ℕ, zero, suc, ◌-◌, ◌*◌, ◌<◌, List, [], ◌++◌, refl, arith}
use Rattle.std.specs.Prelude.{bit_and, slice_index, slice_index_or, replicate}
use Rattle.bit_lists.specs.Bits.{bits, number, pick}
use Rattle.bit_lists.proofs.Linear.{same_values}
use Rattle.des_block.specs.Boxes.{boxes}
use Rattle.des_block.specs.Tables.{permutation}
use Rattle.des_block.specs.Des.{box_output}
use Rattle.des_block.specs.Representation.{spread_places}
use Rattle.des_block.specs.declared.spread_boxes.TheConstants.{SPREAD_BOXES}

-- the entry that the code reads
abbrev pub spread_entry : ℕ → ℕ → ℕ
spread_entry j octet = slice_index (slice_index_or SPREAD_BOXES j []) octet

-- P of what the box gives, at its place among zeros
abbrev pub spread_output : ℕ → ℕ → List ℕ
spread_output j octet = pick permutation (replicate (4 * j) 0 ++ (box_output (slice_index_or boxes j []) (bits 6 octet) ++ replicate (28 - 4 * j) 0))

pub spread_is : (j octet : ℕ) → j < 8 → octet < 256 → bits 32 (spread_entry j octet) ≡ spread_output j octet
unfolding bits number pick box_output
spread_is zero octet hj hs = same_values [] (λ s. bits 32 (spread_entry 0 s)) (λ s. spread_output 0 s) 256 octet refl hs
spread_is (suc zero) octet hj hs = same_values [] (λ s. bits 32 (spread_entry 1 s)) (λ s. spread_output 1 s) 256 octet refl hs
spread_is (suc (suc zero)) octet hj hs = same_values [] (λ s. bits 32 (spread_entry 2 s)) (λ s. spread_output 2 s) 256 octet refl hs
spread_is (suc (suc (suc zero))) octet hj hs = same_values [] (λ s. bits 32 (spread_entry 3 s)) (λ s. spread_output 3 s) 256 octet refl hs
spread_is (suc (suc (suc (suc zero)))) octet hj hs = same_values [] (λ s. bits 32 (spread_entry 4 s)) (λ s. spread_output 4 s) 256 octet refl hs
spread_is (suc (suc (suc (suc (suc zero))))) octet hj hs = same_values [] (λ s. bits 32 (spread_entry 5 s)) (λ s. spread_output 5 s) 256 octet refl hs
spread_is (suc (suc (suc (suc (suc (suc zero)))))) octet hj hs = same_values [] (λ s. bits 32 (spread_entry 6 s)) (λ s. spread_output 6 s) 256 octet refl hs
spread_is (suc (suc (suc (suc (suc (suc (suc zero))))))) octet hj hs = same_values [] (λ s. bits 32 (spread_entry 7 s)) (λ s. spread_output 7 s) 256 octet refl hs
spread_is (suc (suc (suc (suc (suc (suc (suc (suc j)))))))) octet hj hs = absurd (omega arith)

-- and it has bits at the places of its box alone
pub within_places : (j octet : ℕ) → j < 8 → octet < 256 → bit_and (spread_entry j octet) (spread_places j) ≡ spread_entry j octet
unfolding bits number pick
within_places zero octet hj hs = same_values 0 (λ s. bit_and (spread_entry 0 s) (spread_places 0)) (λ s. spread_entry 0 s) 256 octet refl hs
within_places (suc zero) octet hj hs = same_values 0 (λ s. bit_and (spread_entry 1 s) (spread_places 1)) (λ s. spread_entry 1 s) 256 octet refl hs
within_places (suc (suc zero)) octet hj hs = same_values 0 (λ s. bit_and (spread_entry 2 s) (spread_places 2)) (λ s. spread_entry 2 s) 256 octet refl hs
within_places (suc (suc (suc zero))) octet hj hs = same_values 0 (λ s. bit_and (spread_entry 3 s) (spread_places 3)) (λ s. spread_entry 3 s) 256 octet refl hs
within_places (suc (suc (suc (suc zero)))) octet hj hs = same_values 0 (λ s. bit_and (spread_entry 4 s) (spread_places 4)) (λ s. spread_entry 4 s) 256 octet refl hs
within_places (suc (suc (suc (suc (suc zero))))) octet hj hs = same_values 0 (λ s. bit_and (spread_entry 5 s) (spread_places 5)) (λ s. spread_entry 5 s) 256 octet refl hs
within_places (suc (suc (suc (suc (suc (suc zero)))))) octet hj hs = same_values 0 (λ s. bit_and (spread_entry 6 s) (spread_places 6)) (λ s. spread_entry 6 s) 256 octet refl hs
within_places (suc (suc (suc (suc (suc (suc (suc zero))))))) octet hj hs = same_values 0 (λ s. bit_and (spread_entry 7 s) (spread_places 7)) (λ s. spread_entry 7 s) 256 octet refl hs
within_places (suc (suc (suc (suc (suc (suc (suc (suc j)))))))) octet hj hs = absurd (omega arith)
