-- The boxes of the code, entry by entry: each of the 64 inputs of each box is tried.
use Rattle.std.proofs.Common.{◌≡◌, ℕ, zero, suc, ◌/◌, ◌^◌, ◌<◌, [], refl, arith, true}
use Rattle.std.specs.Prelude.{bit_and, bit_or, slice_index, slice_index_or, nat_lt}
use Rattle.std.proofs.lemmas.Bool.{agree_below_at, ltb-true}
use Rattle.bit_lists.specs.Bits.{bits, number, pick}
use Rattle.bit_lists.proofs.Linear.{same_values}
use Rattle.des_block.specs.Boxes.{boxes}
use Rattle.des_block.specs.Des.{box_output}
use Rattle.des_block.specs.declared.tables.TheConstants.{BOXES}

-- the entry that the code reads
abbrev pub entry : ℕ → ℕ → ℕ
entry j six = slice_index (slice_index_or (slice_index_or BOXES j []) (bit_or (bit_and (six / 2 ^ 4) 2) (bit_and six 1)) []) (bit_and (six / 2 ^ 1) 15)

pub entry_is : (j six : ℕ) → j < 8 → six < 64 → bits 4 (entry j six) ≡ box_output (slice_index_or boxes j []) (bits 6 six)
unfolding bits number pick box_output
entry_is zero six hj hs = same_values [] (λ s. bits 4 (entry 0 s)) (λ s. box_output (slice_index_or boxes 0 []) (bits 6 s)) 64 six refl hs
entry_is (suc zero) six hj hs = same_values [] (λ s. bits 4 (entry 1 s)) (λ s. box_output (slice_index_or boxes 1 []) (bits 6 s)) 64 six refl hs
entry_is (suc (suc zero)) six hj hs = same_values [] (λ s. bits 4 (entry 2 s)) (λ s. box_output (slice_index_or boxes 2 []) (bits 6 s)) 64 six refl hs
entry_is (suc (suc (suc zero))) six hj hs = same_values [] (λ s. bits 4 (entry 3 s)) (λ s. box_output (slice_index_or boxes 3 []) (bits 6 s)) 64 six refl hs
entry_is (suc (suc (suc (suc zero)))) six hj hs = same_values [] (λ s. bits 4 (entry 4 s)) (λ s. box_output (slice_index_or boxes 4 []) (bits 6 s)) 64 six refl hs
entry_is (suc (suc (suc (suc (suc zero))))) six hj hs = same_values [] (λ s. bits 4 (entry 5 s)) (λ s. box_output (slice_index_or boxes 5 []) (bits 6 s)) 64 six refl hs
entry_is (suc (suc (suc (suc (suc (suc zero)))))) six hj hs = same_values [] (λ s. bits 4 (entry 6 s)) (λ s. box_output (slice_index_or boxes 6 []) (bits 6 s)) 64 six refl hs
entry_is (suc (suc (suc (suc (suc (suc (suc zero))))))) six hj hs = same_values [] (λ s. bits 4 (entry 7 s)) (λ s. box_output (slice_index_or boxes 7 []) (bits 6 s)) 64 six refl hs
entry_is (suc (suc (suc (suc (suc (suc (suc (suc j)))))))) six hj hs = absurd (omega arith)

pub entry_small : (j six : ℕ) → j < 8 → six < 64 → entry j six < 16
entry_small zero six hj hs = ltb-true _ _ (agree_below_at (λ s. nat_lt (entry 0 s) 16) (λ _. true) 64 six refl hs)
entry_small (suc zero) six hj hs = ltb-true _ _ (agree_below_at (λ s. nat_lt (entry 1 s) 16) (λ _. true) 64 six refl hs)
entry_small (suc (suc zero)) six hj hs = ltb-true _ _ (agree_below_at (λ s. nat_lt (entry 2 s) 16) (λ _. true) 64 six refl hs)
entry_small (suc (suc (suc zero))) six hj hs = ltb-true _ _ (agree_below_at (λ s. nat_lt (entry 3 s) 16) (λ _. true) 64 six refl hs)
entry_small (suc (suc (suc (suc zero)))) six hj hs = ltb-true _ _ (agree_below_at (λ s. nat_lt (entry 4 s) 16) (λ _. true) 64 six refl hs)
entry_small (suc (suc (suc (suc (suc zero))))) six hj hs = ltb-true _ _ (agree_below_at (λ s. nat_lt (entry 5 s) 16) (λ _. true) 64 six refl hs)
entry_small (suc (suc (suc (suc (suc (suc zero)))))) six hj hs = ltb-true _ _ (agree_below_at (λ s. nat_lt (entry 6 s) 16) (λ _. true) 64 six refl hs)
entry_small (suc (suc (suc (suc (suc (suc (suc zero))))))) six hj hs = ltb-true _ _ (agree_below_at (λ s. nat_lt (entry 7 s) 16) (λ _. true) 64 six refl hs)
entry_small (suc (suc (suc (suc (suc (suc (suc (suc j)))))))) six hj hs = absurd (omega arith)
