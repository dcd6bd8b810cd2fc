-- Frames counted as they come.
use Rattle.std.proofs.Common.{◌≡◌, ℕ, ◌+◌, ◌*◌, ◌≤◌, ◌<◌, cond, List, [], ◌∷◌, ◌++◌, length, take, Option, None, Some, refl, sym, ◌∙◌, ap, arith, true, false}
use Rattle.std.specs.Prelude.{flat_map}
use Rattle.std.specs.Option.{option_to_list}
use Rattle.std.proofs.lemmas.List.{take_all, length-append}
use Rattle.std.proofs.lemmas.List.Sums.{sum_by-append}
use Rattle.bit_lists.specs.LowestFirst.{low_bits}
use Rattle.bit_lists.proofs.LowestFirstLaws.{length-low_bits}
use Rattle.hdlc_fcs.specs.FrameCheck.{sent_bits}
use Rattle.hdlc_bits.specs.Framing.{Verdict, frames_of_bits}
use Rattle.hdlc_bits.specs.Laws.{NothingIsRead}
use Rattle.bench_c.specs.BitFrameCounts.{is_frame, frame_count, found_count}

count_append : (us vs : List Verdict) → frame_count (us ++ vs) ≡ frame_count us + frame_count vs
unfolding frame_count
count_append us vs = sum_by-append (λ v. cond (is_frame v) 1 0) us vs

count_listed : (v : Option Verdict) → frame_count (option_to_list v) ≡ found_count v
unfolding frame_count
count_listed None = refl
count_listed (Some v) = omega arith

pub count_on : (us vs : List Verdict) (v : Option Verdict) (count : ℕ) → vs ≡ us ++ option_to_list v → count ≡ frame_count us → count + found_count v ≡ frame_count vs
count_on us vs v count e is = ap (λ n. n + found_count v) is ∙ ap (λ n. frame_count us + n) (sym (count_listed v)) ∙ sym (count_append us (option_to_list v)) ∙ ap frame_count (sym e)

no_count : frame_count [] ≡ 0
unfolding frame_count
no_count = refl

pub nothing_yet : NothingIsRead → 0 ≡ frame_count (frames_of_bits [])
nothing_yet none = sym (ap frame_count none ∙ no_count)

-- a call finds one frame at most, and uses a bit
pub few_on : (v : Option Verdict) (count at used : ℕ) → count ≤ at → 0 < used → count + found_count v ≤ at + used
few_on None count at used h more = omega arith
few_on (Some v) count at used h more =
    elim (is_frame v) as (λ b. count + cond b 1 0 ≤ at + used) [
      | true ↦ omega arith
      | false ↦ omega arith
    ]

length-sent_bits : (os : List ℕ) → length (sent_bits os) ≡ 8 * length os
unfolding sent_bits
length-sent_bits [] = omega arith
length-sent_bits (o ∷ os) = length-append (low_bits 8 o) (flat_map (low_bits 8) os) ∙ omega (arith, length-low_bits 8 o, length-sent_bits os)

pub all_read : (os : List ℕ) (at : ℕ) → 8 * length os ≤ at → frame_count (frames_of_bits (take at (sent_bits os))) ≡ frame_count (frames_of_bits (sent_bits os))
all_read os at h = ap (λ bs. frame_count (frames_of_bits bs)) (take_all at (sent_bits os) (omega (arith, length-sent_bits os)))
