-- Frames counted as they come.
use Rattle.std.proofs.Common.{◌≡◌, ℕ, ◌+◌, ◌-◌, ◌≤◌, ◌<◌, cond, List, [], ◌++◌, length, take, drop, Option, None, Some, refl, sym, ◌∙◌, ap, arith, true, false}
use Rattle.std.specs.Option.{option_to_list}
use Rattle.std.proofs.Math.Seq.{take-add}
use Rattle.std.proofs.lemmas.List.{take-take, length-take, length-take-le, length-drop}
use Rattle.std.proofs.lemmas.List.Sums.{sum_by-append}
use Rattle.hdlc_frames.specs.Framing.{Verdict, frames_of, between_flags, all_but_last, cut}
use Rattle.hdlc_frames.specs.Deframing.{KeptDeframer, feeding_of, kept_of, AddsToFrames}
use Rattle.hdlc_frames.specs.Laws.{StreamGoesOn}
use Rattle.bench_c.specs.FrameCounts.{is_frame, frame_count, found_count}

count_append : (us vs : List Verdict) → frame_count (us ++ vs) ≡ frame_count us + frame_count vs
unfolding frame_count
count_append us vs = sum_by-append (λ v. cond (is_frame v) 1 0) us vs

count_listed : (v : Option Verdict) → frame_count (option_to_list v) ≡ found_count v
unfolding frame_count
count_listed None = refl
count_listed (Some v) = omega arith

-- a part of a stream from `at` on, of which the first `used` octets are used
used_part : (stream : List ℕ) (at end used : ℕ) → used ≤ length (take (end - at) (drop at stream)) → take at stream ++ take used (take (end - at) (drop at stream)) ≡ take (at + used) stream
used_part stream at end used h =
    let fewer : used ≤ end - at = omega (arith, length-take (end - at) (drop at stream)) in
    ap (λ xs. take at stream ++ xs) (take-take used (end - at) (drop at stream) fewer) ∙ sym (take-add at used stream)

pub kept_on : StreamGoesOn → (stream : List ℕ) (at end used : ℕ) (k new : KeptDeframer) → k ≡ kept_of (take at stream) → used ≡ (feeding_of k (take (end - at) (drop at stream))).used → used ≤ length (take (end - at) (drop at stream))
    → new ≡ (feeding_of k (take (end - at) (drop at stream))).kept → new ≡ kept_of (take (at + used) stream)
kept_on goes stream at end used k new kept by within e =
    let piece : List ℕ = take (end - at) (drop at stream) in
    e ∙ ap (λ (h : KeptDeframer). (feeding_of h piece).kept) kept ∙ sym (goes (take at stream) piece).1
    ∙ ap (λ n. kept_of (take at stream ++ take n piece)) (sym (by ∙ ap (λ (h : KeptDeframer). (feeding_of h piece).used) kept))
    ∙ ap kept_of (used_part stream at end used within)

pub count_on : (stream : List ℕ) (at end used : ℕ) (k : KeptDeframer) (v : Option Verdict) (count : ℕ) → k ≡ kept_of (take at stream) → AddsToFrames k (take (end - at) (drop at stream)) used v → used ≤ length (take (end - at) (drop at stream))
    → count ≡ frame_count (frames_of (take at stream)) → count + found_count v ≡ frame_count (frames_of (take (at + used) stream))
count_on stream at end used k v count kept adds within e =
    ap (λ n. n + found_count v) e ∙ ap (λ n. frame_count (frames_of (take at stream)) + n) (sym (count_listed v)) ∙ sym (count_append (frames_of (take at stream)) (option_to_list v))
    ∙ ap frame_count (sym (adds (take at stream) kept)) ∙ ap (λ xs. frame_count (frames_of xs)) (used_part stream at end used within)

pub nothing_yet : 0 ≡ frame_count (frames_of [])
unfolding frame_count frames_of between_flags all_but_last cut
nothing_yet = refl

-- a part has as many octets as its ends are apart
pub part_size : (stream : List ℕ) (at end : ℕ) → end ≤ length stream → length (take (end - at) (drop at stream)) ≡ end - at
part_size stream at end h = length-take-le (end - at) (drop at stream) (omega (arith, length-drop at stream))

-- a call finds one frame at most, and uses an octet
pub few_on : (v : Option Verdict) (count at used : ℕ) → count ≤ at → 0 < used → count + found_count v ≤ at + used
few_on None count at used h more = omega arith
few_on (Some v) count at used h more =
    elim (is_frame v) as (λ b. count + cond b 1 0 ≤ at + used) [
      | true ↦ omega arith
      | false ↦ omega arith
    ]
