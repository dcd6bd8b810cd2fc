-- Pieces fed one after another give the frames of what was used of them.
use Rattle.std.proofs.Common.{◌≡◌, ℕ, ◌+◌, ◌-◌, ◌≤◌, List, [], ◌∷◌, ◌++◌, take, drop, refl, sym, ◌∙◌, ap, arith, append_assoc, append-nil}
use Rattle.std.specs.Option.{option_to_list}
use Rattle.std.proofs.Math.Seq.{take-add}
use Rattle.std.proofs.lemmas.List.{append_cancel_left, take-take}
use Rattle.hdlc_fcs.specs.FrameCheck.{sent_bits}
use Rattle.hdlc_bits.specs.Pieces.{bits_between}
use Rattle.hdlc_bits.specs.Framing.{frames_of_bits}
use Rattle.hdlc_bits.specs.Keeping.{KeptBitDeframer, kept_of, kept_after}
use Rattle.hdlc_bits.specs.Laws.{FeedCall, bits_used_by_call, AreFeedCalls, bits_used_by_calls, verdicts_of, VerdictsAreFrames, VerdictsFromTheFirst, SameBitsSameVerdicts, KeptGoesOn, ReadingGoesOn, NothingIsRead, FramesGrow}
use Rattle.hdlc_bits.proofs.RunLaws.{at_first, frames_from, after, frames_of_bits-append, frames_of_bits-nothing}
use Rattle.hdlc_bits.proofs.KeptLaws.{kept_of-append}

pub kept_goes_on : KeptGoesOn
kept_goes_on line bits = kept_of-append line bits

goes_on : (calls : List FeedCall) (line : List ℕ) (before behind : KeptBitDeframer) → before ≡ kept_of line → AreFeedCalls before calls behind
    → (frames_of_bits (line ++ bits_used_by_calls calls) ≡ frames_of_bits line ++ verdicts_of calls) × (behind ≡ kept_of (line ++ bits_used_by_calls calls))
goes_on [] line before behind is a = (ap frames_of_bits (append-nil line) ∙ sym (append-nil (frames_of_bits line)), a ∙ is ∙ ap kept_of (sym (append-nil line)))
goes_on (call ∷ calls) line before behind is (next, (answer, rest)) =
    let used : List ℕ = bits_used_by_call call in
    let others : List ℕ = bits_used_by_calls calls in
    let kept : next ≡ kept_of (line ++ used) = answer.kept ∙ ap (λ (k : KeptBitDeframer). kept_after k used) is ∙ sym (kept_of-append line used) in
    let more = goes_on calls (line ++ used) next behind kept rest in
    let joined : (line ++ used) ++ others ≡ line ++ (used ++ others) = append_assoc line used others in (
      ap frames_of_bits (sym joined) ∙ more.0 ∙ ap (λ vs. vs ++ verdicts_of calls) (answer.frames line is)
          ∙ append_assoc (frames_of_bits line) (option_to_list call.verdict) (verdicts_of calls),
      more.1 ∙ ap kept_of joined,
    )

pub verdicts_are_frames : VerdictsAreFrames
verdicts_are_frames line calls behind a = goes_on calls line (kept_of line) behind refl a

pub verdicts_from_the_first : VerdictsFromTheFirst
verdicts_from_the_first calls behind a = ap (λ vs. vs ++ verdicts_of calls) (sym frames_of_bits-nothing) ∙ sym (goes_on calls [] (kept_of []) behind refl a).0

pub same_bits_same_verdicts : SameBitsSameVerdicts
same_bits_same_verdicts before (line, is) calls others behind other a b same =
    let ours = goes_on calls line before behind is a in
    let theirs = goes_on others line before other is b in (
      append_cancel_left (frames_of_bits line) (verdicts_of calls) (verdicts_of others) (sym ours.0 ∙ ap (λ bits. frames_of_bits (line ++ bits)) same ∙ theirs.0),
      ours.1 ∙ ap (λ bits. kept_of (line ++ bits)) same ∙ sym theirs.1,
    )

-- bits of octets up to a place, and some from there on
used_part : (octets : List ℕ) (at end used : ℕ) → at + used ≤ end → take at (sent_bits octets) ++ take used (bits_between octets at end) ≡ take (at + used) (sent_bits octets)
unfolding bits_between
used_part octets at end used h =
    ap (λ xs. take at (sent_bits octets) ++ xs) (take-take used (end - at) (drop at (sent_bits octets)) (omega arith)) ∙ sym (take-add at used (sent_bits octets))

pub reading_goes_on : ReadingGoesOn
reading_goes_on octets at end used before behind verdict is within adds kept =
    let line : List ℕ = take at (sent_bits octets) in
    let more : List ℕ = take used (bits_between octets at end) in
    let whole = used_part octets at end used within in (
      ap frames_of_bits (sym whole) ∙ adds line is,
      kept ∙ ap (λ (k : KeptBitDeframer). kept_after k more) is ∙ sym (kept_of-append line more) ∙ ap kept_of whole,
    )

pub nothing_is_read : NothingIsRead
nothing_is_read = frames_of_bits-nothing

pub frames_grow : FramesGrow
frames_grow line more = record { rest = frames_from (after at_first line) more; is = frames_of_bits-append line more }
