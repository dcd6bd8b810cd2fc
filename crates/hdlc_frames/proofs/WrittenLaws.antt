-- What a written frame is to a deframer.
use Rattle.std.proofs.Common.{◌≡◌, ◌≢◌, ℕ, zero, suc, ◌+◌, ◌<◌, ◌≤◌, true, List, [], ◌∷◌, ◌++◌, length, take, map, None, Some, refl, sym, ◌∙◌, ap, arith, append_assoc, append-nil, length-append, add-one}
use Rattle.std.specs.Prelude.{flat_map}
use Rattle.std.proofs.lemmas.List.{take-append-le, take_at}
use Rattle.hdlc_fcs.specs.Contents.{content_of}
use Rattle.hdlc_fcs.specs.Laws.{ContentReadsBack}
use Rattle.hdlc_frames.specs.Framing.{flag, Verdict, Frame, verdict_on, has_octets, frames_of}
use Rattle.hdlc_frames.specs.Spelling.{escaped, spelling}
use Rattle.hdlc_frames.specs.Deframing.{KeptDeframer, after_flag, open_piece, kept_since, kept_of, stream_behind_kept, used_behind, feeding_of}
use Rattle.hdlc_frames.specs.Laws.{AreWritable, WrittenAreRead, WrittenIsFirst, WrittenIsFed}
use Rattle.hdlc_frames.proofs.StreamLaws.{verdicts_on, frames_from, piece_from, frames_from-nil, frames_from-cons, frames_from-append, frames_of-append, frames_of-nothing, open_piece-append, none_open, from_flag, closed_by-none, behind-flag, piece_from-cons, piece_from-nil, behind}
use Rattle.hdlc_frames.proofs.SpellingLaws.{no_flag, no_flag_head, no_flag_tail, content_back, content_nonempty, verdict_on_escaped, plain_frames, plain_piece, behind_one_flag, closed_frame, spelling-is, frame_reads_as_itself, flag_parts}
use Rattle.hdlc_frames.proofs.DeframingLaws.{kept_of-nothing, kept_of-is, kept_since-flag}
use Rattle.hdlc_frames.proofs.StreamOfLaws.{no_frames, first_verdict}

-- ---- frames one behind another

behind_flag_nothing : frames_of (flag ∷ []) ≡ []
behind_flag_nothing = behind_one_flag [] ∙ frames_from-nil (Some [])

pub empty_piece : verdicts_on ([] ∷ []) ≡ []
unfolding verdicts_on
empty_piece = refl

-- a flag in front of a frame is no frame
flag_in_front : (xs : List ℕ) → frames_of (flag ∷ flag ∷ xs) ≡ frames_of (flag ∷ xs)
flag_in_front xs = behind_one_flag (flag ∷ xs) ∙ from_flag [] flag xs refl ∙ ap (λ vs. vs ++ frames_from (Some []) xs) empty_piece ∙ sym (behind_one_flag xs)

written_behind : ContentReadsBack → (frames : List (ℕ × List ℕ)) → AreWritable frames
    → frames_of (flag ∷ flat_map (λ frame. spelling frame.0 frame.1) frames) ≡ map (λ frame. Frame frame.0 frame.1) frames
written_behind reads [] h = behind_flag_nothing
written_behind reads (frame ∷ frames) h =
    let rest : List ℕ = flat_map (λ (frame : ℕ × List ℕ). spelling frame.0 frame.1) frames in
    ap (λ xs. frames_of (flag ∷ xs)) (spelling-is frame.0 frame.1 rest)
    ∙ flag_in_front (escaped (content_of frame.0 frame.1) ++ flag ∷ rest)
    ∙ ap frames_of (sym (spelling-is frame.0 frame.1 rest))
    ∙ frame_reads_as_itself reads frame.0 frame.1 rest h.0.0 h.0.1
    ∙ ap (λ vs. Frame frame.0 frame.1 ∷ vs) (written_behind reads frames h.1)

pub written_are_read : ContentReadsBack → WrittenAreRead
written_are_read reads [] h = frames_of-nothing
written_are_read reads (frame ∷ frames) h =
    frame_reads_as_itself reads frame.0 frame.1 (flat_map (λ (frame : ℕ × List ℕ). spelling frame.0 frame.1) frames) h.0.0 h.0.1
    ∙ ap (λ vs. Frame frame.0 frame.1 ∷ vs) (written_behind reads frames h.1)

-- ---- one written frame behind a stream that a flag closes nothing of

-- no frame is in the stream, and a flag behind it closes none
record Quiet (stream : List ℕ) : Type 0 where
  none : frames_of stream ≡ []
  opened : (xs : List ℕ) → frames_from (open_piece stream) (flag ∷ xs) ≡ frames_from (Some []) xs

quiet_nothing : Quiet []
quiet_nothing = record {
  none = frames_of-nothing;
  opened = λ xs.
      ap (λ s. frames_from s (flag ∷ xs)) none_open ∙ frames_from-cons None flag xs ∙ ap (λ vs. vs ++ frames_from (behind None flag) xs) (closed_by-none flag)
      ∙ ap (λ s. frames_from s xs) (behind-flag None flag refl);
}

open_flag : open_piece (flag ∷ []) ≡ Some []
open_flag = open_piece-append [] (flag ∷ []) ∙ piece_from-cons (open_piece []) flag [] ∙ piece_from-nil (behind (open_piece []) flag) ∙ behind-flag (open_piece []) flag refl

quiet_flag : Quiet (flag ∷ [])
quiet_flag = record {
  none = behind_flag_nothing;
  opened = λ xs. ap (λ s. frames_from s (flag ∷ xs)) open_flag ∙ from_flag [] flag xs refl ∙ ap (λ vs. vs ++ frames_from (Some []) xs) empty_piece;
}

pub no_flag_take : (n : ℕ) (xs : List ℕ) → no_flag xs ≡ true → no_flag (take n xs) ≡ true
unfolding no_flag
no_flag_take zero xs h = refl
no_flag_take (suc n) [] h = refl
no_flag_take (suc n) (x ∷ xs) h = rw (no_flag_head x xs h) (no_flag_take n xs (no_flag_tail x xs h))

-- the frames of a stream and a flag with octets behind it
behind_quiet : (stream xs : List ℕ) → Quiet stream → frames_of (stream ++ flag ∷ xs) ≡ frames_from (Some []) xs
behind_quiet stream xs quiet = frames_of-append stream (flag ∷ xs) ∙ ap (λ vs. vs ++ frames_from (open_piece stream) (flag ∷ xs)) quiet.none ∙ quiet.opened xs

-- a part of a written frame
part_of_written : (stream e rest : List ℕ) (j : ℕ) → Quiet stream → no_flag e ≡ true → j < length e + 2 → frames_of (stream ++ take j (flag ∷ (e ++ flag ∷ rest))) ≡ []
part_of_written stream e rest zero quiet plain h = ap frames_of (append-nil stream) ∙ quiet.none
part_of_written stream e rest (suc i) quiet plain h =
    ap (λ xs. frames_of (stream ++ flag ∷ xs)) (take-append-le i e (flag ∷ rest) (omega arith))
    ∙ behind_quiet stream (take i e) quiet ∙ plain_frames (take i e) [] (no_flag_take i e plain)

whole_written : (e rest : List ℕ) → take (length e + 2) (flag ∷ (e ++ flag ∷ rest)) ≡ flag ∷ (e ++ flag ∷ [])
whole_written e rest =
    let two : length e + 2 ≡ suc (length e + 1) = omega arith in
    let size : length (e ++ flag ∷ []) ≡ length e + 1 = length-append e (flag ∷ []) in
    rw two (ap (λ xs. flag ∷ take (length e + 1) xs) (sym (append_assoc e (flag ∷ []) rest)) ∙ ap (λ xs. flag ∷ xs) (take_at (e ++ flag ∷ []) rest (length e + 1) size))

closed_once : (e : List ℕ) → no_flag e ≡ true → has_octets e ≡ true → frames_from (Some []) (e ++ flag ∷ []) ≡ verdict_on e ∷ []
closed_once e plain some =
    frames_from-append e (Some []) (flag ∷ []) ∙ ap (λ vs. vs ++ frames_from (piece_from (Some []) e) (flag ∷ [])) (plain_frames e [] plain)
    ∙ ap (λ s. frames_from s (flag ∷ [])) (plain_piece e [] plain) ∙ from_flag e flag [] refl
    ∙ ap (λ vs. vs ++ frames_from (Some []) []) (closed_frame e some) ∙ ap (λ vs. verdict_on e ∷ vs) (frames_from-nil (Some []))

written_size : (a : ℕ) (body : List ℕ) → length (spelling a body) ≡ length (escaped (content_of a body)) + 2
unfolding spelling
written_size a body = omega (arith, length-append (escaped (content_of a body)) (flag ∷ []))

not_empty : (v : Verdict) (vs : List Verdict) → vs ≡ v ∷ [] → vs ≢ []
not_empty v vs e f = cc

pub written_is_first : ContentReadsBack → WrittenIsFirst
written_is_first reads a body rest =
    let e : List ℕ = escaped (content_of a body) in
    let plain : no_flag e ≡ true = (content_back (content_of a body)).0 in
    let whole : frames_of (take (length e + 2) (flag ∷ (e ++ flag ∷ rest))) ≡ verdict_on e ∷ [] =
    ap frames_of (whole_written e rest) ∙ behind_quiet [] (e ++ flag ∷ []) quiet_nothing ∙ closed_once e plain (content_nonempty reads a body) in
    rw (written_size a body, spelling-is a body rest) (
      omega (arith, length-append e (flag ∷ rest)),
      not_empty (verdict_on e) _ whole,
      λ k lt. part_of_written [] e rest k quiet_nothing plain lt,
    )

-- ---- feeding it

used_first : (xs stream : List ℕ) (n : ℕ) (v : Verdict) → frames_of stream ≡ [] → n ≤ length xs → ((j : ℕ) → j < n → frames_of (stream ++ take j xs) ≡ []) → frames_of (stream ++ take n xs) ≡ v ∷ []
    → used_behind stream xs ≡ n
unfolding used_behind
used_first xs stream zero v none inside before here = let other = ap frames_of (append-nil stream) ∙ none in cc
used_first [] stream (suc m) v none inside before here = absurd (omega arith)
used_first (x ∷ xs) stream (suc zero) v none inside before here = rw here refl
used_first (x ∷ xs) stream (suc (suc m)) v none inside before here =
    let one : frames_of (stream ++ x ∷ []) ≡ [] = before 1 (omega arith) in
    let onward = used_first xs (stream ++ x ∷ []) (suc m) v one (omega arith)
    (λ j lt. ap frames_of (append_assoc stream (x ∷ []) (take j xs)) ∙ before (suc j) (omega arith))
    (ap frames_of (append_assoc stream (x ∷ []) (take (suc m) xs)) ∙ here) in
    rw one (ap (λ n. n + 1) onward ∙ add-one (suc m))

kept_flag : kept_of (flag ∷ []) ≡ after_flag
kept_flag = kept_of-is (flag ∷ []) ∙ ap kept_since open_flag ∙ kept_since-flag

feeding_by_first : (k : KeptDeframer) (piece : List ℕ) (n : ℕ) (v : Verdict) (next : KeptDeframer) → n ≤ length piece → ((j : ℕ) → j < n → frames_of (stream_behind_kept k ++ take j piece) ≡ []) → frames_of (stream_behind_kept k ++ take n piece) ≡ v ∷ []
    → kept_of (stream_behind_kept k ++ take n piece) ≡ next → feeding_of k piece ≡ record { used = n; verdict = Some v; kept = next }
unfolding feeding_of
feeding_by_first k piece n v next inside before here kept =
    let none = no_frames k in
    rw (used_first piece (stream_behind_kept k) n v none inside before here, first_verdict (stream_behind_kept k) piece (Some v) n none here (λ e. cc), kept) refl

feeding_written : ContentReadsBack → (k : KeptDeframer) (stream : List ℕ) → stream_behind_kept k ≡ stream → Quiet stream → (a : ℕ) (body rest : List ℕ) → 1 ≤ length body → length body ≤ 1029
    → feeding_of k (spelling a body ++ rest) ≡ record { used = length (spelling a body); verdict = Some (Frame a body); kept = after_flag }
feeding_written reads k stream is quiet a body rest some fits =
    let e : List ℕ = escaped (content_of a body) in
    let plain : no_flag e ≡ true = (content_back (content_of a body)).0 in
    let whole : frames_of (stream ++ take (length e + 2) (flag ∷ (e ++ flag ∷ rest))) ≡ Frame a body ∷ [] =
    ap (λ xs. frames_of (stream ++ xs)) (whole_written e rest) ∙ behind_quiet stream (e ++ flag ∷ []) quiet
    ∙ closed_once e plain (content_nonempty reads a body) ∙ ap (λ (v : Verdict). v ∷ []) (verdict_on_escaped reads a body some fits) in
    let kept : kept_of (stream ++ take (length e + 2) (flag ∷ (e ++ flag ∷ rest))) ≡ after_flag =
    ap (λ xs. kept_of (stream ++ xs)) (whole_written e rest) ∙ ap kept_of (sym (append_assoc stream (flag ∷ e) (flag ∷ [])))
    ∙ (flag_parts (stream ++ flag ∷ e) []).1 ∙ kept_flag in
    rw (written_size a body, spelling-is a body rest)
    (feeding_by_first k (flag ∷ (e ++ flag ∷ rest)) (length e + 2) (Frame a body) after_flag
    (omega (arith, length-append e (flag ∷ rest)))
    (λ j lt. ap (λ xs. frames_of (xs ++ take j (flag ∷ (e ++ flag ∷ rest)))) is ∙ part_of_written stream e rest j quiet plain lt)
    (ap (λ xs. frames_of (xs ++ take (length e + 2) (flag ∷ (e ++ flag ∷ rest)))) is ∙ whole)
    (ap (λ xs. kept_of (xs ++ take (length e + 2) (flag ∷ (e ++ flag ∷ rest)))) is ∙ kept))

stream_after_flag : stream_behind_kept after_flag ≡ flag ∷ []
unfolding stream_behind_kept escaped
stream_after_flag = refl

stream_fresh : stream_behind_kept (kept_of []) ≡ []
unfolding stream_behind_kept
stream_fresh = ap stream_behind_kept kept_of-nothing

pub written_is_fed : ContentReadsBack → WrittenIsFed
written_is_fed reads a body rest some fits = (
  feeding_written reads after_flag (flag ∷ []) stream_after_flag quiet_flag a body rest some fits,
  feeding_written reads (kept_of []) [] stream_fresh quiet_nothing a body rest some fits,
)
