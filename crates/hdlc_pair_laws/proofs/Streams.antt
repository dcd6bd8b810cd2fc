-- One frame from flag to flag behind a stream that ends in a flag, or behind nothing: it is the one frame that is new.
use Rattle.std.proofs.Common.{◌≡◌, ℕ, ◌≤◌, ◌⊎◌, inl, inr, List, [], ◌∷◌, ◌++◌, length, drop, refl, sym, ◌∙◌, ap, append_assoc}
use Rattle.std.proofs.lemmas.List.{append-nil}
use Rattle.std.proofs.Math.Seq.{drop-append_seam}
use Rattle.hdlc_frames.specs.Framing.{flag, Frame, cut, between_flags, all_but_last, frames_of}
use Rattle.hdlc_frames.specs.Spelling.{spelling, escaped, content_of}
use Rattle.hdlc_frames.specs.Laws.{FlagParts, FrameAlone}
use Rattle.hdlc_station_model.specs.Events.{news}

-- nothing stands behind the newest flag
abbrev pub AtFlag : List ℕ → Type 0
AtFlag stream = (stream ≡ []) ⊎ ((before : List ℕ) × (stream ≡ before ++ flag ∷ []))

a_flag : frames_of (flag ∷ []) ≡ []
unfolding frames_of between_flags all_but_last cut
a_flag = refl

two_flags : frames_of (flag ∷ flag ∷ []) ≡ []
unfolding frames_of between_flags all_but_last cut
two_flags = refl

nothing_read : frames_of [] ≡ []
unfolding frames_of between_flags all_but_last cut
nothing_read = refl

-- one flag more closes nothing
flag_more : FlagParts → (stream : List ℕ) → AtFlag stream → frames_of (stream ++ flag ∷ []) ≡ frames_of stream
flag_more parts stream (inl none) = rw none (a_flag ∙ sym nothing_read)
flag_more parts stream (inr (before, e)) =
    rw (e, append_assoc) ((parts before (flag ∷ [])).0 ∙ ap (λ vs. frames_of (before ++ flag ∷ []) ++ vs) two_flags ∙ append-nil _)

abbrev inner : ℕ → List ℕ → List ℕ
inner address body = escaped (content_of address body) ++ flag ∷ []

spelled : (address : ℕ) (body : List ℕ) → spelling address body ≡ flag ∷ inner address body
unfolding spelling
spelled address body = refl

pub frame_read : FlagParts → FrameAlone → (stream : List ℕ) (address : ℕ) (body : List ℕ) → AtFlag stream → 1 ≤ length body → length body ≤ 1029
    → frames_of (stream ++ spelling address body) ≡ frames_of stream ++ Frame address body ∷ []
frame_read parts alone stream address body at some fits =
    let e = spelled address body in
    ap (λ os. frames_of (stream ++ os)) e ∙ (parts stream (inner address body)).0
    ∙ ap (λ vs. vs ++ frames_of (flag ∷ inner address body)) (flag_more parts stream at)
    ∙ ap (λ os. frames_of stream ++ frames_of os) (sym e)
    ∙ ap (λ vs. frames_of stream ++ vs) (alone address body some fits)

pub one_new : FlagParts → FrameAlone → (stream : List ℕ) (address : ℕ) (body : List ℕ) → AtFlag stream → 1 ≤ length body → length body ≤ 1029
    → news stream (spelling address body) ≡ Frame address body ∷ []
one_new parts alone stream address body at some fits =
    ap (λ vs. drop (length (frames_of stream)) vs) (frame_read parts alone stream address body at some fits)
    ∙ drop-append_seam (frames_of stream) (Frame address body ∷ [])

pub at_flag_again : (stream : List ℕ) (address : ℕ) (body : List ℕ) → AtFlag (stream ++ spelling address body)
at_flag_again stream address body =
    inr (
      stream ++ flag ∷ escaped (content_of address body),
      ap (λ os. stream ++ os) (spelled address body) ∙ sym (append_assoc stream (flag ∷ escaped (content_of address body)) (flag ∷ [])),
    )
