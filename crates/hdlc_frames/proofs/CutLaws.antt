-- Pieces fed one after another give the frames of what was used of them.
use Rattle.std.proofs.Common.{◌≡◌, ℕ, zero, suc, ◌≤◌, List, [], ◌∷◌, ◌++◌, length, take, drop, refl, sym, ◌∙◌, ap, arith, append_assoc, append-nil}
use Rattle.std.specs.Option.{option_to_list}
use Rattle.std.specs.Prelude.{flat_map}
use Rattle.std.proofs.lemmas.List.{take-append-drop, length-drop}
use Rattle.hdlc_frames.specs.Framing.{frames_of}
use Rattle.hdlc_frames.specs.Deframing.{KeptDeframer, stream_behind_kept, IsKeptOfStream, Feeding, feeding_of, kept_of}
use Rattle.hdlc_frames.specs.Laws.{octets_used_of_pieces, verdicts_of, kept_behind_pieces, pieces_fed_again, kept_after_feedings, verdicts_on_cut, kept_on_cut, KeptStandsForStream, VerdictsAreFrames, FeedingGoesOn, SameOctetsSameVerdicts, StreamGoesOn, AnyCutIsWhole, CutGoesOn, SameOctetsSameCut}
use Rattle.hdlc_frames.proofs.StreamLaws.{frames_of-nothing}
use Rattle.hdlc_frames.proofs.StreamOfLaws.{can_be_kept, kept_again, no_frames, feeding_frames, feeding_kept, feeding_moves}

-- behind a stream: the frames of the stream and then the verdicts
verdicts_behind : (pieces : List (List ℕ)) (stream : List ℕ) → frames_of stream ++ verdicts_of (kept_of stream) pieces ≡ frames_of (stream ++ octets_used_of_pieces (kept_of stream) pieces)
verdicts_behind [] stream = append-nil (frames_of stream) ∙ ap frames_of (sym (append-nil stream))
verdicts_behind (piece ∷ pieces) stream =
    let f : Feeding = feeding_of (kept_of stream) piece in
    let more : List ℕ = take f.used piece in
    let frames : frames_of (stream ++ more) ≡ frames_of stream ++ option_to_list f.verdict = feeding_frames stream piece in
    let kept : kept_of (stream ++ more) ≡ f.kept = feeding_kept stream piece in
    sym (append_assoc (frames_of stream) (option_to_list f.verdict) (verdicts_of f.kept pieces))
    ∙ ap (λ v. v ++ verdicts_of f.kept pieces) (sym frames)
    ∙ ap (λ (k : KeptDeframer). frames_of (stream ++ more) ++ verdicts_of k pieces) (sym kept)
    ∙ verdicts_behind pieces (stream ++ more)
    ∙ ap (λ (k : KeptDeframer). frames_of ((stream ++ more) ++ octets_used_of_pieces k pieces)) kept
    ∙ ap frames_of (append_assoc stream more (octets_used_of_pieces f.kept pieces))

pub verdicts_are_frames : VerdictsAreFrames
verdicts_are_frames pieces = ap (λ v. v ++ verdicts_of (kept_of []) pieces) (sym frames_of-nothing) ∙ verdicts_behind pieces []

pub same_octets_same_verdicts : SameOctetsSameVerdicts
same_octets_same_verdicts pieces others e = verdicts_are_frames pieces ∙ ap frames_of e ∙ sym (verdicts_are_frames others)

kept_behind_used : (pieces : List (List ℕ)) (stream : List ℕ) → kept_of (stream ++ octets_used_of_pieces (kept_of stream) pieces) ≡ kept_behind_pieces (kept_of stream) pieces
kept_behind_used [] stream = ap kept_of (append-nil stream)
kept_behind_used (piece ∷ pieces) stream =
    let f : Feeding = feeding_of (kept_of stream) piece in
    let more : List ℕ = take f.used piece in
    let kept : kept_of (stream ++ more) ≡ f.kept = feeding_kept stream piece in
    ap kept_of (sym (append_assoc stream more (octets_used_of_pieces f.kept pieces)))
    ∙ ap (λ (k : KeptDeframer). kept_of ((stream ++ more) ++ octets_used_of_pieces k pieces)) (sym kept)
    ∙ kept_behind_used pieces (stream ++ more)
    ∙ ap (λ (k : KeptDeframer). kept_behind_pieces k pieces) kept

pub feeding_goes_on : FeedingGoesOn
feeding_goes_on stream pieces = (sym (verdicts_behind pieces stream), kept_behind_used pieces stream)

pub goes_on : StreamGoesOn
goes_on stream piece = (feeding_frames stream piece, feeding_kept stream piece)

-- ---- rounds over one piece

rest_shorter : (octets : List ℕ) (stream : List ℕ) (n : ℕ) → length octets ≤ suc n → length (drop (feeding_of (kept_of stream) octets).used octets) ≤ n
rest_shorter [] stream n h = omega (arith, length-drop {A = ℕ} (feeding_of (kept_of stream) []).used [])
rest_shorter (x ∷ xs) stream n h = omega (arith, length-drop (feeding_of (kept_of stream) (x ∷ xs)).used (x ∷ xs), feeding_moves stream (x ∷ xs) (omega arith))

-- the rounds use all octets
rounds_use : (n : ℕ) (stream octets : List ℕ) → length octets ≤ n → octets_used_of_pieces (kept_of stream) (pieces_fed_again n (kept_of stream) octets) ≡ octets
rounds_use zero stream [] h = refl
rounds_use zero stream (x ∷ xs) h = absurd (omega arith)
rounds_use (suc n) stream octets h =
    let f : Feeding = feeding_of (kept_of stream) octets in
    let more : List ℕ = take f.used octets in
    let rest : List ℕ = drop f.used octets in
    let kept : kept_of (stream ++ more) ≡ f.kept = feeding_kept stream octets in
    let fewer : length rest ≤ n = rest_shorter octets stream n h in
    ap (λ (k : KeptDeframer). more ++ octets_used_of_pieces k (pieces_fed_again n k rest)) (sym kept)
    ∙ ap (λ ys. more ++ ys) (rounds_use n (stream ++ more) rest fewer)
    ∙ take-append-drop f.used octets

kept_after_used : (n : ℕ) (stream octets : List ℕ) → length octets ≤ n → kept_after_feedings n (kept_of stream) octets ≡ kept_of (stream ++ octets)
kept_after_used zero stream [] h = ap kept_of (sym (append-nil stream))
kept_after_used zero stream (x ∷ xs) h = absurd (omega arith)
kept_after_used (suc n) stream octets h =
    let f : Feeding = feeding_of (kept_of stream) octets in
    let more : List ℕ = take f.used octets in
    let rest : List ℕ = drop f.used octets in
    let kept : kept_of (stream ++ more) ≡ f.kept = feeding_kept stream octets in
    let fewer : length rest ≤ n = rest_shorter octets stream n h in
    ap (λ (k : KeptDeframer). kept_after_feedings n k rest) (sym kept)
    ∙ kept_after_used n (stream ++ more) rest fewer
    ∙ ap kept_of (append_assoc stream more rest ∙ ap (λ ys. stream ++ ys) (take-append-drop f.used octets))

-- ---- all pieces of a cut

cut_behind : (pieces : List (List ℕ)) (stream : List ℕ) → frames_of stream ++ verdicts_on_cut (kept_of stream) pieces ≡ frames_of (stream ++ flat_map (λ piece. piece) pieces)
unfolding verdicts_on_cut
cut_behind [] stream = append-nil (frames_of stream) ∙ ap frames_of (sym (append-nil stream))
cut_behind (piece ∷ pieces) stream =
    let k : KeptDeframer = kept_of stream in
    let calls : List (List ℕ) = pieces_fed_again (length piece) k piece in
    let used : octets_used_of_pieces k calls ≡ piece = rounds_use (length piece) stream piece (omega arith) in
    let kept : kept_after_feedings (length piece) k piece ≡ kept_of (stream ++ piece) = kept_after_used (length piece) stream piece (omega arith) in
    let others : List ℕ = flat_map (λ piece. piece) pieces in
    sym (append_assoc (frames_of stream) (verdicts_of k calls) (verdicts_on_cut (kept_after_feedings (length piece) k piece) pieces))
    ∙ ap (λ v. v ++ verdicts_on_cut (kept_after_feedings (length piece) k piece) pieces) (verdicts_behind calls stream)
    ∙ ap (λ ys. frames_of (stream ++ ys) ++ verdicts_on_cut (kept_after_feedings (length piece) k piece) pieces) used
    ∙ ap (λ (j : KeptDeframer). frames_of (stream ++ piece) ++ verdicts_on_cut j pieces) kept
    ∙ cut_behind pieces (stream ++ piece)
    ∙ ap frames_of (append_assoc stream piece others)

pub any_cut_is_whole : AnyCutIsWhole
any_cut_is_whole pieces = ap (λ v. v ++ verdicts_on_cut (kept_of []) pieces) (sym frames_of-nothing) ∙ cut_behind pieces []

cut_kept : (pieces : List (List ℕ)) (stream : List ℕ) → kept_of (stream ++ flat_map (λ piece. piece) pieces) ≡ kept_on_cut (kept_of stream) pieces
unfolding kept_on_cut
cut_kept [] stream = ap kept_of (append-nil stream)
cut_kept (piece ∷ pieces) stream =
    let kept : kept_after_feedings (length piece) (kept_of stream) piece ≡ kept_of (stream ++ piece) = kept_after_used (length piece) stream piece (omega arith) in
    ap kept_of (sym (append_assoc stream piece (flat_map (λ piece. piece) pieces)))
    ∙ cut_kept pieces (stream ++ piece)
    ∙ ap (λ (k : KeptDeframer). kept_on_cut k pieces) (sym kept)

pub cut_goes_on : CutGoesOn
cut_goes_on stream pieces = (sym (cut_behind pieces stream), cut_kept pieces stream)

-- ---- from what is kept alone

pub kept_stands_for_stream : KeptStandsForStream
kept_stands_for_stream stream octets =
    let k : KeptDeframer = kept_of stream in
    let is : kept_of (stream_behind_kept k) ≡ k = kept_again k (can_be_kept stream) in
    let none : frames_of (stream_behind_kept k) ≡ [] = no_frames k in
    let whole : flat_map (λ piece. piece) (octets ∷ []) ≡ octets = append-nil octets in
    let ours = cut_goes_on stream (octets ∷ []) in
    let theirs = cut_goes_on (stream_behind_kept k) (octets ∷ []) in (
      (is, none),
      (
        ap (λ xs. frames_of (stream ++ xs)) (sym whole) ∙ ours.0
            ∙ ap (λ vs. frames_of stream ++ vs)
            (ap (λ (j : KeptDeframer). verdicts_on_cut j (octets ∷ [])) (sym is) ∙ ap (λ vs. vs ++ verdicts_on_cut (kept_of (stream_behind_kept k)) (octets ∷ [])) (sym none)
            ∙ sym theirs.0 ∙ ap (λ xs. frames_of (stream_behind_kept k ++ xs)) whole),
        ap (λ xs. kept_of (stream ++ xs)) (sym whole) ∙ ours.1 ∙ ap (λ (j : KeptDeframer). kept_on_cut j (octets ∷ [])) (sym is)
            ∙ sym theirs.1 ∙ ap (λ xs. kept_of (stream_behind_kept k ++ xs)) whole,
      ),
    )

same_verdicts : (k : KeptDeframer) → IsKeptOfStream k → (pieces : List (List ℕ)) → (verdicts_on_cut k pieces ≡ frames_of (stream_behind_kept k ++ flat_map (λ piece. piece) pieces)) × (kept_on_cut k pieces ≡ kept_of (stream_behind_kept k ++ flat_map (λ piece. piece) pieces))
same_verdicts k is pieces = (
  ap (λ (j : KeptDeframer). verdicts_on_cut j pieces) (sym is) ∙ ap (λ vs. vs ++ verdicts_on_cut (kept_of (stream_behind_kept k)) pieces) (sym (no_frames k)) ∙ cut_behind pieces (stream_behind_kept k),
  ap (λ (j : KeptDeframer). kept_on_cut j pieces) (sym is) ∙ sym (cut_kept pieces (stream_behind_kept k)),
)

pub same_octets_same_cut : SameOctetsSameCut
same_octets_same_cut k is pieces others e =
    let ours = same_verdicts k is pieces in
    let theirs = same_verdicts k is others in
    (ours.0 ∙ ap (λ xs. frames_of (stream_behind_kept k ++ xs)) e ∙ sym theirs.0, ours.1 ∙ ap (λ xs. kept_of (stream_behind_kept k ++ xs)) e ∙ sym theirs.1)
