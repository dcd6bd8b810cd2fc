-- The octets that a call uses are those up to the flag that closes the first frame.
use Rattle.std.proofs.Common.{◌≡◌, inl, inr, ◌+◌, ◌<◌, ◌≤◌, ◌∙◌, ℕ, zero, suc, true, false, List, [], ◌∷◌, ◌++◌, length, take, Option, Some, None, refl, sym, ap, subst, arith, append-nil, append_assoc, add-one}
use Rattle.std.specs.Prelude.{if◌then◌else◌, is_some}
use Rattle.std.proofs.lemmas.List.{append_cancel_left}
use Rattle.std.proofs.lemmas.Bool.{cases_Bool}
use Rattle.er_base.specs.declared.release.Release.{Release as Why}
use Rattle.hdlc_frames.specs.Framing.{Verdict, frames_of}
use Rattle.hdlc_frames.specs.Deframing.{KeptDeframer, kept_of, stream_behind_kept, has_verdicts, used_behind, feeding_of}
use Rattle.hdlc_frames.specs.Laws.{KeptStandsForStream}
use Rattle.er_end_model.specs.Layers.{Core}
use Rattle.er_end_model.specs.Ends.{End}
use Rattle.er_end.specs.KeptEnds.{KEnd, used_of}
use Rattle.er_end.specs.Standing.{EndStands}
use Rattle.er_end_c.specs.Calls.{HandleCall, Start, Octets, Send, Take, Release, Tick, Ended, Fault, Stalled, octet_count_of_call}
use Rattle.er_end_c.specs.Used.{UsesToFirstFrame, UsesOfPiece, UsesOctets}

-- ---- behind a stream with no frame in it

most : (before piece : List ℕ) → used_behind before piece ≤ length piece
unfolding used_behind
most before [] = omega arith
most before (x ∷ xs) =
    let h : used_behind (before ++ x ∷ []) xs ≤ length xs = most (before ++ x ∷ []) xs in
    elim (cases_Bool (has_verdicts (frames_of (before ++ x ∷ [])))) [ inl p ↦ rw p (omega arith) | inr p ↦ rw p (omega arith) ]

none : (vs : List Verdict) → has_verdicts vs ≡ false → vs ≡ []
none [] e = refl
none (v ∷ vs) e = absurd (cc e)

some : (vs : List Verdict) → has_verdicts vs ≡ true → vs ≡ [] → ⊥
some [] e n = absurd (cc e)
some (v ∷ vs) e n = absurd (cc n)

fewer : (piece before : List ℕ) (n : ℕ) → frames_of before ≡ [] → n < used_behind before piece → frames_of (before ++ take n piece) ≡ []
unfolding used_behind
fewer [] before n e l = absurd (omega (arith, l))
fewer (x ∷ xs) before zero e l = ap frames_of (append-nil before) ∙ e
fewer (x ∷ xs) before (suc n) e l =
    elim (cases_Bool (has_verdicts (frames_of (before ++ x ∷ [])))) [
      | inl p ↦ absurd (omega (arith, subst (λ b. suc n < (if b then 1 else used_behind (before ++ x ∷ []) xs + 1)) p l))
      | inr p ↦
          let less : n < used_behind (before ++ x ∷ []) xs = omega (arith, subst (λ b. suc n < (if b then 1 else used_behind (before ++ x ∷ []) xs + 1)) p l) in
          ap frames_of (sym (append_assoc before (x ∷ []) (take n xs))) ∙ fewer xs (before ++ x ∷ []) n (none (frames_of (before ++ x ∷ [])) p) less
    ]

left : (piece before : List ℕ) → used_behind before piece < length piece → frames_of (before ++ take (used_behind before piece) piece) ≡ [] → ⊥
unfolding used_behind
left [] before l e = absurd (omega (arith, l))
left (x ∷ xs) before l e =
    elim (cases_Bool (has_verdicts (frames_of (before ++ x ∷ [])))) [
      | inl p ↦ some (frames_of (before ++ x ∷ [])) p (subst (λ b. frames_of (before ++ take (if b then 1 else used_behind (before ++ x ∷ []) xs + 1) (x ∷ xs)) ≡ []) p e)
      | inr p ↦
          let less : used_behind (before ++ x ∷ []) xs < length xs = omega (arith, subst (λ b. (if b then 1 else used_behind (before ++ x ∷ []) xs + 1) < suc (length xs)) p l) in
          left xs (before ++ x ∷ []) less
          (ap frames_of (append_assoc before (x ∷ []) (take (used_behind (before ++ x ∷ []) xs) xs))
          ∙ subst (λ n. frames_of (before ++ take n (x ∷ xs)) ≡ []) (add-one (used_behind (before ++ x ∷ []) xs))
          (subst (λ b. frames_of (before ++ take (if b then 1 else used_behind (before ++ x ∷ []) xs + 1) (x ∷ xs)) ≡ []) p e))
    ]

-- ---- behind any stream

to_first : KeptStandsForStream → (stream piece : List ℕ) → UsesToFirstFrame stream piece (used_behind (stream_behind_kept (kept_of stream)) piece)
to_first stands stream piece =
    let g : List ℕ = stream_behind_kept (kept_of stream) in
    let clear : frames_of g ≡ [] = (stands stream []).0.1 in
    let goes : (octets : List ℕ) → frames_of (stream ++ octets) ≡ frames_of stream ++ frames_of (g ++ octets) = λ octets. (stands stream octets).1.0 in
    record {
      within = most g piece;
      first = λ n l. goes (take n piece) ∙ ap (λ vs. frames_of stream ++ vs) (fewer piece g n clear l) ∙ append-nil (frames_of stream);
      closes = λ l e. left piece g l (append_cancel_left (frames_of stream) (frames_of (g ++ take (used_behind g piece) piece)) []
          (sym (goes (take (used_behind g piece) piece)) ∙ e ∙ sym (append-nil (frames_of stream))));
    }

of_piece : KeptStandsForStream → (k : KEnd) (piece stream : List ℕ) (released : Option Why) → k.core.released ≡ released
    → (released ≡ None → k.deframer ≡ kept_of stream) → UsesOfPiece released stream piece (used_of k piece)
unfolding used_of feeding_of
of_piece stands k piece stream None e fed =
    let unreleased : is_some k.core.released ≡ false = ap is_some e in
    rw unreleased (subst (λ (d : KeptDeframer). UsesToFirstFrame stream piece (used_behind (stream_behind_kept d) piece)) (sym (fed refl)) (to_first stands stream piece))
of_piece stands k piece stream (Some why) e fed = let over : is_some k.core.released ≡ true = ap is_some e in rw over refl

pub uses_octets : KeptStandsForStream → (call : HandleCall) (k : KEnd) (m : End) → EndStands k m → UsesOctets call m (octet_count_of_call call k)
uses_octets stands (Start now) k m tied = refl
uses_octets stands (Octets now piece) k m tied = of_piece stands k piece m.stream m.core.released (sym (ap (λ (y : Core). y.released) tied.core.same)) tied.fed
uses_octets stands (Send now text) k m tied = refl
uses_octets stands (Take now) k m tied = refl
uses_octets stands (Release now sub) k m tied = refl
uses_octets stands (Tick now) k m tied = refl
uses_octets stands Ended k m tied = refl
uses_octets stands Fault k m tied = refl
uses_octets stands Stalled k m tied = refl
