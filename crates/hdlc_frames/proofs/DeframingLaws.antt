-- What a deframer keeps and answers, by the frames of the whole stream.
use Rattle.std.proofs.Common.{◌≡◌, ℕ, zero, suc, ◌<◌, ◌≤◌, Bool, true, false, ◌==◌, List, [], ◌∷◌, ◌++◌, length, take, Option, None, Some, refl, sym, ◌∙◌, ap, arith, inl, inr, append-nil, bit_xor, if◌then◌else◌, add-one}
use Rattle.std.specs.Option.{option_to_list}
use Rattle.std.specs.Prelude.{option_map, IsNone}
use Rattle.hdlc_frames.specs.Shown.{verdict_of_octets_found}
use Rattle.hdlc_frames.specs.declared.found.Found.{Found}
use Rattle.std.proofs.lemmas.Bool.{cases_Bool}
use Rattle.hdlc_frames.specs.Framing.{flag, escape, Verdict, unescaped, ends_in_escape, verdict_on, has_octets, frames_of, cut}
use Rattle.hdlc_frames.specs.Deframing.{KeptDeframer, after_flag, Feeding, open_piece, kept_since, kept_of}
use Rattle.hdlc_frames.specs.Scanning.{after_inner, after_octet, closing_verdict, verdict_at, octet_scan, scan_of}
use Rattle.hdlc_frames.proofs.StreamLaws.{behind, verdicts_on, closed_by, frames_from, piece_from, closed_by-flag, closed_by-other, behind-flag, behind-other, behind-before, frames_from-cons, piece_from-cons, frames_from-nil, piece_from-nil, frames_of-append, open_piece-append, closed_by-none}
use Rattle.hdlc_frames.proofs.PieceLaws.{added, opens, ends_in_escape-push, unescaped-push, has_content, take-push, verdict_on_kept, has_octets-take}

-- ---- what is kept after one octet

abbrev kept_with : Bool → List ℕ → KeptDeframer
kept_with escaping content = record { begun = true; escaping = escaping; content = take 1033 content }

kept_since-some : (p : List ℕ) → kept_since (Some p) ≡ kept_with (ends_in_escape p false) (unescaped p false)
unfolding kept_since
kept_since-some p = refl

kept_since-none : kept_since None ≡ record { begun = false; escaping = false; content = [] }
unfolding kept_since
kept_since-none = refl

pub kept_since-flag : kept_since (Some []) ≡ after_flag
unfolding kept_since unescaped ends_in_escape
kept_since-flag = refl

inner_at : (b : Bool) (c : List ℕ) (x : ℕ) → after_inner (kept_with b c) x ≡ kept_with (opens b x) (c ++ added b x)
unfolding opens added
inner_at true c x = ap (λ (d : List ℕ). record { begun = true; escaping = false; content = d }) (take-push 1033 c (bit_xor x 0x20))
inner_at false c x =
    elim (cases_Bool (x == escape)) [
      | inl t ↦ rw t (ap (λ (d : List ℕ). record { begun = true; escaping = true; content = take 1033 d }) (sym (append-nil c)))
      | inr f ↦ rw f (ap (λ (d : List ℕ). record { begun = true; escaping = false; content = d }) (take-push 1033 c x))
    ]

inner : (p : List ℕ) (x : ℕ) → after_inner (kept_since (Some p)) x ≡ kept_since (Some (p ++ x ∷ []))
inner p x =
    ap (λ (k : KeptDeframer). after_inner k x) (kept_since-some p) ∙ inner_at (ends_in_escape p false) (unescaped p false) x
    ∙ ap (λ b. kept_with b (unescaped p false ++ added (ends_in_escape p false) x)) (sym (ends_in_escape-push p false x))
    ∙ ap (λ c. kept_with (ends_in_escape (p ++ x ∷ []) false) c) (sym (unescaped-push p false x))
    ∙ sym (kept_since-some (p ++ x ∷ []))

after_octet-flag : (k : KeptDeframer) (x : ℕ) → (x == flag) ≡ true → after_octet k x ≡ after_flag
after_octet-flag k x t = rw t refl

after_octet-other : (k : KeptDeframer) (x : ℕ) → (x == flag) ≡ false → after_octet k x ≡ (if k.begun then after_inner k x else k)
after_octet-other k x f = rw f refl

kept_since-begun : (p : List ℕ) → (kept_since (Some p)).begun ≡ true
unfolding kept_since
kept_since-begun p = refl

other : (s : Option (List ℕ)) (x : ℕ) → (x == flag) ≡ false → (if (kept_since s).begun then after_inner (kept_since s) x else kept_since s) ≡ kept_since (behind s x)
unfolding kept_since
other None x f = rw (behind-before x f) refl
other (Some p) x f = rw (behind-other p x f) (inner p x)

pub kept_since-octet : (s : Option (List ℕ)) (x : ℕ) → after_octet (kept_since s) x ≡ kept_since (behind s x)
kept_since-octet s x =
    elim (cases_Bool (x == flag)) [
      | inl t ↦ after_octet-flag (kept_since s) x t ∙ sym (ap kept_since (behind-flag s x t) ∙ kept_since-flag)
      | inr f ↦ after_octet-other (kept_since s) x f ∙ other s x f
    ]

-- ---- the verdict that one octet brings

closing_empty : option_to_list (closing_verdict (kept_with (ends_in_escape [] false) (unescaped [] false))) ≡ verdicts_on ([] ∷ [])
unfolding verdicts_on unescaped ends_in_escape
closing_empty = refl

closing_some : (x : ℕ) (p : List ℕ) (b : Bool) → ends_in_escape (x ∷ p) false ≡ b → option_to_list (closing_verdict (kept_with b (unescaped (x ∷ p) false))) ≡ verdicts_on ((x ∷ p) ∷ [])
unfolding verdicts_on verdict_on
closing_some x p true e = rw e refl
closing_some x p false e =
    let some = has_content (x ∷ p) false refl e in
    let kept : has_octets (take 1033 (unescaped (x ∷ p) false)) ≡ true = has_octets-take 1032 (unescaped (x ∷ p) false) ∙ some in
    rw (e, kept, verdict_on_kept (unescaped (x ∷ p) false)) refl

closing_piece : (p : List ℕ) → option_to_list (closing_verdict (kept_with (ends_in_escape p false) (unescaped p false))) ≡ verdicts_on (p ∷ [])
closing_piece [] = closing_empty
closing_piece (x ∷ p) = closing_some x p (ends_in_escape (x ∷ p) false) refl

closing_of : (s : Option (List ℕ)) (x : ℕ) → (x == flag) ≡ true → option_to_list (closing_verdict (kept_since s)) ≡ closed_by s x
closing_of None x t = ap (λ (k : KeptDeframer). option_to_list (closing_verdict k)) kept_since-none ∙ sym (closed_by-none x)
closing_of (Some p) x t = ap (λ (k : KeptDeframer). option_to_list (closing_verdict k)) (kept_since-some p) ∙ closing_piece p ∙ sym (closed_by-flag p x t)

pub verdict_of_octet : (s : Option (List ℕ)) (x : ℕ) → option_to_list (verdict_at (kept_since s) x) ≡ closed_by s x
verdict_of_octet s x =
    elim (cases_Bool (x == flag)) [
      | inl t ↦ rw t (closing_of s x t)
      | inr f ↦ rw f (sym (closed_by-other s x f))
    ]

-- ---- a piece

-- what going through a piece gives, where the piece `s` stands behind the newest flag
pub record Answers (s : Option (List ℕ)) (piece : List ℕ) (f : Feeding) : Type 0 where
  pub within : f.used ≤ length piece
  pub kept : f.kept ≡ kept_since (piece_from s (take f.used piece))
  pub verdict : frames_from s (take f.used piece) ≡ option_to_list f.verdict
  pub first : (k : ℕ) → k < f.used → frames_from s (take k piece) ≡ []
  pub whole : f.verdict ≡ None → f.used ≡ length piece

before : (s : Option (List ℕ)) (x : ℕ) (xs : List ℕ) (n : ℕ) → closed_by s x ≡ [] → ((k : ℕ) → k < n → frames_from (behind s x) (take k xs) ≡ []) → (k : ℕ) → k < suc n → frames_from s (take k (x ∷ xs)) ≡ []
before s x xs n none h zero lt = frames_from-nil s
before s x xs n none h (suc k) lt = frames_from-cons s x (take k xs) ∙ ap (λ v. v ++ frames_from (behind s x) (take k xs)) none ∙ h k (omega arith)

nothing_before : (s : Option (List ℕ)) (x : ℕ) (xs : List ℕ) (k : ℕ) → k < 1 → frames_from s (take k (x ∷ xs)) ≡ []
nothing_before s x xs zero lt = frames_from-nil s
nothing_before s x xs (suc k) lt = absurd (omega arith)

answers_more : (s : Option (List ℕ)) (x : ℕ) (xs : List ℕ) (rest : Feeding) (v : Option Verdict) → option_to_list v ≡ closed_by s x → Answers (behind s x) xs rest
    → Answers s (x ∷ xs) (octet_scan (kept_since (behind s x)) v rest)
answers_more s x xs rest None e h =
    let none : closed_by s x ≡ [] = sym e in
    record {
      within = omega (arith, h.within);
      kept = rw (add-one rest.used) (h.kept ∙ ap kept_since (sym (piece_from-cons s x (take rest.used xs))));
      verdict = rw (add-one rest.used) (frames_from-cons s x (take rest.used xs) ∙ ap (λ v. v ++ frames_from (behind s x) (take rest.used xs)) none ∙ h.verdict);
      first = λ k lt. before s x xs rest.used none h.first k (omega arith);
      whole = λ n. omega (arith, h.whole n);
    }
answers_more s x xs rest (Some v) e h =
    record {
      within = omega arith;
      kept = ap kept_since (sym (piece_from-cons s x [] ∙ piece_from-nil (behind s x)));
      verdict = frames_from-cons s x [] ∙ ap (λ l. closed_by s x ++ l) (frames_from-nil (behind s x)) ∙ append-nil (closed_by s x) ∙ sym e;
      first = λ k lt. nothing_before s x xs k (omega arith);
      whole = λ n. cc;
    }

pub answers : (piece : List ℕ) (s : Option (List ℕ)) → Answers s piece (scan_of (kept_since s) piece)
answers [] s = record { within = omega arith; kept = ap kept_since (sym (piece_from-nil s)); verdict = frames_from-nil s; first = λ k lt. absurd (omega arith); whole = λ n. refl }
answers (x ∷ xs) s =
    rw (kept_since-octet s x) (answers_more s x xs (scan_of (kept_since (behind s x)) xs) (verdict_at (kept_since s) x) (verdict_of_octet s x) (answers xs (behind s x)))

pub kept_of-nothing : kept_of [] ≡ record { begun = false; escaping = false; content = [] }
unfolding kept_of kept_since open_piece cut
kept_of-nothing = refl

-- ---- a piece behind a stream

pub scan_answers : (stream piece : List ℕ) → Answers (open_piece stream) piece (scan_of (kept_of stream) piece)
unfolding kept_of
scan_answers stream piece = answers piece (open_piece stream)

pub scan_within : (stream piece : List ℕ) → (scan_of (kept_of stream) piece).used ≤ length piece
scan_within stream piece = (scan_answers stream piece).within

pub scan_frames : (stream piece : List ℕ) → frames_of (stream ++ take (scan_of (kept_of stream) piece).used piece) ≡ frames_of stream ++ option_to_list (scan_of (kept_of stream) piece).verdict
scan_frames stream piece =
    frames_of-append stream (take (scan_of (kept_of stream) piece).used piece) ∙ ap (λ v. frames_of stream ++ v) (scan_answers stream piece).verdict

pub kept_of-is : (stream : List ℕ) → kept_of stream ≡ kept_since (open_piece stream)
unfolding kept_of
kept_of-is stream = refl

pub scan_kept : (stream piece : List ℕ) → kept_of (stream ++ take (scan_of (kept_of stream) piece).used piece) ≡ (scan_of (kept_of stream) piece).kept
scan_kept stream piece =
    kept_of-is (stream ++ take (scan_of (kept_of stream) piece).used piece)
    ∙ ap kept_since (open_piece-append stream (take (scan_of (kept_of stream) piece).used piece)) ∙ sym (scan_answers stream piece).kept

pub scan_first : (stream piece : List ℕ) (k : ℕ) → k < (scan_of (kept_of stream) piece).used → frames_of (stream ++ take k piece) ≡ frames_of stream
scan_first stream piece k lt =
    frames_of-append stream (take k piece) ∙ ap (λ v. frames_of stream ++ v) ((scan_answers stream piece).first k lt) ∙ append-nil (frames_of stream)

scan_whole_more : (v : Option Verdict) (k : KeptDeframer) (rest : Feeding) (n : ℕ) → (rest.verdict ≡ None → rest.used ≡ n) → (octet_scan k v rest).verdict ≡ None → (octet_scan k v rest).used ≡ suc n
scan_whole_more None k rest n h e = omega (arith, h e)
scan_whole_more (Some v) k rest n h e = cc

-- whatever is kept, a piece that closes nothing is used whole
pub scan_whole : (piece : List ℕ) (k : KeptDeframer) → (scan_of k piece).verdict ≡ None → (scan_of k piece).used ≡ length piece
scan_whole [] k n = refl
scan_whole (x ∷ xs) k n = scan_whole_more (verdict_at k x) (after_octet k x) (scan_of (after_octet k x) xs) (length xs) (scan_whole xs (after_octet k x)) n

scan_within_more : (v : Option Verdict) (k : KeptDeframer) (rest : Feeding) (n : ℕ) → rest.used ≤ n → (octet_scan k v rest).used ≤ suc n
scan_within_more None k rest n h = omega arith
scan_within_more (Some v) k rest n h = omega arith

scan_within_any : (piece : List ℕ) (k : KeptDeframer) → (scan_of k piece).used ≤ length piece
scan_within_any [] k = omega arith
scan_within_any (x ∷ xs) k = scan_within_more (verdict_at k x) (after_octet k x) (scan_of (after_octet k x) xs) (length xs) (scan_within_any xs (after_octet k x))

-- ---- the same of a call's results

pub feed_frames : (k : KeptDeframer) (stream piece : List ℕ) (n : ℕ) (v : Option Verdict) → n ≡ (scan_of k piece).used → v ≡ (scan_of k piece).verdict → k ≡ kept_of stream
    → frames_of (stream ++ take n piece) ≡ frames_of stream ++ option_to_list v
feed_frames k stream piece n v used verdict e =
    let whole : k ≡ kept_of stream → frames_of (stream ++ take (scan_of k piece).used piece) ≡ frames_of stream ++ option_to_list (scan_of k piece).verdict = λ h. rw h (scan_frames stream piece) in
    rw (used, verdict) (whole e)

pub feed_first : (k : KeptDeframer) (stream piece : List ℕ) (n : ℕ) → n ≡ (scan_of k piece).used → k ≡ kept_of stream → (j : ℕ) → j < n → frames_of (stream ++ take j piece) ≡ frames_of stream
feed_first k stream piece n used e j lt =
    let same : n ≡ (scan_of (kept_of stream) piece).used = used ∙ ap (λ (h : KeptDeframer). (scan_of h piece).used) e in
    scan_first stream piece j (rw same at lt)

pub feed_whole : (k : KeptDeframer) (piece : List ℕ) (n : ℕ) (found : Option Found) → n ≡ (scan_of k piece).used → option_map verdict_of_octets_found found ≡ (scan_of k piece).verdict → IsNone found → n ≡ length piece
feed_whole k piece n None used verdict h = used ∙ scan_whole piece k (sym verdict)
feed_whole k piece n (Some f) used verdict h = cc

pub feed_within : (k : KeptDeframer) (piece : List ℕ) (n : ℕ) → n ≡ (scan_of k piece).used → n ≤ length piece
feed_within k piece n used = rw used (scan_within_any piece k)

octet_used : (v : Option Verdict) (k : KeptDeframer) (rest : Feeding) → 0 < (octet_scan k v rest).used
octet_used None k rest = omega arith
octet_used (Some v) k rest = omega arith

-- a piece with octets is used by one octet at least
pub scan_moves : (piece : List ℕ) (k : KeptDeframer) → 0 < length piece → 0 < (scan_of k piece).used
scan_moves [] k h = absurd (omega arith)
scan_moves (x ∷ xs) k h = octet_used (verdict_at k x) (after_octet k x) (scan_of (after_octet k x) xs)

pub feed_moves : (k : KeptDeframer) (piece : List ℕ) (n : ℕ) → n ≡ (scan_of k piece).used → 0 < length piece → 0 < n
feed_moves k piece n used h = rw used (scan_moves piece k h)
