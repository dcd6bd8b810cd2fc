-- The flag that closes the first frame, found from flag to flag.
use Rattle.std.proofs.Common.{◌≡◌, ◌≢◌, ℕ, zero, suc, ◌+◌, ◌-◌, ◌<◌, ◌≤◌, true, false, ◌==◌, List, [], ◌∷◌, ◌++◌, length, take, drop, None, Some, refl, sym, ◌∙◌, ap, arith, inl, inr, append-nil, get_or, eq-eqb}
use Rattle.std.proofs.Math.Seq.{take-add}
use Rattle.std.proofs.lemmas.List.{take_more, take_all, length-drop, take-take}
use Rattle.std.proofs.lemmas.Bool.{ne_eqb, cases_lt}
use Rattle.memchr.specs.Find.{Nowhere, Passes, is_byte}
use Rattle.hdlc_frames.specs.Framing.{flag, Verdict, has_octets, frames_of}
use Rattle.hdlc_frames.specs.Deframing.{open_piece}
use Rattle.hdlc_frames.specs.FirstClose.{ClosesFirst}
use Rattle.hdlc_frames.proofs.StreamLaws.{behind, verdicts_on, closed_by-none, behind-flag, behind-before, frames_from, piece_from, frames_from-cons, piece_from-cons, frames_from-nil, piece_from-nil, frames_from-append, frames_of-append, open_piece-append, frames_of-from, open_piece-from, from_flag}
use Rattle.hdlc_frames.proofs.SpellingLaws.{no_flag, no_flag_head, no_flag_tail, plain_frames, plain_piece, closed_frame}
use Rattle.hdlc_frames.proofs.WrittenLaws.{no_flag_take, empty_piece}

-- ---- octets without a flag

-- where no octet is found to be a flag, none is
none_found : (n : ℕ) (xs : List ℕ) → n ≤ length xs → ((k : ℕ) → k < n → get_or xs k 0 ≢ flag) → no_flag (take n xs) ≡ true
unfolding no_flag
none_found zero xs h none = refl
none_found (suc n) [] h none = absurd (omega arith)
none_found (suc n) (x ∷ xs) h none =
    let other : (x == flag) ≡ false = ne_eqb x flag (none 0 (omega arith)) in
    rw other (none_found n xs (omega arith) (λ k lt. none (suc k) (omega arith)))

not_passing : (xs : List ℕ) (n : ℕ) → Nowhere (Passes (is_byte 0x7e) xs) 0 n → (k : ℕ) → k < n → get_or xs k 0 ≢ flag
not_passing xs n none k lt e = none k (omega arith) lt (eq-eqb (get_or xs k 0) 0x7e e)

pub plain_until : (xs : List ℕ) (n : ℕ) → n ≤ length xs → Nowhere (Passes (is_byte 0x7e) xs) 0 n → no_flag (take n xs) ≡ true
plain_until xs n h none = none_found n xs h (not_passing xs n none)

-- before the first flag nothing is a frame
before_frames : (xs : List ℕ) → no_flag xs ≡ true → frames_from None xs ≡ []
before_frames [] h = frames_from-nil None
before_frames (x ∷ xs) h =
    frames_from-cons None x xs ∙ ap (λ v. v ++ frames_from (behind None x) xs) (closed_by-none x)
    ∙ ap (λ s. frames_from s xs) (behind-before x (no_flag_head x xs h)) ∙ before_frames xs (no_flag_tail x xs h)

before_piece : (xs : List ℕ) → no_flag xs ≡ true → piece_from None xs ≡ None
before_piece [] h = piece_from-nil None
before_piece (x ∷ xs) h = piece_from-cons None x xs ∙ ap (λ s. piece_from s xs) (behind-before x (no_flag_head x xs h)) ∙ before_piece xs (no_flag_tail x xs h)

-- ---- from flag to flag

-- the first `at` octets end in a flag, and hold no frame
pub record Between (octets : List ℕ) (at : ℕ) : Type 0 where
  pub inside : at ≤ length octets
  pub opened : open_piece (take at octets) ≡ Some []
  pub none : (k : ℕ) → k ≤ at → frames_of (take k octets) ≡ []

-- octets of which none is a flag hold no frame
pub no_frame : (octets : List ℕ) → Nowhere (Passes (is_byte 0x7e) octets) 0 (length octets) → frames_of octets ≡ []
no_frame octets none = frames_of-from octets ∙ before_frames octets (ap no_flag (sym (take_all (length octets) octets (omega arith))) ∙ plain_until octets (length octets) (omega arith) none)

-- one octet more that closes nothing
none_more : (octets : List ℕ) (i : ℕ) → ((k : ℕ) → k ≤ i → frames_of (take k octets) ≡ []) → frames_of (take (i + 1) octets) ≡ [] → (k : ℕ) → k ≤ i + 1 → frames_of (take k octets) ≡ []
none_more octets i h e k le =
    elim (cases_lt i k) [
      | inl last ↦ let here : k ≡ i + 1 = omega arith in ap (λ n. frames_of (take n octets)) here ∙ e
      | inr earlier ↦ h k earlier
    ]

no_flag_nothing : no_flag [] ≡ true
unfolding no_flag
no_flag_nothing = refl

some_octets : (n : ℕ) (xs : List ℕ) → 0 < n → 0 < length xs → has_octets (take n xs) ≡ true
some_octets zero xs h k = absurd (omega arith)
some_octets (suc n) [] h k = absurd (omega arith)
some_octets (suc n) (x ∷ xs) h k = refl

not_none : {v : Verdict} {vs : List Verdict} → v ∷ vs ≡ [] → ⊥
not_none e = cc

-- behind the first flag
pub behind_first : (octets : List ℕ) (n : ℕ) → n < length octets → Nowhere (Passes (is_byte 0x7e) octets) 0 n → get_or octets n 0 ≡ flag → Between octets (n + 1)
behind_first octets n lt none is =
    let e : List ℕ = take n octets in
    let plain : no_flag e ≡ true = plain_until octets n (omega arith) none in
    let last : take (n + 1) octets ≡ e ++ flag ∷ [] = take_more octets n 0 lt ∙ ap (λ x. e ++ x ∷ []) is in
    let closed : open_piece e ≡ None = open_piece-from e ∙ before_piece e plain in
    let earlier : (k : ℕ) → k ≤ n → frames_of (take k octets) ≡ [] = λ k le.
    ap frames_of (sym (take-take k n octets le)) ∙ frames_of-from (take k e) ∙ before_frames (take k e) (no_flag_take k e plain) in
    record {
      inside = omega arith;
      opened = ap open_piece last ∙ open_piece-append e (flag ∷ []) ∙ ap (λ s. piece_from s (flag ∷ [])) closed ∙ piece_from-cons None flag [] ∙ piece_from-nil (behind None flag) ∙ behind-flag None flag refl;
      none = none_more octets n earlier
          (ap frames_of last ∙ frames_of-append e (flag ∷ []) ∙ ap (λ s. frames_of e ++ frames_from s (flag ∷ [])) closed
          ∙ ap (λ vs. vs ++ frames_from None (flag ∷ [])) (earlier n (omega arith)) ∙ frames_from-cons None flag []
          ∙ ap (λ vs. vs ++ frames_from (behind None flag) []) (closed_by-none flag) ∙ frames_from-nil (behind None flag));
    }

-- the octets behind a flag, up to the next
part : (octets : List ℕ) (at j : ℕ) → take (at + j) octets ≡ take at octets ++ take j (drop at octets)
part octets at j = take-add at j octets

frames_in_part : (octets : List ℕ) (at j : ℕ) → Between octets at → no_flag (take j (drop at octets)) ≡ true → frames_of (take (at + j) octets) ≡ []
frames_in_part octets at j h plain =
    ap frames_of (part octets at j) ∙ frames_of-append (take at octets) (take j (drop at octets))
    ∙ ap (λ vs. vs ++ frames_from (open_piece (take at octets)) (take j (drop at octets))) (h.none at (omega arith))
    ∙ ap (λ s. frames_from s (take j (drop at octets))) h.opened ∙ plain_frames (take j (drop at octets)) [] plain

-- what the next flag closes
frames_at_flag : (octets : List ℕ) (at n : ℕ) → Between octets at → n < length (drop at octets) → no_flag (take n (drop at octets)) ≡ true → get_or (drop at octets) n 0 ≡ flag
    → frames_of (take (at + (n + 1)) octets) ≡ verdicts_on (take n (drop at octets) ∷ [])
frames_at_flag octets at n h lt plain is =
    let e : List ℕ = take n (drop at octets) in
    let s : List ℕ = take at octets in
    let last : take (n + 1) (drop at octets) ≡ e ++ flag ∷ [] = take_more (drop at octets) n 0 lt ∙ ap (λ x. e ++ x ∷ []) is in
    ap frames_of (part octets at (n + 1)) ∙ ap (λ xs. frames_of (s ++ xs)) last
    ∙ frames_of-append s (e ++ flag ∷ []) ∙ ap (λ vs. vs ++ frames_from (open_piece s) (e ++ flag ∷ [])) (h.none at (omega arith))
    ∙ ap (λ o. frames_from o (e ++ flag ∷ [])) h.opened
    ∙ frames_from-append e (Some []) (flag ∷ []) ∙ ap (λ vs. vs ++ frames_from (piece_from (Some []) e) (flag ∷ [])) (plain_frames e [] plain)
    ∙ ap (λ o. frames_from o (flag ∷ [])) (plain_piece e [] plain) ∙ from_flag e flag [] refl
    ∙ ap (λ vs. verdicts_on (e ∷ []) ++ vs) (frames_from-nil (Some [])) ∙ append-nil (verdicts_on (e ∷ []))

earlier_parts : (octets : List ℕ) (at n : ℕ) → Between octets at → no_flag (take n (drop at octets)) ≡ true → (k : ℕ) → k ≤ at + n → frames_of (take k octets) ≡ []
earlier_parts octets at n h plain k le =
    elim (cases_lt at k) [
      | inl later ↦
          let j : ℕ = k - at in
          let whole : k ≡ at + j = omega arith in
          let fewer : j ≤ n = omega arith in
          ap (λ m. frames_of (take m octets)) whole
          ∙ frames_in_part octets at j h (ap no_flag (sym (take-take j n (drop at octets) fewer)) ∙ no_flag_take j (take n (drop at octets)) plain)
      | inr before ↦ h.none k before
    ]

-- a flag right behind a flag
flag_again : (octets : List ℕ) (at : ℕ) → Between octets at → 0 < length (drop at octets) → get_or (drop at octets) 0 0 ≡ flag → Between octets (at + 1)
flag_again octets at h some is =
    let nothing : no_flag [] ≡ true = no_flag_nothing in
    let last : take (at + 1) octets ≡ take at octets ++ flag ∷ [] =
    part octets at 1 ∙ ap (λ xs. take at octets ++ xs) (take_more (drop at octets) 0 0 some ∙ ap (λ x. x ∷ []) is) in
    record {
      inside = omega (arith, h.inside, length-drop at octets);
      opened = ap open_piece last ∙ open_piece-append (take at octets) (flag ∷ []) ∙ piece_from-cons (open_piece (take at octets)) flag []
          ∙ piece_from-nil (behind (open_piece (take at octets)) flag) ∙ behind-flag (open_piece (take at octets)) flag refl;
      none = none_more octets at (λ k le. h.none k le) (frames_at_flag octets at 0 h some nothing is ∙ empty_piece);
    }

-- a flag with octets between
closes_first : (octets : List ℕ) (at n : ℕ) → Between octets at → 0 < n → n < length (drop at octets) → Nowhere (Passes (is_byte 0x7e) (drop at octets)) 0 n → get_or (drop at octets) n 0 ≡ flag → ClosesFirst octets (at + (n + 1))
closes_first octets at n h some lt none is =
    let plain : no_flag (take n (drop at octets)) ≡ true = plain_until (drop at octets) n (omega arith) none in
    let frames = frames_at_flag octets at n h lt plain is in
    let filled : has_octets (take n (drop at octets)) ≡ true = some_octets n (drop at octets) some (omega arith) in (
      omega (arith, h.inside, length-drop at octets),
      (λ e. not_none (sym (frames ∙ closed_frame (take n (drop at octets)) filled) ∙ e)),
      (λ k less. earlier_parts octets at n h plain k (omega arith)),
    )

-- no flag any more
no_more : (octets : List ℕ) (at : ℕ) → Between octets at → Nowhere (Passes (is_byte 0x7e) (drop at octets)) 0 (length (drop at octets)) → frames_of octets ≡ []
no_more octets at h none =
    let n : ℕ = length (drop at octets) in
    let whole : take (at + n) octets ≡ octets = take_all (at + n) octets (omega (arith, length-drop at octets)) in
    ap frames_of (sym whole) ∙ frames_in_part octets at n h (plain_until (drop at octets) n (omega arith) none)

-- ---- the same of the octets that the code searches

searched : (octets : List ℕ) (at : ℕ) → take (length octets - at) (drop at octets) ≡ drop at octets
searched octets at = take_all (length octets - at) (drop at octets) (omega (arith, length-drop at octets))

pub flag_found_again : (octets hay : List ℕ) (at n : ℕ) → hay ≡ take (length octets - at) (drop at octets) → Between octets at → n ≡ 0 → n < length hay → get_or hay n 0 ≡ flag → Between octets (at + (n + 1))
flag_found_again octets hay at n e h none = rw (none, e ∙ searched octets at) (λ some is. flag_again octets at h some is)

pub closing_flag_found : (octets hay : List ℕ) (at n : ℕ) → hay ≡ take (length octets - at) (drop at octets) → Between octets at → 0 < n → n < length hay → Nowhere (Passes (is_byte 0x7e) hay) 0 n → get_or hay n 0 ≡ flag
    → ClosesFirst octets (at + (n + 1))
closing_flag_found octets hay at n e h some = rw (e ∙ searched octets at) (λ lt none is. closes_first octets at n h some lt none is)

pub no_flag_found : (octets hay : List ℕ) (at : ℕ) → hay ≡ take (length octets - at) (drop at octets) → Between octets at → Nowhere (Passes (is_byte 0x7e) hay) 0 (length hay) → frames_of octets ≡ []
no_flag_found octets hay at e h = rw (e ∙ searched octets at) (λ none. no_more octets at h none)
