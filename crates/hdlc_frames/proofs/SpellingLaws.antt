-- A frame that was written is read as itself.
use Rattle.std.proofs.Common.{◌≡◌, ℕ, ◌≤◌, Bool, true, false, ◌==◌, ◌||◌, List, [], ◌∷◌, ◌++◌, length, Option, None, Some, refl, sym, ◌∙◌, ap, arith, inl, inr, append_assoc, append-nil, bit_xor, eq-eqb, if◌then◌else◌}
use Rattle.std.specs.Prelude.{flat_map}
use Rattle.std.specs.Int.Bits.{xor_assoc, xor_self, xor_zero_r}
use Rattle.std.proofs.lemmas.Bool.{cases_Bool, le-ltb, eqb-true}
use Rattle.hdlc_fcs.specs.Contents.{content_of, body_of}
use Rattle.hdlc_fcs.specs.Laws.{ContentReadsBack}
use Rattle.hdlc_frames.specs.Framing.{flag, escape, Verdict, Frame, unescaped, ends_in_escape, verdict_on_content, verdict_on, has_octets, frames_of}
use Rattle.hdlc_frames.specs.Spelling.{escaped_octet, escaped, spelling}
use Rattle.hdlc_frames.specs.Deframing.{open_piece, kept_since, kept_of}
use Rattle.hdlc_frames.specs.Laws.{FrameReadsAsItself, FrameAlone, FlagParts}
use Rattle.hdlc_frames.proofs.StreamLaws.{behind, verdicts_on, frames_from, piece_from, closed_by-other, behind-other, frames_from-cons, piece_from-cons, frames_from-nil, piece_from-nil, frames_from-append, frames_of-from, from_flag, frames_of-append, open_piece-append, behind-flag, closed_by-none}

-- ---- escaped octets

xor_back : (x : ℕ) → bit_xor (bit_xor x 0x20) 0x20 ≡ x
xor_back x = xor_assoc x 0x20 0x20 ∙ ap (λ y. bit_xor x y) (xor_self 0x20) ∙ xor_zero_r x

-- octets none of which is a flag
unfoldable pub no_flag : List ℕ → Bool
no_flag [] = true
no_flag (x ∷ xs) = if x == flag then false else no_flag xs

-- one octet of the content, escaped, in front of others: it has no flag, it leaves no escape open, and it is
-- read back
pub octet_back : (x : ℕ) (xs : List ℕ) → no_flag xs ≡ true
    → (no_flag (escaped_octet x ++ xs) ≡ true) × (ends_in_escape (escaped_octet x ++ xs) false ≡ ends_in_escape xs false) × (unescaped (escaped_octet x ++ xs) false ≡ x ∷ unescaped xs false)
unfolding no_flag escaped_octet ends_in_escape unescaped
octet_back x xs h =
    elim (cases_Bool (x == flag)) [
      | inl is_flag ↦ let e : x ≡ flag = eqb-true x flag is_flag in rw e (h, refl, refl)
      | inr no_f ↦
          elim (cases_Bool (x == escape)) [
            | inl is_escape ↦ let e : x ≡ escape = eqb-true x escape is_escape in rw e (h, refl, refl)
            | inr no_e ↦ rw (no_f, no_e, no_f, no_e) (h, refl, refl)
          ]
    ]

pub nothing_back : (no_flag [] ≡ true) × (ends_in_escape [] false ≡ false) × (unescaped [] false ≡ [])
unfolding no_flag ends_in_escape unescaped
nothing_back = (refl, refl, refl)

first_nonempty : (x : ℕ) (xs : List ℕ) → has_octets (escaped_octet x ++ xs) ≡ true
unfolding escaped_octet
first_nonempty x xs =
    elim (x == flag || x == escape) as (λ b. has_octets ((if b then escape ∷ bit_xor x 0x20 ∷ [] else x ∷ []) ++ xs) ≡ true) [
      | true ↦ refl
      | false ↦ refl
    ]

-- the same of all content
pub content_back : (c : List ℕ) → (no_flag (escaped c) ≡ true) × (ends_in_escape (escaped c) false ≡ false) × (unescaped (escaped c) false ≡ c)
unfolding escaped
content_back [] = nothing_back
content_back (x ∷ c) =
    let rest = content_back c in
    let one = octet_back x (flat_map escaped_octet c) rest.0 in
    (one.0, one.1 ∙ rest.1, one.2 ∙ ap (λ d. x ∷ d) rest.2)

escaped_nonempty : (x : ℕ) (c : List ℕ) → has_octets (escaped (x ∷ c)) ≡ true
unfolding escaped
escaped_nonempty x c = first_nonempty x (flat_map escaped_octet c)

-- ---- octets without a flag

pub no_flag_head : (x : ℕ) (xs : List ℕ) → no_flag (x ∷ xs) ≡ true → (x == flag) ≡ false
unfolding no_flag
no_flag_head x xs h =
    elim (cases_Bool (x == flag)) [
      | inl t ↦ let e : false ≡ true = rw t at h in cc
      | inr f ↦ f
    ]

pub no_flag_tail : (x : ℕ) (xs : List ℕ) → no_flag (x ∷ xs) ≡ true → no_flag xs ≡ true
unfolding no_flag
no_flag_tail x xs h =
    elim (cases_Bool (x == flag)) [
      | inl t ↦ let e : false ≡ true = rw t at h in cc
      | inr f ↦ rw f at h
    ]

pub plain_frames : (xs p : List ℕ) → no_flag xs ≡ true → frames_from (Some p) xs ≡ []
plain_frames [] p h = frames_from-nil (Some p)
plain_frames (x ∷ xs) p h =
    let f = no_flag_head x xs h in
    frames_from-cons (Some p) x xs ∙ ap (λ v. v ++ frames_from (behind (Some p) x) xs) (closed_by-other (Some p) x f)
    ∙ ap (λ s. frames_from s xs) (behind-other p x f) ∙ plain_frames xs (p ++ x ∷ []) (no_flag_tail x xs h)

pub plain_piece : (xs p : List ℕ) → no_flag xs ≡ true → piece_from (Some p) xs ≡ Some (p ++ xs)
plain_piece [] p h = piece_from-nil (Some p) ∙ ap (λ (q : List ℕ). Some q) (sym (append-nil p))
plain_piece (x ∷ xs) p h =
    let f = no_flag_head x xs h in
    piece_from-cons (Some p) x xs ∙ ap (λ s. piece_from s xs) (behind-other p x f)
    ∙ plain_piece xs (p ++ x ∷ []) (no_flag_tail x xs h) ∙ ap (λ (q : List ℕ). Some q) (append_assoc p (x ∷ []) xs)

-- ---- the verdict on content that was made

escaped_some : (c : List ℕ) → 1 ≤ length c → has_octets (escaped c) ≡ true
escaped_some [] h = absurd (omega arith)
escaped_some (x ∷ c) h = escaped_nonempty x c

pub content_nonempty : ContentReadsBack → (a : ℕ) (body : List ℕ) → has_octets (escaped (content_of a body)) ≡ true
content_nonempty reads a body = escaped_some (content_of a body) (omega (arith, (reads a body).1.1))

verdict_on_made : ContentReadsBack → (a : ℕ) (body : List ℕ) → 1 ≤ length body → length body ≤ 1029 → verdict_on_content (content_of a body) ≡ Frame a body
unfolding verdict_on_content
verdict_on_made reads a body some fits =
    let read = reads a body in
    let long : (length (content_of a body) ≤ 1032) × (4 ≤ length (content_of a body)) = (omega (arith, read.1.1), omega (arith, read.1.1)) in
    rw (le-ltb 1032 (length (content_of a body)) long.0, le-ltb (length (content_of a body)) 4 long.1, eq-eqb _ _ read.0.0.1)
    (ap (λ x. Frame x (body_of (content_of a body))) read.0.1 ∙ ap (λ b. Frame a b) read.1.0)

pub verdict_on_escaped : ContentReadsBack → (a : ℕ) (body : List ℕ) → 1 ≤ length body → length body ≤ 1029 → verdict_on (escaped (content_of a body)) ≡ Frame a body
unfolding verdict_on
verdict_on_escaped reads a body some fits =
    let back = content_back (content_of a body) in
    rw (back.1, back.2) (verdict_on_made reads a body some fits)

-- ---- the whole frame

pub closed_frame : (p : List ℕ) → has_octets p ≡ true → verdicts_on (p ∷ []) ≡ verdict_on p ∷ []
unfolding verdicts_on
closed_frame p h = rw h refl

-- behind a flag: the escaped content and the flag that closes it
pub frame_behind : ContentReadsBack → (a : ℕ) (body rest : List ℕ) → 1 ≤ length body → length body ≤ 1029
    → frames_from (Some []) (escaped (content_of a body) ++ flag ∷ rest) ≡ Frame a body ∷ frames_from (Some []) rest
frame_behind reads a body rest some fits =
    let e : List ℕ = escaped (content_of a body) in
    let back = content_back (content_of a body) in
    frames_from-append e (Some []) (flag ∷ rest)
    ∙ ap (λ v. v ++ frames_from (piece_from (Some []) e) (flag ∷ rest)) (plain_frames e [] back.0)
    ∙ ap (λ s. frames_from s (flag ∷ rest)) (plain_piece e [] back.0)
    ∙ from_flag e flag rest refl
    ∙ ap (λ v. v ++ frames_from (Some []) rest) (closed_frame e (content_nonempty reads a body) ∙ ap (λ (v : Verdict). v ∷ []) (verdict_on_escaped reads a body some fits))

-- what follows one flag
pub behind_one_flag : (rest : List ℕ) → frames_of (flag ∷ rest) ≡ frames_from (Some []) rest
behind_one_flag rest =
    frames_of-from (flag ∷ rest) ∙ frames_from-cons None flag rest ∙ ap (λ v. v ++ frames_from (behind None flag) rest) (closed_by-none flag)
    ∙ ap (λ s. frames_from s rest) (behind-flag None flag refl)

pub spelling-is : (a : ℕ) (body rest : List ℕ) → spelling a body ++ rest ≡ flag ∷ (escaped (content_of a body) ++ flag ∷ rest)
unfolding spelling
spelling-is a body rest = ap (λ ys. flag ∷ ys) (append_assoc (escaped (content_of a body)) (flag ∷ []) rest)

pub frame_reads_as_itself : ContentReadsBack → FrameReadsAsItself
frame_reads_as_itself reads a body rest some fits =
    ap frames_of (spelling-is a body rest) ∙ behind_one_flag (escaped (content_of a body) ++ flag ∷ rest)
    ∙ frame_behind reads a body rest some fits
    ∙ ap (λ v. Frame a body ∷ v) (sym (behind_one_flag rest))

pub frame_alone : ContentReadsBack → FrameAlone
frame_alone reads a body some fits =
    ap frames_of (sym (append-nil (spelling a body))) ∙ frame_reads_as_itself reads a body [] some fits
    ∙ ap (λ v. Frame a body ∷ v) (behind_one_flag [] ∙ frames_from-nil (Some []))

-- ---- a flag parts a stream

flag_in : (s : Option (List ℕ)) → piece_from s (flag ∷ []) ≡ Some []
flag_in s = piece_from-cons s flag [] ∙ piece_from-nil (behind s flag) ∙ behind-flag s flag refl

flag_parts_frames : (before rest : List ℕ) → frames_of (before ++ flag ∷ rest) ≡ frames_of (before ++ flag ∷ []) ++ frames_of (flag ∷ rest)
flag_parts_frames before rest =
    ap frames_of (sym (append_assoc before (flag ∷ []) rest)) ∙ frames_of-append (before ++ flag ∷ []) rest
    ∙ ap (λ s. frames_of (before ++ flag ∷ []) ++ frames_from s rest) (open_piece-append before (flag ∷ []) ∙ flag_in (open_piece before))
    ∙ ap (λ v. frames_of (before ++ flag ∷ []) ++ v) (sym (behind_one_flag rest))

open_piece_flag : (before rest : List ℕ) → open_piece (before ++ flag ∷ rest) ≡ piece_from (Some []) rest
open_piece_flag before rest =
    open_piece-append before (flag ∷ rest) ∙ piece_from-cons (open_piece before) flag rest ∙ ap (λ s. piece_from s rest) (behind-flag (open_piece before) flag refl)

flag_parts_kept : (before rest : List ℕ) → kept_of (before ++ flag ∷ rest) ≡ kept_of (flag ∷ rest)
unfolding kept_of
flag_parts_kept before rest = ap kept_since (open_piece_flag before rest ∙ sym (open_piece_flag [] rest))

pub flag_parts : FlagParts
flag_parts before rest = (flag_parts_frames before rest, flag_parts_kept before rest)
