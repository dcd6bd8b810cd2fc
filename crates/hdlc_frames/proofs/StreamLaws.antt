-- The frames of a stream, read octet by octet: a list of frames so far and the piece behind the newest flag.
use Rattle.std.proofs.Common.{◌≡◌, ℕ, suc, ◌-◌, ◌<◌, true, false, ◌==◌, List, [], ◌∷◌, ◌++◌, length, take, drop, map, Option, None, Some, refl, sym, ◌∙◌, ap, arith, inl, inr, append_assoc, append-nil, if◌then◌else◌}
use Rattle.std.specs.Prelude.{filter}
use Rattle.std.specs.List.{onto_first, last_or}
use Rattle.std.proofs.lemmas.Bool.{cases_Bool}
use Rattle.std.proofs.lemmas.List.Splits.{length-slice_split, slice_split-cons_yes, slice_split-cons_no}
use Rattle.hdlc_frames.specs.Framing.{flag, Verdict, verdict_on, cut, all_but_last, between_flags, has_octets, frames_of}
use Rattle.hdlc_frames.specs.Deframing.{open_piece}

-- what stands behind the newest flag after one octet more
unfoldable pub behind : Option (List ℕ) → ℕ → Option (List ℕ)
behind None x = if x == flag then Some [] else None
behind (Some p) x = if x == flag then Some [] else Some (p ++ x ∷ [])

-- the verdicts on pieces
unfoldable pub verdicts_on : List (List ℕ) → List Verdict
verdicts_on pieces = map verdict_on (filter has_octets pieces)

-- the verdict that one octet brings
unfoldable pub closed_by : Option (List ℕ) → ℕ → List Verdict
closed_by None x = []
closed_by (Some p) x = if x == flag then verdicts_on (p ∷ []) else []

-- the frames that octets close
unfoldable pub frames_from : Option (List ℕ) → List ℕ → List Verdict
frames_from s [] = []
frames_from s (x ∷ xs) = closed_by s x ++ frames_from (behind s x) xs

-- what stands behind the newest flag after octets
unfoldable pub piece_from : Option (List ℕ) → List ℕ → Option (List ℕ)
piece_from s [] = s
piece_from s (x ∷ xs) = piece_from (behind s x) xs

-- ---- pieces with octets put before the first

unfoldable put_before : List ℕ → List (List ℕ) → List (List ℕ)
put_before p [] = p ∷ []
put_before p (q ∷ qs) = (p ++ q) ∷ qs

cut_flag : (x : ℕ) (xs : List ℕ) → (x == flag) ≡ true → cut (x ∷ xs) ≡ [] ∷ cut xs
unfolding cut
cut_flag x xs h = slice_split-cons_yes (λ o. o == flag) x xs h

cut_other : (x : ℕ) (xs : List ℕ) → (x == flag) ≡ false → cut (x ∷ xs) ≡ onto_first x (cut xs)
unfolding cut
cut_other x xs h = slice_split-cons_no (λ o. o == flag) x xs h

cut_nonempty : (xs : List ℕ) → 0 < length (cut xs)
unfolding cut
cut_nonempty xs = omega (arith, length-slice_split (λ o. o == flag) xs)

put_before_more : (p : List ℕ) (x : ℕ) (c : List (List ℕ)) → put_before p (onto_first x c) ≡ put_before (p ++ x ∷ []) c
unfolding put_before
put_before_more p x [] = refl
put_before_more p x (q ∷ qs) = ap (λ y. y ∷ qs) (sym (append_assoc p (x ∷ []) q))

put_before_none : (c : List (List ℕ)) → 0 < length c → put_before [] c ≡ c
unfolding put_before
put_before_none [] h = absurd (omega arith)
put_before_none (q ∷ qs) h = refl

all_but_last-cons : (q : List ℕ) (c : List (List ℕ)) → 0 < length c → all_but_last (q ∷ c) ≡ q ∷ all_but_last c
unfolding all_but_last
all_but_last-cons q [] h = absurd (omega arith)
all_but_last-cons q (r ∷ rs) h = let one : suc (suc (length rs)) - 1 ≡ suc (suc (length rs) - 1) = omega arith in ap (λ n. take n (q ∷ r ∷ rs)) one

verdicts_on-cons : (q : List ℕ) (c : List (List ℕ)) → verdicts_on (q ∷ c) ≡ verdicts_on (q ∷ []) ++ verdicts_on c
unfolding verdicts_on
verdicts_on-cons [] c = refl
verdicts_on-cons (x ∷ q) c = refl

-- the frames where p stands before the first piece
unfoldable frames_since : List ℕ → List ℕ → List Verdict
frames_since p xs = verdicts_on (all_but_last (put_before p (cut xs)))

before_empty : (p : List ℕ) (c : List (List ℕ)) → put_before p ([] ∷ c) ≡ p ∷ c
unfolding put_before
before_empty p c = ap (λ q. q ∷ c) (append-nil p)

-- ---- one octet in front

pub closed_by-flag : (p : List ℕ) (x : ℕ) → (x == flag) ≡ true → closed_by (Some p) x ≡ verdicts_on (p ∷ [])
unfolding closed_by
closed_by-flag p x t = rw t refl

pub closed_by-other : (s : Option (List ℕ)) (x : ℕ) → (x == flag) ≡ false → closed_by s x ≡ []
unfolding closed_by
closed_by-other None x f = refl
closed_by-other (Some p) x f = rw f refl

pub behind-flag : (s : Option (List ℕ)) (x : ℕ) → (x == flag) ≡ true → behind s x ≡ Some []
unfolding behind
behind-flag None x t = rw t refl
behind-flag (Some p) x t = rw t refl

pub behind-other : (p : List ℕ) (x : ℕ) → (x == flag) ≡ false → behind (Some p) x ≡ Some (p ++ x ∷ [])
unfolding behind
behind-other p x f = rw f refl

pub behind-before : (x : ℕ) → (x == flag) ≡ false → behind None x ≡ None
unfolding behind
behind-before x f = rw f refl

pub frames_from-cons : (s : Option (List ℕ)) (x : ℕ) (xs : List ℕ) → frames_from s (x ∷ xs) ≡ closed_by s x ++ frames_from (behind s x) xs
unfolding frames_from
frames_from-cons s x xs = refl

pub piece_from-cons : (s : Option (List ℕ)) (x : ℕ) (xs : List ℕ) → piece_from s (x ∷ xs) ≡ piece_from (behind s x) xs
unfolding piece_from
piece_from-cons s x xs = refl

pub frames_from-nil : (s : Option (List ℕ)) → frames_from s [] ≡ []
unfolding frames_from
frames_from-nil s = refl

pub piece_from-nil : (s : Option (List ℕ)) → piece_from s [] ≡ s
unfolding piece_from
piece_from-nil s = refl

pub from_flag : (p : List ℕ) (x : ℕ) (xs : List ℕ) → (x == flag) ≡ true → frames_from (Some p) (x ∷ xs) ≡ verdicts_on (p ∷ []) ++ frames_from (Some []) xs
from_flag p x xs t = rw (frames_from-cons (Some p) x xs, closed_by-flag p x t, behind-flag (Some p) x t) refl

pub from_other : (p : List ℕ) (x : ℕ) (xs : List ℕ) → (x == flag) ≡ false → frames_from (Some p) (x ∷ xs) ≡ frames_from (Some (p ++ x ∷ [])) xs
from_other p x xs f = rw (frames_from-cons (Some p) x xs, closed_by-other (Some p) x f, behind-other p x f) refl

-- ---- the whole stream from its first flag on

no_octets_since : (p : List ℕ) → frames_since p [] ≡ []
unfolding frames_since verdicts_on all_but_last put_before cut
no_octets_since p = refl

frames_since-from : (xs p : List ℕ) → frames_since p xs ≡ frames_from (Some p) xs
unfolding frames_since
frames_since-from [] p = no_octets_since p ∙ sym (frames_from-nil (Some p))
frames_since-from (x ∷ xs) p =
    elim (cases_Bool (x == flag)) [
      | inl t ↦
          let rest : verdicts_on (all_but_last (cut xs)) ≡ frames_from (Some []) xs = ap (λ c. verdicts_on (all_but_last c)) (sym (put_before_none (cut xs) (cut_nonempty xs))) ∙ frames_since-from xs [] in
          ap (λ c. verdicts_on (all_but_last (put_before p c))) (cut_flag x xs t)
          ∙ ap (λ c. verdicts_on (all_but_last c)) (before_empty p (cut xs))
          ∙ ap verdicts_on (all_but_last-cons p (cut xs) (cut_nonempty xs))
          ∙ verdicts_on-cons p (all_but_last (cut xs))
          ∙ ap (λ v. verdicts_on (p ∷ []) ++ v) rest
          ∙ sym (from_flag p x xs t)
      | inr f ↦
          ap (λ c. verdicts_on (all_but_last (put_before p c))) (cut_other x xs f)
          ∙ ap (λ c. verdicts_on (all_but_last c)) (put_before_more p x (cut xs))
          ∙ frames_since-from xs (p ++ x ∷ [])
          ∙ sym (from_other p x xs f)
    ]

drop_onto : (x : ℕ) (c : List (List ℕ)) → drop 1 (onto_first x c) ≡ drop 1 c
drop_onto x [] = refl
drop_onto x (q ∷ qs) = refl

pub frames_of-nothing : frames_of [] ≡ []
unfolding frames_of between_flags all_but_last cut
frames_of-nothing = refl

pub closed_by-none : (x : ℕ) → closed_by None x ≡ []
unfolding closed_by
closed_by-none x = refl

since_is : (p xs : List ℕ) → verdicts_on (all_but_last (put_before p (cut xs))) ≡ frames_since p xs
unfolding frames_since
since_is p xs = refl

pub frames_of-is : (xs : List ℕ) → frames_of xs ≡ verdicts_on (all_but_last (drop 1 (cut xs)))
unfolding frames_of between_flags verdicts_on
frames_of-is xs = refl

pub frames_of-from : (xs : List ℕ) → frames_of xs ≡ frames_from None xs
frames_of-from [] = frames_of-nothing ∙ sym (frames_from-nil None)
frames_of-from (x ∷ xs) =
    elim (cases_Bool (x == flag)) [
      | inl t ↦
          frames_of-is (x ∷ xs)
          ∙ ap (λ c. verdicts_on (all_but_last (drop 1 c))) (cut_flag x xs t)
          ∙ ap (λ c. verdicts_on (all_but_last c)) (sym (put_before_none (cut xs) (cut_nonempty xs)))
          ∙ since_is [] xs ∙ frames_since-from xs []
          ∙ sym (frames_from-cons None x xs ∙ ap (λ v. v ++ frames_from (behind None x) xs) (closed_by-none x) ∙ ap (λ s. frames_from s xs) (behind-flag None x t))
      | inr f ↦
          frames_of-is (x ∷ xs)
          ∙ ap (λ c. verdicts_on (all_but_last (drop 1 c))) (cut_other x xs f)
          ∙ ap (λ c. verdicts_on (all_but_last c)) (drop_onto x (cut xs))
          ∙ sym (frames_of-is xs)
          ∙ frames_of-from xs
          ∙ sym (frames_from-cons None x xs ∙ ap (λ v. v ++ frames_from (behind None x) xs) (closed_by-none x) ∙ ap (λ s. frames_from s xs) (behind-before x f))
    ]

-- ---- the piece behind the newest flag

last_or_nonempty : (o u : Option (List ℕ)) (c : List (List ℕ)) → 0 < length c → last_or o c ≡ last_or u c
last_or_nonempty o u [] h = absurd (omega arith)
last_or_nonempty o u (q ∷ qs) h = refl

unfoldable piece_since : List ℕ → List ℕ → Option (List ℕ)
piece_since p xs = last_or None (put_before p (cut xs))

no_octets_behind : (p : List ℕ) → piece_since p [] ≡ Some p
unfolding piece_since put_before cut
no_octets_behind p = ap (λ (q : List ℕ). Some q) (append-nil p)

piece_since-from : (xs p : List ℕ) → piece_since p xs ≡ piece_from (Some p) xs
unfolding piece_since
piece_since-from [] p = no_octets_behind p ∙ sym (piece_from-nil (Some p))
piece_since-from (x ∷ xs) p =
    elim (cases_Bool (x == flag)) [
      | inl t ↦
          ap (λ c. last_or None (put_before p c)) (cut_flag x xs t)
          ∙ ap (λ c. last_or None c) (before_empty p (cut xs))
          ∙ last_or_nonempty (Some p) None (cut xs) (cut_nonempty xs)
          ∙ ap (λ c. last_or None c) (sym (put_before_none (cut xs) (cut_nonempty xs)))
          ∙ piece_since-from xs []
          ∙ sym (piece_from-cons (Some p) x xs ∙ ap (λ s. piece_from s xs) (behind-flag (Some p) x t))
      | inr f ↦
          ap (λ c. last_or None (put_before p c)) (cut_other x xs f)
          ∙ ap (λ c. last_or None c) (put_before_more p x (cut xs))
          ∙ piece_since-from xs (p ++ x ∷ [])
          ∙ sym (piece_from-cons (Some p) x xs ∙ ap (λ s. piece_from s xs) (behind-other p x f))
    ]

pub none_open : open_piece [] ≡ None
unfolding open_piece cut
none_open = refl

piece_of_since : (xs : List ℕ) → last_or None (put_before [] (cut xs)) ≡ piece_from (Some []) xs
unfolding piece_since
piece_of_since xs = piece_since-from xs []

pub open_piece-from : (xs : List ℕ) → open_piece xs ≡ piece_from None xs
unfolding open_piece
open_piece-from [] = none_open ∙ sym (piece_from-nil None)
open_piece-from (x ∷ xs) =
    elim (cases_Bool (x == flag)) [
      | inl t ↦
          ap (λ c. last_or None (drop 1 c)) (cut_flag x xs t)
          ∙ ap (λ c. last_or None c) (sym (put_before_none (cut xs) (cut_nonempty xs)))
          ∙ piece_of_since xs
          ∙ sym (piece_from-cons None x xs ∙ ap (λ s. piece_from s xs) (behind-flag None x t))
      | inr f ↦
          ap (λ c. last_or None (drop 1 c)) (cut_other x xs f)
          ∙ ap (λ c. last_or None c) (drop_onto x (cut xs))
          ∙ open_piece-from xs
          ∙ sym (piece_from-cons None x xs ∙ ap (λ s. piece_from s xs) (behind-before x f))
    ]

-- ---- streams joined

pub frames_from-append : (xs : List ℕ) (s : Option (List ℕ)) (ys : List ℕ) → frames_from s (xs ++ ys) ≡ frames_from s xs ++ frames_from (piece_from s xs) ys
unfolding frames_from piece_from
frames_from-append [] s ys = refl
frames_from-append (x ∷ xs) s ys =
    ap (λ v. closed_by s x ++ v) (frames_from-append xs (behind s x) ys) ∙ sym (append_assoc (closed_by s x) (frames_from (behind s x) xs) (frames_from (piece_from (behind s x) xs) ys))

pub piece_from-append : (xs : List ℕ) (s : Option (List ℕ)) (ys : List ℕ) → piece_from s (xs ++ ys) ≡ piece_from (piece_from s xs) ys
unfolding piece_from
piece_from-append [] s ys = refl
piece_from-append (x ∷ xs) s ys = piece_from-append xs (behind s x) ys

pub frames_of-append : (xs ys : List ℕ) → frames_of (xs ++ ys) ≡ frames_of xs ++ frames_from (open_piece xs) ys
frames_of-append xs ys =
    frames_of-from (xs ++ ys) ∙ frames_from-append xs None ys
    ∙ ap (λ v. v ++ frames_from (piece_from None xs) ys) (sym (frames_of-from xs))
    ∙ ap (λ s. frames_of xs ++ frames_from s ys) (sym (open_piece-from xs))

pub open_piece-append : (xs ys : List ℕ) → open_piece (xs ++ ys) ≡ piece_from (open_piece xs) ys
open_piece-append xs ys =
    open_piece-from (xs ++ ys) ∙ piece_from-append xs None ys ∙ ap (λ s. piece_from s ys) (sym (open_piece-from xs))
