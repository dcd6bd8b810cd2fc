-- The octets between two flags: what they stand for after one octet more.
use Rattle.std.proofs.Common.{◌≡◌, ℕ, zero, suc, ◌-◌, ◌<◌, ◌≤◌, Bool, true, false, ◌==◌, List, [], ◌∷◌, ◌++◌, length, take, drop, refl, sym, ◌∙◌, ap, arith, inl, inr, bit_xor, if◌then◌else◌, eq-eqb}
use Rattle.std.proofs.lemmas.Bool.{cases_Bool, cases_lt, lt-ltb, le-ltb, ne_eqb}
use Rattle.std.specs.Prelude.{slice_index, slice_range}
use Rattle.hdlc_fcs.specs.FrameCheck.{fcs_of}
use Rattle.std.proofs.lemmas.List.{take_all, take-append-le, length-take-le}
use Rattle.hdlc_frames.specs.Framing.{escape, Frame, BadFcs, TooShort, TooLong, unescaped, ends_in_escape, verdict_on_content, has_octets}
use Rattle.hdlc_fcs.specs.Contents.{checked_part, check_number, IsIntact}

-- what one octet more adds to the content
unfoldable pub added : Bool → ℕ → List ℕ
added true x = bit_xor x 0x20 ∷ []
added false x = if x == escape then [] else x ∷ []

-- whether one octet more leaves an escape open
unfoldable pub opens : Bool → ℕ → Bool
opens true x = false
opens false x = x == escape

pub unescaped-escape : (x : ℕ) (xs : List ℕ) → (x == escape) ≡ true → unescaped (x ∷ xs) false ≡ unescaped xs true
unfolding unescaped
unescaped-escape x xs t = rw t refl

pub unescaped-plain : (x : ℕ) (xs : List ℕ) → (x == escape) ≡ false → unescaped (x ∷ xs) false ≡ x ∷ unescaped xs false
unfolding unescaped
unescaped-plain x xs f = rw f refl

pub ends_in_escape-push : (p : List ℕ) (e : Bool) (x : ℕ) → ends_in_escape (p ++ x ∷ []) e ≡ opens (ends_in_escape p e) x
unfolding ends_in_escape opens
ends_in_escape-push [] true x = refl
ends_in_escape-push [] false x = refl
ends_in_escape-push (y ∷ p) true x = ends_in_escape-push p false x
ends_in_escape-push (y ∷ p) false x = ends_in_escape-push p (y == escape) x

pub unescaped-push : (p : List ℕ) (e : Bool) (x : ℕ) → unescaped (p ++ x ∷ []) e ≡ unescaped p e ++ added (ends_in_escape p e) x
unfolding unescaped ends_in_escape added
unescaped-push [] true x = refl
unescaped-push [] false x = refl
unescaped-push (y ∷ p) true x = ap (λ c. bit_xor y 0x20 ∷ c) (unescaped-push p false x)
unescaped-push (y ∷ p) false x =
    elim (cases_Bool (y == escape)) [
      | inl t ↦ rw t (unescaped-push p true x)
      | inr f ↦ rw f (ap (λ c. y ∷ c) (unescaped-push p false x))
    ]

escaped_content : (p : List ℕ) → ends_in_escape p true ≡ false → has_octets (unescaped p true) ≡ true
unfolding unescaped ends_in_escape
escaped_content [] shut = cc
escaped_content (x ∷ p) shut = refl

-- a piece in which anything stands has content, unless it ends in an escape
pub has_content : (p : List ℕ) (e : Bool) → has_octets p ≡ true → ends_in_escape p e ≡ false → has_octets (unescaped p e) ≡ true
unfolding unescaped ends_in_escape
has_content [] e h shut = cc
has_content (x ∷ p) true h shut = refl
has_content (x ∷ p) false h shut =
    elim (cases_Bool (x == escape)) [
      | inl t ↦ rw t (escaped_content p (rw t at shut))
      | inr f ↦ rw f refl
    ]

-- content that is kept to n octets and then gets one more
pub take-push : (n : ℕ) (c : List ℕ) (y : ℕ) → take n (take n c ++ y ∷ []) ≡ take n (c ++ y ∷ [])
take-push n c y =
    elim (cases_lt (length c) n) [
      | inl short ↦ ap (λ d. take n (d ++ y ∷ [])) (take_all n c (omega arith))
      | inr long ↦
          let wide : n ≤ length c = omega arith in
          let size : length (take n c) ≡ n = length-take-le n c wide in
          take-append-le n (take n c) (y ∷ []) (omega arith) ∙ take_all n (take n c) (omega arith) ∙ sym (take-append-le n c (y ∷ []) wide)
    ]

pub too_long : (c : List ℕ) → 1032 < length c → verdict_on_content c ≡ TooLong
unfolding verdict_on_content
too_long c h = rw (lt-ltb 1032 (length c) h) refl

-- one octet more than the greatest length is enough to judge
pub verdict_on_kept : (c : List ℕ) → verdict_on_content (take 1033 c) ≡ verdict_on_content c
verdict_on_kept c =
    elim (cases_lt (length c) 1033) [
      | inl short ↦ ap verdict_on_content (take_all 1033 c (omega arith))
      | inr long ↦
          let size : length (take 1033 c) ≡ 1033 = length-take-le 1033 c (omega arith) in
          too_long (take 1033 c) (omega arith) ∙ sym (too_long c (omega arith))
    ]

pub has_octets-take : (n : ℕ) (c : List ℕ) → has_octets (take (suc n) c) ≡ has_octets c
has_octets-take n [] = refl
has_octets-take n (x ∷ c) = refl

pub too_short : (c : List ℕ) → length c < 4 → verdict_on_content c ≡ TooShort
unfolding verdict_on_content
too_short c h = rw (le-ltb 1032 (length c) (omega arith), lt-ltb (length c) 4 h) refl

drop_take_one : (n : ℕ) (xs : List ℕ) → drop 1 (take n xs) ≡ take (n - 1) (drop 1 xs)
drop_take_one zero xs = refl
drop_take_one (suc n) [] = let e : suc n - 1 ≡ n = omega arith in rw e (sym (take_all n [] (omega arith)))
drop_take_one (suc n) (x ∷ xs) = let e : suc n - 1 ≡ n = omega arith in rw e refl

-- the two outcomes of the check
pub judged_frame : (c : List ℕ) → 4 ≤ length c → length c ≤ 1032 → IsIntact c → Frame (slice_index c 0) (slice_range c 1 (length c - 2)) ≡ verdict_on_content c
unfolding verdict_on_content checked_part
judged_frame c long short intact =
    rw (le-ltb 1032 (length c) short, le-ltb (length c) 4 long, eq-eqb (fcs_of (take (length c - 2) c)) (check_number c) intact.1)
    (ap (λ b. Frame (slice_index c 0) b) (sym (drop_take_one (length c - 2) c)))

pub judged_bad : (c : List ℕ) → 4 ≤ length c → length c ≤ 1032 → (IsIntact c → ⊥) → BadFcs ≡ verdict_on_content c
unfolding verdict_on_content
judged_bad c long short spoilt =
    rw (le-ltb 1032 (length c) short, le-ltb (length c) 4 long, ne_eqb (fcs_of (checked_part c)) (check_number c) (λ e. spoilt (omega arith, e))) refl
