-- What content with its check sequence says, and the residue that tells it.
use Rattle.std.proofs.Common.{◌≡◌, ℕ, zero, suc, ◌+◌, ◌-◌, ◌*◌, ◌/◌, ◌%◌, ◌^◌, ◌<◌, ◌≤◌, List, [], ◌∷◌, ◌++◌, length, take, drop, refl, sym, ◌∙◌, ap, arith, bit_xor, get_or, length-append, take-append-drop}
use Rattle.std.specs.Prelude.{◌↔◌}
use Rattle.std.proofs.Math.Seq.{take-append_seam, get_or-append_seam}
use Rattle.std.proofs.lemmas.List.{drop_more, drop_all, get_or-drop, get_or-append-add}
use Rattle.std.specs.Int.Bits.{xor_assoc, xor_comm, xor_self, xor_zero_r, xor_shifted}
use Rattle.std.proofs.lemmas.Nat.{xor_shr, xor_lt}
use Rattle.hdlc_fcs.specs.FrameCheck.{fcs_of}
use Rattle.hdlc_fcs.specs.Register.{shifted_once, shifted, register_after}
use Rattle.hdlc_fcs.specs.Contents.{content_of, checked_part, check_number}
use Rattle.hdlc_fcs.specs.Laws.{FcsIsSmall, ResidueTellsIntact, ContentReadsBack}
use Rattle.hdlc_fcs.proofs.TableLaws.{shifted-xor, shifted-high}
use Rattle.hdlc_fcs.proofs.SlicingLaws.{shifted-more}
use Rattle.hdlc_fcs.proofs.DivisionLaws.{fcs_of-register, fcs_of-lt, register_after-append, register_after_small, shifted_small}

pub fcs_is_small : FcsIsSmall
fcs_is_small octets = fcs_of-lt octets

-- ---- content by its checked part and its last two octets

last_two : (p : List ℕ) (lo hi : ℕ) → (checked_part (p ++ lo ∷ hi ∷ []) ≡ p) × (check_number (p ++ lo ∷ hi ∷ []) ≡ lo + 256 * hi)
unfolding checked_part check_number
last_two p lo hi =
    let size : length (p ++ lo ∷ hi ∷ []) ≡ length p + 2 = length-append p (lo ∷ hi ∷ []) in
    let front : length (p ++ lo ∷ hi ∷ []) - 2 ≡ length p = omega arith in
    let back : length (p ++ lo ∷ hi ∷ []) - 1 ≡ length p + 1 = omega arith in
    (rw front (take-append_seam p (lo ∷ hi ∷ [])), rw (front, back, get_or-append_seam p lo (hi ∷ []) 0, get_or-append-add p (lo ∷ hi ∷ []) 1 0) refl)

ends_so : (content : List ℕ) → 2 ≤ length content
    → content ≡ take (length content - 2) content ++ get_or content (length content - 2) 0 ∷ get_or content (length content - 1) 0 ∷ []
ends_so content h =
    let n : ℕ = length content - 2 in
    let next : length content - 1 ≡ n + 1 = omega arith in
    let one = drop_more content n 0 (omega arith) in
    let other = drop_more content (n + 1) 0 (omega arith) in
    let none : drop (n + 1 + 1) content ≡ [] = drop_all (n + 1 + 1) content (omega arith) in
    rw next (sym (take-append-drop n content) ∙ ap (λ xs. take n content ++ xs) (one ∙ ap (λ xs. get_or content n 0 ∷ xs) (other ∙ ap (λ xs. get_or content (n + 1) 0 ∷ xs) none)))

-- what the code reads of the two parts
pub read_parts : (content checked check : List ℕ) (number : ℕ) → checked ≡ take (length content - 2) content → check ≡ drop (length content - 2) content → length checked + 2 ≡ length content
    → number ≡ get_or check 0 0 + get_or check 1 0 * 2 ^ 8 → (checked_part content ≡ checked) × (check_number content ≡ number)
unfolding checked_part check_number
read_parts content checked check number e f size g =
    let n : ℕ = length content - 2 in
    let next : length content - 1 ≡ n + 1 = omega arith in
    let one : get_or check 0 0 ≡ get_or content n 0 = ap (λ xs. get_or xs 0 0) f ∙ get_or-drop n content 0 0 ∙ ap (λ i. get_or content i 0) (omega arith) in
    let other : get_or check 1 0 ≡ get_or content (n + 1) 0 = ap (λ xs. get_or xs 1 0) f ∙ get_or-drop n content 1 0 in
    (sym e, rw (next, g, one, other) (omega arith))

pub content_reads_back : ContentReadsBack
unfolding content_of
content_reads_back address body =
    let octets : List ℕ = address ∷ body in
    let fcs : ℕ = fcs_of octets in
    let parts = last_two octets (fcs % 256) (fcs / 256) in
    let size : length (octets ++ fcs % 256 ∷ fcs / 256 ∷ []) ≡ length octets + 2 = length-append octets (fcs % 256 ∷ fcs / 256 ∷ []) in
    let written : fcs % 256 + 256 * (fcs / 256) ≡ fcs = omega arith in
    (((omega (arith, size), ap fcs_of parts.0 ∙ sym (parts.1 ∙ written)), refl), (ap (λ (xs : List ℕ). drop 1 xs) parts.0, omega (arith, size)))

-- ---- shifting loses nothing

xor_zero_l : (a : ℕ) → bit_xor 0 a ≡ a
xor_zero_l a = xor_comm 0 a ∙ xor_zero_r a

xor_twice : (x m : ℕ) → bit_xor (bit_xor x m) m ≡ x
xor_twice x m = xor_assoc x m m ∙ ap (λ y. bit_xor x y) (xor_self m) ∙ xor_zero_r x

xor_cancel : (x y m : ℕ) → bit_xor x m ≡ bit_xor y m → x ≡ y
xor_cancel x y m e = sym (xor_twice x m) ∙ ap (λ z. bit_xor z m) e ∙ xor_twice y m

-- the highest bit of the register is the one that was shifted out
top_by : (bit half : ℕ) → bit < 2 → half < 2 ^ 15 → bit_xor half (bit * 0x8408) / 2 ^ 15 ≡ bit
top_by zero half h k = let none : half / 2 ^ 15 ≡ 0 = omega arith in rw (xor_zero_r half) none
top_by (suc zero) half h k = let none : half / 2 ^ 15 ≡ 0 = omega arith in xor_shr half 0x8408 15 ∙ ap (λ x. bit_xor x 1) none
top_by (suc (suc bit)) half h k = absurd (omega arith)

shifted_top : (r : ℕ) → r < 2 ^ 16 → shifted_once r / 2 ^ 15 ≡ r % 2
unfolding shifted_once
shifted_top r h = top_by (r % 2) (r / 2) (omega arith) (omega arith)

-- what was shifted once is known by what it became
shifted_once-same : (a b : ℕ) → a < 2 ^ 16 → b < 2 ^ 16 → shifted_once a ≡ shifted_once b → a ≡ b
unfolding shifted_once
shifted_once-same a b h k e =
    let bit : a % 2 ≡ b % 2 = sym (shifted_top a h) ∙ ap (λ x. x / 2 ^ 15) e ∙ shifted_top b k in
    let half : a / 2 ≡ b / 2 = xor_cancel (a / 2) (b / 2) (b % 2 * 0x8408) (ap (λ x. bit_xor (a / 2) (x * 0x8408)) (sym bit) ∙ e) in
    omega arith

shifted-same : (n a b : ℕ) → a < 2 ^ 16 → b < 2 ^ 16 → shifted n a ≡ shifted n b → a ≡ b
unfolding shifted
shifted-same zero a b h k e = e
shifted-same (suc n) a b h k e = shifted_once-same a b h k (shifted-same n (shifted_once a) (shifted_once b) (shifted_small 1 a h) (shifted_small 1 b k) e)

-- ---- the residue

-- two octets go into the register at once
two_after : (r lo hi : ℕ) → lo < 256 → hi < 256 → register_after r (lo ∷ hi ∷ []) ≡ shifted 16 (bit_xor r (lo + 256 * hi))
unfolding register_after
two_after r lo hi h k =
    let low : lo % 256 ≡ lo = omega arith in
    let high : hi % 256 ≡ hi = omega arith in
    let sum : bit_xor lo (hi * 2 ^ 8) ≡ lo + 256 * hi = xor_comm lo (hi * 2 ^ 8) ∙ xor_shifted hi 8 lo h ∙ omega arith in
    let joined : bit_xor (shifted 8 (bit_xor r lo)) hi ≡ shifted 8 (bit_xor r (lo + 256 * hi)) =
    ap (λ x. bit_xor (shifted 8 (bit_xor r lo)) x) (sym (shifted-high 8 hi)) ∙ sym (shifted-xor 8 (bit_xor r lo) (hi * 2 ^ 8))
    ∙ ap (shifted 8) (xor_assoc r lo (hi * 2 ^ 8) ∙ ap (λ x. bit_xor r x) sum) in
    rw (low, high, joined) (sym (shifted-more 8 8 (bit_xor r (lo + 256 * hi))))

ones_through : shifted 16 65535 ≡ 0xf0b8
unfolding shifted shifted_once
ones_through = refl

residue : (p : List ℕ) (lo hi : ℕ) → lo < 256 → hi < 256 → (fcs_of (p ++ lo ∷ hi ∷ []) ≡ 0x0f47) ↔ (fcs_of p ≡ lo + 256 * hi)
residue p lo hi h k =
    let r : ℕ = register_after 65535 p in
    let c : ℕ = lo + 256 * hi in
    let small : r < 2 ^ 16 = register_after_small p 65535 (omega arith) in
    let whole : fcs_of (p ++ lo ∷ hi ∷ []) ≡ bit_xor (shifted 16 (bit_xor r c)) 65535 =
    fcs_of-register (p ++ lo ∷ hi ∷ []) ∙ ap (λ x. bit_xor x 65535) (register_after-append p 65535 (lo ∷ hi ∷ []) ∙ two_after r lo hi h k) in (
      λ e.
          let through : shifted 16 (bit_xor r c) ≡ shifted 16 65535 = xor_cancel (shifted 16 (bit_xor r c)) (shifted 16 65535) 65535 (sym whole ∙ e ∙ sym (ap (λ x. bit_xor x 65535) ones_through)) in
          let all : bit_xor r c ≡ 65535 = shifted-same 16 (bit_xor r c) 65535 (xor_lt 16 r c small (omega arith)) (omega arith) through in
          fcs_of-register p ∙ ap (λ x. bit_xor r x) (sym all) ∙ sym (xor_assoc r r c) ∙ ap (λ x. bit_xor x c) (xor_self r) ∙ xor_zero_l c,
      λ e.
          let number : bit_xor r 65535 ≡ c = sym (fcs_of-register p) ∙ e in
          let all : bit_xor r c ≡ 65535 = ap (λ x. bit_xor r x) (sym number) ∙ sym (xor_assoc r r 65535) ∙ ap (λ x. bit_xor x 65535) (xor_self r) in
          whole ∙ ap (λ x. bit_xor (shifted 16 x) 65535) all ∙ ap (λ x. bit_xor x 65535) ones_through,
    )

pub residue_tells_intact : ResidueTellsIntact
unfolding checked_part check_number
residue_tells_intact content long small =
    let n : ℕ = length content - 2 in
    let lo : ℕ = get_or content n 0 in
    let hi : ℕ = get_or content (length content - 1) 0 in
    let law = residue (take n content) lo hi (small n) (small (length content - 1)) in
    let whole : fcs_of content ≡ fcs_of (take n content ++ lo ∷ hi ∷ []) = ap fcs_of (ends_so content long) in
    (λ e. (long, law.0 (sym whole ∙ e)), λ h. whole ∙ law.1 h.1)
