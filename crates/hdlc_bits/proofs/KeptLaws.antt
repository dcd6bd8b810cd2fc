-- What a deframer keeps, by where the line stands.
use Rattle.std.proofs.Common.{◌≡◌, ℕ, ◌+◌, ◌<◌, ◌≤◌, min, Bool, true, false, ◌==◌, List, [], ◌∷◌, ◌++◌, length, take, replicate, Option, None, Some, refl, sym, ◌∙◌, ap, arith, inl, inr, append_assoc, append-nil}
use Rattle.std.specs.Prelude.{flat_map}
use Rattle.std.specs.Option.{option_to_list}
use Rattle.std.proofs.lemmas.Bool.{cases_Bool, cases_lt, lt-ltb, le-ltb, ne_eqb}
use Rattle.std.proofs.lemmas.List.{take_all, take-append-le, length-take-le}
use Rattle.hdlc_bits.specs.Framing.{TooLong, is_flag, is_abort, is_bound, has_zero, zero_if, segment_bits, has_bits, verdict_on_bits, verdict_at_end, verdict_on_segment}
use Rattle.hdlc_bits.specs.Keeping.{KeptBitDeframer, kept_of_nothing, added, after_zero, after_ones, after_bit, kept_after, kept_of, closing_verdict, verdict_at}
use Rattle.hdlc_bits.proofs.RunLaws.{At, at_first, ended, opened, told, next, brought, after, after-cons, after-nil}

-- ---- one element more

-- whether a 0 goes before what follows these elements
unfoldable pub gap_of : List ℕ → Bool
gap_of [] = false
gap_of (c ∷ []) = has_zero c
gap_of (c ∷ d ∷ cs) = gap_of (d ∷ cs)

pub gap_of-push : (es : List ℕ) (c : ℕ) → gap_of (es ++ c ∷ []) ≡ has_zero c
unfolding gap_of
gap_of-push [] c = refl
gap_of-push (d ∷ []) c = refl
gap_of-push (d ∷ e ∷ es) c = gap_of-push (e ∷ es) c

pub segment_bits-push : (es : List ℕ) (c : ℕ) → segment_bits (es ++ c ∷ []) ≡ segment_bits es ++ added (gap_of es) c
unfolding segment_bits gap_of
segment_bits-push [] c = refl
segment_bits-push (d ∷ []) c = append_assoc (replicate d 1) (zero_if (has_zero d)) (replicate c 1)
segment_bits-push (d ∷ e ∷ es) c =
    ap (λ bs. (replicate d 1 ++ zero_if (has_zero d)) ++ bs) (segment_bits-push (e ∷ es) c)
    ∙ sym (append_assoc (replicate d 1 ++ zero_if (has_zero d)) (segment_bits (e ∷ es)) (added (gap_of (e ∷ es)) c))

-- ---- content that is cut off

-- content that is kept to n bits and then gets more
pub take_kept : (n : ℕ) (c d : List ℕ) → take n (take n c ++ d) ≡ take n (c ++ d)
take_kept n c d =
    elim (cases_lt (length c) n) [
      | inl short ↦ ap (λ b. take n (b ++ d)) (take_all n c (omega arith))
      | inr long ↦
          let wide : n ≤ length c = omega arith in
          let size : length (take n c) ≡ n = length-take-le n c wide in
          take-append-le n (take n c) d (omega arith) ∙ take_all n (take n c) (omega arith) ∙ sym (take-append-le n c d wide)
    ]

pub too_long : (c : List ℕ) → 8256 < length c → verdict_on_bits c ≡ TooLong
unfolding verdict_on_bits
too_long c h = rw (lt-ltb 8256 (length c) h) refl

-- one bit more than the greatest length is enough to judge
pub verdict_on_kept : (c : List ℕ) → verdict_on_bits (take 8257 c) ≡ verdict_on_bits c
verdict_on_kept c =
    elim (cases_lt (length c) 8257) [
      | inl short ↦ ap verdict_on_bits (take_all 8257 c (omega arith))
      | inr long ↦
          let size : length (take 8257 c) ≡ 8257 = length-take-le 8257 c (omega arith) in
          too_long (take 8257 c) (omega arith) ∙ sym (too_long c (omega arith))
    ]

has_bits-take : (c : List ℕ) → has_bits (take 8257 c) ≡ has_bits c
has_bits-take [] = refl
has_bits-take (x ∷ c) = refl

-- ---- the number of ones, counted to seven

bound_min : (n : ℕ) → is_bound (min n 7) ≡ is_bound n
bound_min n =
    elim (cases_lt 5 n) [
      | inl h ↦ lt-ltb 5 (min n 7) (omega arith) ∙ sym (lt-ltb 5 n h)
      | inr h ↦ le-ltb 5 (min n 7) (omega arith) ∙ sym (le-ltb 5 n (omega arith))
    ]

abort_min : (n : ℕ) → is_abort (min n 7) ≡ is_abort n
abort_min n =
    elim (cases_lt 6 n) [
      | inl h ↦ lt-ltb 6 (min n 7) (omega arith) ∙ sym (lt-ltb 6 n h)
      | inr h ↦ le-ltb 6 (min n 7) (omega arith) ∙ sym (le-ltb 6 n (omega arith))
    ]

flag_min : (n : ℕ) → is_flag (min n 7) ≡ is_flag n
flag_min n =
    elim (cases_lt 6 n) [
      | inl h ↦ ne_eqb (min n 7) 6 (λ e. absurd (omega arith)) ∙ sym (ne_eqb n 6 (λ e. absurd (omega arith)))
      | inr h ↦ let e : min n 7 ≡ n = omega arith in ap is_flag e
    ]

min_next : (n : ℕ) → min (min n 7 + 1) 7 ≡ min (n + 1) 7
min_next n = omega arith

min_small : (n : ℕ) → is_bound n ≡ false → min n 7 ≡ n
min_small n f =
    elim (cases_lt 5 n) [
      | inl h ↦ let t = lt-ltb 5 n h in cc
      | inr h ↦ omega arith
    ]

flag_small : (n : ℕ) → is_bound n ≡ false → is_flag n ≡ false
flag_small n f =
    elim (cases_lt 5 n) [
      | inl h ↦ let t = lt-ltb 5 n h in cc
      | inr h ↦ ne_eqb n 6 (λ e. absurd (omega arith))
    ]

-- ---- what is kept

-- what is kept where the line stands
abbrev pub kept_at : ℕ → Option (List ℕ) → KeptBitDeframer
kept_at n None = record { ones = min n 7; begun = false; gap = false; content = [] }
kept_at n (Some es) = record { ones = min n 7; begun = true; gap = gap_of es; content = take 8257 (segment_bits es) }

unfoldable pub kept_since : At → KeptBitDeframer
kept_since a = kept_at a.ones a.elements

kept_one : (n : ℕ) (s : Option (List ℕ)) → after_ones (kept_at n s) 1 ≡ kept_at (n + 1) s
kept_one n None = ap (λ m. record { ones = m; begun = false; gap = false; content = [] }) (min_next n)
kept_one n (Some es) = ap (λ m. record { ones = m; begun = true; gap = gap_of es; content = take 8257 (segment_bits es) }) (min_next n)

ones_at : (n : ℕ) (s : Option (List ℕ)) → (kept_at n s).ones ≡ min n 7
ones_at n None = refl
ones_at n (Some es) = refl

empty_flag : kept_at 0 (Some []) ≡ record { ones = 0; begun = true; gap = false; content = [] }
unfolding gap_of segment_bits
empty_flag = refl

kept_bound : (n : ℕ) (s : Option (List ℕ)) → is_bound n ≡ true → after_zero (kept_at n s) ≡ kept_at 0 (opened s n)
kept_bound n s b =
    let ones = ones_at n s in
    let bound : is_bound (min n 7) ≡ true = bound_min n ∙ b in
    elim (cases_Bool (is_flag n)) [
      | inl t ↦ let flag : is_flag (min n 7) ≡ true = flag_min n ∙ t in rw (ones, bound, flag, t) (sym empty_flag)
      | inr f ↦ let flag : is_flag (min n 7) ≡ false = flag_min n ∙ f in rw (ones, bound, flag, f, b) refl
    ]

kept_element : (n : ℕ) (s : Option (List ℕ)) → is_bound n ≡ false → after_zero (kept_at n s) ≡ kept_at 0 (opened s n)
kept_element n None b =
    let same : min n 7 ≡ n = min_small n b in
    let flag : is_flag n ≡ false = flag_small n b in
    rw (same, b, flag) refl
kept_element n (Some es) b =
    let same : min n 7 ≡ n = min_small n b in
    let flag : is_flag n ≡ false = flag_small n b in
    let content : take 8257 (take 8257 (segment_bits es) ++ added (gap_of es) n) ≡ take 8257 (segment_bits (es ++ n ∷ [])) =
    take_kept 8257 (segment_bits es) (added (gap_of es) n) ∙ ap (λ bs. take 8257 bs) (sym (segment_bits-push es n)) in
    rw (same, b, flag)
    (ap (λ (c : List ℕ). record { ones = 0; begun = true; gap = has_zero n; content = c }) content
    ∙ ap (λ (g : Bool). record { ones = 0; begun = true; gap = g; content = take 8257 (segment_bits (es ++ n ∷ [])) }) (sym (gap_of-push es n)))

kept_zero : (n : ℕ) (s : Option (List ℕ)) → after_zero (kept_at n s) ≡ kept_at 0 (opened s n)
kept_zero n s =
    elim (cases_Bool (is_bound n)) [
      | inl t ↦ kept_bound n s t
      | inr f ↦ kept_element n s f
    ]

pub kept_since-bit : (a : At) (b : ℕ) → after_bit (kept_since a) b ≡ kept_since (next a b)
unfolding kept_since next
kept_since-bit a b =
    elim (cases_Bool (b == 0)) [
      | inl t ↦ rw t (kept_zero a.ones a.elements)
      | inr f ↦ rw f (kept_one a.ones a.elements)
    ]

kept_after_is : (bits : List ℕ) (a : At) → kept_after (kept_since a) bits ≡ kept_since (after a bits)
unfolding kept_after
kept_after_is [] a = ap kept_since (sym (after-nil a))
kept_after_is (b ∷ bits) a = ap (λ (k : KeptBitDeframer). kept_after k bits) (kept_since-bit a b) ∙ kept_after_is bits (next a b) ∙ ap kept_since (sym (after-cons a b bits))

nothing_is : kept_of_nothing ≡ kept_since at_first
unfolding kept_since
nothing_is = refl

pub kept_of-is : (line : List ℕ) → kept_of line ≡ kept_since (after at_first line)
unfolding kept_of
kept_of-is line = ap (λ (k : KeptBitDeframer). kept_after k line) nothing_is ∙ kept_after_is line at_first

pub kept_of-nothing : kept_of [] ≡ kept_of_nothing
unfolding kept_of kept_after
kept_of-nothing = refl

pub kept_after-append : (xs : List ℕ) (k : KeptBitDeframer) (ys : List ℕ) → kept_after k (xs ++ ys) ≡ kept_after (kept_after k xs) ys
unfolding kept_after
kept_after-append [] k ys = refl
kept_after-append (x ∷ xs) k ys = kept_after-append xs (after_bit k x) ys

pub kept_of-append : (line bits : List ℕ) → kept_of (line ++ bits) ≡ kept_after (kept_of line) bits
unfolding kept_of
kept_of-append line bits = kept_after-append line kept_of_nothing bits

-- ---- the verdict that one bit brings

end_kept : (n : ℕ) (es : List ℕ) → verdict_at_end (min n 7) (take 8257 (segment_bits es)) ≡ verdict_on_segment (record { elements = es; right = n })
unfolding verdict_on_segment
end_kept n es = rw (has_bits-take (segment_bits es), abort_min n, verdict_on_kept (segment_bits es)) refl

closing_at : (n : ℕ) (s : Option (List ℕ)) → option_to_list (closing_verdict (kept_at n s)) ≡ flat_map told (ended s n)
closing_at n None =
    elim (cases_Bool (is_bound (min n 7))) [
      | inl t ↦ rw t refl
      | inr f ↦ rw f refl
    ]
closing_at n (Some es) =
    elim (cases_Bool (is_bound n)) [
      | inl t ↦ rw (bound_min n, t, end_kept n es) (sym (append-nil (told (record { elements = es; right = n }))))
      | inr f ↦ rw (bound_min n, f) refl
    ]

pub verdict_of_bit : (a : At) (b : ℕ) → option_to_list (verdict_at (kept_since a) b) ≡ brought a b
unfolding kept_since brought
verdict_of_bit a b =
    elim (cases_Bool (b == 0)) [
      | inl t ↦ rw t (closing_at a.ones a.elements)
      | inr f ↦ rw f refl
    ]
