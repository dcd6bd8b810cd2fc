-- The frames of a line, read bit by bit: the ones behind the newest 0, and the elements behind the newest flag.
use Rattle.std.proofs.Common.{◌≡◌, ℕ, zero, suc, ◌+◌, ◌-◌, ◌<◌, true, false, ◌==◌, List, [], ◌∷◌, ◌++◌, length, take, map, Option, None, Some, refl, sym, ◌∙◌, ap, arith, inl, inr, append_assoc, append-nil, if◌then◌else◌}
use Rattle.std.specs.Prelude.{flat_map, option_map}
use Rattle.std.specs.Option.{option_to_list}
use Rattle.std.specs.List.{onto_first}
use Rattle.std.proofs.lemmas.Bool.{cases_Bool}
use Rattle.std.proofs.lemmas.List.Splits.{length-slice_split, slice_split-cons_yes, slice_split-cons_no}
use Rattle.std.proofs.lemmas.Grind.{flat_map-append}
use Rattle.std.specs.List.{slice_split}
use Rattle.hdlc_bits.specs.Framing.{Verdict, BitLineSegment, all_but_last, lengths, runs, is_flag, is_bound, with_first, first_segment, segments_between_flags, verdict_on_segment, frames_of_bits}

-- ---- runs from the left

-- the numbers of ones before each 0, of bits that come behind n ones
unfoldable runs_behind : ℕ → List ℕ → List ℕ
runs_behind n [] = []
runs_behind n (b ∷ bs) = if b == 0 then n ∷ runs_behind 0 bs else runs_behind (n + 1) bs

abbrev add_first : ℕ → List ℕ → List ℕ
add_first n [] = []
add_first n (c ∷ cs) = (c + n) ∷ cs

lengths_zero : (b : ℕ) (bs : List ℕ) → (b == 0) ≡ true → lengths (b ∷ bs) ≡ 0 ∷ lengths bs
unfolding lengths
lengths_zero b bs h = ap (λ (c : List (List ℕ)). map length c) (slice_split-cons_yes (λ bit. bit == 0) b bs h)

onto_lengths : (b : ℕ) (c : List (List ℕ)) → 0 < length c → map length (onto_first b c) ≡ add_first 1 (map length c)
onto_lengths b [] h = absurd (omega arith)
onto_lengths b (p ∷ c) h = let one : suc (length p) ≡ length p + 1 = omega arith in ap (λ n. n ∷ map length c) one

lengths_one : (b : ℕ) (bs : List ℕ) → (b == 0) ≡ false → lengths (b ∷ bs) ≡ add_first 1 (lengths bs)
unfolding lengths
lengths_one b bs h =
    ap (λ (c : List (List ℕ)). map length c) (slice_split-cons_no (λ bit. bit == 0) b bs h)
    ∙ onto_lengths b (slice_split (λ bit. bit == 0) bs) (omega (arith, length-slice_split (λ bit. bit == 0) bs))

mapped_nonempty : (c : List (List ℕ)) → 0 < length c → 0 < length (map length c)
mapped_nonempty [] h = absurd (omega arith)
mapped_nonempty (p ∷ c) h = omega arith

lengths_nonempty : (bs : List ℕ) → 0 < length (lengths bs)
unfolding lengths
lengths_nonempty bs = mapped_nonempty (slice_split (λ bit. bit == 0) bs) (omega (arith, length-slice_split (λ bit. bit == 0) bs))

all_but_last-cons : (c : ℕ) (cs : List ℕ) → 0 < length cs → all_but_last (c ∷ cs) ≡ c ∷ all_but_last cs
unfolding all_but_last
all_but_last-cons c [] h = absurd (omega arith)
all_but_last-cons c (d ∷ cs) h = let one : suc (suc (length cs)) - 1 ≡ suc (suc (length cs) - 1) = omega arith in ap (λ n. take n (c ∷ d ∷ cs)) one

add_none : (cs : List ℕ) → add_first 0 cs ≡ cs
add_none [] = refl
add_none (c ∷ cs) = let e : c + 0 ≡ c = omega arith in ap (λ d. d ∷ cs) e

add_twice : (n : ℕ) (cs : List ℕ) → add_first n (add_first 1 cs) ≡ add_first (n + 1) cs
add_twice n [] = refl
add_twice n (c ∷ cs) = let e : c + 1 + n ≡ c + (n + 1) = omega arith in ap (λ d. d ∷ cs) e

nothing_left : (n : ℕ) → all_but_last (add_first n (lengths [])) ≡ []
unfolding all_but_last lengths
nothing_left n = refl

runs_from : (bs : List ℕ) (n : ℕ) → all_but_last (add_first n (lengths bs)) ≡ runs_behind n bs
unfolding runs_behind
runs_from [] n = nothing_left n
runs_from (b ∷ bs) n =
    elim (cases_Bool (b == 0)) [
      | inl t ↦
          let e : 0 + n ≡ n = omega arith in
          rw (lengths_zero b bs t, t, e)
          (all_but_last-cons n (lengths bs) (lengths_nonempty bs)
          ∙ ap (λ cs. n ∷ cs) (ap all_but_last (sym (add_none (lengths bs))) ∙ runs_from bs 0))
      | inr f ↦ rw (lengths_one b bs f, f) (ap all_but_last (add_twice n (lengths bs)) ∙ runs_from bs (n + 1))
    ]

runs_is : (bs : List ℕ) → runs bs ≡ runs_behind 0 bs
unfolding runs
runs_is bs = ap all_but_last (sym (add_none (lengths bs))) ∙ runs_from bs 0

-- ---- segments from the left

-- the segment that an element ends behind these
abbrev pub ended : Option (List ℕ) → ℕ → List BitLineSegment
ended None c = []
ended (Some es) c = if is_bound c then (record { elements = es; right = c }) ∷ [] else []

-- the elements behind the newest flag once one element more came
abbrev pub opened : Option (List ℕ) → ℕ → Option (List ℕ)
opened s c = if is_flag c then Some [] else if is_bound c then None else option_map (λ es. es ++ c ∷ []) s

unfoldable pub segments_from : Option (List ℕ) → List ℕ → List BitLineSegment
segments_from s [] = []
segments_from s (c ∷ cs) = ended s c ++ segments_from (opened s c) cs

-- elements put before a segment
abbrev with_before : List ℕ → Option BitLineSegment → List BitLineSegment
with_before es None = []
with_before es (Some s) = (record s { elements = es ++ s.elements }) ∷ []

with_none : (x : Option BitLineSegment) → with_before [] x ≡ option_to_list x
with_none None = refl
with_none (Some s) = refl

with_one_more : (es : List ℕ) (c : ℕ) (x : Option BitLineSegment) → with_before (es ++ c ∷ []) x ≡ with_before es (option_map (with_first c) x)
with_one_more es c None = refl
with_one_more es c (Some s) = ap (λ cs. (record s { elements = cs }) ∷ []) (append_assoc es (c ∷ []) s.elements)

flag_is_bound : (c : ℕ) → is_flag c ≡ true → is_bound c ≡ true
flag_is_bound zero h = cc
flag_is_bound (suc c) h = grind (arith, h)

pub record Cut (cs : List ℕ) : Type 0 where
  pub shut : segments_from None cs ≡ segments_between_flags cs
  pub open_at : (es : List ℕ) → segments_from (Some es) cs ≡ with_before es (first_segment cs) ++ segments_between_flags cs

cut : (cs : List ℕ) → Cut cs
unfolding segments_from segments_between_flags first_segment
cut [] = record { shut = refl; open_at = λ es. refl }
cut (c ∷ cs) =
    let rest : Cut cs = cut cs in
    elim (cases_Bool (is_flag c)) [
      | inl t ↦
          let bound : is_bound c ≡ true = flag_is_bound c t in
          let behind : segments_from (Some []) cs ≡ option_to_list (first_segment cs) ++ segments_between_flags cs =
          rest.open_at [] ∙ ap (λ s. s ++ segments_between_flags cs) (with_none (first_segment cs)) in
          record {
            shut = rw t behind;
            open_at = λ es. rw (t, bound) (rw (append-nil es) (ap (λ s. (record { elements = es; right = c }) ∷ s) behind));
          }
      | inr f ↦
          elim (cases_Bool (is_bound c)) [
            | inl b ↦ record {
              shut = rw (f, b) rest.shut;
              open_at = λ es. rw (f, b) (rw (append-nil es) (ap (λ s. (record { elements = es; right = c }) ∷ s) rest.shut));
            }
            | inr n ↦ record {
              shut = rw (f, n) rest.shut;
              open_at = λ es. rw (f, n) (rest.open_at (es ++ c ∷ []) ∙ ap (λ s. s ++ segments_between_flags cs) (with_one_more es c (first_segment cs)));
            }
          ]
    ]

-- ---- verdicts from the left

-- where a line stands
pub record At : Type 0 where
  -- the number of ones behind the newest 0
  pub ones : ℕ
  -- the elements behind the newest flag, if no abort came behind it
  pub elements : Option (List ℕ)

abbrev pub at_first : At
at_first = record { ones = 0; elements = None }

-- the verdict on a segment, as a list
abbrev pub told : BitLineSegment → List Verdict
told s = option_to_list (verdict_on_segment s)

-- where the line stands after one bit more
unfoldable pub next : At → ℕ → At
next a b = if b == 0 then record { ones = 0; elements = opened a.elements a.ones } else record { ones = a.ones + 1; elements = a.elements }

-- the verdict that one bit brings
unfoldable pub brought : At → ℕ → List Verdict
brought a b = if b == 0 then flat_map told (ended a.elements a.ones) else []

unfoldable pub frames_from : At → List ℕ → List Verdict
frames_from a [] = []
frames_from a (b ∷ bs) = brought a b ++ frames_from (next a b) bs

unfoldable pub after : At → List ℕ → At
after a [] = a
after a (b ∷ bs) = after (next a b) bs

pub frames_from-cons : (a : At) (b : ℕ) (bs : List ℕ) → frames_from a (b ∷ bs) ≡ brought a b ++ frames_from (next a b) bs
unfolding frames_from
frames_from-cons a b bs = refl

pub frames_from-nil : (a : At) → frames_from a [] ≡ []
unfolding frames_from
frames_from-nil a = refl

pub after-cons : (a : At) (b : ℕ) (bs : List ℕ) → after a (b ∷ bs) ≡ after (next a b) bs
unfolding after
after-cons a b bs = refl

pub after-nil : (a : At) → after a [] ≡ a
unfolding after
after-nil a = refl

frames_of_runs : (bs : List ℕ) (a : At) → flat_map told (segments_from a.elements (runs_behind a.ones bs)) ≡ frames_from a bs
unfolding runs_behind segments_from frames_from brought next
frames_of_runs [] a = refl
frames_of_runs (b ∷ bs) a =
    elim (cases_Bool (b == 0)) [
      | inl t ↦
          rw t
          (flat_map-append told (ended a.elements a.ones) (segments_from (opened a.elements a.ones) (runs_behind 0 bs))
          ∙ ap (λ vs. flat_map told (ended a.elements a.ones) ++ vs) (frames_of_runs bs (record { ones = 0; elements = opened a.elements a.ones })))
      | inr f ↦ rw f (frames_of_runs bs (record { ones = a.ones + 1; elements = a.elements }))
    ]

pub frames_of_bits-from : (bs : List ℕ) → frames_of_bits bs ≡ frames_from at_first bs
unfolding frames_of_bits
frames_of_bits-from bs =
    ap (λ cs. flat_map told (segments_between_flags cs)) (runs_is bs) ∙ ap (λ ss. flat_map told ss) (sym (cut (runs_behind 0 bs)).shut) ∙ frames_of_runs bs at_first

-- ---- lines joined

pub frames_from-append : (xs : List ℕ) (a : At) (ys : List ℕ) → frames_from a (xs ++ ys) ≡ frames_from a xs ++ frames_from (after a xs) ys
unfolding frames_from after
frames_from-append [] a ys = refl
frames_from-append (x ∷ xs) a ys =
    ap (λ v. brought a x ++ v) (frames_from-append xs (next a x) ys) ∙ sym (append_assoc (brought a x) (frames_from (next a x) xs) (frames_from (after (next a x) xs) ys))

pub after-append : (xs : List ℕ) (a : At) (ys : List ℕ) → after a (xs ++ ys) ≡ after (after a xs) ys
unfolding after
after-append [] a ys = refl
after-append (x ∷ xs) a ys = after-append xs (next a x) ys

pub frames_of_bits-append : (xs ys : List ℕ) → frames_of_bits (xs ++ ys) ≡ frames_of_bits xs ++ frames_from (after at_first xs) ys
frames_of_bits-append xs ys =
    frames_of_bits-from (xs ++ ys) ∙ frames_from-append xs at_first ys ∙ ap (λ v. v ++ frames_from (after at_first xs) ys) (sym (frames_of_bits-from xs))

pub frames_of_bits-nothing : frames_of_bits [] ≡ []
frames_of_bits-nothing = frames_of_bits-from [] ∙ frames_from-nil at_first
