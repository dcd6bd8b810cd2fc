-- When entries hold, in order: none runs into the next one exactly where no two entries of one pair have a moment in common.
use Rattle.std.proofs.Common.{arith, ◌≡◌, ℕ, ◌+◌, ◌*◌, ◌<◌, ◌≤◌, zero, suc, nat_le, nat_lt, Bool, true, false, inl, inr, List, [], ◌∷◌, length, map, get_or, take, Option, Some, None, refl, sym, ◌∙◌, ap, subst, eq-eqb, append-nil, append_assoc}
use Rattle.std.specs.Prelude.{◌==◌, ◌&&◌, ◌⊎◌, not, is_none, ◌++◌, option_map}
use Rattle.std.specs.List.{AllByRecursion, IsDistinct}
use Rattle.std.specs.List.Sorted.{IsSorted}
use Rattle.std.specs.Ordering.{is_lt}
use Rattle.std.proofs.lemmas.Bool.{cases_Bool, eqb-true, and_parts, and_from, leb-true, le-leb, false≢true}
use Rattle.std.proofs.lemmas.List.Elements.{All-from_recursion, recursion_from_All}
use Rattle.std.proofs.lemmas.List.Sorted.{All-permutation, IsPermutation-sym}
use Rattle.std.proofs.lemmas.Bool.Decides.{nat_tests}
use Rattle.std.proofs.lemmas.Map.Keys.{IsDistinct-IsPermutation}
use Rattle.std.proofs.lemmas.List.{take-map, get_or-map, length-map, length-append}
use Rattle.safety_automaton.specs.Keys.{KmacEntry, IsApartFrom, AreKmacEntriesApart}
use Rattle.key_store.specs.KeyFiles.{is_at_once, place_at_once, first_twice}
use Rattle.key_store.specs.Ranges.{IsInRange, AreInRange}
use Rattle.key_store.specs.Spans.{span_of, span_cmp, runs_into, apart_behind, are_apart, AreSpansInOrder, are_once}
use Rattle.key_store.specs.Kept.{key_entry_of}
use Rattle.key_store.specs.declared.key_entry.KeyEntry.{KeyEntry}
use Rattle.key_store.proofs.Twices.{at_once_tells, tells_at_once, distinct_where_none, none_where_distinct, no_twice_or}

-- two are of one pair and have a moment in common
abbrev meet : ℕ × ℕ × ℕ → ℕ × ℕ × ℕ → Bool
meet x y = (x.0 == y.0) && nat_le x.1 y.2 && nat_le y.1 x.2

-- one ends before the other begins, or is of an earlier pair
abbrev Before : ℕ × ℕ × ℕ → ℕ × ℕ × ℕ → Type 0
Before x y = (x.0 < y.0) ⊎ ((x.0 ≡ y.0) × (x.2 < y.1))

abbrev NotBehind : ℕ × ℕ × ℕ → ℕ × ℕ × ℕ → Type 0
NotBehind x y = (x.0 < y.0) ⊎ ((x.0 ≡ y.0) × (x.1 ≤ y.1))

abbrev RiseBehind : ℕ × ℕ × ℕ → List (ℕ × ℕ × ℕ) → Type 0
RiseBehind x [] = Unit {0}
RiseBehind x (y ∷ ys) = NotBehind x y × RiseBehind y ys

abbrev IsSpan : ℕ × ℕ × ℕ → Type 0
IsSpan x = x.1 ≤ x.2

-- ---- two

-- a number of a pair has both its numbers
pairs_same : (e r f s : ℕ) → r < 4294967296 → s < 4294967296 → (e * 4294967296 + r == f * 4294967296 + s) ≡ (e == f) && (r == s)
pairs_same e r f s p q = grind (arith, nat_tests)

meet_is : (a b : KmacEntry) → IsInRange a → IsInRange b → meet (span_of a) (span_of b) ≡ is_at_once a b
meet_is a b p q =
    rw (pairs_same a.engine a.rbc b.engine b.rbc (let z : a.rbc < 4294967296 = omega (arith, p.rbc) in z) (let z : b.rbc < 4294967296 = omega (arith, q.rbc) in z)) refl

meet_flips : (x y : ℕ × ℕ × ℕ) → meet x y ≡ meet y x
meet_flips x y = grind (arith, nat_tests)

apart_before : (x y : ℕ × ℕ × ℕ) → Before x y → meet x y ≡ false
apart_before x y (inl p) = grind (arith, nat_tests, p)
apart_before x y (inr p) = grind (arith, nat_tests, p.0, p.1)

before_then : (x y z : ℕ × ℕ × ℕ) → y.1 ≤ y.2 → Before x y → Before y z → Before x z
before_then x y z s (inl p) (inl q) = inl (let r : x.0 < z.0 = omega (arith, p, q) in r)
before_then x y z s (inl p) (inr q) = inl (let r : x.0 < z.0 = omega (arith, p, q.0) in r)
before_then x y z s (inr p) (inl q) = inl (let r : x.0 < z.0 = omega (arith, p.0, q) in r)
before_then x y z s (inr p) (inr q) = inr (p.0 ∙ q.0, (let r : x.2 < z.1 = omega (arith, s, p.1, q.1) in r))

before_next : (x y : ℕ × ℕ × ℕ) → NotBehind x y → runs_into x y ≡ false → Before x y
before_next x y (inl p) f = inl p
before_next x y (inr p) f = inr (p.0, (let r : x.2 < y.1 = grind (arith, nat_tests, p.0, f) in r))

-- one that runs into the next has a moment in common with it
meet_next : (x y : ℕ × ℕ × ℕ) → y.1 ≤ y.2 → NotBehind x y → runs_into x y ≡ true → meet x y ≡ true
meet_next x y s (inl p) t = absurd (let same : x.0 ≡ y.0 = eqb-true _ _ (and_parts (x.0 == y.0) (nat_le y.1 x.2) t).0 in let z : ⊥ = omega (arith, p, same) in z)
meet_next x y s (inr p) t =
    let late = leb-true y.1 x.2 (and_parts (x.0 == y.0) (nat_le y.1 x.2) t).1 in
    and_from ((x.0 == y.0) && nat_le x.1 y.2) (nat_le y.1 x.2)
    (and_from (x.0 == y.0) (nat_le x.1 y.2) (eq-eqb _ _ p.0) (le-leb x.1 y.2 (let z : x.1 ≤ y.2 = omega (arith, p.1, s) in z)))
    (le-leb y.1 x.2 late)

-- ---- all of a list in order

all_before : (b x : ℕ × ℕ × ℕ) (xs : List (ℕ × ℕ × ℕ)) → Before b x → x.1 ≤ x.2 → AllByRecursion IsSpan xs → RiseBehind x xs → apart_behind x xs ≡ true
    → AllByRecursion (λ z. meet b z ≡ false) xs
unfolding apart_behind
all_before b x [] p s ss up h = tt
all_before b x (y ∷ ys) p s ss up h =
    let parts = and_parts (not (runs_into x y)) (apart_behind y ys) h in
    let here = before_then b x y s p (before_next x y up.0 (not_true (runs_into x y) parts.0)) in
    (apart_before b y here, all_before b y ys here ss.0 ss.1 up.1 parts.1)
  where
    not_true : (b : Bool) → not b ≡ true → b ≡ false
    not_true true p = absurd (false≢true p)
    not_true false p = refl

distinct_behind : (x : ℕ × ℕ × ℕ) (xs : List (ℕ × ℕ × ℕ)) → x.1 ≤ x.2 → AllByRecursion IsSpan xs → RiseBehind x xs → apart_behind x xs ≡ true → IsDistinct meet (x ∷ xs)
unfolding apart_behind IsDistinct
distinct_behind x [] s ss up h = (tt, tt)
distinct_behind x (y ∷ ys) s ss up h =
    let parts = and_parts (not (runs_into x y)) (apart_behind y ys) h in
    let here = before_next x y up.0 (not_true (runs_into x y) parts.0) in
    ((apart_before x y here, all_before x y ys here ss.0 ss.1 up.1 parts.1), distinct_behind y ys ss.0 ss.1 up.1 parts.1)
  where
    not_true : (b : Bool) → not b ≡ true → b ≡ false
    not_true true p = absurd (false≢true p)
    not_true false p = refl

apart_where_distinct : (x : ℕ × ℕ × ℕ) (xs : List (ℕ × ℕ × ℕ)) → AllByRecursion IsSpan xs → RiseBehind x xs → IsDistinct meet (x ∷ xs) → apart_behind x xs ≡ true
unfolding apart_behind IsDistinct
apart_where_distinct x [] ss up d = refl
apart_where_distinct x (y ∷ ys) ss up d =
    elim (cases_Bool (runs_into x y)) [
      | inl t ↦ absurd (false≢true (sym d.0.0 ∙ meet_next x y ss.0 up.0 t))
      | inr f ↦ rw f (apart_where_distinct y ys ss.1 up.1 d.1)
    ]

-- ---- a sorted list

not_behind : (x y : ℕ × ℕ × ℕ) → is_lt (span_cmp y x) ≡ false → NotBehind x y
not_behind x y p =
    elim (cases_Bool (nat_lt y.0 x.0)) [
      | inl t ↦ absurd (let bad : true ≡ false = rw t at p in false≢true (sym bad))
      | inr f ↦ elim (cases_Bool (y.0 == x.0)) [
        | inl e ↦ inr (
          sym (eqb-true _ _ e),
          elim (cases_Bool (nat_lt y.1 x.1)) [
            | inl t ↦ absurd (let bad : true ≡ false = rw (f, e, t) at p in false≢true (sym bad))
            | inr g ↦ (let z : x.1 ≤ y.1 = grind (arith, nat_tests, g) in z)
          ],
        )
        | inr e ↦ inl (let z : x.0 < y.0 = grind (arith, nat_tests, f, e) in z)
      ]
    ]

rises : (x : ℕ × ℕ × ℕ) (xs : List (ℕ × ℕ × ℕ)) → IsSorted span_cmp (x ∷ xs) → RiseBehind x xs
rises x [] up = tt
rises x (y ∷ ys) up = (
  not_behind x y (up 0 x (let z : 0 ≤ 0 = omega arith in z) (let z : 1 < length (x ∷ y ∷ ys) = omega arith in z)),
  rises y ys (λ k d low high.
      let next : suc k + 1 ≡ suc (k + 1) = omega arith in
      subst (λ z. is_lt (span_cmp (get_or (x ∷ y ∷ ys) z d) (get_or (y ∷ ys) k d)) ≡ false) next
      (up (suc k) d (let z : 0 ≤ suc k = omega arith in z) (let z : suc k + 1 < length (x ∷ y ∷ ys) = omega (arith, high) in z))),
)

-- ---- entries and when they hold

spans_are : (es : List KmacEntry) → AreInRange es → AllByRecursion IsSpan (map span_of es)
spans_are [] p = tt
spans_are (e ∷ es) p = (p.0.moments, spans_are es p.1)

apart_from : (e : KmacEntry) (es : List KmacEntry) → IsInRange e → AreInRange es → AllByRecursion (λ z. meet (span_of e) z ≡ false) (map span_of es) → IsApartFrom e es
apart_from e [] p ps h = tt
apart_from e (f ∷ fs) p ps h =
    ((λ both. false≢true (sym h.0 ∙ meet_is e f p ps.0 ∙ at_once_tells e f both)), apart_from e fs p ps.1 h.1)

apart_to : (e : KmacEntry) (es : List KmacEntry) → IsInRange e → AreInRange es → IsApartFrom e es → AllByRecursion (λ z. meet (span_of e) z ≡ false) (map span_of es)
apart_to e [] p ps h = tt
apart_to e (f ∷ fs) p ps h =
    (meet_is e f p ps.0 ∙ not_so (is_at_once e f) (λ t. h.0 (tells_at_once e f p ps.0 t)), apart_to e fs p ps.1 h.1)
  where
    not_so : (b : Bool) → (b ≡ true → ⊥) → b ≡ false
    not_so true never = absurd (never refl)
    not_so false never = refl

distinct_from : (es : List KmacEntry) → AreInRange es → IsDistinct meet (map span_of es) → AreKmacEntriesApart es
unfolding IsDistinct
distinct_from [] p d = tt
distinct_from (e ∷ es) p d = (apart_from e es p.0 p.1 d.0, distinct_from es p.1 d.1)

distinct_to : (es : List KmacEntry) → AreInRange es → AreKmacEntriesApart es → IsDistinct meet (map span_of es)
unfolding IsDistinct
distinct_to [] p d = tt
distinct_to (e ∷ es) p d = (apart_to e es p.0 p.1 d.0, distinct_to es p.1 d.1)

-- ---- none runs into the next one exactly where no entry comes twice

sorted_apart : (xs : List (ℕ × ℕ × ℕ)) → AllByRecursion IsSpan xs → IsSorted span_cmp xs → are_apart xs ≡ true → IsDistinct meet xs
unfolding IsDistinct
sorted_apart [] ss up h = tt
sorted_apart (x ∷ xs) ss up h = distinct_behind x xs ss.0 ss.1 (rises x xs up) h

sorted_distinct : (xs : List (ℕ × ℕ × ℕ)) → AllByRecursion IsSpan xs → IsSorted span_cmp xs → IsDistinct meet xs → are_apart xs ≡ true
sorted_distinct [] ss up d = refl
sorted_distinct (x ∷ xs) ss up d = apart_where_distinct x xs ss.1 (rises x xs up) d

pub apart_is_once : (es : List KmacEntry) (xs : List (ℕ × ℕ × ℕ)) → AreInRange es → AreSpansInOrder es xs → are_apart xs ≡ is_none (first_twice [] es)
apart_is_once es xs p o =
    let ss = recursion_from_All IsSpan xs (All-permutation IsSpan (map span_of es) xs o.same (All-from_recursion IsSpan (map span_of es) (spans_are es p))) in
    elim (cases_Bool (are_apart xs)) [
      | inl t ↦
          let d = IsDistinct-IsPermutation meet meet_flips xs (map span_of es) (IsPermutation-sym (map span_of es) xs o.same) (sorted_apart xs ss o.sorted t) in
          t ∙ sym (ap is_none (none_where_distinct es p (distinct_from es p d)))
      | inr f ↦ f ∙ sym (some_there (first_twice [] es) (λ none.
          false≢true (sym f ∙ sorted_distinct xs ss o.sorted (IsDistinct-IsPermutation meet meet_flips (map span_of es) xs o.same (distinct_to es p (distinct_where_none es none))))))
    ]
  where
    some_there : (o : Option (ℕ × ℕ)) → (o ≡ None → ⊥) → is_none o ≡ false
    some_there None never = absurd (never refl)
    some_there (Some x) never = refl

-- ---- the first entry that comes twice

first_from : (earlier es : List KmacEntry) (n : ℕ) (d : KmacEntry) (p : ℕ) → first_twice earlier (take n es) ≡ None → n < length es
    → place_at_once 0 (earlier ++ take n es) (get_or es n d) ≡ Some p → first_twice earlier es ≡ Some (p, length earlier + (n + 1))
unfolding first_twice
first_from earlier [] n d p none low there = absurd (let z : ⊥ = omega (arith, low) in z)
first_from earlier (e ∷ es) zero d p none low there =
    let here : place_at_once 0 earlier e ≡ Some p = subst (λ z. place_at_once 0 z e ≡ Some p) (append-nil earlier) there in
    rw here refl
first_from earlier (e ∷ es) (suc n) d p none low there =
    let parts = no_twice_or (place_at_once 0 earlier e) (length earlier + 1) (first_twice (earlier ++ e ∷ []) (take n es)) none in
    let more = first_from (earlier ++ e ∷ []) es n d p parts.1 (let z : n < length es = omega (arith, low) in z)
    (subst (λ z. place_at_once 0 z (get_or es n d) ≡ Some p) (sym (append_assoc earlier (e ∷ []) (take n es))) there) in
    let long : length (earlier ++ e ∷ []) ≡ length earlier + 1 = length-append earlier (e ∷ []) in
    let same : length (earlier ++ e ∷ []) + (n + 1) ≡ length earlier + (suc n + 1) = omega (arith, long) in
    rw parts.0 (more ∙ ap (λ z. Some (p, z)) same)

none_more : (earlier es : List KmacEntry) (n : ℕ) (d : KmacEntry) → first_twice earlier (take n es) ≡ None → n < length es
    → place_at_once 0 (earlier ++ take n es) (get_or es n d) ≡ None → first_twice earlier (take (suc n) es) ≡ None
unfolding first_twice
none_more earlier [] n d none low there = absurd (let z : ⊥ = omega (arith, low) in z)
none_more earlier (e ∷ es) zero d none low there =
    let here : place_at_once 0 earlier e ≡ None = subst (λ z. place_at_once 0 z e ≡ None) (append-nil earlier) there in
    rw here refl
none_more earlier (e ∷ es) (suc n) d none low there =
    let parts = no_twice_or (place_at_once 0 earlier e) (length earlier + 1) (first_twice (earlier ++ e ∷ []) (take n es)) none in
    let more = none_more (earlier ++ e ∷ []) es n d parts.1 (let z : n < length es = omega (arith, low) in z)
    (subst (λ z. place_at_once 0 z (get_or es n d) ≡ None) (sym (append_assoc earlier (e ∷ []) (take n es))) there) in
    rw parts.0 more

pub none_of : {X : Type 0} (o : Option X) → is_none o ≡ true → o ≡ None
none_of None p = refl
none_of (Some x) p = absurd (false≢true p)

-- of entries as the code keeps them: so many are once, one more isn't, and this is the place of the first that is so with that one
pub first_is : (es : List KeyEntry) (n : ℕ) (d : KeyEntry) (place : Option ℕ) → are_once (take n es) ≡ true → are_once (take (n + 1) es) ≡ false → n < length es
    → place ≡ place_at_once 0 (map key_entry_of (take n es)) (key_entry_of (get_or es n d))
    → option_map (λ first. (first, n + 1)) place ≡ first_twice [] (map key_entry_of es)
first_is es n d place once twice low there = by_place place at
  where
    before : take n (map key_entry_of es) ≡ map key_entry_of (take n es)
    before = take-map key_entry_of n es

    none : first_twice [] (take n (map key_entry_of es)) ≡ None
    none = none_of (first_twice [] (take n (map key_entry_of es))) (ap (λ z. is_none (first_twice [] z)) before ∙ once)

    fits : n < length (map key_entry_of es)
    fits = let long = length-map es key_entry_of in omega (arith, low, long)

    item : get_or (map key_entry_of es) n (key_entry_of d) ≡ key_entry_of (get_or es n d)
    item = get_or-map key_entry_of es n d (key_entry_of d) low

    at : place_at_once 0 (take n (map key_entry_of es)) (get_or (map key_entry_of es) n (key_entry_of d)) ≡ place
    at = ap (λ z. place_at_once 0 z (get_or (map key_entry_of es) n (key_entry_of d))) before ∙ ap (λ z. place_at_once 0 (map key_entry_of (take n es)) z) item ∙ sym there

    by_place : (o : Option ℕ) → place_at_once 0 (take n (map key_entry_of es)) (get_or (map key_entry_of es) n (key_entry_of d)) ≡ o
        → option_map (λ first. (first, n + 1)) o ≡ first_twice [] (map key_entry_of es)
    by_place None p =
        let more : n + 1 ≡ suc n = omega arith in
        absurd (false≢true (sym twice ∙ ap (λ z. is_none (first_twice [] z)) (sym (take-map key_entry_of (n + 1) es))
        ∙ ap (λ z. is_none (first_twice [] (take z (map key_entry_of es)))) more ∙ ap is_none (none_more [] (map key_entry_of es) n (key_entry_of d) none fits p)))
    by_place (Some first) p =
        let same : n + 1 ≡ 0 + (n + 1) = omega arith in
        ap (λ z. Some (first, z)) same ∙ sym (first_from [] (map key_entry_of es) n (key_entry_of d) first none fits p)

pub some_entry : (es : List KeyEntry) → are_once es ≡ false → 0 < length es
unfolding first_twice
some_entry [] p = absurd (false≢true (sym p))
some_entry (e ∷ es) p = (let z : 0 < length (e ∷ es) = omega arith in z)

pub range_of_first : (n : ℕ) (es : List KeyEntry) → AreInRange (map key_entry_of es) → AreInRange (map key_entry_of (take n es))
range_of_first zero es p = tt
range_of_first (suc n) [] p = tt
range_of_first (suc n) (e ∷ es) p = (p.0, range_of_first n es p.1)
