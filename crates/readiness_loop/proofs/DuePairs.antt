-- The numbers of the pairs whose moment has come: those of the pairs that are there, and no number twice where each has one moment.
use Rattle.std.proofs.Common.{◌≡◌, ℕ, ◌≤◌, nat_le, Bool, true, false, inl, inr, List, [], ◌∷◌, Option, Some, refl, sym, ◌∙◌, ap, subst, arith}
use Rattle.std.specs.Prelude.{◌==◌, ◌&&◌, ◌||◌}
use Rattle.std.specs.List.{AllByRecursion, Contains, IsDistinct, list_any}
use Rattle.std.specs.List.Sorted.{IsStrictlySortedBy, IsPermutation, IsSorted}
use Rattle.std.specs.declared.cmp.Ordering.TheVariants.{Less}
use Rattle.std.specs.Ordering.{nat_cmp, is_eq}
use Rattle.std.specs.BTreeMap.{is_at}
use Rattle.std.specs.BTreeSet.{BTreeSet}
use Rattle.std.proofs.lemmas.Bool.{cases_Bool, and_parts, ne_eqb}
use Rattle.std.proofs.lemmas.Bool.Decides.{nat_tests}
use Rattle.std.proofs.lemmas.List.Elements.{All-contains, All-from_recursion}
use Rattle.std.proofs.lemmas.List.Sorted.{All-permutation, Contains-permutation, IsNonDecreasingBy-from_sort}
use Rattle.std.proofs.lemmas.Map.Keys.{IsDistinct-IsPermutation, IsStrictlyIncreasing-from_distinct, sorted_from_strictly_increasing}
use Rattle.std.proofs.Math.Dec.{eqb}
use Rattle.readiness_loop.specs.WakeTimes.{pair_cmp, has_wake_time, numbers_until}
use Rattle.readiness_loop.proofs.WakePairs.{same_pair}
use Rattle.readiness_loop.proofs.Risings.{in_first, in_rest}

-- P holds of each pair
abbrev pub AllPairs : (ℕ → ℕ → Type 0) → List (ℕ × ℕ) → Type 0
AllPairs P [] = Unit {0}
AllPairs P (p ∷ ps) = P p.0 p.1 × AllPairs P ps

any_behind : {X : Type 0} (test : X → Bool) (x : X) (xs : List X) → list_any test xs ≡ true → list_any test (x ∷ xs) ≡ true
any_behind test x xs p =
    elim (cases_Bool (test x)) [
      | inl t ↦ rw t refl
      | inr t ↦ rw t p
    ]

any_first : {X : Type 0} (test : X → Bool) (x : X) (xs : List X) → test x ≡ true → list_any test (x ∷ xs) ≡ true
any_first test x xs p = rw p refl

self_test : (n : ℕ) → (n == n) ≡ true
self_test n = grind (arith, nat_tests)

same_self : (p : ℕ × ℕ) → is_at (pair_cmp (p.0, p.1)) (p.0, p.1) ≡ true
same_self p = same_pair p.0 p.1 p.0 p.1 ∙ rw (self_test p.0, self_test p.1) refl

pub all_pairs : (P : ℕ → ℕ → Type 0) (ps : List (ℕ × ℕ)) → ((m n : ℕ) → list_any (is_at (pair_cmp (m, n))) ps ≡ true → P m n) → AllPairs P ps
all_pairs P [] h = tt
all_pairs P (p ∷ ps) h = (
  h p.0 p.1 (any_first (is_at (pair_cmp (p.0, p.1))) p ps (same_self p)),
  all_pairs P ps (λ m n q. h m n (any_behind (is_at (pair_cmp (m, n))) p ps q)),
)

-- ---- a pair whose moment has come gives its number, and no other does

equals : (n m : ℕ) → (n == m) ≡ true → n ≡ m
equals n m p = grind (arith, nat_tests, p)

at_most : (n m : ℕ) → n ≤ m → nat_le n m ≡ true
at_most n m p = grind (arith, nat_tests, p)

is_at_most : (n m : ℕ) → nat_le n m ≡ true → n ≤ m
is_at_most n m p = grind (arith, nat_tests, p)

more_until : (moment n : ℕ) (p : ℕ × ℕ) (ps : List (ℕ × ℕ)) → Contains (numbers_until moment ps) n → Contains (numbers_until moment (p ∷ ps)) n
more_until moment n p ps q =
    elim (cases_Bool (nat_le p.0 moment)) [
      | inl t ↦ rw t (in_rest p.1 (numbers_until moment ps) n q)
      | inr t ↦ rw t q
    ]

until_has : (moment at n : ℕ) (ps : List (ℕ × ℕ)) → list_any (is_at (pair_cmp (at, n))) ps ≡ true → at ≤ moment → Contains (numbers_until moment ps) n
until_has moment at n [] p q = absurd (let z : false ≡ true = p in cc)
until_has moment at n (x ∷ ps) p q =
    elim (cases_Bool (is_at (pair_cmp (at, n)) x)) [
      | inl t ↦
          (let both = and_parts (x.0 == at) (x.1 == n) (sym (same_pair at n x.0 x.1) ∙ t) in
          let when : x.0 ≡ at = equals x.0 at both.0 in
          let who : x.1 ≡ n = equals x.1 n both.1 in
          let come : nat_le x.0 moment ≡ true = at_most x.0 moment (omega (arith, when, q)) in
          subst (λ z. Contains (numbers_until moment (x ∷ ps)) z) who (rw come (in_first x.1 (numbers_until moment ps))))
      | inr t ↦ more_until moment n x ps (until_has moment at n ps (subst (λ z. (z || list_any (is_at (pair_cmp (at, n))) ps) ≡ true) t p) q)
    ]

until_only : (moment : ℕ) (Q : ℕ → Type 0) (ps : List (ℕ × ℕ)) → AllPairs (λ m n. m ≤ moment → Q n) ps → AllByRecursion Q (numbers_until moment ps)
until_only moment Q [] h = tt
until_only moment Q (p ∷ ps) h =
    elim (cases_Bool (nat_le p.0 moment)) [
      | inl t ↦ rw t (h.0 (is_at_most p.0 moment t), until_only moment Q ps h.1)
      | inr t ↦ rw t (until_only moment Q ps h.1)
    ]

-- ---- no number comes twice

apart_until : (moment : ℕ) (w : ℕ → Option ℕ) (p : ℕ × ℕ) (ps : List (ℕ × ℕ)) → w p.1 ≡ Some p.0 → AllByRecursion (λ q. pair_cmp p q ≡ Less) ps
    → AllPairs (λ m n. w n ≡ Some m) ps → AllByRecursion (λ y. eqb p.1 y ≡ false) (numbers_until moment ps)
apart_until moment w p [] own low all = tt
apart_until moment w p (q ∷ ps) own low all =
    elim (cases_Bool (nat_le q.0 moment)) [
      | inl t ↦ rw t (ne_eqb p.1 q.1 differ, apart_until moment w p ps own low.1 all.1)
      | inr t ↦ rw t (apart_until moment w p ps own low.1 all.1)
    ]
  where
    differ : p.1 ≡ q.1 → ⊥
    differ same =
        let when : q.0 ≡ p.0 = (let z : Some q.0 ≡ Some p.0 = sym all.0 ∙ ap w (sym same) ∙ own in cc) in
        let one : is_at (pair_cmp (p.0, p.1)) (q.0, q.1) ≡ true =
        same_pair p.0 p.1 q.0 q.1 ∙ ap (λ z. (z == p.0) && (q.1 == p.1)) when ∙ ap (λ z. (p.0 == p.0) && (z == p.1)) (sym same) ∙ rw (self_test p.0, self_test p.1) refl in
        let other : is_at (pair_cmp (p.0, p.1)) (q.0, q.1) ≡ false = ap is_eq low.0 in
        (let z : true ≡ false = sym one ∙ other in cc)

distinct_until : (moment : ℕ) (w : ℕ → Option ℕ) (ps : List (ℕ × ℕ)) → IsStrictlySortedBy pair_cmp ps → AllPairs (λ m n. w n ≡ Some m) ps
    → IsDistinct eqb (numbers_until moment ps)
unfolding IsStrictlySortedBy IsDistinct
distinct_until moment w [] p all = tt
distinct_until moment w (x ∷ ps) p all =
    elim (cases_Bool (nat_le x.0 moment)) [
      | inl t ↦ rw t (apart_until moment w x ps all.0 p.0 all.1, distinct_until moment w ps p.1 all.1)
      | inr t ↦ rw t (distinct_until moment w ps p.1 all.1)
    ]

-- ---- the numbers in rising order

flips : (x y : ℕ) → eqb x y ≡ eqb y x
flips x y = grind (arith, nat_tests)

pub due_rises : (moment : ℕ) (w : ℕ → Option ℕ) (ps : List (ℕ × ℕ)) (sorted : List ℕ) → IsStrictlySortedBy pair_cmp ps → AllPairs (λ m n. w n ≡ Some m) ps
    → IsPermutation (numbers_until moment ps) sorted → IsSorted nat_cmp sorted → IsStrictlySortedBy nat_cmp sorted
due_rises moment w ps sorted p all moved in_order =
    sorted_from_strictly_increasing sorted
    (IsStrictlyIncreasing-from_distinct sorted (IsNonDecreasingBy-from_sort (λ n. n) sorted in_order)
    (IsDistinct-IsPermutation eqb flips (numbers_until moment ps) sorted moved (distinct_until moment w ps p all)))

pub due_has : (moment at n : ℕ) (pairs : BTreeSet (ℕ × ℕ)) (sorted : List ℕ) → IsPermutation (numbers_until moment pairs.keys) sorted
    → has_wake_time pairs at n ≡ true → at ≤ moment → Contains sorted n
due_has moment at n pairs sorted moved p q = Contains-permutation (numbers_until moment pairs.keys) sorted n moved (until_has moment at n pairs.keys p q)

pub due_only : (moment : ℕ) (Q : ℕ → Type 0) (ps : List (ℕ × ℕ)) (sorted : List ℕ) → IsPermutation (numbers_until moment ps) sorted
    → AllPairs (λ m n. m ≤ moment → Q n) ps → (n : ℕ) → Contains sorted n → Q n
due_only moment Q ps sorted moved all n p =
    All-contains Q sorted n (All-permutation Q (numbers_until moment ps) sorted moved (All-from_recursion Q (numbers_until moment ps) (until_only moment Q ps all))) p
