-- Numbers that rise: two such lists of the same numbers are one list; what is found at each key of entries in order.
use Rattle.std.proofs.Common.{◌≡◌, ◌≢◌, ℕ, zero, suc, ◌<◌, true, false, inl, inr, List, [], ◌∷◌, Option, Some, None, map, refl, sym, ◌∙◌, ap, subst, arith}
use Rattle.std.specs.Prelude.{◌⊎◌, ◌==◌}
use Rattle.std.specs.List.{AllByRecursion, Contains}
use Rattle.std.specs.List.Sorted.{IsStrictlySortedBy}
use Rattle.std.specs.declared.cmp.Ordering.TheVariants.{Less}
use Rattle.std.specs.Ordering.{nat_cmp, is_eq}
use Rattle.std.specs.Map.{lookup}
use Rattle.std.specs.BTreeMap.{is_at}
use Rattle.std.proofs.lemmas.Bool.{cases_Bool}
use Rattle.std.proofs.lemmas.Bool.Decides.{nat_tests}
use Rattle.std.proofs.lemmas.List.Elements.{All-contains, All-from_recursion}

pub below : (x y : ℕ) → nat_cmp x y ≡ Less → x < y
below x y p = grind (arith, nat_tests, p)

-- ---- the same numbers, in rising order

pub first_or_rest : (x : ℕ) (xs : List ℕ) (n : ℕ) → Contains (x ∷ xs) n → (x ≡ n) ⊎ Contains xs n
first_or_rest x xs n (zero, q, r) = inl r
first_or_rest x xs n (suc k, q, r) = inr (k, omega (arith, q), r)

pub in_rest : (x : ℕ) (xs : List ℕ) (n : ℕ) → Contains xs n → Contains (x ∷ xs) n
in_rest x xs n (k, q, r) = (suc k, omega (arith, q), r)

pub in_first : (x : ℕ) (xs : List ℕ) → Contains (x ∷ xs) x
in_first x xs = (0, omega arith, refl)

in_none : (n : ℕ) → Contains [] n → ⊥
in_none n (k, q, r) = (let p : k < 0 = q in omega (arith, p))

above_first : (x : ℕ) (xs : List ℕ) (n : ℕ) → IsStrictlySortedBy nat_cmp (x ∷ xs) → Contains xs n → x < n
unfolding IsStrictlySortedBy
above_first x xs n p q = below x n (All-contains (λ y. nat_cmp x y ≡ Less) xs n (All-from_recursion (λ y. nat_cmp x y ≡ Less) xs p.0) q)

sorted_rest : (x : ℕ) (xs : List ℕ) → IsStrictlySortedBy nat_cmp (x ∷ xs) → IsStrictlySortedBy nat_cmp xs
unfolding IsStrictlySortedBy
sorted_rest x xs p = p.1

same_first : (x y : ℕ) (xs ys : List ℕ) → IsStrictlySortedBy nat_cmp (x ∷ xs) → IsStrictlySortedBy nat_cmp (y ∷ ys)
    → Contains (y ∷ ys) x → Contains (x ∷ xs) y → x ≡ y
same_first x y xs ys p q h i =
    elim (first_or_rest y ys x h) [
      | inl is ↦ sym is
      | inr later ↦
          elim (first_or_rest x xs y i) [
            | inl is ↦ is
            | inr other ↦ (let a : y < x = above_first y ys x q later in let b : x < y = above_first x xs y p other in omega (arith, a, b))
          ]
    ]

not_first : (x y : ℕ) (xs ys : List ℕ) (n : ℕ) → x ≡ y → IsStrictlySortedBy nat_cmp (x ∷ xs) → Contains xs n → Contains (y ∷ ys) n → Contains ys n
not_first x y xs ys n same p q h =
    elim (first_or_rest y ys n h) [
      | inl is ↦ absurd (let a : x < n = above_first x xs n p q in omega (arith, a, is, same))
      | inr later ↦ later
    ]

pub same_rising : (xs ys : List ℕ) → IsStrictlySortedBy nat_cmp xs → IsStrictlySortedBy nat_cmp ys
    → ((n : ℕ) → Contains xs n → Contains ys n) → ((n : ℕ) → Contains ys n → Contains xs n) → xs ≡ ys
same_rising [] [] p q h i = refl
same_rising [] (y ∷ ys) p q h i = absurd (in_none y (i y (in_first y ys)))
same_rising (x ∷ xs) [] p q h i = absurd (in_none x (h x (in_first x xs)))
same_rising (x ∷ xs) (y ∷ ys) p q h i =
    let same : x ≡ y = same_first x y xs ys p q (h x (in_first x xs)) (i y (in_first y ys)) in
    let rest : xs ≡ ys = same_rising xs ys (sorted_rest x xs p) (sorted_rest y ys q)
    (λ n a. not_first x y xs ys n same p a (h n (in_rest x xs n a)))
    (λ n a. not_first y x ys xs n (sym same) q a (i n (in_rest y ys n a))) in
    rw (same, rest) refl

-- ---- what is found at each key

-- P holds of each key and what is there
abbrev pub AllEntries : {X : Type 0} → (ℕ → X → Type 0) → List (ℕ × X) → Type 0
AllEntries P [] = Unit {0}
AllEntries P (e ∷ es) = P e.0 e.1 × AllEntries P es

pub equal_test : (n m : ℕ) → is_eq (nat_cmp n m) ≡ (m == n)
equal_test n m = grind (arith, nat_tests)

pub found_is : (n m : ℕ) → is_eq (nat_cmp n m) ≡ true → n ≡ m
found_is n m p = (let q : (m == n) ≡ true = sym (equal_test n m) ∙ p in grind (arith, nat_tests, q))

pub found_itself : (n : ℕ) → is_eq (nat_cmp n n) ≡ true
found_itself n = grind (arith, nat_tests)

pub found_other : (n m : ℕ) → n ≢ m → is_eq (nat_cmp n m) ≡ false
found_other n m p =
    elim (cases_Bool (is_eq (nat_cmp n m))) [
      | inl t ↦ absurd (p (found_is n m t))
      | inr t ↦ t
    ]

none_above : {X : Type 0} (x : ℕ) (es : List (ℕ × X)) → AllByRecursion (λ y. nat_cmp x y ≡ Less) (map (λ e. e.0) es) → lookup (is_at (nat_cmp x)) es ≡ None
none_above x [] p = refl
none_above x (e ∷ es) p = rw (ap is_eq p.0) (none_above x es p.1)

some_none : {X : Type 0} (x : X) (o : Option X) → o ≡ Some x → o ≡ None → ⊥
some_none x o p q = cc

found_behind : {X : Type 0} (n : ℕ) (x : X) (e : ℕ × X) (es : List (ℕ × X)) → AllByRecursion (λ y. nat_cmp e.0 y ≡ Less) (map (λ e. e.0) es)
    → lookup (is_at (nat_cmp n)) es ≡ Some x → lookup (is_at (nat_cmp n)) (e ∷ es) ≡ Some x
found_behind n x e es p q =
    elim (cases_Bool (is_eq (nat_cmp n e.0))) [
      | inl t ↦ absurd (some_none x (lookup (is_at (nat_cmp n)) es) q (subst (λ z. lookup (is_at (nat_cmp z)) es ≡ None) (sym (found_is n e.0 t)) (none_above e.0 es p)))
      | inr t ↦ rw t q
    ]

pub all_found : {X : Type 0} (P : ℕ → X → Type 0) (es : List (ℕ × X)) → IsStrictlySortedBy nat_cmp (map (λ e. e.0) es)
    → ((n : ℕ) (x : X) → lookup (is_at (nat_cmp n)) es ≡ Some x → P n x) → AllEntries P es
unfolding IsStrictlySortedBy
all_found P [] p h = tt
all_found P (e ∷ es) p h = (h e.0 e.1 (rw (found_itself e.0) refl), all_found P es p.1 (λ n x q. h n x (found_behind n x e es p.0 q)))
