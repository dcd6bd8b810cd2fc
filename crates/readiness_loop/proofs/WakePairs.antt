-- Pairs of a moment and a number that are kept in order: one that comes or goes, and the first.
use Rattle.std.proofs.Common.{◌≡◌, ℕ, ◌<◌, ◌≤◌, nat_le, Bool, true, false, cond, inl, inr, Option, Some, None, Result, Ok, Err, OnErr, eqb-true, refl, sym, ◌∙◌, ap, subst, arith}
use Rattle.std.specs.Prelude.{◌==◌, ◌&&◌, if◌then◌else◌, IsTrue}
use Rattle.std.specs.declared.cmp.Ordering.{Ordering}
use Rattle.std.specs.declared.cmp.Ordering.TheVariants.{Less, Equal, Greater}
use Rattle.std.specs.Ordering.{nat_cmp, ordering_then, is_eq, is_gt}
use Rattle.std.specs.Cmp.{nat_cmp_is}
use Rattle.std.specs.List.{list_any}
use Rattle.std.specs.BTreeMap.{is_at}
use Rattle.std.specs.BTreeSet.{BTreeSet, contains, UpdatesBy, IsLowerBound}
use Rattle.std.proofs.lemmas.Bool.{cases_Bool}
use Rattle.std.proofs.lemmas.Bool.Decides.{nat_tests}
use Rattle.readiness_loop.specs.WakeTimes.{pair_cmp, has_wake_time, is_moment, IsFirstWakeTime}

-- ---- a pair comes or goes

then_equal : (o p : Ordering) → is_eq (ordering_then o p) ≡ (is_eq o && is_eq p)
then_equal Less p = refl
then_equal Equal p = refl
then_equal Greater p = refl

equal_test : (n m : ℕ) → is_eq (nat_cmp n m) ≡ (m == n)
equal_test n m = grind (arith, nat_tests)

pub same_pair : (at number m n : ℕ) → is_at (pair_cmp (at, number)) (m, n) ≡ ((m == at) && (n == number))
same_pair at number m n = then_equal (nat_cmp at m) (nat_cmp number n) ∙ ap (λ z. z && is_eq (nat_cmp number n)) (equal_test at m) ∙ ap (λ z. (m == at) && z) (equal_test number n)

pub pair_changed : (old new : BTreeSet (ℕ × ℕ)) (moment : Option ℕ) (at number : ℕ) (stays : Bool) → moment ≡ Some at → UpdatesBy pair_cmp (pair_cmp (at, number)) old new stays
    → (m n : ℕ) → has_wake_time new m n ≡ (if is_moment m moment && (n == number) then stays else has_wake_time old m n)
pair_changed old new moment at number stays is u m n =
    u.0 (m, n) ∙ ap (λ z. cond z stays (has_wake_time old m n)) (same_pair at number m n ∙ ap (λ z. is_moment m z && (n == number)) (sym is))

pub on_err : {T E P : Type 0} (r : Result T E) → P → OnErr r P
on_err (Ok done) p = tt
on_err (Err fault) p = p

-- nothing came and nothing went
pub pair_same : (old new : BTreeSet (ℕ × ℕ)) → new.keys ≡ old.keys → (m n : ℕ) → has_wake_time new m n ≡ has_wake_time old m n
pair_same old new e m n = ap (λ ks. list_any (is_at (pair_cmp (m, n))) ks) e

-- a moment that was none, and one that couldn't be kept
pub kept_same : {T E : Type 0} (pairs mid new : BTreeSet (ℕ × ℕ)) (number : ℕ) (before : Option ℕ) (r : Result T E)
    → ((m n : ℕ) → has_wake_time mid m n ≡ (if is_moment m before && (n == number) then false else has_wake_time pairs m n))
    → OnErr r ((m n : ℕ) → has_wake_time new m n ≡ has_wake_time mid m n)
    → OnErr r (before ≡ None → (m n : ℕ) → has_wake_time new m n ≡ has_wake_time pairs m n)
kept_same pairs mid new number before (Ok done) p q = tt
kept_same pairs mid new number before (Err fault) p q = λ none m n.
    q m n ∙ p m n ∙ ap (λ (z : Option ℕ). if is_moment m z && (n == number) then false else has_wake_time pairs m n) none

as_before : (is_at_it is_its : Bool) (x y : Bool) → (is_its ≡ true → x ≡ is_at_it) → (is_its ≡ true → y ≡ false) → (is_its ≡ false → x ≡ y)
    → (if is_at_it && is_its then false else x) ≡ y
as_before true true x y p q r = sym (q refl)
as_before false true x y p q r = p refl ∙ sym (q refl)
as_before true false x y p q r = r refl
as_before false false x y p q r = r refl

-- a moment that was kept, and then forgotten
pub forgotten_again : (pairs mid new : BTreeSet (ℕ × ℕ)) (number : ℕ) (wake : Option ℕ) → ((m : ℕ) → has_wake_time pairs m number ≡ is_moment m None)
    → ((m n : ℕ) → has_wake_time mid m n ≡ (if n == number then is_moment m wake else has_wake_time pairs m n))
    → ((m n : ℕ) → has_wake_time new m n ≡ (if is_moment m wake && (n == number) then false else has_wake_time mid m n))
    → (m n : ℕ) → has_wake_time new m n ≡ has_wake_time pairs m n
forgotten_again pairs mid new number wake none p q m n =
    let f : Bool → Bool = λ b. if b then is_moment m wake else has_wake_time pairs m n in
    q m n
    ∙ as_before (is_moment m wake) (n == number) (has_wake_time mid m n) (has_wake_time pairs m n) (λ t. p m n ∙ ap f t)
    (λ t. ap (has_wake_time pairs m) (eqb-true n number t) ∙ none m) (λ t. p m n ∙ ap f t)

-- ---- the first of them

pub first_pair : (pairs : BTreeSet (ℕ × ℕ)) (pair : ℕ × ℕ) → IsTrue (contains pair_cmp pairs pair) → IsLowerBound pair_cmp pairs pair → IsFirstWakeTime pairs (Some pair.0)
first_pair pairs pair p low = ((pair.1, p), λ m n q. least m n (low (m, n) q))
  where
    least : (m n : ℕ) → is_gt (pair_cmp pair (m, n)) ≡ false → pair.0 ≤ m
    least m n q =
        elim (cases_Bool (nat_le pair.0 m)) [
          | inl t ↦ (let z : pair.0 ≤ m = grind (arith, nat_tests, t) in z)
          | inr t ↦
              let above : Greater ≡ nat_cmp pair.0 m = nat_cmp_is pair.0 m Greater (let z : m < pair.0 = grind (arith, nat_tests, t) in z) in
              absurd (let z : true ≡ false = subst (λ o. is_gt (ordering_then o (nat_cmp pair.1 n)) ≡ false) (sym above) q in cc)
        ]
