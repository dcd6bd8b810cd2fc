-- The first moment that is kept is the first of the sessions' moments, and the numbers that are due are those of the sessions whose moment has come.
use Rattle.er_end.specs.KeptEnds.{KEnd}
use Rattle.loop_session.specs.Keeping.{kept_ends}
use Rattle.std.proofs.Common.{◌≡◌, ℕ, ◌≤◌, nat_le, Bool, true, false, inl, inr, List, [], ◌∷◌, Option, Some, None, map, refl, sym, ◌∙◌, ap, subst, arith}
use Rattle.std.specs.Prelude.{◌==◌, if◌then◌else◌}
use Rattle.std.specs.List.{AllByRecursion, Contains}
use Rattle.std.specs.List.Sorted.{IsStrictlySortedBy, IsPermutation, IsSorted}
use Rattle.std.specs.Ordering.{nat_cmp, is_eq}
use Rattle.std.specs.declared.cmp.Ordering.TheVariants.{Less}
use Rattle.std.specs.BTreeMap.{BTreeMap}
use Rattle.std.specs.BTreeSet.{BTreeSet, IsOrdered}
use Rattle.std.proofs.lemmas.Bool.{cases_Bool}
use Rattle.std.proofs.lemmas.Bool.Decides.{nat_tests}
use Rattle.std.proofs.lemmas.List.Elements.{All-contains, All-from_recursion}
use Rattle.slab.specs.Slab.{Slab, get}
use Rattle.er_end_model.specs.Steps.{earlier_of_moments as first_moment}
use Rattle.loop_model.specs.Sessions.{Session}
use Rattle.loop_model.specs.Visits.{is_due, wakes}
use Rattle.loop_model.specs.Loops.{numbers, until}
use Rattle.readiness_loop.specs.WakeTimes.{pair_cmp, has_wake_time, is_moment, numbers_until, IsFirstWakeTime}
use Rattle.readiness_loop.specs.Books.{seat, seats, sessions, sessions_at, IsSeat, AreSeated, wake_of, wake_in, wake_at, AreAwaited, due_numbers}
use Rattle.readiness_loop.proofs.Risings.{AllEntries, all_found, same_rising, found_is, in_first, in_rest}
use Rattle.readiness_loop.proofs.DuePairs.{all_pairs, due_rises, due_has, due_only}
use Rattle.readiness_loop.proofs.Seats.{place_of}
use Rattle.readiness_loop.proofs.Sweeps.{numbers_are}

-- ---- a moment

self_moment : (m : ℕ) → is_moment m (Some m) ≡ true
self_moment m = grind (arith, nat_tests)

moment_is : (m : ℕ) (o : Option ℕ) → is_moment m o ≡ true → o ≡ Some m
moment_is m None p = absurd (let z : false ≡ true = p in cc)
moment_is m (Some at) p = ap Some (let z : (m == at) ≡ true = p in grind (arith, nat_tests, z))

-- that of a number is that of the session in its slot
wake_found : (m : ℕ) (slots : Slab (Session KEnd)) (o : Option ℕ) → wake_in slots o ≡ Some m → (k : ℕ) × (o ≡ Some k) × (wake_of (get slots k) ≡ Some m)
wake_found m slots None p = absurd (let z : None ≡ Some m = p in cc)
wake_found m slots (Some k) p = (k, refl, p)

wake_there : (slots : Slab (Session KEnd)) (places : BTreeMap ℕ ℕ) (n k : ℕ) → place_of n places.entries ≡ Some k → wake_at slots places n ≡ wake_of (get slots k)
unfolding wake_at
wake_there slots places n k p = ap (wake_in slots) p

pair_wakes : (slots : Slab (Session KEnd)) (places : BTreeMap ℕ ℕ) (pairs : BTreeSet (ℕ × ℕ)) (m n : ℕ) → AreAwaited slots places pairs → has_wake_time pairs m n ≡ true
    → (k : ℕ) × (place_of n places.entries ≡ Some k) × (wake_of (get slots k) ≡ Some m)
unfolding wake_at
pair_wakes slots places pairs m n p q = wake_found m slots (place_of n places.entries) (moment_is m (wake_at slots places n) (sym (p.kept m n) ∙ q))

wakes_pair : (slots : Slab (Session KEnd)) (places : BTreeMap ℕ ℕ) (pairs : BTreeSet (ℕ × ℕ)) (m n k : ℕ) → AreAwaited slots places pairs → place_of n places.entries ≡ Some k
    → wake_of (get slots k) ≡ Some m → has_wake_time pairs m n ≡ true
wakes_pair slots places pairs m n k p q r = p.kept m n ∙ ap (is_moment m) (wake_there slots places n k q ∙ r) ∙ self_moment m

-- ---- the first moment

abbrev pub IsFrom : ℕ → Option ℕ → Type 0
IsFrom m None = Unit {0}
IsFrom m (Some at) = m ≤ at

abbrev pub IsUpTo : ℕ → Option ℕ → Type 0
IsUpTo m None = ⊥
IsUpTo m (Some at) = at ≤ m

first_from : (m : ℕ) (a b : Option ℕ) → IsFrom m a → IsFrom m b → IsFrom m (first_moment a b)
first_from m None b p q = q
first_from m (Some x) None p q = p
first_from m (Some x) (Some y) p q = omega (arith, p, q)

first_up_to : (m : ℕ) (a b : Option ℕ) → IsUpTo m a → IsUpTo m (first_moment a b)
first_up_to m None b p = absurd p
first_up_to m (Some x) None p = p
first_up_to m (Some x) (Some y) p = omega (arith, p)

later_up_to : (m : ℕ) (a b : Option ℕ) → IsUpTo m b → IsUpTo m (first_moment a b)
later_up_to m None b p = p
later_up_to m (Some x) None p = absurd p
later_up_to m (Some x) (Some y) p = omega (arith, p)

until_seat : (o : Option (Session KEnd)) (ss : List (Session KEnd)) → until kept_ends (seat o ss) ≡ first_moment (wake_of o) (until kept_ends ss)
unfolding until
until_seat None ss = refl
until_seat (Some s) ss = refl

until_from : (m : ℕ) (slots : Slab (Session KEnd)) (es : List (ℕ × ℕ)) → AllEntries (λ n k. IsFrom m (wake_of (get slots k))) es → IsFrom m (until kept_ends (sessions_at slots es))
unfolding seats until
until_from m slots [] h = tt
until_from m slots (e ∷ es) h =
    subst (IsFrom m) (sym (until_seat (get slots e.1) (sessions_at slots es)))
    (first_from m (wake_of (get slots e.1)) (until kept_ends (sessions_at slots es)) h.0 (until_from m slots es h.1))

until_up_to : (m n k : ℕ) (slots : Slab (Session KEnd)) (es : List (ℕ × ℕ)) → place_of n es ≡ Some k → IsUpTo m (wake_of (get slots k)) → IsUpTo m (until kept_ends (sessions_at slots es))
unfolding seats until
until_up_to m n k slots [] p q = absurd (let z : None ≡ Some k = p in cc)
until_up_to m n k slots (e ∷ es) p q =
    subst (IsUpTo m) (sym (until_seat (get slots e.1) (sessions_at slots es)))
    (elim (cases_Bool (is_eq (nat_cmp n e.0))) [
      | inl t ↦
          (let at : Some e.1 ≡ Some k = subst (λ z. (if z then Some e.1 else place_of n es) ≡ Some k) t p in
          let same : k ≡ e.1 = cc in
          first_up_to m (wake_of (get slots e.1)) (until kept_ends (sessions_at slots es)) (subst (λ z. IsUpTo m (wake_of (get slots z))) same q))
      | inr t ↦
          later_up_to m (wake_of (get slots e.1)) (until kept_ends (sessions_at slots es))
          (until_up_to m n k slots es (subst (λ z. (if z then Some e.1 else place_of n es) ≡ Some k) t p) q)
    ])

until_none : (slots : Slab (Session KEnd)) (es : List (ℕ × ℕ)) → AllEntries (λ n k. wake_of (get slots k) ≡ None) es → until kept_ends (sessions_at slots es) ≡ None
unfolding seats until
until_none slots [] h = refl
until_none slots (e ∷ es) h = until_seat (get slots e.1) (sessions_at slots es) ∙ ap (λ z. first_moment z (until kept_ends (sessions_at slots es))) h.0 ∙ until_none slots es h.1

no_moment : (o : Option ℕ) → ((m : ℕ) → o ≡ Some m → ⊥) → o ≡ None
no_moment None h = refl
no_moment (Some m) h = absurd (h m refl)

from_all : (m : ℕ) (o : Option ℕ) → ((at : ℕ) → o ≡ Some at → m ≤ at) → IsFrom m o
from_all m None h = tt
from_all m (Some at) h = h at refl

between : (m : ℕ) (o : Option ℕ) → IsFrom m o → IsUpTo m o → Some m ≡ o
between m None p q = absurd q
between m (Some at) p q = ap Some (let a : m ≤ at = p in let b : at ≤ m = q in omega (arith, a, b))

pub until_first : (slots : Slab (Session KEnd)) (places : BTreeMap ℕ ℕ) (pairs : BTreeSet (ℕ × ℕ)) (first : Option ℕ) → AreAwaited slots places pairs → IsFirstWakeTime pairs first
    → first ≡ until kept_ends (sessions slots places)
until_first slots places pairs None p h =
    sym (until_none slots places.entries (all_found (λ n k. wake_of (get slots k) ≡ None) places.entries p.rise
    (λ n k q. no_moment (wake_of (get slots k)) (λ m r. (let z : true ≡ false = sym (wakes_pair slots places pairs m n k p q r) ∙ h m n in cc)))))
until_first slots places pairs (Some m) p h =
    let n = h.0.0 in
    let there = pair_wakes slots places pairs m n p h.0.1 in
    between m (until kept_ends (sessions slots places))
    (until_from m slots places.entries (all_found (λ n k. IsFrom m (wake_of (get slots k))) places.entries p.rise
    (λ n k q. from_all m (wake_of (get slots k)) (λ at r. h.1 at n (wakes_pair slots places pairs at n k p q r)))))
    (until_up_to m n there.0 slots places.entries there.1 (subst (IsUpTo m) (sym there.2) (let z : m ≤ m = omega arith in z)))

-- ---- the numbers that are due

abbrev pub due_if : Bool → ℕ → List ℕ → List ℕ
due_if true n ns = n ∷ ns
due_if false n ns = ns

-- those of these places
abbrev pub due_at : ℕ → Slab (Session KEnd) → List (ℕ × ℕ) → List ℕ
due_at m slots [] = []
due_at m slots (e ∷ es) = due_if (is_due m (wake_of (get slots e.1))) e.0 (due_at m slots es)

due_seats : (newest m : ℕ) (slots : Slab (Session KEnd)) (es : List (ℕ × ℕ)) → AreSeated newest slots es → due_numbers m (sessions_at slots es) ≡ due_at m slots es
unfolding seats AreSeated due_numbers
due_seats newest m slots [] p = refl
due_seats newest m slots (e ∷ es) p = of_seat (get slots e.1) p.1 (due_seats newest m slots es p.3)
  where
    of_seat : (o : Option (Session KEnd)) → IsSeat e.0 o → due_numbers m (sessions_at slots es) ≡ due_at m slots es
        → due_numbers m (seat o (sessions_at slots es)) ≡ due_if (is_due m (wake_of o)) e.0 (due_at m slots es)
    of_seat None q h = absurd q
    of_seat (Some s) q h =
        elim (cases_Bool (is_due m (wakes kept_ends s))) [
          | inl t ↦ rw (t, q, h) refl
          | inr t ↦ rw (t, h) refl
        ]

if_only : (Q : ℕ → Type 0) (b : Bool) (n : ℕ) (ns : List ℕ) → (b ≡ true → Q n) → AllByRecursion Q ns → AllByRecursion Q (due_if b n ns)
if_only Q true n ns h all = (h refl, all)
if_only Q false n ns h all = all

due_at_only : (Q : ℕ → Type 0) (m : ℕ) (slots : Slab (Session KEnd)) (es : List (ℕ × ℕ)) → AllEntries (λ n k. is_due m (wake_of (get slots k)) ≡ true → Q n) es
    → AllByRecursion Q (due_at m slots es)
due_at_only Q m slots [] h = tt
due_at_only Q m slots (e ∷ es) h = if_only Q (is_due m (wake_of (get slots e.1))) e.0 (due_at m slots es) h.0 (due_at_only Q m slots es h.1)

if_first : (b : Bool) (n : ℕ) (ns : List ℕ) → b ≡ true → Contains (due_if b n ns) n
if_first true n ns p = in_first n ns
if_first false n ns p = absurd (let z : false ≡ true = p in cc)

if_rest : (b : Bool) (n : ℕ) (ns : List ℕ) (j : ℕ) → Contains ns j → Contains (due_if b n ns) j
if_rest true n ns j p = in_rest n ns j p
if_rest false n ns j p = p

due_at_has : (m n k : ℕ) (slots : Slab (Session KEnd)) (es : List (ℕ × ℕ)) → place_of n es ≡ Some k → is_due m (wake_of (get slots k)) ≡ true → Contains (due_at m slots es) n
due_at_has m n k slots [] p q = absurd (let z : None ≡ Some k = p in cc)
due_at_has m n k slots (e ∷ es) p q =
    elim (cases_Bool (is_eq (nat_cmp n e.0))) [
      | inl t ↦
          (let at : Some e.1 ≡ Some k = subst (λ z. (if z then Some e.1 else place_of n es) ≡ Some k) t p in
          let same : k ≡ e.1 = cc in
          subst (λ z. Contains (due_at m slots (e ∷ es)) z) (sym (found_is n e.0 t))
          (if_first (is_due m (wake_of (get slots e.1))) e.0 (due_at m slots es) (subst (λ z. is_due m (wake_of (get slots z)) ≡ true) same q)))
      | inr t ↦
          if_rest (is_due m (wake_of (get slots e.1))) e.0 (due_at m slots es) n
          (due_at_has m n k slots es (subst (λ z. (if z then Some e.1 else place_of n es) ≡ Some k) t p) q)
    ]

due_at_all : (P : ℕ → Type 0) (m : ℕ) (slots : Slab (Session KEnd)) (es : List (ℕ × ℕ)) → AllByRecursion P (map (λ e. e.0) es) → AllByRecursion P (due_at m slots es)
due_at_all P m slots [] h = tt
due_at_all P m slots (e ∷ es) h = if_only P (is_due m (wake_of (get slots e.1))) e.0 (due_at m slots es) (λ t. h.0) (due_at_all P m slots es h.1)

if_rises : (b : Bool) (n : ℕ) (ns : List ℕ) → AllByRecursion (λ y. nat_cmp n y ≡ Less) ns → IsStrictlySortedBy nat_cmp ns → IsStrictlySortedBy nat_cmp (due_if b n ns)
unfolding IsStrictlySortedBy
if_rises true n ns p q = (p, q)
if_rises false n ns p q = q

due_at_rises : (m : ℕ) (slots : Slab (Session KEnd)) (es : List (ℕ × ℕ)) → IsStrictlySortedBy nat_cmp (map (λ e. e.0) es) → IsStrictlySortedBy nat_cmp (due_at m slots es)
unfolding IsStrictlySortedBy
due_at_rises m slots [] p = tt
due_at_rises m slots (e ∷ es) p =
    if_rises (is_due m (wake_of (get slots e.1))) e.0 (due_at m slots es) (due_at_all (λ y. nat_cmp e.0 y ≡ Less) m slots es p.0) (due_at_rises m slots es p.1)

-- a moment that has come
come : (m at : ℕ) (o : Option ℕ) → o ≡ Some at → at ≤ m → is_due m o ≡ true
come m at None p q = absurd (let z : None ≡ Some at = p in cc)
come m at (Some x) p q = (let z : Some x ≡ Some at = p in let same : x ≡ at = cc in let low : x ≤ m = omega (arith, q, same) in grind (arith, nat_tests, low))

come_is : (m : ℕ) (o : Option ℕ) → is_due m o ≡ true → (at : ℕ) × (o ≡ Some at) × (at ≤ m)
come_is m None p = absurd (let z : false ≡ true = p in cc)
come_is m (Some at) p = (at, refl, (let z : nat_le at m ≡ true = p in grind (arith, nat_tests, z)))

pub due_is : (newest m : ℕ) (slots : Slab (Session KEnd)) (places : BTreeMap ℕ ℕ) (pairs : BTreeSet (ℕ × ℕ)) (sorted : List ℕ)
    → AreSeated newest slots places.entries → AreAwaited slots places pairs → IsOrdered pair_cmp pairs
    → IsPermutation (numbers_until m pairs.keys) sorted → IsSorted nat_cmp sorted → sorted ≡ due_numbers m (sessions slots places)
due_is newest m slots places pairs sorted seated p ordered moved in_order =
    same_rising sorted (due_at m slots places.entries)
    (due_rises m (wake_at slots places) pairs.keys sorted ordered
    (all_pairs (λ at n. wake_at slots places n ≡ Some at) pairs.keys (λ at n q. moment_is at (wake_at slots places n) (sym (p.kept at n) ∙ q))) moved in_order)
    (due_at_rises m slots places.entries p.rise) are_due all_due
    ∙ sym (due_seats newest m slots places.entries seated)
  where
    is_there : (at n : ℕ) → has_wake_time pairs at n ≡ true → at ≤ m → Contains (due_at m slots places.entries) n
    is_there at n q low =
        let there = pair_wakes slots places pairs at n p q in
        due_at_has m n there.0 slots places.entries there.1 (come m at (wake_of (get slots there.0)) there.2 low)

    are_due : (n : ℕ) → Contains sorted n → Contains (due_at m slots places.entries) n
    are_due = due_only m (Contains (due_at m slots places.entries)) pairs.keys sorted moved
        (all_pairs (λ at n. at ≤ m → Contains (due_at m slots places.entries) n) pairs.keys is_there)

    is_kept : (n k : ℕ) → place_of n places.entries ≡ Some k → is_due m (wake_of (get slots k)) ≡ true → Contains sorted n
    is_kept n k q due =
        let when = come_is m (wake_of (get slots k)) due in
        due_has m when.0 n pairs sorted moved (wakes_pair slots places pairs when.0 n k p q when.1) when.2

    all_due : (n : ℕ) → Contains (due_at m slots places.entries) n → Contains sorted n
    all_due n q =
        All-contains (Contains sorted) (due_at m slots places.entries) n
        (All-from_recursion (Contains sorted) (due_at m slots places.entries)
        (due_at_only (Contains sorted) m slots places.entries (all_found (λ n k. is_due m (wake_of (get slots k)) ≡ true → Contains sorted n) places.entries p.rise is_kept))) q

-- the numbers of the sessions rise
pub numbers_rise : (newest : ℕ) (slots : Slab (Session KEnd)) (places : BTreeMap ℕ ℕ) (pairs : BTreeSet (ℕ × ℕ)) → AreSeated newest slots places.entries → AreAwaited slots places pairs
    → IsStrictlySortedBy nat_cmp (numbers (sessions slots places))
numbers_rise newest slots places pairs seated p = subst (IsStrictlySortedBy nat_cmp) (sym (numbers_are newest slots places.entries seated)) p.rise
