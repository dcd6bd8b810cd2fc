-- The moments that are kept stay those of the sessions while a session comes, changes or goes.
use Rattle.er_end.specs.KeptEnds.{KEnd}
use Rattle.loop_session.specs.Keeping.{kept_ends}
use Rattle.std.proofs.Common.{◌≡◌, ◌≢◌, ℕ, ◌-◌, ◌<◌, ◌≤◌, true, false, inl, inr, List, [], ◌∷◌, Option, Some, None, refl, sym, ◌∙◌, ap, subst, arith}
use Rattle.std.specs.Prelude.{◌==◌, if◌then◌else◌}
use Rattle.std.specs.Ordering.{nat_cmp, is_eq}
use Rattle.std.specs.List.Sorted.{IsStrictlySortedBy}
use Rattle.std.specs.Map.{keys_of}
use Rattle.std.specs.BTreeMap.{BTreeMap, is_at, IsOrdered, UpdatesBy}
use Rattle.std.specs.BTreeSet.{BTreeSet}
use Rattle.std.proofs.lemmas.Bool.{cases_Bool}
use Rattle.std.proofs.lemmas.Bool.Decides.{nat_tests}
use Rattle.slab.specs.Slab.{Slab, get, with_value, Updates}
use Rattle.slab.proofs.SlabLemmas.{Updates-with_value}
use Rattle.er_end_model.specs.Steps.{earlier_of_moments}
use Rattle.loop_model.specs.Sessions.{Session}
use Rattle.loop_model.specs.Visits.{wakes}
use Rattle.readiness_loop.specs.WakeTimes.{has_wake_time, is_moment}
use Rattle.readiness_loop.specs.Books.{IsSeat, AreSeated, wake_of, wake_in, wake_at, AreAwaited}
use Rattle.readiness_loop.proofs.Risings.{found_is, found_other}
use Rattle.readiness_loop.proofs.Seats.{OthersStay, place_of}

-- no session, and no moment
pub awaited_none : (slots : Slab (Session KEnd)) (places : BTreeMap ℕ ℕ) (pairs : BTreeSet (ℕ × ℕ)) → places.entries ≡ [] → pairs.keys ≡ [] → AreAwaited slots places pairs
unfolding IsStrictlySortedBy wake_at
awaited_none slots places pairs p q = record { rise = rw p tt; kept = λ m n. rw (p, q) refl }

-- ---- one session comes, changes or goes

-- its moment is another, the others have theirs
awaited_moves : (slots now : Slab (Session KEnd)) (places more : BTreeMap ℕ ℕ) (pairs new : BTreeSet (ℕ × ℕ)) (n : ℕ) (after : Option ℕ)
    → AreAwaited slots places pairs → IsOrdered nat_cmp more
    → ((m j : ℕ) → has_wake_time new m j ≡ (if j == n then is_moment m after else has_wake_time pairs m j))
    → wake_at now more n ≡ after → ((j : ℕ) → j ≢ n → wake_at now more j ≡ wake_at slots places j)
    → AreAwaited now more new
awaited_moves slots now places more pairs new n after p rise h own others = record {
  rise = rise;
  kept = λ m j.
      elim (cases_Bool (j == n)) [
        | inl t ↦
            let same : j ≡ n = grind (arith, nat_tests, t) in
            h m j ∙ rw t refl ∙ ap (is_moment m) (sym own ∙ ap (wake_at now more) (sym same))
        | inr t ↦
            let away : j ≢ n = λ same. (let z : (j == n) ≡ true = grind (arith, nat_tests, same) in let y : true ≡ false = sym z ∙ t in cc) in
            h m j ∙ rw t refl ∙ p.kept m j ∙ ap (is_moment m) (sym (others j away))
      ];
}

-- the slots of other numbers are other slots
others_wake : (n k : ℕ) (slots now : Slab (Session KEnd)) (places more : BTreeMap ℕ ℕ) → OthersStay slots now k
    → ((j i : ℕ) → j ≢ n → place_of j places.entries ≡ Some i → i ≢ k)
    → ((j : ℕ) → j ≢ n → place_of j more.entries ≡ place_of j places.entries)
    → (j : ℕ) → j ≢ n → wake_at now more j ≡ wake_at slots places j
unfolding wake_at
others_wake n k slots now places more stay apart same j away =
    ap (wake_in now) (same j away) ∙ of_place (place_of j places.entries) (λ i. apart j i away)
  where
    of_place : (o : Option ℕ) → ((i : ℕ) → o ≡ Some i → i ≢ k) → wake_in now o ≡ wake_in slots o
    of_place None h = refl
    of_place (Some i) h = ap wake_of (stay i (h i refl))

none_some : {A : Type 0} (a : A) → None ≡ Some a → ⊥
none_some a p = cc

some_is : {A : Type 0} (a b : A) → Some a ≡ Some b → a ≡ b
some_is a b p = cc

-- the session of a place has the number of the place
seat_number : (newest n k : ℕ) (slots : Slab (Session KEnd)) (es : List (ℕ × ℕ)) (s : Session KEnd) → AreSeated newest slots es → place_of n es ≡ Some k → get slots k ≡ Some s → s.number ≡ n
unfolding AreSeated
seat_number newest n k slots [] s p q r = absurd (none_some k q)
seat_number newest n k slots (e ∷ es) s p q r =
    elim (cases_Bool (is_eq (nat_cmp n e.0))) [
      | inl t ↦
          (let at : e.1 ≡ k = some_is e.1 k (subst (λ z. (if z then Some e.1 else place_of n es) ≡ Some k) t q) in
          let own : s.number ≡ e.0 = subst (λ o. IsSeat e.0 o) (ap (get slots) at ∙ r) p.1 in
          own ∙ sym (found_is n e.0 t))
      | inr t ↦ seat_number newest n k slots es s p.3 (subst (λ z. (if z then Some e.1 else place_of n es) ≡ Some k) t q) r
    ]

seats_apart : (newest n k : ℕ) (slots : Slab (Session KEnd)) (es : List (ℕ × ℕ)) (s : Session KEnd) → AreSeated newest slots es → place_of n es ≡ Some k → get slots k ≡ Some s
    → (j i : ℕ) → j ≢ n → place_of j es ≡ Some i → i ≢ k
seats_apart newest n k slots es s p q r j i away at same =
    away (sym (seat_number newest j i slots es s p at (ap (get slots) same ∙ r)) ∙ seat_number newest n k slots es s p q r)

-- the moment of a session of a place is kept
pub wake_known : (n k : ℕ) (slots : Slab (Session KEnd)) (places : BTreeMap ℕ ℕ) (pairs : BTreeSet (ℕ × ℕ)) (s : Session KEnd) (before : Option ℕ) → AreAwaited slots places pairs
    → place_of n places.entries ≡ Some k → get slots k ≡ Some s → before ≡ wakes kept_ends s → (m : ℕ) → has_wake_time pairs m n ≡ is_moment m before
unfolding wake_at
wake_known n k slots places pairs s before p q r b m = p.kept m n ∙ ap (λ z. is_moment m (wake_in slots z)) q ∙ ap (λ z. is_moment m (wake_of z)) r ∙ ap (is_moment m) (sym b)

-- a session stays
pub awaited_stays : (newest n k : ℕ) (slots : Slab (Session KEnd)) (places : BTreeMap ℕ ℕ) (pairs new : BTreeSet (ℕ × ℕ)) (s t : Session KEnd) (after : Option ℕ)
    → AreSeated newest slots places.entries → AreAwaited slots places pairs → place_of n places.entries ≡ Some k → get slots k ≡ Some s → after ≡ wakes kept_ends t
    → ((m j : ℕ) → has_wake_time new m j ≡ (if j == n then is_moment m after else has_wake_time pairs m j))
    → AreAwaited (with_value slots k t) places new
unfolding wake_at
awaited_stays newest n k slots places pairs new s t after seated p q r is h =
    let u = Updates-with_value slots k t (rw r refl) in
    awaited_moves slots (with_value slots k t) places places pairs new n after p p.rise h
    (ap (wake_in (with_value slots k t)) q ∙ ap wake_of u.changed ∙ sym is)
    (others_wake n k slots (with_value slots k t) places places u.others (seats_apart newest n k slots places.entries s seated q r) (λ j away. refl))

away_test : (n j : ℕ) → j ≢ n → is_at (nat_cmp n) j ≡ false
away_test n j away = found_other n j (λ same. away (sym same))

-- a session goes
pub awaited_closes : (newest n k : ℕ) (slots now : Slab (Session KEnd)) (places fewer : BTreeMap ℕ ℕ) (pairs new : BTreeSet (ℕ × ℕ)) (s t : Session KEnd)
    → AreSeated newest slots places.entries → AreAwaited slots places pairs → place_of n places.entries ≡ Some k → get slots k ≡ Some s
    → Updates (with_value slots k t) now k None → UpdatesBy nat_cmp (nat_cmp n) places fewer None → IsOrdered nat_cmp fewer
    → ((m j : ℕ) → has_wake_time new m j ≡ (if j == n then is_moment m None else has_wake_time pairs m j))
    → AreAwaited now fewer new
unfolding wake_at
awaited_closes newest n k slots now places fewer pairs new s t seated p q r u removed rise h =
    let v = Updates-with_value slots k t (rw r refl) in
    awaited_moves slots now places fewer pairs new n None p rise h
    (ap (wake_in now) removed.1)
    (others_wake n k slots now places fewer (λ j away. u.others j away ∙ v.others j away) (seats_apart newest n k slots places.entries s seated q r)
    (λ j away. removed.2 j (away_test n j away)))

-- ---- a session comes

unplaced : (newest n : ℕ) (slots : Slab (Session KEnd)) (es : List (ℕ × ℕ)) → AreSeated newest slots es → newest < n → place_of n es ≡ None
unfolding AreSeated
unplaced newest n slots [] p q = refl
unplaced newest n slots (e ∷ es) p q =
    let low : e.0 ≤ newest = p.0 in
    let other : is_eq (nat_cmp n e.0) ≡ false = found_other n e.0 (λ same. omega (arith, low, q, same)) in
    rw other (unplaced newest n slots es p.3 q)

pub none_known : (n : ℕ) (slots : Slab (Session KEnd)) (places : BTreeMap ℕ ℕ) (pairs : BTreeSet (ℕ × ℕ)) → AreSeated (n - 1) slots places.entries → 0 < n → AreAwaited slots places pairs
    → (m : ℕ) → has_wake_time pairs m n ≡ is_moment m None
unfolding wake_at
none_known n slots places pairs seated q p m =
    p.kept m n ∙ ap (λ z. is_moment m (wake_in slots z)) (unplaced (n - 1) n slots places.entries seated (omega (arith, q)))

taken_slot : (newest n k : ℕ) (slots : Slab (Session KEnd)) (es : List (ℕ × ℕ)) → AreSeated newest slots es → get slots k ≡ None → place_of n es ≡ Some k → ⊥
unfolding AreSeated
taken_slot newest n k slots [] p q r = none_some k r
taken_slot newest n k slots (e ∷ es) p q r =
    elim (cases_Bool (is_eq (nat_cmp n e.0))) [
      | inl t ↦ (let at : e.1 ≡ k = some_is e.1 k (subst (λ z. (if z then Some e.1 else place_of n es) ≡ Some k) t r) in subst (λ o. IsSeat e.0 o) (ap (get slots) at ∙ q) p.1)
      | inr t ↦ taken_slot newest n k slots es p.3 q (subst (λ z. (if z then Some e.1 else place_of n es) ≡ Some k) t r)
    ]

pub awaited_joins : (n k room : ℕ) (slots mid now : Slab (Session KEnd)) (places more : BTreeMap ℕ ℕ) (pairs new : BTreeSet (ℕ × ℕ)) (s : Session KEnd) (wake : Option ℕ)
    → AreSeated (s.number - 1) slots places.entries → AreAwaited slots places pairs → mid ≡ record slots { capacity = room } → get mid k ≡ None → Updates mid now k (Some s)
    → UpdatesBy nat_cmp (nat_cmp n) places more (Some k) → IsOrdered nat_cmp more → wake ≡ wakes kept_ends s
    → ((m j : ℕ) → has_wake_time new m j ≡ (if j == n then is_moment m wake else has_wake_time pairs m j))
    → AreAwaited now more new
unfolding wake_at
awaited_joins n k room slots mid now places more pairs new s wake seated p mid_is free u joined rise is h =
    let same : (j : ℕ) → get mid j ≡ get slots j = λ j. ap (λ (z : Slab (Session KEnd)). get z j) mid_is in
    let empty : get slots k ≡ None = sym (same k) ∙ free in
    awaited_moves slots now places more pairs new n wake p rise h
    (ap (wake_in now) joined.1 ∙ ap wake_of u.changed ∙ sym is)
    (others_wake n k slots now places more (λ j away. u.others j away ∙ same j)
    (λ j i away at is_k. taken_slot (s.number - 1) j k slots places.entries seated empty (at ∙ ap Some is_k))
    (λ j away. joined.2 j (away_test n j away)))

-- where the slot is the next one
pub awaited_joined : (n k slot room : ℕ) (slots mid now : Slab (Session KEnd)) (places more : BTreeMap ℕ ℕ) (pairs new : BTreeSet (ℕ × ℕ)) (s : Session KEnd) (wake : Option ℕ)
    → AreSeated (s.number - 1) slots places.entries → AreAwaited slots places pairs → mid ≡ record slots { capacity = room }
    → slot ≡ k → get mid slot ≡ None → Updates mid now slot (Some s)
    → UpdatesBy nat_cmp (nat_cmp n) places more (Some k) → IsOrdered nat_cmp more → wake ≡ wakes kept_ends s
    → ((m j : ℕ) → has_wake_time new m j ≡ (if j == n then is_moment m wake else has_wake_time pairs m j))
    → AreAwaited now more new
awaited_joined n k slot room slots mid now places more pairs new s wake seated p mid_is is_k free u joined rise is h =
    awaited_joins n k room slots mid now places more pairs new s wake seated p mid_is (subst (λ z. get mid z ≡ None) is_k free)
    (subst (λ z. Updates mid now z (Some s)) is_k u) joined rise is h

-- room was made, and nothing more
pub room_awaited : (room : ℕ) (slots mid : Slab (Session KEnd)) (places same : BTreeMap ℕ ℕ) (pairs new : BTreeSet (ℕ × ℕ)) → mid ≡ record slots { capacity = room }
    → same.entries ≡ places.entries → ((m n : ℕ) → has_wake_time new m n ≡ has_wake_time pairs m n) → AreAwaited slots places pairs → AreAwaited mid same new
unfolding wake_at
room_awaited room slots mid places same pairs new is e h p = record {
  rise = subst (λ es. IsStrictlySortedBy nat_cmp (keys_of es)) (sym e) p.rise;
  kept = λ m n.
      h m n ∙ p.kept m n
      ∙ ap (is_moment m) (sym (in_room (place_of n same.entries) ∙ ap (λ es. wake_in slots (place_of n es)) e));
}
  where
    in_room : (o : Option ℕ) → wake_in mid o ≡ wake_in slots o
    in_room None = refl
    in_room (Some k) = ap (λ (z : Slab (Session KEnd)). wake_of (get z k)) is

-- the moment of a session that begins is the deadline of its end
pub first_alone : (at : Option ℕ) → earlier_of_moments at None ≡ at
first_alone None = refl
first_alone (Some at) = refl
