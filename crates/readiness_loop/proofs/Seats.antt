-- A visit of the session of a number is a visit of the session in the slot at that number's place.
use Rattle.er_end.specs.KeptEnds.{KEnd}
use Rattle.std.proofs.Common.{◌≡◌, ◌≢◌, ℕ, true, false, List, [], ◌∷◌, Option, Some, None, inl, inr, cond, refl, sym, ◌∙◌, ap, subst, arith}
use Rattle.std.specs.Prelude.{◌==◌}
use Rattle.std.specs.Ordering.{nat_cmp, is_eq}
use Rattle.std.specs.Map.{lookup, remove_entry}
use Rattle.std.specs.BTreeMap.{is_at}
use Rattle.std.proofs.lemmas.Bool.{cases_Bool}
use Rattle.std.proofs.lemmas.Bool.Decides.{nat_tests}
use Rattle.slab.specs.Slab.{Slab, get, Updates}
use Rattle.loop_model.specs.Outs.{Out, still}
use Rattle.loop_model.specs.Sessions.{Session}
use Rattle.loop_model.specs.Visits.{Met}
use Rattle.loop_model.specs.Loops.{visit_at}
use Rattle.readiness_loop.proofs.Sequences.{SaysSame}
use Rattle.readiness_loop.specs.Books.{seat, seats, sessions_at, IsSeat, IsApart, AreSeated}

-- the places of other slots, while one changes
abbrev pub OthersStay : Slab (Session KEnd) → Slab (Session KEnd) → ℕ → Type 0
OthersStay slots now k = (j : ℕ) → j ≢ k → get now j ≡ get slots j

others_seats : (slots now : Slab (Session KEnd)) (k : ℕ) (es : List (ℕ × ℕ)) → OthersStay slots now k → IsApart k es → sessions_at now es ≡ sessions_at slots es
unfolding seats
others_seats slots now k [] h p = refl
others_seats slots now k (e ∷ es) h p = rw (h e.1 p.0, others_seats slots now k es h p.1) refl

others_seated : (newest : ℕ) (slots now : Slab (Session KEnd)) (k : ℕ) (es : List (ℕ × ℕ)) → OthersStay slots now k → IsApart k es
    → AreSeated newest slots es → AreSeated newest now es
unfolding AreSeated
others_seated newest slots now k [] h p q = tt
others_seated newest slots now k (e ∷ es) h p q =
    (q.0, subst (λ z. IsSeat e.0 z) (sym (h e.1 p.0)) q.1, q.2, others_seated newest slots now k es h p.1 q.3)

-- the place of a number
abbrev pub place_of : ℕ → List (ℕ × ℕ) → Option ℕ
place_of n es = lookup (is_at (nat_cmp n)) es

same_test : (n m : ℕ) → is_eq (nat_cmp n m) ≡ (m == n)
same_test n m = grind (arith, nat_tests)

none_some : {A : Type 0} (a : A) → None ≡ Some a → ⊥
none_some a p = cc

some_is : {A : Type 0} (a b : A) → Some a ≡ Some b → a ≡ b
some_is a b p = cc

-- a slot that is found isn't one that no place has
found_apart : (n j k : ℕ) (es : List (ℕ × ℕ)) → IsApart j es → place_of n es ≡ Some k → j ≢ k
found_apart n j k [] p q = absurd (none_some k q)
found_apart n j k (e ∷ es) p q =
    elim (cases_Bool (is_eq (nat_cmp n e.0))) [
      | inl t ↦ (let q' : Some e.1 ≡ Some k = subst (λ z. cond z (Some e.1) (place_of n es) ≡ Some k) t q in λ r. p.0 (some_is e.1 k q' ∙ sym r))
      | inr t ↦ found_apart n j k es p.1 (subst (λ z. cond z (Some e.1) (place_of n es) ≡ Some k) t q)
    ]

-- ---- a visit

-- the session of a place
seated_at : (newest : ℕ) (slots : Slab (Session KEnd)) (e : ℕ × ℕ) (es : List (ℕ × ℕ)) → AreSeated newest slots (e ∷ es)
    → (s : Session KEnd) × (get slots e.1 ≡ Some s) × (s.number ≡ e.0)
unfolding AreSeated
seated_at newest slots e es p = of_seat (get slots e.1) refl p.1
  where
    of_seat : (o : Option (Session KEnd)) → o ≡ get slots e.1 → IsSeat e.0 o → (s : Session KEnd) × (get slots e.1 ≡ Some s) × (s.number ≡ e.0)
    of_seat None is q = absurd q
    of_seat (Some s) is q = (s, sym is, q)

seated_rest : (newest : ℕ) (slots : Slab (Session KEnd)) (e : ℕ × ℕ) (es : List (ℕ × ℕ)) → AreSeated newest slots (e ∷ es) → AreSeated newest slots es
unfolding AreSeated
seated_rest newest slots e es p = p.3

apart_rest : (newest : ℕ) (slots : Slab (Session KEnd)) (e : ℕ × ℕ) (es : List (ℕ × ℕ)) → AreSeated newest slots (e ∷ es) → IsApart e.1 es
unfolding AreSeated
apart_rest newest slots e es p = p.2

sessions_first : (slots : Slab (Session KEnd)) (e : ℕ × ℕ) (es : List (ℕ × ℕ)) (s : Session KEnd) → get slots e.1 ≡ Some s
    → sessions_at slots (e ∷ es) ≡ s ∷ sessions_at slots es
unfolding seats
sessions_first slots e es s p = ap (λ z. seat z (sessions_at slots es)) p

-- nobody has the number
pub visit_none : (f : Session KEnd → Met → Out (List (Session KEnd))) (newest n : ℕ) (slots : Slab (Session KEnd)) (es : List (ℕ × ℕ)) (a : Met)
    → AreSeated newest slots es → place_of n es ≡ None → visit_at f n (sessions_at slots es) a ≡ still (sessions_at slots es)
unfolding visit_at seats
visit_none f newest n slots [] a p q = refl
visit_none f newest n slots (e ∷ es) a p q =
    let here = seated_at newest slots e es p in
    elim (cases_Bool (is_eq (nat_cmp n e.0))) [
      | inl t ↦ absurd (none_some e.1 (sym (subst (λ z. cond z (Some e.1) (place_of n es) ≡ None) t q)))
      | inr t ↦
          let other : (here.0.number == n) ≡ false = ap (λ z. z == n) here.2 ∙ sym (same_test n e.0) ∙ t in
          let rest = visit_none f newest n slots es a (seated_rest newest slots e es p) (subst (λ z. cond z (Some e.1) (place_of n es) ≡ None) t q) in
          rw (here.1, other, rest) refl
    ]

-- the session that stands at the place of the number
pub visit_says : (f : Session KEnd → Met → Out (List (Session KEnd))) (newest n k : ℕ) (slots : Slab (Session KEnd)) (es : List (ℕ × ℕ)) (s : Session KEnd) (a : Met)
    → AreSeated newest slots es → place_of n es ≡ Some k → get slots k ≡ Some s
    → SaysSame (f s a) (visit_at f n (sessions_at slots es) a)
unfolding visit_at seats
visit_says f newest n k slots [] s a p q r = absurd (none_some k q)
visit_says f newest n k slots (e ∷ es) s a p q r =
    let here = seated_at newest slots e es p in
    elim (cases_Bool (is_eq (nat_cmp n e.0))) [
      | inl t ↦
          let at : e.1 ≡ k = some_is e.1 k (subst (λ z. cond z (Some e.1) (place_of n es) ≡ Some k) t q) in
          let same : get slots e.1 ≡ Some s = ap (get slots) at ∙ r in
          let who : here.0 ≡ s = some_is here.0 s (sym here.1 ∙ same) in
          let it : (s.number == n) ≡ true = ap (λ z. z.number == n) (sym who) ∙ ap (λ z. z == n) here.2 ∙ sym (same_test n e.0) ∙ t in
          rw (same, it) (record { entries = refl; calls = refl; order = refl })
      | inr t ↦
          let other : (here.0.number == n) ≡ false = ap (λ z. z == n) here.2 ∙ sym (same_test n e.0) ∙ t in
          let rest = visit_says f newest n k slots es s a (seated_rest newest slots e es p) (subst (λ z. cond z (Some e.1) (place_of n es) ≡ Some k) t q) r in
          rw (here.1, other) (record { entries = rest.entries; calls = rest.calls; order = rest.order })
    ]

-- it stays, as it is now
pub visit_leaves : (f : Session KEnd → Met → Out (List (Session KEnd))) (newest n k : ℕ) (slots now : Slab (Session KEnd)) (es : List (ℕ × ℕ)) (s t : Session KEnd) (a : Met)
    → AreSeated newest slots es → place_of n es ≡ Some k → get slots k ≡ Some s → Updates slots now k (Some t) → t ∷ [] ≡ (f s a).state
    → sessions_at now es ≡ (visit_at f n (sessions_at slots es) a).state
unfolding visit_at seats
visit_leaves f newest n k slots now [] s t a p q r u is = absurd (none_some k q)
visit_leaves f newest n k slots now (e ∷ es) s t a p q r u is =
    let here = seated_at newest slots e es p in
    elim (cases_Bool (is_eq (nat_cmp n e.0))) [
      | inl b ↦
          let at : e.1 ≡ k = some_is e.1 k (subst (λ z. cond z (Some e.1) (place_of n es) ≡ Some k) b q) in
          let same : get slots e.1 ≡ Some s = ap (get slots) at ∙ r in
          let after : get now e.1 ≡ Some t = ap (get now) at ∙ u.changed in
          let who : here.0 ≡ s = some_is here.0 s (sym here.1 ∙ same) in
          let it : (s.number == n) ≡ true = ap (λ z. z.number == n) (sym who) ∙ ap (λ z. z == n) here.2 ∙ sym (same_test n e.0) ∙ b in
          let rest : sessions_at now es ≡ sessions_at slots es =
          others_seats slots now k es u.others (subst (λ z. IsApart z es) at (apart_rest newest slots e es p)) in
          rw (same, it, after, rest, ← is) refl
      | inr b ↦
          let other : (here.0.number == n) ≡ false = ap (λ z. z == n) here.2 ∙ sym (same_test n e.0) ∙ b in
          let q' = subst (λ z. cond z (Some e.1) (place_of n es) ≡ Some k) b q in
          let away : get now e.1 ≡ Some here.0 = u.others e.1 (found_apart n e.1 k es (apart_rest newest slots e es p) q') ∙ here.1 in
          let rest = visit_leaves f newest n k slots now es s t a (seated_rest newest slots e es p) q' r u is in
          rw (here.1, other, away, rest) refl
    ]

pub visit_leaves_seated : (newest n k : ℕ) (slots now : Slab (Session KEnd)) (es : List (ℕ × ℕ)) (s t : Session KEnd)
    → AreSeated newest slots es → place_of n es ≡ Some k → get slots k ≡ Some s → Updates slots now k (Some t) → t.number ≡ s.number
    → AreSeated newest now es
unfolding AreSeated
visit_leaves_seated newest n k slots now [] s t p q r u is = tt
visit_leaves_seated newest n k slots now (e ∷ es) s t p q r u is =
    let here = seated_at newest slots e es p in
    elim (cases_Bool (is_eq (nat_cmp n e.0))) [
      | inl b ↦
          let at : e.1 ≡ k = some_is e.1 k (subst (λ z. cond z (Some e.1) (place_of n es) ≡ Some k) b q) in
          let same : get slots e.1 ≡ Some s = ap (get slots) at ∙ r in
          let after : get now e.1 ≡ Some t = ap (get now) at ∙ u.changed in
          let who : here.0 ≡ s = some_is here.0 s (sym here.1 ∙ same) in
          let number : t.number ≡ e.0 = is ∙ ap (λ z. z.number) (sym who) ∙ here.2 in
          (p.0, subst (λ z. IsSeat e.0 z) (sym after) number, p.2, others_seated newest slots now k es u.others (subst (λ z. IsApart z es) at p.2) p.3)
      | inr b ↦
          let q' = subst (λ z. cond z (Some e.1) (place_of n es) ≡ Some k) b q in
          let away : get now e.1 ≡ get slots e.1 = u.others e.1 (found_apart n e.1 k es p.2 q') in
          (p.0, subst (λ z. IsSeat e.0 z) (sym away) p.1, p.2, visit_leaves_seated newest n k slots now es s t p.3 q' r u is)
    ]

-- it was closed
pub visit_drops : (f : Session KEnd → Met → Out (List (Session KEnd))) (newest n k : ℕ) (slots now : Slab (Session KEnd)) (es : List (ℕ × ℕ)) (s : Session KEnd) (a : Met)
    → AreSeated newest slots es → place_of n es ≡ Some k → get slots k ≡ Some s → Updates slots now k None → [] ≡ (f s a).state
    → sessions_at now (remove_entry (is_at (nat_cmp n)) es) ≡ (visit_at f n (sessions_at slots es) a).state
unfolding visit_at seats
visit_drops f newest n k slots now [] s a p q r u is = absurd (none_some k q)
visit_drops f newest n k slots now (e ∷ es) s a p q r u is =
    let here = seated_at newest slots e es p in
    elim (cases_Bool (is_eq (nat_cmp n e.0))) [
      | inl b ↦
          let at : e.1 ≡ k = some_is e.1 k (subst (λ z. cond z (Some e.1) (place_of n es) ≡ Some k) b q) in
          let same : get slots e.1 ≡ Some s = ap (get slots) at ∙ r in
          let who : here.0 ≡ s = some_is here.0 s (sym here.1 ∙ same) in
          let it : (s.number == n) ≡ true = ap (λ z. z.number == n) (sym who) ∙ ap (λ z. z == n) here.2 ∙ sym (same_test n e.0) ∙ b in
          let rest : sessions_at now es ≡ sessions_at slots es =
          others_seats slots now k es u.others (subst (λ z. IsApart z es) at (apart_rest newest slots e es p)) in
          rw (b, same, it, rest, ← is) refl
      | inr b ↦
          let other : (here.0.number == n) ≡ false = ap (λ z. z == n) here.2 ∙ sym (same_test n e.0) ∙ b in
          let q' = subst (λ z. cond z (Some e.1) (place_of n es) ≡ Some k) b q in
          let away : get now e.1 ≡ Some here.0 = u.others e.1 (found_apart n e.1 k es (apart_rest newest slots e es p) q') ∙ here.1 in
          let rest = visit_drops f newest n k slots now es s a (seated_rest newest slots e es p) q' r u is in
          rw (b, here.1, other, away, rest) refl
    ]

apart_fewer : (n k : ℕ) (es : List (ℕ × ℕ)) → IsApart k es → IsApart k (remove_entry (is_at (nat_cmp n)) es)
apart_fewer n k [] p = tt
apart_fewer n k (e ∷ es) p =
    elim (cases_Bool (is_eq (nat_cmp n e.0))) [
      | inl b ↦ rw b p.1
      | inr b ↦ rw b (p.0, apart_fewer n k es p.1)
    ]

pub visit_drops_seated : (newest n k : ℕ) (slots now : Slab (Session KEnd)) (es : List (ℕ × ℕ))
    → AreSeated newest slots es → place_of n es ≡ Some k → Updates slots now k None
    → AreSeated newest now (remove_entry (is_at (nat_cmp n)) es)
unfolding AreSeated
visit_drops_seated newest n k slots now [] p q u = tt
visit_drops_seated newest n k slots now (e ∷ es) p q u =
    elim (cases_Bool (is_eq (nat_cmp n e.0))) [
      | inl b ↦
          let at : e.1 ≡ k = some_is e.1 k (subst (λ z. cond z (Some e.1) (place_of n es) ≡ Some k) b q) in
          rw b (others_seated newest slots now k es u.others (subst (λ z. IsApart z es) at p.2) p.3)
      | inr b ↦
          let q' = subst (λ z. cond z (Some e.1) (place_of n es) ≡ Some k) b q in
          let away : get now e.1 ≡ get slots e.1 = u.others e.1 (found_apart n e.1 k es p.2 q') in
          rw b (p.0, subst (λ z. IsSeat e.0 z) (sym away) p.1, apart_fewer n e.1 es p.2, visit_drops_seated newest n k slots now es p.3 q' u)
    ]

-- the slot of a place has a session
pub seat_found : (newest n k : ℕ) (slots : Slab (Session KEnd)) (es : List (ℕ × ℕ)) → AreSeated newest slots es → place_of n es ≡ Some k → get slots k ≡ None → ⊥
seat_found newest n k slots [] p q r = none_some k q
seat_found newest n k slots (e ∷ es) p q r =
    let here = seated_at newest slots e es p in
    elim (cases_Bool (is_eq (nat_cmp n e.0))) [
      | inl b ↦
          (let at : e.1 ≡ k = some_is e.1 k (subst (λ z. cond z (Some e.1) (place_of n es) ≡ Some k) b q) in
          none_some here.0 (sym r ∙ ap (get slots) (sym at) ∙ here.1))
      | inr b ↦ seat_found newest n k slots es (seated_rest newest slots e es p) (subst (λ z. cond z (Some e.1) (place_of n es) ≡ Some k) b q) r
    ]
