-- What the model holds and asks for by number, against what the places say by how far it is above V(R).
use Rattle.std.proofs.Common.{◌≡◌, ◌≢◌, ℕ, zero, suc, ◌+◌, ◌-◌, ◌<◌, ◌≤◌, Bool, true, false, not, ◌||◌, if◌then◌else◌, List, [], ◌∷◌, ◌++◌, length, get_or, drop, take, set, map, Option, Some, None, ap, ◌∙◌, inl, inr, arith, refl, sym, eq-eqb, ne_eqb, eqb-true, get_or-drop}
use Rattle.std.specs.Prelude.{◌==◌, nat_le, replicate}
use Rattle.std.specs.List.{filter}
use Rattle.std.proofs.lemmas.Bool.{cases_Bool, cases_eq, cases_lt, leb-true, leb-false, eqb-false}
use Rattle.std.proofs.lemmas.List.{get_or-set_other, get_or-set_same}
use Rattle.hdlc_station_model.specs.Selective.{held_for, is_one_of, without_gap}
use Rattle.hdlc_station.specs.Places.{NumberPlace, no_place, cleared, held_in, held_at, asked_at, run_of}
use Rattle.hdlc_station.specs.Held.{IsBehind, HaveDistinctNumbers}
use Rattle.hdlc_station.proofs.Runs.{held_dropped, asked_dropped, run_yes, run_no}

-- ---- lists of the model

-- the tests of the list's head
pub held_here : (n : ℕ) (h : ℕ × List ℕ) (held : List (ℕ × List ℕ)) → (h.0 == n) ≡ true → held_for n (h ∷ held) ≡ Some h.1
held_here n h held e = ap (λ (b : Bool). if b then Some h.1 else held_for n held) e

pub held_there : (n : ℕ) (h : ℕ × List ℕ) (held : List (ℕ × List ℕ)) → (h.0 == n) ≡ false → held_for n (h ∷ held) ≡ held_for n held
held_there n h held e = ap (λ (b : Bool). if b then Some h.1 else held_for n held) e

some_is_found : (o : Option (List ℕ)) (p : List ℕ) → Some p ≡ o → o ≡ None → ⊥
some_is_found o p e none = let x : 1 ≡ 0 = ap filled (e ∙ none) in omega (arith, x)
  where
    filled : Option (List ℕ) → ℕ
    filled None = 0
    filled (Some q) = 1

pub held_last : (n : ℕ) (p : List ℕ) (held : List (ℕ × List ℕ)) → held_for n held ≡ None → held_for n (held ++ (n, p) ∷ []) ≡ Some p
held_last n p [] none = held_here n (n, p) [] (eq-eqb n n refl)
held_last n p (h ∷ held) none = elim (cases_Bool (h.0 == n)) [
  | inl so ↦ absurd (some_is_found (held_for n (h ∷ held)) h.1 (sym (held_here n h held so)) none)
  | inr not_so ↦ held_there n h (held ++ (n, p) ∷ []) not_so ∙ held_last n p held (sym (held_there n h held not_so) ∙ none)
]

pub held_others : (n m : ℕ) (p : List ℕ) (held : List (ℕ × List ℕ)) → m ≢ n → held_for n (held ++ (m, p) ∷ []) ≡ held_for n held
held_others n m p [] differ = held_there n (m, p) [] (ne_eqb m n differ)
held_others n m p (h ∷ held) differ = ap (λ (o : Option (List ℕ)). if h.0 == n then Some h.1 else o) (held_others n m p held differ)

pub asked_append : (n : ℕ) (ms ns : List ℕ) → is_one_of n (ms ++ ns) ≡ (is_one_of n ms || is_one_of n ns)
asked_append n [] ns = refl
asked_append n (m ∷ ms) ns = elim (cases_Bool (m == n)) [
  | inl so ↦ rw so refl
  | inr not_so ↦ rw not_so (asked_append n ms ns)
]

pub asked_last : (n : ℕ) (ms : List ℕ) → is_one_of n (ms ++ n ∷ []) ≡ true
asked_last n [] = rw (eq-eqb n n refl) refl
asked_last n (m ∷ ms) = elim (cases_Bool (m == n)) [
  | inl so ↦ rw so refl
  | inr not_so ↦ rw not_so (asked_last n ms)
]

pub asked_others : (n m : ℕ) (ms : List ℕ) → m ≢ n → is_one_of n (ms ++ m ∷ []) ≡ is_one_of n ms
asked_others n m [] differ = rw (ne_eqb m n differ) refl
asked_others n m (k ∷ ms) differ = ap (λ (b : Bool). k == n || b) (asked_others n m ms differ)

-- numbers below are left out
pub held_filtered : (next n : ℕ) (held : List (ℕ × List ℕ)) → next ≤ n → held_for n (filter (λ h. nat_le next h.0) held) ≡ held_for n held
held_filtered next n [] above = refl
held_filtered next n (h ∷ held) above = elim (cases_Bool (nat_le next h.0)) [
  | inl so ↦ rw so (ap (λ (o : Option (List ℕ)). if h.0 == n then Some h.1 else o) (held_filtered next n held above))
  | inr not_so ↦
      let below : h.0 < next = leb-false next h.0 not_so in
      rw not_so (held_filtered next n held above ∙ sym (held_there n h held (ne_eqb h.0 n (λ e. omega (arith, below, above, e)))))
]

pub asked_filtered : (next n : ℕ) (ms : List ℕ) → next ≤ n → is_one_of n (filter (λ m. nat_le next m) ms) ≡ is_one_of n ms
asked_filtered next n [] above = refl
asked_filtered next n (m ∷ ms) above = elim (cases_Bool (nat_le next m)) [
  | inl so ↦ rw so (ap (λ (b : Bool). m == n || b) (asked_filtered next n ms above))
  | inr not_so ↦
      let below : m < next = leb-false next m not_so in
      rw not_so (asked_filtered next n ms above ∙ sym (ap (λ (b : Bool). b || is_one_of n ms) (ne_eqb m n (λ e. omega (arith, below, above, e)))))
]

-- and none of them stays
held_left : (next n : ℕ) (held : List (ℕ × List ℕ)) → n < next → held_for n (filter (λ h. nat_le next h.0) held) ≡ None
held_left next n [] below = refl
held_left next n (h ∷ held) below = elim (cases_Bool (nat_le next h.0)) [
  | inl so ↦
      let above : next ≤ h.0 = leb-true next h.0 so in
      rw so (held_there n h (filter (λ g. nat_le next g.0) held) (ne_eqb h.0 n (λ e. omega (arith, below, above, e))) ∙ held_left next n held below)
  | inr not_so ↦ rw not_so (held_left next n held below)
]

asked_left : (next n : ℕ) (ms : List ℕ) → n < next → is_one_of n (filter (λ m. nat_le next m) ms) ≡ false
asked_left next n [] below = refl
asked_left next n (m ∷ ms) below = elim (cases_Bool (nat_le next m)) [
  | inl so ↦
      let above : next ≤ m = leb-true next m so in
      rw so (ap (λ (b : Bool). b || is_one_of n (filter (λ k. nat_le next k) ms)) (ne_eqb m n (λ e. omega (arith, below, above, e))) ∙ asked_left next n ms below)
  | inr not_so ↦ rw not_so (asked_left next n ms below)
]

-- ---- numbers that are held once

none_filtered : (p : ℕ × List ℕ → Bool) (n : ℕ) (held : List (ℕ × List ℕ)) → held_for n held ≡ None → held_for n (filter p held) ≡ None
none_filtered p n [] none = refl
none_filtered p n (h ∷ held) none = elim (cases_Bool (h.0 == n)) [
  | inl same ↦ absurd (some_is_found (held_for n (h ∷ held)) h.1 (sym (held_here n h held same)) none)
  | inr other ↦
      let rest = none_filtered p n held (sym (held_there n h held other) ∙ none) in
      elim (cases_Bool (p h)) [
        | inl so ↦ rw so (held_there n h (filter p held) other ∙ rest)
        | inr not_so ↦ rw not_so rest
      ]
]

distinct_filtered : (p : ℕ × List ℕ → Bool) (held : List (ℕ × List ℕ)) → HaveDistinctNumbers held → HaveDistinctNumbers (filter p held)
distinct_filtered p [] d = tt
distinct_filtered p (h ∷ held) d = elim (cases_Bool (p h)) [
  | inl so ↦ rw so (none_filtered p h.0 held d.0, distinct_filtered p held d.1)
  | inr not_so ↦ rw not_so (distinct_filtered p held d.1)
]

distinct_last : (n : ℕ) (p : List ℕ) (held : List (ℕ × List ℕ)) → HaveDistinctNumbers held → held_for n held ≡ None → HaveDistinctNumbers (held ++ (n, p) ∷ [])
distinct_last n p [] d none = (refl, tt)
distinct_last n p (h ∷ held) d none = elim (cases_Bool (h.0 == n)) [
  | inl same ↦ absurd (some_is_found (held_for n (h ∷ held)) h.1 (sym (held_here n h held same)) none)
  | inr other ↦ (held_others h.0 n p held (λ e. eqb-false h.0 n other (sym e)) ∙ d.0, distinct_last n p held d.1 (sym (held_there n h held other) ∙ none))
]

-- ---- a run of the model is no longer than what is held

abbrev others : ℕ → List (ℕ × List ℕ) → List (ℕ × List ℕ)
others n held = filter (λ h. not (h.0 == n)) held

others_keep : (n m : ℕ) (held : List (ℕ × List ℕ)) → m ≢ n → held_for n (others m held) ≡ held_for n held
others_keep n m [] differ = refl
others_keep n m (h ∷ held) differ = elim (cases_Bool (h.0 == m)) [
  | inl so ↦
      rw so (others_keep n m held differ ∙ sym (held_there n h held (ne_eqb h.0 n (λ e. differ (sym (eqb-true h.0 m so) ∙ e)))))
  | inr not_so ↦ rw not_so (ap (λ (o : Option (List ℕ)). if h.0 == n then Some h.1 else o) (others_keep n m held differ))
]

others_few : (n : ℕ) (held : List (ℕ × List ℕ)) → length (others n held) ≤ length held
others_few n [] = omega arith
others_few n (h ∷ held) = elim (cases_Bool (h.0 == n)) [
  | inl so ↦ rw so (omega (arith, others_few n held))
  | inr not_so ↦ rw not_so (omega (arith, others_few n held))
]

others_fewer : (n : ℕ) (p : List ℕ) (held : List (ℕ × List ℕ)) → held_for n held ≡ Some p → length (others n held) + 1 ≤ length held
others_fewer n p [] found = absurd (some_is_found None p (sym found) refl)
others_fewer n p (h ∷ held) found = elim (cases_Bool (h.0 == n)) [
  | inl so ↦ rw so (omega (arith, others_few n held))
  | inr not_so ↦ rw not_so (omega (arith, others_fewer n p held (sym (held_there n h held not_so) ∙ found)))
]

run_held : (places : List NumberPlace) (n : ℕ) (held : List (ℕ × List ℕ)) → ((up : ℕ) → held_for (n + up) held ≡ held_at places up) → length (run_of places) ≤ length held
run_held [] n held says = omega arith
run_held (p ∷ places) n held says = elim (cases_Bool p.held) [
  | inl so ↦
      let first : held_for n held ≡ Some p.payload = ap (λ (m : ℕ). held_for m held) (omega arith) ∙ says 0 ∙ ap (λ (b : Bool). if b then Some p.payload else None) so in
      let rest : length (run_of places) ≤ length (others n held) = run_held places (n + 1) (others n held) (λ up.
      others_keep (n + 1 + up) n held (λ e. omega (arith, e)) ∙ ap (λ (m : ℕ). held_for m held) (omega arith) ∙ says (suc up)) in
      let e = ap length (run_yes p places so) in
      omega (arith, e, rest, others_fewer n p.payload held first)
  | inr not_so ↦ let e = ap length (run_no p places not_so) in omega (arith, e)
]

run_found : (places : List NumberPlace) (most n : ℕ) (held : List (ℕ × List ℕ)) → ((up : ℕ) → held_for (n + up) held ≡ held_at places up) → length (run_of places) ≤ most
    → without_gap most n held ≡ run_of places
run_found places zero n held says enough = sym (none (run_of places) (omega (arith, enough)))
  where
    none : (xs : List (List ℕ)) → length xs ≡ 0 → xs ≡ []
    none [] e = refl
    none (x ∷ xs) e = absurd (omega (arith, e))
run_found [] (suc most) n held says enough =
    let first : held_for n held ≡ None = ap (λ (m : ℕ). held_for m held) (omega arith) ∙ says 0 in
    rw first refl
run_found (p ∷ places) (suc most) n held says enough = elim (cases_Bool p.held) [
  | inl so ↦
      let first : held_for n held ≡ Some p.payload = ap (λ (m : ℕ). held_for m held) (omega arith) ∙ says 0 ∙ ap (λ (b : Bool). if b then Some p.payload else None) so in
      let e = ap length (run_yes p places so) in
      rw first (ap (λ (xs : List (List ℕ)). p.payload ∷ xs) (run_found places most (n + 1) held (λ up. ap (λ (m : ℕ). held_for m held) (omega arith) ∙ says (suc up)) (omega (arith, e, enough))) ∙ sym (run_yes p places so))
  | inr not_so ↦
      let first : held_for n held ≡ None = ap (λ (m : ℕ). held_for m held) (omega arith) ∙ says 0 ∙ ap (λ (b : Bool). if b then Some p.payload else None) not_so in
      rw first (sym (run_no p places not_so))
]

-- the run behind V(R)
pub run_is : (places : List NumberPlace) (r : ℕ) (held : List (ℕ × List ℕ)) (asked : List ℕ) → IsBehind places r held asked
    → without_gap (length held) (r + 1) held ≡ run_of (drop 1 places)
run_is places r held asked h =
    let says : (up : ℕ) → held_for (r + 1 + up) held ≡ held_at (drop 1 places) up =
    λ up. ap (λ (m : ℕ). held_for m held) (omega arith) ∙ h.is_held (1 + up) ∙ sym (after_one places up) in
    run_found (drop 1 places) (length held) (r + 1) held says (run_held (drop 1 places) (r + 1) held says)
  where
    after_one : (xs : List NumberPlace) (up : ℕ) → held_at (drop 1 xs) up ≡ held_at xs (1 + up)
    after_one xs up = ap held_in (get_or-drop 1 xs up no_place)

-- ---- what a part of a step does to the places

module _ (places : List NumberPlace) (r : ℕ) (held : List (ℕ × List ℕ)) (asked : List ℕ) (h : IsBehind places r held asked) where
  -- a number is asked for
  pub behind_asked : (i : ℕ) → i < length places → IsBehind (set places i (record (get_or places i no_place) { asked = true })) r held (asked ++ (r + i) ∷ [])
  behind_asked i low = record {
    is_held = λ up. h.is_held up ∙ elim (cases_eq up i) [
      | inl same ↦ ap (held_at places) same
          ∙ sym (ap held_in (get_or-set_same places i (record (get_or places i no_place) { asked = true }) no_place low))
          ∙ ap (held_at (set places i (record (get_or places i no_place) { asked = true }))) (sym same)
      | inr other ↦ sym (ap held_in (get_or-set_other places i up (record (get_or places i no_place) { asked = true }) no_place other))
    ];
    is_asked = λ up. elim (cases_eq up i) [
      | inl same ↦ ap (λ (m : ℕ). is_one_of (r + m) (asked ++ (r + i) ∷ [])) same
          ∙ asked_last (r + i) asked
          ∙ sym (ap (λ (p : NumberPlace). p.asked) (get_or-set_same places i (record (get_or places i no_place) { asked = true }) no_place low))
          ∙ ap (asked_at (set places i (record (get_or places i no_place) { asked = true }))) (sym same)
      | inr other ↦ asked_others (r + up) (r + i) asked (λ e. other (omega (arith, e)))
          ∙ h.is_asked up
          ∙ sym (ap (λ (p : NumberPlace). p.asked) (get_or-set_other places i up (record (get_or places i no_place) { asked = true }) no_place other))
    ];
    none_held = h.none_held;
    none_asked = λ n below. asked_others n (r + i) asked (λ e. omega (arith, e, below)) ∙ h.none_asked n below;
    distinct = h.distinct;
  }

  -- a payload is held
  pub behind_held : (i : ℕ) (p : List ℕ) → i < length places → 1 ≤ i → held_for (r + i) held ≡ None
      → IsBehind (set places i (record (get_or places i no_place) { payload = p; held = true })) r (held ++ (r + i, p) ∷ []) asked
  behind_held i p low above none =
      let x : NumberPlace = record (get_or places i no_place) { payload = p; held = true } in
      record {
        is_held = λ up. elim (cases_eq up i) [
          | inl same ↦ ap (λ (m : ℕ). held_for (r + m) (held ++ (r + i, p) ∷ [])) same
              ∙ held_last (r + i) p held none
              ∙ sym (ap held_in (get_or-set_same places i x no_place low))
              ∙ ap (held_at (set places i x)) (sym same)
          | inr other ↦ held_others (r + up) (r + i) p held (λ e. other (omega (arith, e)))
              ∙ h.is_held up
              ∙ sym (ap held_in (get_or-set_other places i up x no_place other))
        ];
        is_asked = λ up. h.is_asked up ∙ elim (cases_eq up i) [
          | inl same ↦ ap (asked_at places) same
              ∙ sym (ap (λ (q : NumberPlace). q.asked) (get_or-set_same places i x no_place low))
              ∙ ap (asked_at (set places i x)) (sym same)
          | inr other ↦ sym (ap (λ (q : NumberPlace). q.asked) (get_or-set_other places i up x no_place other))
        ];
        none_held = λ n below. held_others n (r + i) p held (λ e. omega (arith, e, below, above)) ∙ h.none_held n below;
        none_asked = h.none_asked;
        distinct = distinct_last (r + i) p held h.distinct none;
      }

  -- so many numbers are taken, of which the first stood in a place that was written
  pub behind_taken : (t : ℕ) → 1 ≤ t → held_at places t ≡ None
      → IsBehind (drop t places ++ map cleared (take t places)) (r + t) (filter (λ g. nat_le (r + t) g.0) held) (filter (λ m. nat_le (r + t) m) asked)
  behind_taken t some ends = record {
    is_held = λ up.
        held_filtered (r + t) (r + t + up) held (omega arith)
        ∙ ap (λ (m : ℕ). held_for m held) (omega arith)
        ∙ h.is_held (t + up)
        ∙ sym (held_dropped places t up);
    is_asked = λ up.
        asked_filtered (r + t) (r + t + up) asked (omega arith)
        ∙ ap (λ (m : ℕ). is_one_of m asked) (omega arith)
        ∙ h.is_asked (t + up)
        ∙ sym (asked_dropped places t up);
    none_held = λ n below. elim (cases_lt n (r + t)) [
      | inl low ↦ held_left (r + t) n held low
      | inr high ↦
          let next : n ≡ r + t = omega (arith, below, high) in
          held_filtered (r + t) n held high ∙ ap (λ (m : ℕ). held_for m held) next ∙ h.is_held t ∙ ends
    ];
    none_asked = λ n below. asked_left (r + t) n asked below;
    distinct = distinct_filtered (λ g. nat_le (r + t) g.0) held h.distinct;
  }

-- all are forgotten
pub behind_forgotten : (places : List NumberPlace) (n r : ℕ) → n ≡ length places → IsBehind (drop n places ++ map cleared (take n places)) r [] []
behind_forgotten places n r all = record {
  is_held = λ up. sym (held_dropped places n up ∙ past_held places (n + up) (omega (arith, all)));
  is_asked = λ up. sym (asked_dropped places n up ∙ past_asked places (n + up) (omega (arith, all)));
  none_held = λ m below. refl;
  none_asked = λ m below. refl;
  distinct = tt;
}
  where
    past_held : (xs : List NumberPlace) (i : ℕ) → length xs ≤ i → held_at xs i ≡ None
    past_held [] i past = refl
    past_held (x ∷ xs) zero past = absurd (omega (arith, past))
    past_held (x ∷ xs) (suc i) past = past_held xs i (omega (arith, past))

    past_asked : (xs : List NumberPlace) (i : ℕ) → length xs ≤ i → asked_at xs i ≡ false
    past_asked [] i past = refl
    past_asked (x ∷ xs) zero past = absurd (omega (arith, past))
    past_asked (x ∷ xs) (suc i) past = past_asked xs i (omega (arith, past))

-- places that hold nothing
pub behind_made : (n : ℕ) → IsBehind (replicate n no_place) 0 [] []
behind_made n = record {
  is_held = λ up. sym (made_held n up);
  is_asked = λ up. sym (made_asked n up);
  none_held = λ m below. refl;
  none_asked = λ m below. refl;
  distinct = tt;
}
  where
    made_held : (k i : ℕ) → held_at (replicate k no_place) i ≡ None
    made_held zero i = refl
    made_held (suc k) zero = refl
    made_held (suc k) (suc i) = made_held k i

    made_asked : (k i : ℕ) → asked_at (replicate k no_place) i ≡ false
    made_asked zero i = refl
    made_asked (suc k) zero = refl
    made_asked (suc k) (suc i) = made_asked k i
