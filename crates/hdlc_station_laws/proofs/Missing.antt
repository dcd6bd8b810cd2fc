-- Lists of numbers: which are asked for, which are held, and which are missing before one.
use Rattle.std.proofs.Common.{if◌then◌else◌, ◌≡◌, inl, inr, ℕ, zero, suc, ◌+◌, ◌-◌, ◌<◌, ◌≤◌, Bool, true, false, not, ◌||◌, List, [], ◌∷◌, length, Some, refl, sym, ap, ◌∙◌, arith, true≢false}
use Rattle.std.specs.Prelude.{◌==◌, nat_le}
use Rattle.std.specs.List.{list_any, filter}
use Rattle.std.proofs.lemmas.Bool.{cond_both, cases_Bool, cases_lt, or_cases, or_left, or_right, eqb-true, eq-eqb, leb-true, le-leb}
use Rattle.hdlc_station_model.specs.Stations.{Station}
use Rattle.hdlc_station_model.specs.Selective.{held_for, is_found, is_one_of, numbers_from, missing_below}
use Rattle.hdlc_station_laws.specs.Gaps.{lists_number, AreRising, AreMissing}

-- ---- what is held and asked for

pub found_is : (n : ℕ) (held : List (ℕ × List ℕ)) → is_found (held_for n held) ≡ list_any (λ h. h.0 == n) held
found_is n [] = refl
found_is n (h ∷ held) =
    cond_both (h.0 == n) (Some h.1) (held_for n held) (λ o. is_found o ≡ (h.0 == n || list_any (λ g. g.0 == n) held)) (λ same. (rw same refl)) (λ other. (rw other (found_is n held)))

pub asked_is : (n : ℕ) (asked : List ℕ) → is_one_of n asked ≡ lists_number asked n
asked_is n [] = refl
asked_is n (m ∷ asked) = ap (λ (b : Bool). m == n || b) (asked_is n asked)

-- of numbers that are kept by a test: those that pass it
kept : (p : ℕ → Bool) (ns : List ℕ) (m : ℕ) → lists_number (filter p ns) m ≡ true → (lists_number ns m ≡ true) × (p m ≡ true)
kept p [] m h = absurd (true≢false (sym h))
kept p (n ∷ ns) m h = elim (cases_Bool (p n)) [
  | inl passes ↦
      let all : (n == m || lists_number (filter p ns) m) ≡ true = sym (ap (λ (b : Bool). lists_number (if b then n ∷ filter p ns else filter p ns) m) passes) ∙ h in
      elim (or_cases (n == m) (lists_number (filter p ns) m) all) [
        | inl same ↦ let e = eqb-true n m same in (or_left (n == m) (lists_number ns m) same, ap p (sym e) ∙ passes)
        | inr later ↦ let r = kept p ns m later in (or_right (n == m) (lists_number ns m) r.0, r.1)
      ]
  | inr fails ↦
      let r = kept p ns m (sym (ap (λ (b : Bool). lists_number (if b then n ∷ filter p ns else filter p ns) m) fails) ∙ h) in
      (or_right (n == m) (lists_number ns m) r.0, r.1)
]

keeps_it : (p : ℕ → Bool) (ns : List ℕ) (m : ℕ) → lists_number ns m ≡ true → p m ≡ true → lists_number (filter p ns) m ≡ true
keeps_it p [] m h passes = absurd (true≢false (sym h))
keeps_it p (n ∷ ns) m h passes = elim (or_cases (n == m) (lists_number ns m) h) [
  | inl same ↦
      let e = eqb-true n m same in
      ap (λ (b : Bool). lists_number (if b then n ∷ filter p ns else filter p ns) m) (ap p e ∙ passes) ∙ or_left (n == m) (lists_number (filter p ns) m) same
  | inr later ↦
      let r = keeps_it p ns m later passes in
      cond_both (p n) (n ∷ filter p ns) (filter p ns) (λ l. lists_number l m ≡ true) (λ a. or_right (n == m) (lists_number (filter p ns) m) r) (λ a. r)
]

pub asked_above : (next : ℕ) (asked : List ℕ) (m : ℕ) → lists_number (filter (λ n. nat_le next n) asked) m ≡ true → (lists_number asked m ≡ true) × (next ≤ m)
asked_above next asked m h = let r = kept (λ n. nat_le next n) asked m h in (r.0, leb-true next m r.1)

pub asked_stay : (next : ℕ) (asked : List ℕ) (m : ℕ) → lists_number asked m ≡ true → next ≤ m → lists_number (filter (λ n. nat_le next n) asked) m ≡ true
asked_stay next asked m h above = keeps_it (λ n. nat_le next n) asked m h (le-leb next m above)

abbrev pub holds_number : ℕ → List (ℕ × List ℕ) → Bool
holds_number m held = list_any (λ h. h.0 == m) held

pub held_above : (next : ℕ) (held : List (ℕ × List ℕ)) (m : ℕ) → holds_number m (filter (λ h. nat_le next h.0) held) ≡ true → (holds_number m held ≡ true) × (next ≤ m)
held_above next [] m h = absurd (true≢false (sym h))
held_above next (g ∷ held) m h = elim (cases_Bool (nat_le next g.0)) [
  | inl passes ↦
      let all : (g.0 == m || holds_number m (filter (λ h. nat_le next h.0) held)) ≡ true =
      sym (ap (λ (b : Bool). holds_number m (if b then g ∷ filter (λ h. nat_le next h.0) held else filter (λ h. nat_le next h.0) held)) passes) ∙ h in
      elim (or_cases (g.0 == m) (holds_number m (filter (λ h. nat_le next h.0) held)) all) [
        | inl same ↦ let e = eqb-true g.0 m same in let low = leb-true next g.0 passes in (or_left (g.0 == m) (holds_number m held) same, omega (arith, e, low))
        | inr later ↦ let r = held_above next held m later in (or_right (g.0 == m) (holds_number m held) r.0, r.1)
      ]
  | inr fails ↦
      let r = held_above next held m (sym (ap (λ (b : Bool). holds_number m (if b then g ∷ filter (λ h. nat_le next h.0) held else filter (λ h. nat_le next h.0) held)) fails) ∙ h) in
      (or_right (g.0 == m) (holds_number m held) r.0, r.1)
]

pub held_stay : (next : ℕ) (held : List (ℕ × List ℕ)) (m : ℕ) → holds_number m held ≡ true → next ≤ m → holds_number m (filter (λ h. nat_le next h.0) held) ≡ true
held_stay next [] m h above = absurd (true≢false (sym h))
held_stay next (g ∷ held) m h above = elim (or_cases (g.0 == m) (holds_number m held) h) [
  | inl same ↦
      let e = eqb-true g.0 m same in
      ap (λ (b : Bool). holds_number m (if b then g ∷ filter (λ h. nat_le next h.0) held else filter (λ h. nat_le next h.0) held)) (le-leb next g.0 (omega (arith, e, above)))
      ∙ or_left (g.0 == m) (holds_number m (filter (λ h. nat_le next h.0) held)) same
  | inr later ↦
      let r = held_stay next held m later above in
      cond_both (nat_le next g.0) (g ∷ filter (λ h. nat_le next h.0) held) (filter (λ h. nat_le next h.0) held) (λ l. holds_number m l ≡ true)
      (λ a. or_right (g.0 == m) (holds_number m (filter (λ h. nat_le next h.0) held)) r) (λ a. r)
]

-- ---- numbers one behind another

range_has : (a k m : ℕ) → lists_number (numbers_from a k) m ≡ true → (a ≤ m) × (m < a + k)
range_has a zero m h = absurd (true≢false (sym h))
range_has a (suc k) m h = elim (or_cases (a == m) (lists_number (numbers_from (a + 1) k) m) h) [
  | inl same ↦ let e = eqb-true a m same in (omega (arith, e), omega (arith, e))
  | inr later ↦ let r = range_has (a + 1) k m later in let low = r.0 in let high = r.1 in (omega (arith, low), omega (arith, high))
]

has_range : (a k m : ℕ) → a ≤ m → m < a + k → lists_number (numbers_from a k) m ≡ true
has_range a zero m low high = absurd (let u : ⊥ = omega (arith, low, high) in u)
has_range a (suc k) m low high = elim (cases_Bool (a == m)) [
  | inl same ↦ or_left (a == m) (lists_number (numbers_from (a + 1) k) m) same
  | inr other ↦ or_right (a == m) (lists_number (numbers_from (a + 1) k) m) (has_range (a + 1) k m (above other) (omega (arith, high)))
] where
  above : (a == m) ≡ false → a + 1 ≤ m
  above other = elim (cases_lt a m) [
    | inl less ↦ omega (arith, less)
    | inr most ↦ absurd (true≢false (sym (eq-eqb a m (omega (arith, low, most))) ∙ other))
  ]

rising_less : (a b : ℕ) (ns : List ℕ) → a ≤ b → AreRising b ns → AreRising a ns
rising_less a b [] less h = tt
rising_less a b (n ∷ ns) less h = let low = h.0 in (omega (arith, less, low), h.1)

range_rises : (p : ℕ → Bool) (a k : ℕ) → AreRising a (filter p (numbers_from a k))
range_rises p a zero = tt
range_rises p a (suc k) =
    let r = range_rises p (a + 1) k in
    cond_both (p a) (a ∷ filter p (numbers_from (a + 1) k)) (filter p (numbers_from (a + 1) k)) (AreRising a) (λ passes. (omega arith, r))
    (λ fails. rising_less a (a + 1) (filter p (numbers_from (a + 1) k)) (omega arith) r)

-- ---- the missing ones

neither : (x y : Bool) → not (x || y) ≡ true → (x ≡ false) × (y ≡ false)
neither true y h = absurd (true≢false (sym h))
neither false true h = absurd (true≢false (sym h))
neither false false h = (refl, refl)

pub missing_are : (s : Station) (n : ℕ) → AreMissing s n (missing_below n s)
missing_are s n =
    let r = length s.taken in
    let p : ℕ → Bool = λ m. not (is_found (held_for m s.held) || is_one_of m s.asked) in
    record {
      rising = range_rises p r (n - r);
      each = λ m. (
        λ has.
            let k = kept p (numbers_from r (n - r)) m has in
            let at = range_has r (n - r) m k.0 in
            let low = at.0 in
            let high = at.1 in
            let none = neither (is_found (held_for m s.held)) (is_one_of m s.asked) k.1 in
            (low, omega (arith, low, high), sym (found_is m s.held) ∙ none.0, sym (asked_is m s.asked) ∙ none.1),
        λ h. keeps_it p (numbers_from r (n - r)) m (has_range r (n - r) m h.0 (within m h.0 h.1))
            (ap (λ (b : Bool). not (b || is_one_of m s.asked)) (found_is m s.held ∙ h.2) ∙ ap not (asked_is m s.asked ∙ h.3)),
      );
    }
  where
    within : (m : ℕ) → length s.taken ≤ m → m < n → m < length s.taken + (n - length s.taken)
    within m low high = omega (arith, low, high)
