-- The run behind a gap: what is held for the numbers that follow, as far as it is held.
use Rattle.std.proofs.Common.{if◌then◌else◌, ◌≡◌, ◌⊎◌, inl, inr, ℕ, zero, suc, ◌+◌, ◌<◌, ◌≤◌, Bool, true, false, List, [], ◌∷◌, length, Option, Some, None, refl, sym, ap, ◌∙◌, arith, true≢false, ltb-true}
use Rattle.std.specs.Prelude.{◌==◌, nat_lt}
use Rattle.std.proofs.lemmas.Bool.{cond_both, cases_Bool, cases_lt, or_cases, eqb-true, ltb-false, lt-ltb, le-ltb}
use Rattle.hdlc_station_model.specs.Selective.{held_for, is_found, without_gap}
use Rattle.hdlc_station_laws.specs.Gaps.{IsHeldWith, AreHeldFrom}
use Rattle.hdlc_station_laws.proofs.Missing.{holds_number, found_is}

-- ---- each payload of a run is held for its number

held_with : (n : ℕ) (p : List ℕ) (held : List (ℕ × List ℕ)) → held_for n held ≡ Some p → IsHeldWith held n p
held_with n p [] is = absurd cc
held_with n p (h ∷ held) is = elim (cases_Bool (h.0 == n)) [
  | inl same ↦
      let at = eqb-true h.0 n same in
      let e : Some h.1 ≡ Some p = sym (ap (λ (b : Bool). if b then Some h.1 else held_for n held) same) ∙ is in
      let payload : h.1 ≡ p = cc in
      record { before = []; after = held; parts = ap (λ (m : ℕ). (m, h.1) ∷ held) at ∙ ap (λ (q : List ℕ). (n, q) ∷ held) payload }
  | inr other ↦
      let r = held_with n p held (sym (ap (λ (b : Bool). if b then Some h.1 else held_for n held) other) ∙ is) in
      record { before = h ∷ r.before; after = r.after; parts = ap (λ (l : List (ℕ × List ℕ)). h ∷ l) r.parts }
]

-- what a run of so many numbers at the most is
pub record IsRun (most n : ℕ) (held : List (ℕ × List ℕ)) (run : List (List ℕ)) : Type 0 where
  pub each : AreHeldFrom held n run
  pub all : (m : ℕ) → n ≤ m → m < n + length run → holds_number m held ≡ true
  pub ends : (length run ≡ most) ⊎ (holds_number (n + length run) held ≡ false)

first_of : (n : ℕ) (held : List (ℕ × List ℕ)) (p : List ℕ) → held_for n held ≡ Some p → holds_number n held ≡ true
first_of n held p is = sym (found_is n held) ∙ ap is_found is

run_at : (most n : ℕ) (held : List (ℕ × List ℕ)) → IsRun most (n + 1) held (without_gap most (n + 1) held) → (o : Option (List ℕ)) → held_for n held ≡ o
    → IsRun (suc most) n held (without_gap (suc most) n held)
run_at most n held r None is = (rw is (record {
  each = tt;
  all = λ m low high. absurd (let u : ⊥ = omega (arith, low, high) in u);
  ends = inr (let at : n + 0 ≡ n = omega arith in ap (λ (k : ℕ). holds_number k held) at ∙ sym (found_is n held) ∙ ap is_found is);
}))
run_at most n held r (Some p) is = (rw is (record {
  each = (held_with n p held is, r.each);
  all = λ m low high. elim (cases_Bool (nat_lt n m)) [
    | inl above ↦ let more = ltb-true n m above in r.all m (omega (arith, more)) (omega (arith, high))
    | inr most_n ↦
        let few = ltb-false n m most_n in
        let at : m ≡ n = omega (arith, low, few) in
        ap (λ (k : ℕ). holds_number k held) at ∙ first_of n held p is
  ];
  ends = elim r.ends [
    | inl full ↦ inl (omega (arith, full))
    | inr none ↦ inr (let at : n + suc (length (without_gap most (n + 1) held)) ≡ n + 1 + length (without_gap most (n + 1) held) = omega arith in ap (λ (k : ℕ). holds_number k held) at ∙ none)
  ];
}))

run_is : (most n : ℕ) (held : List (ℕ × List ℕ)) → IsRun most n held (without_gap most n held)
run_is zero n held = record { each = tt; all = λ m low high. absurd (let u : ⊥ = omega (arith, low, high) in u); ends = inl refl }
run_is (suc most) n held = run_at most n held (run_is most (n + 1) held) (held_for n held) refl

-- ---- no more numbers are held than frames

-- one for a number below b, and how many numbers below b are held
abbrev one : (b x : ℕ) → ℕ
one b x = if nat_lt x b then 1 else 0

abbrev below : ℕ → List (ℕ × List ℕ) → ℕ
below b [] = 0
below b (h ∷ held) = one b h.0 + below b held

one_most : (b x : ℕ) → one b x ≤ 1
one_most b x = cond_both (nat_lt x b) 1 0 (λ n. n ≤ 1) (λ less. omega arith) (λ more. omega arith)

one_grows : (b x : ℕ) → one b x ≤ one (suc b) x
one_grows b x = elim (cases_Bool (nat_lt x b)) [
  | inl less ↦
      let here = ltb-true x b less in
      let u : one b x ≡ 1 = ap (λ (t : Bool). if t then 1 else 0) less in
      let v : one (suc b) x ≡ 1 = ap (λ (t : Bool). if t then 1 else 0) (lt-ltb x (suc b) (omega (arith, here))) in
      omega (arith, u, v)
  | inr more ↦ let u : one b x ≡ 0 = ap (λ (t : Bool). if t then 1 else 0) more in omega (arith, u)
]

one_new : (b x : ℕ) → x ≡ b → one b x + 1 ≤ one (suc b) x
one_new b x same =
    let u : one b x ≡ 0 = ap (λ (t : Bool). if t then 1 else 0) (le-ltb x b (omega (arith, same))) in
    let v : one (suc b) x ≡ 1 = ap (λ (t : Bool). if t then 1 else 0) (lt-ltb x (suc b) (omega (arith, same))) in
    omega (arith, u, v)

below_most : (b : ℕ) (held : List (ℕ × List ℕ)) → below b held ≤ length held
below_most b [] = omega arith
below_most b (h ∷ held) = let u = one_most b h.0 in let r = below_most b held in omega (arith, u, r)

below_grows : (b : ℕ) (held : List (ℕ × List ℕ)) → below b held ≤ below (suc b) held
below_grows b [] = omega arith
below_grows b (h ∷ held) = let u = one_grows b h.0 in let r = below_grows b held in omega (arith, u, r)

below_found : (b : ℕ) (held : List (ℕ × List ℕ)) → holds_number b held ≡ true → below b held + 1 ≤ below (suc b) held
below_found b [] is = absurd (true≢false (sym is))
below_found b (h ∷ held) is = elim (or_cases (h.0 == b) (holds_number b held) is) [
  | inl same ↦ let u = one_new b h.0 (eqb-true h.0 b same) in let r = below_grows b held in omega (arith, u, r)
  | inr later ↦ let u = one_grows b h.0 in let r = below_found b held later in omega (arith, u, r)
]

all_below : (a k : ℕ) (held : List (ℕ × List ℕ)) → ((m : ℕ) → a ≤ m → m < a + k → holds_number m held ≡ true) → k ≤ below (a + k) held
all_below a zero held all = omega arith
all_below a (suc k) held all =
    let r = all_below a k held (λ m low high. all m low (omega (arith, high))) in
    let f = below_found (a + k) held (all (a + k) (omega arith) (omega arith)) in
    let at : suc (a + k) ≡ a + suc k = omega arith in
    let e = ap (λ (b : ℕ). below b held) at in
    omega (arith, r, f, e)

-- behind a run of as many as are held none follows
pub run_ends : (n : ℕ) (held : List (ℕ × List ℕ)) → holds_number (n + length (without_gap (length held) n held)) held ≡ false
run_ends n held =
    let run : List (List ℕ) = without_gap (length held) n held in
    let r = run_is (length held) n held in
    elim r.ends [
      | inr none ↦ none
      | inl full ↦ elim (cases_Bool (holds_number (n + length run) held)) [
        | inr none ↦ none
        | inl more ↦
            let count = all_below n (suc (length run)) held (one_further n (length run) held r.all more) in
            let most = below_most (n + suc (length run)) held in
            absurd (let u : ⊥ = omega (arith, count, most, full) in u)
      ]
    ]
  where
    one_further : (n k : ℕ) (held : List (ℕ × List ℕ)) → ((m : ℕ) → n ≤ m → m < n + k → holds_number m held ≡ true) → holds_number (n + k) held ≡ true
        → (m : ℕ) → n ≤ m → m < n + suc k → holds_number m held ≡ true
    one_further n k held all more m low high = elim (cases_lt m (n + k)) [
      | inl less ↦ all m low less
      | inr most ↦ let at : m ≡ n + k = omega (arith, most, high) in ap (λ (j : ℕ). holds_number j held) at ∙ more
    ]

pub run_held : (n : ℕ) (held : List (ℕ × List ℕ)) → AreHeldFrom held n (without_gap (length held) n held)
run_held n held = (run_is (length held) n held).each
