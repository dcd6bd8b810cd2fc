-- What a station with selective reject holds: a run without a gap ends where the next frame isn't held.
use Rattle.std.proofs.Common.{if◌then◌else◌, ◌≡◌, ℕ, zero, suc, ◌+◌, ◌<◌, ◌≤◌, inl, inr, Bool, false, List, [], ◌∷◌, ◌++◌, length, Option, Some, None, refl, sym, ◌∙◌, ap, arith, eqb-true, leb-true}
use Rattle.std.specs.Prelude.{nat_le, ◌==◌}
use Rattle.std.specs.List.{filter}
use Rattle.std.proofs.lemmas.Bool.{cases_Bool, cond_both, leb-false}
use Rattle.hdlc_station_model.specs.Selective.{held_for, is_found, without_gap}

-- ---- how many of the frames that are held have a number from n on

abbrev above : ℕ → List (ℕ × List ℕ) → ℕ
above n [] = 0
above n (h ∷ held) = if nat_le n h.0 then 1 + above n held else above n held

above_le : (n : ℕ) (held : List (ℕ × List ℕ)) → above n held ≤ length held
above_le n [] = omega arith
above_le n (h ∷ held) =
    let r = above_le n held in
    cond_both (nat_le n h.0) (1 + above n held) (above n held) (λ t. t ≤ length (h ∷ held)) (λ e. omega (arith, r)) (λ e. omega (arith, r))

not_below : (n m : ℕ) → nat_le n m ≡ false → m < n
not_below n m e = leb-false n m e

above_more : (n : ℕ) (held : List (ℕ × List ℕ)) → above (n + 1) held ≤ above n held
above_more n [] = omega arith
above_more n (h ∷ held) =
    let r = above_more n held in
    cond_both (nat_le n h.0) (1 + above n held) (above n held) (λ t. (if nat_le (n + 1) h.0 then 1 + above (n + 1) held else above (n + 1) held) ≤ t)
    (λ e. cond_both (nat_le (n + 1) h.0) (1 + above (n + 1) held) (above (n + 1) held) (λ t. t ≤ 1 + above n held) (λ f. omega (arith, r)) (λ f. omega (arith, r)))
    (λ e. cond_both (nat_le (n + 1) h.0) (1 + above (n + 1) held) (above (n + 1) held) (λ t. t ≤ above n held)
    (λ f. absurd (let u : ⊥ = omega (arith, not_below n h.0 e, leb-true (n + 1) h.0 f) in u)) (λ f. omega (arith, r)))

-- a number that is held is one of them
above_found : (n : ℕ) (p : List ℕ) (held : List (ℕ × List ℕ)) → held_for n held ≡ Some p → above (n + 1) held + 1 ≤ above n held
above_found n p [] e = absurd cc
above_found n p (h ∷ held) e = elim (cases_Bool (h.0 == n)) [
  | inl same ↦
      let m : h.0 ≡ n = eqb-true h.0 n same in
      let r = above_more n held in
      cond_both (nat_le n h.0) (1 + above n held) (above n held) (λ t. (if nat_le (n + 1) h.0 then 1 + above (n + 1) held else above (n + 1) held) + 1 ≤ t)
      (λ e. cond_both (nat_le (n + 1) h.0) (1 + above (n + 1) held) (above (n + 1) held) (λ t. t + 1 ≤ 1 + above n held)
      (λ f. absurd (let u : ⊥ = omega (arith, m, leb-true (n + 1) h.0 f) in u)) (λ f. omega (arith, r)))
      (λ e. absurd (let u : ⊥ = omega (arith, m, not_below n h.0 e) in u))
  | inr other ↦
      let r = above_found n p held (sym (ap (λ (b : Bool). if b then Some h.1 else held_for n held) other) ∙ e) in
      cond_both (nat_le n h.0) (1 + above n held) (above n held) (λ t. (if nat_le (n + 1) h.0 then 1 + above (n + 1) held else above (n + 1) held) + 1 ≤ t)
      (λ e. cond_both (nat_le (n + 1) h.0) (1 + above (n + 1) held) (above (n + 1) held) (λ t. t + 1 ≤ 1 + above n held) (λ f. omega (arith, r)) (λ f. omega (arith, r)))
      (λ e. cond_both (nat_le (n + 1) h.0) (1 + above (n + 1) held) (above (n + 1) held) (λ t. t + 1 ≤ above n held)
      (λ f. absurd (let u : ⊥ = omega (arith, not_below n h.0 e, leb-true (n + 1) h.0 f) in u)) (λ f. omega (arith, r)))
]

found_or : (n : ℕ) (held : List (ℕ × List ℕ)) → (o : Option (List ℕ)) → held_for n held ≡ o → above n held ≤ 0 → held_for n held ≡ None
found_or n held None e none = e
found_or n held (Some p) e none = absurd (let u : ⊥ = omega (arith, above_found n p held e) in u)

-- ---- the run

run_stops_at : (most n : ℕ) (held : List (ℕ × List ℕ)) → (above (n + 1) held ≤ most → held_for (n + 1 + length (without_gap most (n + 1) held)) held ≡ None)
    → (o : Option (List ℕ)) → held_for n held ≡ o → above n held ≤ suc most → held_for (n + length (without_gap (suc most) n held)) held ≡ None
run_stops_at most n held rest None e few =
    let none : List (List ℕ) = [] in
    let z : n + length none ≡ n = omega arith in
    rw e (ap (λ (m : ℕ). held_for m held) z ∙ e)
run_stops_at most n held rest (Some p) e few =
    let run : List (List ℕ) = without_gap most (n + 1) held in
    let z : n + length (p ∷ run) ≡ n + 1 + length run = omega arith in
    let less = above_found n p held e in
    rw e (ap (λ (m : ℕ). held_for m held) z ∙ rest (omega (arith, less, few)))

run_stops : (most n : ℕ) (held : List (ℕ × List ℕ)) → above n held ≤ most → held_for (n + length (without_gap most n held)) held ≡ None
run_stops zero n held few =
    let none : List (List ℕ) = [] in
    let z : n + length none ≡ n = omega arith in
    ap (λ (m : ℕ). held_for m held) z ∙ found_or n held (held_for n held) refl few
run_stops (suc most) n held few = run_stops_at most n held (run_stops most (n + 1) held) (held_for n held) refl few

-- what is held from a number on stays held
pub held_kept : (now m : ℕ) (held : List (ℕ × List ℕ)) → now ≤ m → held_for m (filter (λ h. nat_le now h.0) held) ≡ held_for m held
held_kept now m [] le = refl
held_kept now m (h ∷ held) le =
    cond_both (nat_le now h.0) (h ∷ filter (λ g. nat_le now g.0) held) (filter (λ g. nat_le now g.0) held) (λ t. held_for m t ≡ (if h.0 == m then Some h.1 else held_for m held))
    (λ stays. ap (λ (o : Option (List ℕ)). if h.0 == m then Some h.1 else o) (held_kept now m held le))
    (λ goes. cond_both (h.0 == m) (Some h.1) (held_for m held) (λ o. held_for m (filter (λ g. nat_le now g.0) held) ≡ o)
    (λ same. absurd (let u : ⊥ = omega (arith, le, eqb-true h.0 m same, not_below now h.0 goes) in u)) (λ other. held_kept now m held le))

-- behind the run
pub next_not_held : (n now : ℕ) (held : List (ℕ × List ℕ)) → now ≡ n + length (without_gap (length held) n held) → held_for now (filter (λ h. nat_le now h.0) held) ≡ None
next_not_held n now held is =
    held_kept now now held (omega arith) ∙ ap (λ (m : ℕ). held_for m held) is ∙ run_stops (length held) n held (above_le n held)

-- ---- one frame more is held

pub held_push : (m : ℕ) (f : ℕ × List ℕ) (held : List (ℕ × List ℕ)) → held_for m (held ++ f ∷ []) ≡ (if is_found (held_for m held) then held_for m held else held_for m (f ∷ []))
held_push m f [] = refl
held_push m f (h ∷ held) =
    cond_both (h.0 == m) (Some h.1) (held_for m held)
    (λ o. (if h.0 == m then Some h.1 else held_for m (held ++ f ∷ [])) ≡ (if is_found o then o else held_for m (f ∷ [])))
    (λ same. ap (λ (b : Bool). if b then Some h.1 else held_for m (held ++ f ∷ [])) same)
    (λ other. ap (λ (b : Bool). if b then Some h.1 else held_for m (held ++ f ∷ [])) other ∙ held_push m f held)

-- any other number is held as before
pub held_others : (m : ℕ) (f : ℕ × List ℕ) (held : List (ℕ × List ℕ)) → (f.0 ≡ m → ⊥) → held_for m (held ++ f ∷ []) ≡ held_for m held
held_others m f [] differs = cond_both (f.0 == m) (Some f.1) None (λ o. o ≡ None) (λ same. absurd (differs (eqb-true f.0 m same))) (λ other. refl)
held_others m f (h ∷ held) differs = ap (λ (o : Option (List ℕ)). if h.0 == m then Some h.1 else o) (held_others m f held differs)
