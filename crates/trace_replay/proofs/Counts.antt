-- How many ends are live, counted over the connections that were opened, none twice.
use Rattle.std.proofs.Common.{◌≡◌, ◌∙◌, inl, inr, ℕ, ◌+◌, Bool, true, false, ◌||◌, List, [], ◌∷◌, ◌++◌, length, refl, sym, ap, ap₂, arith, subst, eqb-true}
use Rattle.er_end.specs.FrameRoom.{one_if}
use Rattle.std.specs.Prelude.{◌==◌, filter}
use Rattle.std.specs.Cmp.{nat_eq_equiv}
use Rattle.std.proofs.lemmas.Bool.{cases_Bool}
use Rattle.trace_replay.specs.Places.{has_connection, AreApart, count_of}

pub or_false : (b : Bool) → (b || false) ≡ b
or_false true = refl
or_false false = refl

pub or_assoc : (a b c : Bool) → ((a || b) || c) ≡ (a || (b || c))
or_assoc true b c = refl
or_assoc false b c = refl

or_left : (a b : Bool) → (a || b) ≡ false → a ≡ false
or_left true b p = p
or_left false b p = refl

or_right : (a b : Bool) → (a || b) ≡ false → b ≡ false
or_right true b p = absurd (let u : ⊥ = cc in u)
or_right false b p = p

pub has_more : (c x : ℕ) (xs : List ℕ) → has_connection c (xs ++ x ∷ []) ≡ (has_connection c xs || (x == c))
unfolding has_connection
has_more c x [] = or_false (x == c)
has_more c x (y ∷ ys) = ap (λ (b : Bool). (y == c) || b) (has_more c x ys) ∙ sym (or_assoc (y == c) (has_connection c ys) (x == c))

pub apart_more : (c : ℕ) (xs : List ℕ) → AreApart xs → has_connection c xs ≡ false → AreApart (xs ++ c ∷ [])
unfolding has_connection
apart_more c [] a p = (refl, tt)
apart_more c (y ∷ ys) a p =
    let other : (y == c) ≡ false = or_left (y == c) (has_connection c ys) p in
    let flipped : (c == y) ≡ false = nat_eq_equiv.symm c y ∙ other in
    (has_more y c ys ∙ ap₂ (λ (u v : Bool). u || v) a.0 flipped, apart_more c ys a.1 (or_right (y == c) (has_connection c ys) p))

pub count_more : (p : ℕ → Bool) (xs : List ℕ) (x : ℕ) → count_of p (xs ++ x ∷ []) ≡ count_of p xs + one_if (p x)
unfolding count_of
count_more p [] x = omega arith
count_more p (y ∷ ys) x = let more = count_more p ys x in omega (arith, more)

-- the same at all others
abbrev SameBut : ℕ → (ℕ → Bool) → (ℕ → Bool) → Type 0
SameBut c p q = (x : ℕ) → (c == x) ≡ false → q x ≡ p x

pub count_same : (c : ℕ) (p q : ℕ → Bool) (xs : List ℕ) → SameBut c p q → has_connection c xs ≡ false → count_of q xs ≡ count_of p xs
unfolding has_connection count_of
count_same c p q [] same none = refl
count_same c p q (y ∷ ys) same none =
    let other : (c == y) ≡ false = nat_eq_equiv.symm c y ∙ or_left (y == c) (has_connection c ys) none in
    ap₂ (λ (b : Bool) (n : ℕ). one_if b + n) (same y other) (count_same c p q ys same (or_right (y == c) (has_connection c ys) none))

pub count_swap : (c : ℕ) (p q : ℕ → Bool) (xs : List ℕ) → AreApart xs → SameBut c p q → has_connection c xs ≡ true
    → count_of q xs + one_if (p c) ≡ count_of p xs + one_if (q c)
unfolding has_connection count_of
count_swap c p q [] a same some = absurd (let u : ⊥ = cc in u)
count_swap c p q (y ∷ ys) a same some = elim (cases_Bool (y == c)) [
  | inl met ↦
      let is : y ≡ c = eqb-true y c met in
      let none : has_connection c ys ≡ false = subst (λ (z : ℕ). has_connection z ys ≡ false) is a.0 in
      let rest = count_same c p q ys same none in
      let at_p : one_if (p y) ≡ one_if (p c) = ap (λ (z : ℕ). one_if (p z)) is in
      let at_q : one_if (q y) ≡ one_if (q c) = ap (λ (z : ℕ). one_if (q z)) is in
      omega (arith, rest, at_p, at_q)
  | inr apart ↦
      let there : has_connection c ys ≡ true = sym (ap (λ (b : Bool). b || has_connection c ys) apart) ∙ some in
      let rest = count_swap c p q ys a.1 same there in
      let flipped : (c == y) ≡ false = nat_eq_equiv.symm c y ∙ apart in
      let head : one_if (q y) ≡ one_if (p y) = ap (λ (b : Bool). one_if b) (same y flipped) in
      omega (arith, rest, head)
]

-- the same as by a list
pub count_filter : (p q : ℕ → Bool) (xs : List ℕ) → ((x : ℕ) → q x ≡ p x) → length (filter q xs) ≡ count_of p xs
unfolding count_of
count_filter p q [] same = refl
count_filter p q (y ∷ ys) same =
    let rest = count_filter p q ys same in
    elim (cases_Bool (p y)) [
      | inl met ↦ rw (same y, met) (omega (arith, rest))
      | inr none ↦ rw (same y, none) (omega (arith, rest))
    ]
