-- Numbers modulo 128.
use Rattle.std.proofs.Common.{◌≡◌, ℕ, ◌+◌, ◌-◌, ◌%◌, ◌<◌, ◌≤◌, zero, suc, eqb, true, false, Some, None, refl, ◌∙◌, ap, arith}
use Rattle.std.proofs.lemmas.Bool.{eq-eqb, ne_eqb}
use Rattle.x224_class2.specs.Transport.{number_named}
use Rattle.x224_class2.specs.Kept.{distance}

pub distance_is : (a b : ℕ) → a ≤ b → b < a + 128 → distance (a % 128) (b % 128) ≡ b - a
distance_is a b h g = omega arith

pub distance_back : (a r : ℕ) → r < 128 → (a + distance (a % 128) r) % 128 ≡ r
distance_back a r h = omega arith

pub distance_below : (a r : ℕ) → distance a r < 128
distance_below a r = omega arith

pub named_some : (u a more r : ℕ) → (a + u) % 128 ≡ r → u ≤ more → u < 128 → number_named a more r ≡ Some (a + u)
named_some zero a zero r e h g =
    let t : eqb (a % 128) r ≡ true = eq-eqb _ _ (omega (arith, e)) in
    let same : a + 0 ≡ a = omega arith in
    rw (t, same) refl
named_some zero a (suc more) r e h g =
    let t : eqb (a % 128) r ≡ true = eq-eqb _ _ (omega (arith, e)) in
    let same : a + 0 ≡ a = omega arith in
    rw (t, same) refl
named_some (suc u) a zero r e h g = absurd (omega arith)
named_some (suc u) a (suc more) r e h g =
    let t : eqb (a % 128) r ≡ false = ne_eqb _ _ (λ n. absurd (omega (arith, e, n))) in
    let next : (a + 1) + u ≡ a + suc u = omega arith in
    rw t (named_some u (a + 1) more r (rw next e) (omega arith) (omega arith) ∙ ap (λ (n : ℕ). Some n) next)

pub named_none : (u a more r : ℕ) → (a + u) % 128 ≡ r → more < u → u < 128 → number_named a more r ≡ None
named_none zero a more r e h g = absurd (omega arith)
named_none (suc u) a zero r e h g = let t : eqb (a % 128) r ≡ false = ne_eqb _ _ (λ n. absurd (omega (arith, e, n))) in rw t refl
named_none (suc u) a (suc more) r e h g =
    let t : eqb (a % 128) r ≡ false = ne_eqb _ _ (λ n. absurd (omega (arith, e, n))) in
    let next : (a + 1) + u ≡ a + suc u = omega arith in
    rw t (named_none u (a + 1) more r (rw next e) (omega arith) (omega arith))
