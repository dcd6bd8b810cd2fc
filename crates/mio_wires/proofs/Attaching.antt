-- The application, which stands before all others.
use Rattle.std.proofs.Common.{◌≡◌, List, ◌∷◌, sym, subst, refl, arith}
use Rattle.mio_wires.specs.declared.lines.Place.{Place}
use Rattle.mio_wires.specs.Standing.{IsConnectionOpen}

pub first_is_open : (before after : List Place) (place : Place) → after ≡ place ∷ before → place.number ≡ 0 → IsConnectionOpen after 0
first_is_open before after place is zero = subst (λ places. IsConnectionOpen places 0) (sym is) (place, (0, omega arith, refl), zero)
