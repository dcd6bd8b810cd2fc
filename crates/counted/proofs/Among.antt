-- Acts that stand among others, while both lists grow.
use Rattle.std.proofs.Common.{◌≡◌, List, [], ◌∷◌, ◌++◌, refl, sym, subst, inl, inr}
use Rattle.std.proofs.Math.Logic.{∥∥₁_map}
use Rattle.outside.specs.Acts.{Act}
use Rattle.outside.specs.Doings.{Told, Did}
use Rattle.counted.specs.Counting.{AreAmong}

grows : (some all more : List Act) → AreAmong some all → AreAmong some (all ++ more)
unfolding AreAmong
grows [] all more is = tt
grows (x ∷ xs) [] more is = absurd is
grows (x ∷ xs) (y ∷ ys) more (inl here) = inl (here.0, grows xs ys more here.1)
grows (x ∷ xs) (y ∷ ys) more (inr later) = inr (grows (x ∷ xs) ys more later)

itself : (acts : List Act) → AreAmong acts acts
unfolding AreAmong
itself [] = tt
itself (x ∷ xs) = inl (refl, itself xs)

behind : (some acts more : List Act) → AreAmong some more → AreAmong some (acts ++ more)
unfolding AreAmong
behind some [] more is = is
behind [] (y ∷ ys) more is = tt
behind (x ∷ xs) (y ∷ ys) more is = inr (behind (x ∷ xs) ys more is)

both_grow : (some all more : List Act) → AreAmong some all → AreAmong (some ++ more) (all ++ more)
unfolding AreAmong
both_grow [] all more is = behind more all more (itself more)
both_grow (x ∷ xs) [] more is = absurd is
both_grow (x ∷ xs) (y ∷ ys) more (inl here) = inl (here.0, both_grow xs ys more here.1)
both_grow (x ∷ xs) (y ∷ ys) more (inr later) = inr (both_grow (x ∷ xs) ys more later)

pub still_among : (some : List Act) (before now : Told) (acts : List Act) → Did before now acts → ∥ AreAmong some before.acts ∥₁ → ∥ AreAmong some now.acts ∥₁
still_among some before now acts did is =
    ∥∥₁_map is (λ a. subst (λ all. AreAmong some all) (sym did.grew) (grows some before.acts acts a))

pub more_among : (some next : List Act) (before now : Told) (acts : List Act) → Did before now acts → next ≡ some ++ acts
    → ∥ AreAmong some before.acts ∥₁ → ∥ AreAmong next now.acts ∥₁
more_among some next before now acts did e is =
    ∥∥₁_map is (λ a.
    let both = both_grow some before.acts acts a in
    let named : AreAmong next (before.acts ++ acts) = subst (λ these. AreAmong these (before.acts ++ acts)) (sym e) both in
    subst (λ (all : List Act). AreAmong next all) (sym did.grew) named)
