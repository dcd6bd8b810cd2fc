-- Lists of which some elements are left out and some repeated.
use Rattle.std.proofs.Common.{ℕ, List, [], ◌∷◌, ◌++◌, replicate, refl, ap, sym, ◌∙◌, append_assoc, append-nil}
use Rattle.relay_model.specs.Losing.{LosesAndRepeats}

pub lossy_same : {A : Type 0} (xs : List A) → LosesAndRepeats xs xs
lossy_same [] = refl
lossy_same (x ∷ xs) = (1, (xs, (refl, lossy_same xs)))

pub lossy_join : {A : Type 0} (xs ys us vs : List A) → LosesAndRepeats xs ys → LosesAndRepeats us vs → LosesAndRepeats (xs ++ us) (ys ++ vs)
lossy_join [] ys us vs h k = rw h k
lossy_join (x ∷ xs) ys us vs h k = (
  h.0,
  (
    h.1.0 ++ vs,
    (ap (λ (l : _). l ++ vs) h.1.1.0 ∙ append_assoc (replicate h.0 x) h.1.0 vs, lossy_join xs h.1.0 us vs h.1.1.1 k),
  ),
)

pub lossy_times : {A : Type 0} (times : ℕ) (x : A) → LosesAndRepeats (x ∷ []) (replicate times x)
lossy_times times x = (times, ([], (sym (append-nil (replicate times x)), refl)))
