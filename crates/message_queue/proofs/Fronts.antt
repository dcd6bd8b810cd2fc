-- A message in front of a ring.
use Rattle.std.proofs.Common.{◌≡◌, ℕ, zero, suc, ◌-◌, ◌<◌, List, [], ◌∷◌, length, drop, refl, arith, length-drop}
use Rattle.std.specs.Prelude.{slice_index_or}

pub at_front : (x : List ℕ) (xs : List (List ℕ)) → slice_index_or (x ∷ xs) 0 [] ≡ x
at_front x xs = refl

pub past_front : (i : ℕ) (x : List ℕ) (xs : List (List ℕ)) → 0 < i → slice_index_or (x ∷ xs) i [] ≡ slice_index_or xs (i - 1) []
past_front zero x xs some = absurd (omega arith)
past_front (suc i) x xs some = let before : suc i - 1 ≡ i = omega arith in rw before refl

pub front_leaves : (n : ℕ) (x : List ℕ) (xs : List (List ℕ)) → 0 < n → drop n (x ∷ xs) ≡ drop (n - 1) xs
front_leaves zero x xs some = absurd (omega arith)
front_leaves (suc n) x xs some = let before : suc n - 1 ≡ n = omega arith in rw before refl

pub none_leaves : (xs : List (List ℕ)) → length xs ≡ 0 → drop 1 xs ≡ xs
none_leaves [] none = refl
none_leaves (x ∷ xs) none = absurd (omega (arith, none))

pub fewer : (n : ℕ) (xs : List (List ℕ)) → length (drop n xs) ≡ length xs - n
fewer n xs = length-drop n xs
