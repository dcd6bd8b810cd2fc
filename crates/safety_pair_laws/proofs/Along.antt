-- What holds of each thing in a list, behind all that stand before it.
use Rattle.std.proofs.Common.{◌≡◌, ◌<◌, ℕ, zero, suc, List, [], ◌∷◌, ◌++◌, length, slice_index_or, refl, sym, append_assoc, subst, arith}
use Rattle.std.proofs.lemmas.List.{append-nil}
use Rattle.std.specs.Prelude.{Any}

-- P of each element, and of those before it
abbrev pub Along : {X : Type 0} → (List X → X → Type 0) → List X → List X → Type 0
Along P seen [] = Unit {0}
Along P seen (x ∷ xs) = P seen x × Along P (seen ++ x ∷ []) xs

one_more : {X : Type 0} → (seen : List X) (x : X) (xs : List X) → (seen ++ x ∷ []) ++ xs ≡ seen ++ x ∷ xs
one_more seen x xs = append_assoc seen (x ∷ []) xs

pub along-append : {X : Type 0} → (P : List X → X → Type 0) (seen xs ys : List X) → Along P seen xs → Along P (seen ++ xs) ys → Along P seen (xs ++ ys)
along-append {X} P seen [] ys hx hy = let Q : List X → Type 0 = λ zs. Along P zs ys in subst Q (append-nil seen) hy
along-append {X} P seen (x ∷ xs) ys hx hy =
    let Q : List X → Type 0 = λ zs. Along P zs ys in
    (hx.0, along-append P (seen ++ x ∷ []) xs ys hx.1 (subst Q (sym (one_more seen x xs)) hy))

-- the front of the list, and the element that follows it
pub along-front : {X : Type 0} → (P : List X → X → Type 0) (seen before after : List X) (x : X) → Along P seen (before ++ x ∷ after) → Along P seen before
along-front P seen [] after x h = tt
along-front P seen (y ∷ before) after x h = (h.0, along-front P (seen ++ y ∷ []) before after x h.1)

pub along-at : {X : Type 0} → (P : List X → X → Type 0) (seen before after : List X) (x : X) → Along P seen (before ++ x ∷ after) → P (seen ++ before) x
along-at {X} P seen [] after x h = let Q : List X → Type 0 = λ zs. P zs x in subst Q (sym (append-nil seen)) h.0
along-at {X} P seen (y ∷ before) after x h =
    let Q : List X → Type 0 = λ zs. P zs x in
    subst Q (one_more seen y before) (along-at P (seen ++ y ∷ []) before after x h.1)

-- some element of a list
pub any_here : {X : Type 0} → (P : X → Type 0) (x : X) (xs : List X) → P x → Any P (x ∷ xs)
any_here P x xs h = (0, x, omega arith, refl, h)

pub any_there : {X : Type 0} → (P : X → Type 0) (x : X) (xs : List X) → Any P xs → Any P (x ∷ xs)
any_there P x xs h = let lt : h.0 < length xs = h.2 in (suc h.0, h.1, omega arith, h.3, h.4)

any_kept : {X : Type 0} → (P : X → Type 0) (xs ys : List X) (k : ℕ) (x : X) → k < length xs → slice_index_or xs k x ≡ x → P x → Any P (xs ++ ys)
any_kept P [] ys k x inside is p = absurd (omega arith)
any_kept P (y ∷ xs) ys zero x inside is p = any_here P y (xs ++ ys) (subst P (sym is) p)
any_kept P (y ∷ xs) ys (suc k) x inside is p = any_there P y (xs ++ ys) (any_kept P xs ys k x (omega arith) is p)

-- it stands in a longer list too
pub any_more : {X : Type 0} → (P : X → Type 0) (xs ys : List X) → Any P xs → Any P (xs ++ ys)
any_more P xs ys h = any_kept P xs ys h.0 h.1 h.2 h.3 h.4

-- behind others
pub any_at : {X : Type 0} → (P : X → Type 0) (xs : List X) (x : X) (ys : List X) → P x → Any P (xs ++ x ∷ ys)
any_at P [] x ys p = any_here P x ys p
any_at P (y ∷ xs) x ys p = any_there P y (xs ++ x ∷ ys) (any_at P xs x ys p)

-- what is implied
pub any_map : {X : Type 0} → (P Q : X → Type 0) (xs : List X) → ((x : X) → P x → Q x) → Any P xs → Any Q xs
any_map P Q xs f h = (h.0, h.1, h.2, h.3, f h.1 h.4)
