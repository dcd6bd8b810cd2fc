-- What holds of each element of a list.
use Rattle.std.proofs.Common.{ℕ, zero, suc, Bool, inl, inr, List, [], ◌∷◌, ◌++◌, take, drop, Option, Some, None}
use Rattle.std.specs.Prelude.{slice_index_or, slice_get, filter}
use Rattle.std.proofs.lemmas.Bool.{cases_Bool}

abbrev pub Each : {A : Type 0} → (A → Type 0) → List A → Type 0
Each P [] = Unit {0}
Each P (x ∷ xs) = P x × Each P xs

-- it holds of what is there
abbrev pub IfSome : {A : Type 0} → (A → Type 0) → Option A → Type 0
IfSome P None = Unit {0}
IfSome P (Some x) = P x

pub each_append : {A : Type 0} (P : A → Type 0) (xs ys : List A) → Each P xs → Each P ys → Each P (xs ++ ys)
each_append P [] ys h g = g
each_append P (x ∷ xs) ys h g = (h.0, each_append P xs ys h.1 g)

pub each_push : {A : Type 0} (P : A → Type 0) (xs : List A) (x : A) → Each P xs → P x → Each P (xs ++ x ∷ [])
each_push P xs x h p = each_append P xs (x ∷ []) h (p, tt)

pub each_behind : {A : Type 0} (P : A → Type 0) (xs ys : List A) → Each P (xs ++ ys) → Each P ys
each_behind P [] ys h = h
each_behind P (x ∷ xs) ys h = each_behind P xs ys h.1

pub each_take : {A : Type 0} (P : A → Type 0) (n : ℕ) (xs : List A) → Each P xs → Each P (take n xs)
each_take P zero xs h = tt
each_take P (suc n) [] h = tt
each_take P (suc n) (x ∷ xs) h = (h.0, each_take P n xs h.1)

pub each_drop : {A : Type 0} (P : A → Type 0) (n : ℕ) (xs : List A) → Each P xs → Each P (drop n xs)
each_drop P zero xs h = h
each_drop P (suc n) [] h = tt
each_drop P (suc n) (x ∷ xs) h = each_drop P n xs h.1

pub each_filter : {A : Type 0} (P : A → Type 0) (test : A → Bool) (xs : List A) → Each P xs → Each P (filter test xs)
each_filter P test [] h = tt
each_filter P test (x ∷ xs) h = elim (cases_Bool (test x)) [
  | inl y ↦ rw y (h.0, each_filter P test xs h.1)
  | inr n ↦ rw n (each_filter P test xs h.1)
]

pub each_at : {A : Type 0} (P : A → Type 0) (xs : List A) (n : ℕ) (d : A) → Each P xs → P d → P (slice_index_or xs n d)
each_at P [] n d h p = p
each_at P (x ∷ xs) zero d h p = h.0
each_at P (x ∷ xs) (suc n) d h p = each_at P xs n d h.1 p

pub each_get : {A : Type 0} (P : A → Type 0) (xs : List A) (n : ℕ) → Each P xs → IfSome P (slice_get xs n)
each_get P [] n h = tt
each_get P (x ∷ xs) zero h = h.0
each_get P (x ∷ xs) (suc n) h = each_get P xs n h.1
