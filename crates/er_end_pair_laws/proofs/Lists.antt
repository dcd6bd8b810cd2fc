-- Lists of which one is the beginning of the other, lists with their numbers, and numbers that don't fall.
use Rattle.std.proofs.Common.{◌≡◌, ℕ, zero, suc, ◌+◌, ◌≤◌, List, [], ◌∷◌, ◌++◌, length, take, refl, sym, ◌∙◌, ap, subst, arith, length-append, append-nil}
use Rattle.std.specs.List.{flat_map}
use Rattle.std.proofs.lemmas.Grind.{flat_map-append}

-- ---- the first list is the beginning of the second

abbrev pub Head : {A : Type 0} → List A → List A → Type 0
Head [] ys = Unit {0}
Head (x ∷ xs) [] = ⊥
Head (x ∷ xs) (y ∷ ys) = (x ≡ y) × Head xs ys

pub head_refl : {A : Type 0} (xs : List A) → Head xs xs
head_refl [] = tt
head_refl (x ∷ xs) = (refl, head_refl xs)

pub head_trans : {A : Type 0} (xs ys zs : List A) → Head xs ys → Head ys zs → Head xs zs
head_trans [] ys zs h g = tt
head_trans (x ∷ xs) [] zs h g = absurd h
head_trans (x ∷ xs) (y ∷ ys) [] h g = absurd g
head_trans (x ∷ xs) (y ∷ ys) (z ∷ zs) h g = (h.0 ∙ g.0, head_trans xs ys zs h.1 g.1)

pub head_more : {A : Type 0} (xs ys zs : List A) → Head xs ys → Head xs (ys ++ zs)
head_more [] ys zs h = tt
head_more (x ∷ xs) [] zs h = absurd h
head_more (x ∷ xs) (y ∷ ys) zs h = (h.0, head_more xs ys zs h.1)

pub head_join : {A : Type 0} (xs ys zs : List A) → Head ys zs → Head (xs ++ ys) (xs ++ zs)
head_join [] ys zs h = h
head_join (x ∷ xs) ys zs h = (refl, head_join xs ys zs h)

pub head_take : {A : Type 0} (n : ℕ) (xs : List A) → Head (take n xs) xs
head_take zero xs = tt
head_take (suc n) [] = tt
head_take (suc n) (x ∷ xs) = (refl, head_take n xs)

pub head_length : {A : Type 0} (xs ys : List A) → Head xs ys → length xs ≤ length ys
head_length [] ys h = omega arith
head_length (x ∷ xs) [] h = absurd h
head_length (x ∷ xs) (y ∷ ys) h = omega (arith, head_length xs ys h.1)

pub head_prefix : {A : Type 0} (xs ys : List A) → Head xs ys → xs ≡ take (length xs) ys
head_prefix [] ys h = refl
head_prefix (x ∷ xs) [] h = absurd h
head_prefix (x ∷ xs) (y ∷ ys) h = ap (λ t. t ∷ xs) h.0 ∙ ap (λ t. y ∷ t) (head_prefix xs ys h.1)

pub head_flat : {A B : Type 0} (g : A → List B) (xs ys : List A) → Head xs ys → Head (flat_map g xs) (flat_map g ys)
head_flat g [] ys h = tt
head_flat g (x ∷ xs) [] h = absurd h
head_flat g (x ∷ xs) (y ∷ ys) h = subst (λ t. Head (g x ++ flat_map g xs) (g t ++ flat_map g ys)) h.0 (head_join (g x) (flat_map g xs) (flat_map g ys) (head_flat g xs ys h.1))

pub head_equal : {A : Type 0} (xs ys : List A) → xs ≡ ys → Head xs ys
head_equal xs ys e = subst (λ t. Head xs t) e (head_refl xs)

-- ---- what holds of each

abbrev pub Each : {A : Type 0} → (A → Type 0) → List A → Type 0
Each P [] = Unit {0}
Each P (x ∷ xs) = P x × Each P xs

pub each_push : {A : Type 0} (P : A → Type 0) (xs : List A) (x : A) → Each P xs → P x → Each P (xs ++ x ∷ [])
each_push P [] x h p = (p, tt)
each_push P (y ∷ ys) x h p = (h.0, each_push P ys x h.1 p)

pub each_join : {A : Type 0} (P : A → Type 0) (xs ys : List A) → Each P xs → Each P ys → Each P (xs ++ ys)
each_join P [] ys h g = g
each_join P (x ∷ xs) ys h g = (h.0, each_join P xs ys h.1 g)

pub each_head : {A : Type 0} (P : A → Type 0) (xs ys : List A) → Head xs ys → Each P ys → Each P xs
each_head P [] ys h g = tt
each_head P (x ∷ xs) [] h g = absurd h
each_head P (x ∷ xs) (y ∷ ys) h g = (subst P (sym h.0) g.0, each_head P xs ys h.1 g.1)

pub each_last : {A : Type 0} (P : A → Type 0) (xs : List A) (x : A) → Each P (xs ++ x ∷ []) → P x
each_last P [] x h = h.0
each_last P (y ∷ ys) x h = each_last P ys x h.1

-- the element behind a beginning
pub each_next : {A : Type 0} (P : A → Type 0) (xs : List A) (x : A) (ys : List A) → Head (xs ++ x ∷ []) ys → Each P ys → P x
each_next P xs x ys h g = each_last P xs x (each_head P (xs ++ x ∷ []) ys h g)

-- ---- a list with its numbers

abbrev pub number : {A : Type 0} → ℕ → List A → List (ℕ × A)
number k [] = []
number k (x ∷ xs) = (k, x) ∷ number (suc k) xs

pub number_push : {A : Type 0} (k : ℕ) (xs : List A) (x : A) → number k (xs ++ x ∷ []) ≡ number k xs ++ (k + length xs, x) ∷ []
number_push k [] x = ap (λ n. (n, x) ∷ []) (omega arith)
number_push k (y ∷ ys) x =
    let e : suc k + length ys ≡ k + suc (length ys) = omega arith in
    ap (λ t. (k, y) ∷ t) (number_push (suc k) ys x) ∙ ap (λ n. (k, y) ∷ (number (suc k) ys ++ (n, x) ∷ [])) e

-- what stands next in a numbered list has the next number
pub number_next : {A : Type 0} (k n : ℕ) (z : A) (xs ys : List A) → Head (number k xs ++ (n, z) ∷ []) (number k ys) → (n ≡ k + length xs) × Head (xs ++ z ∷ []) ys
number_next k n z [] [] h = absurd h
number_next k n z [] (y ∷ ys) h = let e : n ≡ k = ap (λ p. p.0) h.0 in (omega arith, (ap (λ p. p.1) h.0, tt))
number_next k n z (x ∷ xs) [] h = absurd h
number_next k n z (x ∷ xs) (y ∷ ys) h = let r = number_next (suc k) n z xs ys h.1 in (omega (arith, r.0), (ap (λ p. p.1) h.0, r.1))

pub same_parts : {A : Type 0} (x y : A) (xs ys : List A) → x ∷ xs ≡ y ∷ ys → (x ≡ y) × (xs ≡ ys)
same_parts x y xs ys e = (cc, cc)

pub number_same : {A : Type 0} (k : ℕ) (xs ys : List A) → number k xs ≡ number k ys → xs ≡ ys
number_same k [] [] e = refl
number_same k [] (y ∷ ys) e = absurd (let u : ⊥ = cc in u)
number_same k (x ∷ xs) [] e = absurd (let u : ⊥ = cc in u)
number_same k (x ∷ xs) (y ∷ ys) e =
    let s = same_parts (k, x) (k, y) (number (suc k) xs) (number (suc k) ys) e in
    ap (λ z. z ∷ xs) (ap (λ p. p.1) s.0) ∙ ap (λ z. y ∷ z) (number_same (suc k) xs ys s.1)

-- ---- numbers that don't fall

-- from low up to high
abbrev pub Climbs : ℕ → List ℕ → ℕ → Type 0
Climbs low [] high = low ≤ high
Climbs low (x ∷ xs) high = (low ≤ x) × Climbs x xs high

-- the last of them, or low where there is none, is high
abbrev pub Ends : ℕ → List ℕ → ℕ → Type 0
Ends low [] high = low ≡ high
Ends low (x ∷ xs) high = Ends x xs high

pub climbs_le : (low high : ℕ) (xs : List ℕ) → Climbs low xs high → low ≤ high
climbs_le low high [] h = h
climbs_le low high (x ∷ xs) h = omega (arith, h.0, climbs_le x high xs h.1)

pub climbs_push : (low n high : ℕ) (xs : List ℕ) → n ≤ high → Climbs low xs n → Climbs low (xs ++ high ∷ []) high
climbs_push low n high [] le h = (omega arith, omega arith)
climbs_push low n high (x ∷ xs) le h = (h.0, climbs_push x n high xs le h.1)

pub ends_push : (low n : ℕ) (xs : List ℕ) → Ends low (xs ++ n ∷ []) n
ends_push low n [] = refl
ends_push low n (x ∷ xs) = ends_push x n xs

pub ends_one : (low a b : ℕ) (xs : List ℕ) → Ends low xs a → Ends low xs b → a ≡ b
ends_one low a b [] h g = sym h ∙ g
ends_one low a b (x ∷ xs) h g = ends_one x a b xs h g

-- of numbers that don't fall and of which some came, up to a: the next one
pub ends_next : (low a n high : ℕ) (came all : List ℕ) → Ends low came a → Climbs low all high → Head (came ++ n ∷ []) all → (a ≤ n) × (n ≤ high)
ends_next low a n high [] [] e c h = absurd h
ends_next low a n high [] (x ∷ xs) e c h = let same : n ≡ x = h.0 in (omega (arith, c.0), omega (arith, climbs_le x high xs c.1))
ends_next low a n high (y ∷ ys) [] e c h = absurd h
ends_next low a n high (y ∷ ys) (x ∷ xs) e c h =
    ends_next y a n high ys xs e (subst (λ t. Climbs t xs high) (sym h.0) c.1) h.1

-- those that came end at most at the highest
pub ends_at : (low a high : ℕ) (came all : List ℕ) → Ends low came a → Climbs low all high → Head came all → a ≤ high
ends_at low a high [] all e c h = omega (arith, climbs_le low high all c)
ends_at low a high (y ∷ ys) [] e c h = absurd h
ends_at low a high (y ∷ ys) (x ∷ xs) e c h = ends_at y a high ys xs e (subst (λ t. Climbs t xs high) (sym h.0) c.1) h.1

-- ---- one more at the end of a list of which parts are taken

pub flat_push : {A B : Type 0} (g : A → List B) (xs : List A) (x : A) → flat_map g (xs ++ x ∷ []) ≡ flat_map g xs ++ g x
flat_push g xs x = flat_map-append g xs (x ∷ []) ∙ ap (λ t. flat_map g xs ++ t) (append-nil (g x))

pub flat_none : {A B : Type 0} (g : A → List B) (xs : List A) (x : A) → g x ≡ [] → flat_map g (xs ++ x ∷ []) ≡ flat_map g xs
flat_none g xs x e = flat_push g xs x ∙ ap (λ t. flat_map g xs ++ t) e ∙ append-nil (flat_map g xs)

pub flat_one : {A B : Type 0} (g : A → List B) (xs : List A) (x : A) (b : B) → g x ≡ b ∷ [] → flat_map g (xs ++ x ∷ []) ≡ flat_map g xs ++ b ∷ []
flat_one g xs x b e = flat_push g xs x ∙ ap (λ t. flat_map g xs ++ t) e

pub length_push : {A : Type 0} (xs : List A) (x : A) → length (xs ++ x ∷ []) ≡ suc (length xs)
length_push xs x = length-append xs (x ∷ []) ∙ (omega arith)
