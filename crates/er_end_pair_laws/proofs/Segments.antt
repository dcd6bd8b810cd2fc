-- Messages and their segments: what is whole of a beginning of the segments, and what is acknowledged of them.
use Rattle.std.proofs.Common.{◌≡◌, ℕ, ◌-◌, ◌<◌, ◌≤◌, Bool, true, false, List, [], ◌∷◌, ◌++◌, length, refl, sym, ◌∙◌, ap, subst, arith, length-append, append-nil}
use Rattle.x224_class2.specs.Segments.{Segment, segments_of, messages_behind, messages_in, text_behind, text_so_far, AllCarried}
use Rattle.x224_class2.specs.Laws.{CutIsJoined, JoinsInParts}
use Rattle.er_end_pair_laws.proofs.Lists.{Head, Each}

-- the messages of a beginning are a beginning of the messages
pub messages_head : (begun : List ℕ) (xs ys : List Segment) → Head xs ys → Head (messages_behind begun xs) (messages_behind begun ys)
messages_head begun [] ys h = tt
messages_head begun (x ∷ xs) [] h = absurd h
messages_head begun ((true, x) ∷ xs) (y ∷ ys) h =
    subst (λ (t : Segment). Head (messages_behind begun ((true, x) ∷ xs)) (messages_behind begun (t ∷ ys))) h.0
    (refl, messages_head [] xs ys h.1)
messages_head begun ((false, x) ∷ xs) (y ∷ ys) h =
    subst (λ (t : Segment). Head (messages_behind begun ((false, x) ∷ xs)) (messages_behind begun (t ∷ ys))) h.0
    (messages_head (begun ++ x) xs ys h.1)

-- segments of the agreed size
abbrev pub IsShort : ℕ → Segment → Type 0
IsShort size s = (0 < length s.1) × (length s.1 ≤ size - 5)

pub carried_each : (size : ℕ) (xs : List Segment) → AllCarried (size - 5) xs → Each (IsShort size) xs
carried_each size [] h = tt
carried_each size ((last, octets) ∷ xs) h = ((h.0, h.1), carried_each size xs h.2)

-- the text so far, with the next segment, is within a whole message
pub text_small : (most : ℕ) (begun : List ℕ) (xs ys : List Segment) (last : Bool) (x : List ℕ)
    → text_behind begun ys ≡ [] → Each (λ m. length m ≤ most) (messages_behind begun ys)
    → Head (xs ++ (last, x) ∷ []) ys → length (text_behind begun xs ++ x) ≤ most
text_small most begun [] [] last x e small h = absurd h
text_small most begun [] ((true, y) ∷ ys) last x e small h =
    let same : x ≡ y = ap (λ (s : Segment). s.1) h.0 in
    subst (λ (t : List ℕ). length (begun ++ t) ≤ most) (sym same) small.0
text_small most begun [] ((false, y) ∷ ys) last x e small h =
    let same : x ≡ y = ap (λ (s : Segment). s.1) h.0 in
    subst (λ (t : List ℕ). length (begun ++ t) ≤ most) (sym same) (begun_small most (begun ++ y) ys e small)
  where
    begun_small : (most : ℕ) (begun : List ℕ) (ys : List Segment) → text_behind begun ys ≡ [] → Each (λ m. length m ≤ most) (messages_behind begun ys) → length begun ≤ most
    begun_small most begun [] e small = subst (λ (t : List ℕ). length t ≤ most) (sym e) (omega arith)
    begun_small most begun ((true, y) ∷ ys) e small = omega (arith, small.0, length-append begun y)
    begun_small most begun ((false, y) ∷ ys) e small = omega (arith, begun_small most (begun ++ y) ys e small, length-append begun y)
text_small most begun ((true, z) ∷ xs) [] last x e small h = absurd h
text_small most begun ((false, z) ∷ xs) [] last x e small h = absurd h
text_small most begun ((true, z) ∷ xs) ((true, y) ∷ ys) last x e small h = text_small most [] xs ys last x e small.1 h.1
text_small most begun ((true, z) ∷ xs) ((false, y) ∷ ys) last x e small h =
    absurd (let u : (true, z) ≡ (false, y) = h.0 in let v : true ≡ false = ap (λ (s : Segment). s.0) u in let w : ⊥ = cc in w)
text_small most begun ((false, z) ∷ xs) ((true, y) ∷ ys) last x e small h =
    absurd (let u : (false, z) ≡ (true, y) = h.0 in let v : false ≡ true = ap (λ (s : Segment). s.0) u in let w : ⊥ = cc in w)
text_small most begun ((false, z) ∷ xs) ((false, y) ∷ ys) last x e small h =
    let same : z ≡ y = ap (λ (s : Segment). s.1) h.0 in
    text_small most (begun ++ z) xs ys last x (subst (λ (t : List ℕ). text_behind (begun ++ t) ys ≡ []) (sym same) e)
    (subst (λ (t : List ℕ). Each (λ m. length m ≤ most) (messages_behind (begun ++ t) ys)) (sym same) small) h.1

-- ---- one more segment

pub messages_last : JoinsInParts → (xs : List Segment) (x : List ℕ) → messages_in (xs ++ (true, x) ∷ []) ≡ messages_in xs ++ (text_so_far xs ++ x) ∷ []
messages_last parts xs x = (parts [] xs ((true, x) ∷ [])).0

pub messages_same : JoinsInParts → (xs : List Segment) (x : List ℕ) → messages_in (xs ++ (false, x) ∷ []) ≡ messages_in xs
messages_same parts xs x = (parts [] xs ((false, x) ∷ [])).0 ∙ append-nil (messages_in xs)

-- ---- one more message

-- segments that end with a whole message, and those of one message more
pub messages_push : CutIsJoined → JoinsInParts → (size : ℕ) (xs : List Segment) (m : List ℕ) → text_so_far xs ≡ []
    → (messages_in (xs ++ segments_of size m) ≡ messages_in xs ++ m ∷ []) × (text_so_far (xs ++ segments_of size m) ≡ [])
messages_push joined parts size xs m e =
    let p = parts [] xs (segments_of size m) in
    let j = joined size m in (
      p.0 ∙ ap (λ (t : List ℕ). messages_in xs ++ messages_behind t (segments_of size m)) e ∙ ap (λ (t : List (List ℕ)). messages_in xs ++ t) j.0,
      p.1 ∙ ap (λ (t : List ℕ). text_behind t (segments_of size m)) e ∙ j.1,
    )
