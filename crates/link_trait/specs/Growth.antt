-- Lemmas: what is told grows piece by piece; on the definitions of the outside, for the proofs of the crates above.
use Rattle.std.proofs.Common.{ℕ, List, [], ◌∷◌, ◌++◌, Option, None, Some, Result, Ok, Err, refl, sym, ap, ◌∙◌, append_assoc, append-nil}
use Rattle.link_trait.specs.Outside.{Grew, GrewPart, HasStayedAsTold, Notes}
use Rattle.link_trait.specs.declared.cabinet.FetchFault.{FetchFault}
use Rattle.link_trait.specs.declared.cabinet.FetchFault.TheVariants.{Failed, NoMemory}

pub grew_nothing : {A : Type 0} (a : Option (List A)) → Grew a a []
grew_nothing None = tt
grew_nothing (Some before) = sym (append-nil before)

pub grew_then : {A : Type 0} (a b c : Option (List A)) (xs ys : List A) → Grew a b xs → Grew b c ys → Grew a c (xs ++ ys)
grew_then None None None xs ys p q = tt
grew_then None None (Some now) xs ys p q = q
grew_then None (Some mid) c xs ys p q = absurd p
grew_then (Some before) b None xs ys p q = tt
grew_then (Some before) None (Some now) xs ys p q = absurd q
grew_then (Some before) (Some mid) (Some now) xs ys p q = q ∙ ap (λ zs. zs ++ ys) p ∙ append_assoc before xs ys

-- nothing came: a beginning of anything
pub part_nothing : {A : Type 0} (a : Option (List A)) (all : List A) → GrewPart a a all
part_nothing a all = record { part = []; rest = all; is = refl; grew = grew_nothing a }

-- all of it came
pub part_whole : {A : Type 0} (a b : Option (List A)) (all : List A) → Grew a b all → GrewPart a b all
part_whole a b all p = record { part = all; rest = []; is = append-nil all; grew = p }

-- a piece came, and then a beginning of the rest
pub part_then : {A : Type 0} (a b c : Option (List A)) (xs ys : List A) → Grew a b xs → GrewPart b c ys → GrewPart a c (xs ++ ys)
part_then a b c xs ys p q = record {
  part = xs ++ q.part;
  rest = q.rest;
  is = append_assoc xs q.part q.rest ∙ ap (λ zs. xs ++ zs) q.is;
  grew = grew_then a b c xs q.part p q.grew;
}

-- a beginning of a piece is a beginning of that piece and more
pub part_more : {A : Type 0} (a b : Option (List A)) (xs ys : List A) → GrewPart a b xs → GrewPart a b (xs ++ ys)
part_more a b xs ys p = record {
  part = p.part;
  rest = p.rest ++ ys;
  is = sym (append_assoc p.part p.rest ys) ∙ ap (λ zs. zs ++ ys) p.is;
  grew = p.grew;
}

-- a fetch notes at most its name
pub notes_part : {T : Type 0} (r : Result T FetchFault) (a b : Option (List (List ℕ))) (name : List ℕ)
    → Notes r a b name → GrewPart a b (name ∷ [])
notes_part (Ok _) a b name p = part_whole a b (name ∷ []) p
notes_part (Err Failed) a b name p = part_whole a b (name ∷ []) p
notes_part (Err (NoMemory want)) a b name p = p

pub kept_same : {A : Type 0} (a : Option A) → HasStayedAsTold a a
kept_same None = tt
kept_same (Some before) = refl

pub kept_then : {A : Type 0} (a b c : Option A) → HasStayedAsTold a b → HasStayedAsTold b c → HasStayedAsTold a c
kept_then None None c p q = q
kept_then None (Some mid) c p q = absurd p
kept_then (Some before) b None p q = tt
kept_then (Some before) None (Some now) p q = absurd q
kept_then (Some before) (Some mid) (Some now) p q = q ∙ p
