-- Lemmas: the octets and the names that a script's acts leave in the sink and the cabinet; for the proofs of the crates above.
use Rattle.std.proofs.Common.{◌≡◌, ◌⊎◌, ℕ, inl, inr, Bool, true, false, ◌||◌, List, [], ◌∷◌, ◌++◌, Option, IsFalse, refl, sym, ap, subst, ◌∙◌, append-nil}
use Rattle.std.proofs.Common.{true≢false}
use Rattle.std.specs.List.{list_any}
use Rattle.link_trait.specs.Outside.{Grew, GrewPart}
use Rattle.outside.specs.Acts.{Fetch, Spent, Act, Fetched, Wrote, Called, Asked, Drew, is_fetch}
use Rattle.outside.specs.Ties.{IsLeft, GrewBy, AsksFor, PutsInSink}
use Rattle.outside.specs.Scripts.{printing, End, Ends, Prints, RunsScript}

-- no act leaves anything
pub nothing_left_by : {A : Type 0} {Leaves : Act → List A → Type 0} (a b : Option (List A)) → GrewBy Leaves a b [] → Grew a b []
unfolding IsLeft
nothing_left_by {A} a b p = subst (λ (all : List A). Grew a b all) p.left p.grew

-- ---- octets in the sink

left_of_printed : (text : List ℕ) (all : List ℕ) → IsLeft PutsInSink (printing text ++ []) all → all ≡ text
unfolding IsLeft
left_of_printed [] all p = p
left_of_printed (octet ∷ octets) all p =
    p.4 ∙ ap (λ (first : List ℕ). first ++ p.1) p.2 ∙ ap (λ (rest : List ℕ). (octet ∷ octets) ++ rest) p.3 ∙ append-nil (octet ∷ octets)

-- a text was printed
pub text_printed_by : (a b : Option (List ℕ)) (text : List ℕ) → GrewBy PutsInSink a b (printing text ++ []) → Grew a b text
text_printed_by a b text p = subst (λ (octets : List ℕ). Grew a b octets) (left_of_printed text p.more p.left) p.grew

-- its write failed
pub text_begun_by : (a b : Option (List ℕ)) (text : List ℕ) → GrewBy PutsInSink a b (Wrote text false ∷ []) → GrewPart a b text
unfolding IsLeft
text_begun_by a b text p =
    let left : IsLeft PutsInSink (Wrote text false ∷ []) p.more = p.left in
    record {
      part = left.0;
      rest = left.2.0;
      is = left.2.1;
      grew = subst (λ (octets : List ℕ). Grew a b octets) (left.4 ∙ ap (λ (rest : List ℕ). left.0 ++ rest) left.3 ∙ append-nil left.0) p.grew;
    }

-- a fetch leaves nothing there
pub behind_fetched : (a b : Option (List ℕ)) (name : List ℕ) (answer : Fetch) (acts : List Act) → GrewBy PutsInSink a b (Fetched name answer ∷ acts)
    → GrewBy PutsInSink a b acts
unfolding IsLeft
behind_fetched a b name answer acts p =
    let left : IsLeft PutsInSink (Fetched name answer ∷ acts) p.more = p.left in
    record {
      more = left.1;
      left = left.3;
      grew = subst (λ (octets : List ℕ). Grew a b octets) (left.4 ∙ ap (λ (first : List ℕ). first ++ left.1) left.2) p.grew;
    }

-- ---- names at the cabinet

no_name : (act : Act) (names : List (List ℕ)) → IsFalse (is_fetch act) → AsksFor act names → names ≡ []
no_name (Fetched name answer) names h asks = absurd (true≢false h)
no_name (Wrote piece done) names h asks = asks
no_name (Called call) names h asks = asks
no_name (Asked moment) names h asks = asks
no_name (Drew word) names h asks = asks

first_of : (a b : Bool) → (a || b) ≡ false → IsFalse a
first_of true b h = h
first_of false b h = refl

second_of : (a b : Bool) → (a || b) ≡ false → IsFalse b
second_of true b h = absurd (true≢false h)
second_of false b h = h

-- acts without a fetch ask for no name
no_names : (acts : List Act) (all : List (List ℕ)) → IsFalse (list_any is_fetch acts) → IsLeft AsksFor acts all → all ≡ []
unfolding IsLeft
no_names [] all h left = left
no_names (act ∷ acts) all h left =
    left.4
    ∙ ap (λ (first : List (List ℕ)). first ++ left.1) (no_name act left.0 (first_of (is_fetch act) (list_any is_fetch acts) h) left.2)
    ∙ no_names acts left.1 (second_of (is_fetch act) (list_any is_fetch acts) h) left.3

-- one name was asked for, by a fetch that gave a file or none
pub name_asked_by : (a b : Option (List (List ℕ))) (name : List ℕ) (answer : Fetch) (acts : List Act)
    → ((names : List (List ℕ)) → AsksFor (Fetched name answer) names → names ≡ name ∷ []) → IsFalse (list_any is_fetch acts)
    → GrewBy AsksFor a b (Fetched name answer ∷ acts) → Grew a b (name ∷ [])
unfolding IsLeft
name_asked_by a b name answer acts is h p =
    let left : IsLeft AsksFor (Fetched name answer ∷ acts) p.more = p.left in
    subst (λ (names : List (List ℕ)). Grew a b names)
    (left.4 ∙ ap (λ (rest : List (List ℕ)). left.0 ++ rest) (no_names acts left.1 h left.3) ∙ append-nil left.0 ∙ is left.0 left.2) p.grew

-- the name of a fetch in which memory ran out may have been noted
pub name_noted_by : (a b : Option (List (List ℕ))) (name : List ℕ) → GrewBy AsksFor a b (Fetched name Spent ∷ []) → GrewPart a b (name ∷ [])
unfolding IsLeft
name_noted_by a b name p =
    let left : IsLeft AsksFor (Fetched name Spent ∷ []) p.more = p.left in
    noted left.0 left.2 (subst (λ (names : List (List ℕ)). Grew a b names) (left.4 ∙ ap (λ (rest : List (List ℕ)). left.0 ++ rest) left.3 ∙ append-nil left.0)
    p.grew)
  where
    noted : (names : List (List ℕ)) → (names ≡ name ∷ []) ⊎ (names ≡ []) → Grew a b names → GrewPart a b (name ∷ [])
    noted names (inl is) grew = record { part = name ∷ []; rest = []; is = refl; grew = subst (λ (xs : List (List ℕ)). Grew a b xs) is grew }
    noted names (inr is) grew = record { part = []; rest = name ∷ []; is = refl; grew = subst (λ (xs : List (List ℕ)). Grew a b xs) is grew }

-- ---- a script of one text

-- it asks for no file
pub fetches_none : (Is : List ℕ → Type 0) (status : ℕ) (acts : List Act) (end : End) → RunsScript (Prints Is (Ends status)) acts end
    → IsFalse (list_any is_fetch acts)
unfolding RunsScript
fetches_none Is status acts end (inl p) = subst (λ (xs : List Act). IsFalse (list_any is_fetch xs)) (sym p.acts_are) (printed p.text p.rest p.follows.0)
  where
    printed : (text : List ℕ) (rest : List Act) → rest ≡ [] → IsFalse (list_any is_fetch (printing text ++ rest))
    printed [] rest none = subst (λ (xs : List Act). IsFalse (list_any is_fetch xs)) (sym none) refl
    printed (octet ∷ octets) rest none = subst (λ (xs : List Act). IsFalse (list_any is_fetch xs)) (sym none) refl
fetches_none Is status acts end (inr (inl p)) = subst (λ (xs : List Act). IsFalse (list_any is_fetch xs)) (sym p.acts_are) refl
fetches_none Is status acts end (inr (inr p)) = subst (λ (xs : List Act). IsFalse (list_any is_fetch xs)) (sym p.0) refl
