-- The places of a world as the code keeps it, and where they stand among the links of a world of the model.
use Rattle.std.proofs.Common.{◌≡◌, ⊎_elim, ℕ, zero, suc, ◌<◌, ◌==◌, nat_lt, Bool, true, false, List, [], ◌∷◌, ◌++◌, length, map, refl, sym, ap, ◌∙◌, subst, append-nil, Option, Some, None, arith}
use Rattle.std.specs.List.{slice_get}
use Rattle.std.specs.Prelude.{slice_set, slice_index_or}
use Rattle.std.proofs.lemmas.Option.{slice_get-get_or, same_Some}
use Rattle.std.proofs.lemmas.List.Concat.{flat_map-append}
use Rattle.std.proofs.lemmas.Bool.{cases_eq, cases_Bool, and_parts, eq-eqb, ne_eqb, ltb-true}
use Rattle.drill_model.specs.Outcomes.{Occurrence}
use Rattle.drill_model.specs.Links.{Link}
use Rattle.drill_model.specs.Worlds.{World, Came, On, is_link, link_at, with_link, history_on, went_on}
use Rattle.drill_model.specs.Marks.{marks_from}
use Rattle.drill_model.specs.Texts.{lines, came_line}
use Rattle.drill_model.specs.Growth.{HistoryGrows, HistoryOfOwn, HistoryOfOther, WorldMarksGrow, LinkText}
use Rattle.er_world.specs.declared.link.Link.{Link as KeptLink}
use Rattle.er_world.specs.KeptLinks.{StandsLink, LinkWent}
use Rattle.er_world.specs.Standing.{KeptWorld, kept_at, StandsPlace, StandsWorld}
use Rattle.er_world.specs.WorldSteps.{WorldWent}
use Rattle.er_world.proofs.LinkRows.{Grows}

-- what the laws of the crates below say of a world
pub record WorldGrows : Type 0 where
  pub links : Grows
  pub history : HistoryGrows
  pub own : HistoryOfOwn
  pub other : HistoryOfOther
  pub marks : WorldMarksGrow
  pub text : LinkText

-- ---- lists

pub get_set_same : {X : Type 0} → (xs : List X) (i : ℕ) (x : X) → i < length xs → slice_get (slice_set xs i x) i ≡ Some x
get_set_same [] i x inside = absurd (omega arith)
get_set_same (y ∷ ys) zero x inside = refl
get_set_same (y ∷ ys) (suc i) x inside = get_set_same ys i x (omega arith)

pub get_set_other : {X : Type 0} → (xs : List X) (i j : ℕ) (x : X) → (i ≡ j → ⊥) → slice_get (slice_set xs i x) j ≡ slice_get xs j
get_set_other [] i j x apart = refl
get_set_other (y ∷ ys) zero zero x apart = absurd (apart refl)
get_set_other (y ∷ ys) zero (suc j) x apart = refl
get_set_other (y ∷ ys) (suc i) zero x apart = refl
get_set_other (y ∷ ys) (suc i) (suc j) x apart = get_set_other ys i j x (λ e. apart (ap suc e))

pub set_again : {X : Type 0} → (xs : List X) (i : ℕ) (x : X) → slice_get xs i ≡ Some x → slice_set xs i x ≡ xs
set_again [] i x is = refl
set_again (y ∷ ys) zero x is = ap (λ z. z ∷ ys) (sym (same_Some _ _ is))
set_again (y ∷ ys) (suc i) x is = ap (λ zs. y ∷ zs) (set_again ys i x is)

pub read_there : (links : List (Option KeptLink)) (n : ℕ) (place : Option KeptLink) → n < length links → place ≡ slice_index_or links n place → slice_get links n ≡ Some place
read_there links n place inside is = slice_get-get_or links n place inside ∙ ap (λ (p : Option KeptLink). Some p) (sym is)

-- ---- what stands at a place

pub record There (kept : KeptLink) (place : Option Link) (history : List Occurrence) : Type 0 where
  pub link : Link
  pub is : place ≡ Some link
  pub stands : StandsLink kept link history

there_at : (kept : KeptLink) (place : Option Link) (history : List Occurrence) → StandsPlace (Some kept) place history → There kept place history
there_at kept None history st = absurd st
there_at kept (Some l) history st = record { link = l; is = refl; stands = st }

pub there : (w : KeptWorld) (v : World) (came : List Came) (n : ℕ) (kept : KeptLink) → kept_at w n ≡ Some kept → StandsWorld w v came
    → There kept (link_at v n) (history_on n came)
there w v came n kept is st =
    there_at kept (link_at v n) (history_on n came)
    (subst (λ (p : Option KeptLink). StandsPlace p (link_at v n) (history_on n came)) is (st.places n))

none_at : (place : Option Link) (history : List Occurrence) → StandsPlace None place history → (place ≡ None) × (history ≡ [])
none_at None history st = (refl, st)
none_at (Some l) history st = absurd st

pub nothing_there : (w : KeptWorld) (v : World) (came : List Came) (n : ℕ) → kept_at w n ≡ None → StandsWorld w v came
    → (link_at v n ≡ None) × (history_on n came ≡ [])
nothing_there w v came n is st =
    none_at (link_at v n) (history_on n came) (subst (λ (p : Option KeptLink). StandsPlace p (link_at v n) (history_on n came)) is (st.places n))

some_none : {X : Type 0} → (p : Option X) (x : X) → p ≡ Some x → p ≡ None → ⊥
some_none p x some none = let e : Some x ≡ None = sym some ∙ none in cc

-- only links are opened
pub is_link_there : (w : KeptWorld) (v : World) (came : List Came) (n : ℕ) (l : Link) → StandsWorld w v came → link_at v n ≡ Some l → is_link n ≡ true
is_link_there w v came n l st is =
    ⊎_elim (λ yes'. yes') (λ no'. absurd (some_none (link_at v n) l is (st.within n no'))) (cases_Bool (is_link n))

pub link_below : (n : ℕ) → is_link n ≡ true → n < 65
link_below n is = ltb-true n 65 (and_parts (nat_lt 0 n) (nat_lt n 65) is).1

true_false : (b : Bool) → b ≡ true → b ≡ false → ⊥
true_false b yes' no' = let e : true ≡ false = sym yes' ∙ no' in cc

-- ---- one place goes on

pub at_same : (v : World) (n m : ℕ) (l : Link) → m ≡ n → link_at (with_link v n l) m ≡ Some l
at_same v n m l e = let same : (m == n) ≡ true = eq-eqb m n e in rw same refl

pub at_other : (v : World) (n m : ℕ) (l : Link) → (m ≡ n → ⊥) → link_at (with_link v n l) m ≡ link_at v m
at_other v n m l apart = let other : (m == n) ≡ false = ne_eqb m n apart in rw other refl

-- `more` is what came in the world, and `mine` of it at link n
pub stands_went : WorldGrows → (w : KeptWorld) (v : World) (came more : List Came) (n : ℕ) (new : KeptLink) (l : Link) (mine : List Occurrence)
    → StandsWorld w v came → n < length w.links → is_link n ≡ true
    → history_on n more ≡ mine → ((m : ℕ) → (m ≡ n → ⊥) → history_on m more ≡ [])
    → StandsLink new l (history_on n came ++ mine)
    → StandsWorld (record w { links = slice_set w.links n (Some new) }) (with_link v n l) (came ++ more)
stands_went grows w v came more n new l mine st inside link here elsewhere stands = record {
  places = λ m.
      ⊎_elim
      (λ e.
      let at : slice_get (slice_set w.links n (Some new)) m ≡ Some (Some new) =
      ap (slice_get (slice_set w.links n (Some new))) e ∙ get_set_same w.links n (Some new) inside in
      let came_is : history_on m (came ++ more) ≡ history_on n came ++ mine =
      ap (λ i. history_on i (came ++ more)) e ∙ grows.history n came more ∙ ap (λ (xs : List Occurrence). history_on n came ++ xs) here in
      rw (at, at_same v n m l e, came_is) stands)
      (λ apart.
      let at : slice_get (slice_set w.links n (Some new)) m ≡ slice_get w.links m =
      get_set_other w.links n m (Some new) (λ e. apart (sym e)) in
      let came_is : history_on m (came ++ more) ≡ history_on m came =
      grows.history m came more ∙ ap (λ (xs : List Occurrence). history_on m came ++ xs) (elsewhere m apart) ∙ append-nil (history_on m came) in
      rw (at, at_other v n m l apart, came_is) (st.places m))
      (cases_eq m n);
  moment = st.moment;
  within = λ m no'.
      at_other v n m l (λ e. true_false (is_link n) link (ap is_link (sym e) ∙ no')) ∙ st.within m no';
}

-- link n went on so
pub went_world : WorldGrows → (w : KeptWorld) (v : World) (came : List Came) (n : ℕ) (a : Link × List Occurrence) (new : KeptLink) (before now : List ℕ)
    → StandsWorld w v came → n < length w.links → is_link n ≡ true
    → LinkWent a w.plan.show n (history_on n came) new before now
    → WorldWent (went_on v n a) w.plan.show came (record w { links = slice_set w.links n (Some new) }) before now
went_world grows w v came n a new before now st inside link went = record {
  stands = stands_went grows w v came (map (On n) a.1) n new a.0 a.1 st inside link (grows.own n a.1) (λ m apart. grows.other m n a.1 apart) went.stands;
  printed = went.printed ∙ ap (λ (xs : List ℕ). before ++ xs) (sym (grows.text w.plan.show n came a.1));
}

-- nothing came
pub stays : WorldGrows → (w : KeptWorld) (v : World) (came : List Came) (before : List ℕ) → StandsWorld w v came → WorldWent (v, []) w.plan.show came w before before
stays grows w v came before st = record {
  stands = subst (StandsWorld w v) (sym (append-nil came)) st;
  printed = sym (append-nil before);
}

pub lines-append : (show : Bool) → WorldGrows → (seen xs ys : List Came)
    → lines show (marks_from seen (xs ++ ys)) ≡ lines show (marks_from seen xs) ++ lines show (marks_from (seen ++ xs) ys)
lines-append show grows seen xs ys = ap (lines show) (grows.marks seen xs ys) ∙ flat_map-append (came_line show) (marks_from seen xs) (marks_from (seen ++ xs) ys)
