-- A link of the drill, and what came at it, seen as a pair of ends of one kind (pair_model): an event at an end is that event at the pair's end, and what
-- the line does is what the pair's line does.
use Rattle.std.proofs.Common.{if◌then◌else◌, ◌≡◌, ◌⊎◌, inl, inr, ℕ, ◌+◌, Bool, true, false, not, ◌&&◌, ◌||◌, List, [], ◌∷◌, ◌++◌, length, map, refl, sym, ap, ap₂, subst, ◌∙◌, append-nil, length-append, arith}
use Rattle.std.specs.Prelude.{Option, Some, None, is_some}
use Rattle.std.specs.List.{flat_map, list_any, AllByRecursion}
use Rattle.std.proofs.lemmas.List.Concat.{flat_map-append}
use Rattle.std.proofs.lemmas.List.Folds.{list_any-append}
use Rattle.er_base.specs.declared.release.Release.{Release}
use Rattle.er_base.specs.declared.side.Side.{Side}
use Rattle.er_base.specs.declared.side.Side.TheVariants.{E, R}
use Rattle.safety_pair_laws.specs.Facts.{SideFact, is_side}
use Rattle.pair_model.specs.Links.{EndKind, PairLink, end_of_side, end_did}
use Rattle.drill_model.specs.Outcomes.{DrillOutcome, NothingWaits, Occurrence, at_end, facts_at, facts_in, frames_in}
use Rattle.drill_model.specs.Ends.{EndAtLevel, EndEvent, end_step}
use Rattle.drill_model.specs.Ends as event
use Rattle.drill_model.specs.Links.{Link, LinkOpening, key_on, waiting_of, with_waiting, with_answer, give}
use Rattle.drill_model.specs.Kinds.{sent_in, accepted_in, released_in, passed_in, is_disorder, is_disturbance, sent_by, accepted_by, releases_in, deliveries, is_disordered, is_disturbed}
use Rattle.drill_laws.proofs.Tellings.{Says, says_nothing, says_more, all_kept, all_push}

-- ---- what occurrences at one side say

pub flat_mapped : {A : Type 0} (g : Occurrence → List A) (f : DrillOutcome → List A) (side : Side) → ((o : DrillOutcome) → g (at_end side o) ≡ f o) → (os : List DrillOutcome)
    → flat_map g (map (at_end side) os) ≡ flat_map f os
flat_mapped g f side same [] = refl
flat_mapped {A} g f side same (o ∷ os) = ap₂ (λ (xs ys : List A). xs ++ ys) (same o) (flat_mapped g f side same os)

abbrev nowhere : DrillOutcome → List (List ℕ)
nowhere o = []

flat_nowhere : (os : List DrillOutcome) → flat_map nowhere os ≡ []
flat_nowhere [] = refl
flat_nowhere (o ∷ os) = flat_nowhere os

pub any_mapped : (f : DrillOutcome → Bool) (side : Side) (os : List DrillOutcome) → list_any (λ (o : Occurrence). f o.outcome) (map (at_end side) os) ≡ list_any f os
any_mapped f side [] = refl
any_mapped f side (o ∷ os) = ap (λ (b : Bool). f o || b) (any_mapped f side os)

abbrev sent_of : Side → Occurrence → List (List ℕ)
sent_of s o = if is_side s o.side then sent_in o.outcome else []

abbrev accepted_of : Side → Occurrence → List (List ℕ)
accepted_of s o = if is_side s o.side then accepted_in o.outcome else []

pub sent_e_e : (os : List DrillOutcome) → sent_by E (map (at_end E) os) ≡ flat_map sent_in os
sent_e_e os = flat_mapped (sent_of E) sent_in E (λ o. refl) os

pub sent_e_r : (os : List DrillOutcome) → sent_by E (map (at_end R) os) ≡ []
sent_e_r os = flat_mapped (sent_of E) nowhere R (λ o. refl) os ∙ flat_nowhere os

pub sent_r_r : (os : List DrillOutcome) → sent_by R (map (at_end R) os) ≡ flat_map sent_in os
sent_r_r os = flat_mapped (sent_of R) sent_in R (λ o. refl) os

pub sent_r_e : (os : List DrillOutcome) → sent_by R (map (at_end E) os) ≡ []
sent_r_e os = flat_mapped (sent_of R) nowhere E (λ o. refl) os ∙ flat_nowhere os

pub accepted_e_e : (os : List DrillOutcome) → accepted_by E (map (at_end E) os) ≡ flat_map accepted_in os
accepted_e_e os = flat_mapped (accepted_of E) accepted_in E (λ o. refl) os

pub accepted_e_r : (os : List DrillOutcome) → accepted_by E (map (at_end R) os) ≡ []
accepted_e_r os = flat_mapped (accepted_of E) nowhere R (λ o. refl) os ∙ flat_nowhere os

pub accepted_r_r : (os : List DrillOutcome) → accepted_by R (map (at_end R) os) ≡ flat_map accepted_in os
accepted_r_r os = flat_mapped (accepted_of R) accepted_in R (λ o. refl) os

pub accepted_r_e : (os : List DrillOutcome) → accepted_by R (map (at_end E) os) ≡ []
accepted_r_e os = flat_mapped (accepted_of R) nowhere E (λ o. refl) os ∙ flat_nowhere os

pub sent_grows : (s : Side) (history more : List Occurrence) → sent_by s (history ++ more) ≡ sent_by s history ++ sent_by s more
sent_grows s history more = flat_map-append (sent_of s) history more

pub accepted_grows : (s : Side) (history more : List Occurrence) → accepted_by s (history ++ more) ≡ accepted_by s history ++ accepted_by s more
accepted_grows s history more = flat_map-append (accepted_of s) history more

pub releases_grow : (history more : List Occurrence) → releases_in (history ++ more) ≡ releases_in history ++ releases_in more
releases_grow history more = flat_map-append (λ (o : Occurrence). released_in o.outcome) history more

sent_nothing : (s side : Side) (os : List DrillOutcome) → flat_map sent_in os ≡ [] → sent_by s (map (at_end side) os) ≡ []
sent_nothing E E os none = sent_e_e os ∙ none
sent_nothing E R os none = sent_e_r os
sent_nothing R E os none = sent_r_e os
sent_nothing R R os none = sent_r_r os ∙ none

accepted_nothing : (s side : Side) (os : List DrillOutcome) → flat_map accepted_in os ≡ [] → accepted_by s (map (at_end side) os) ≡ []
accepted_nothing E E os none = accepted_e_e os ∙ none
accepted_nothing E R os none = accepted_e_r os
accepted_nothing R E os none = accepted_r_e os
accepted_nothing R R os none = accepted_r_r os ∙ none

-- the history behind occurrences at one side, in which nothing was sent, accepted or released
pub record Lined (side : Side) (history : List Occurrence) (os : List DrillOutcome) (disorder disturbed : Bool) : Type 0 where
  pub sent : (s : Side) → sent_by s (history ++ map (at_end side) os) ≡ sent_by s history
  pub accepted : (s : Side) → accepted_by s (history ++ map (at_end side) os) ≡ accepted_by s history
  pub releases_are : releases_in (history ++ map (at_end side) os) ≡ releases_in history
  pub disorder_is : is_disordered (history ++ map (at_end side) os) ≡ (is_disordered history || disorder)
  pub disturbed_is : is_disturbed (history ++ map (at_end side) os) ≡ (is_disturbed history || disturbed)
  pub facts : facts_in (history ++ map (at_end side) os) ≡ facts_in history

pub lined_of : (side : Side) (history : List Occurrence) (os : List DrillOutcome) (disorder disturbed : Bool) (passes : ℕ)
    → Says os [] [] [] disorder disturbed passes → Lined side history os disorder disturbed
lined_of side history os disorder disturbed passes h =
    let more : List Occurrence = map (at_end side) os in
    record {
      sent = λ s. sent_grows s history more ∙ ap (λ (xs : List (List ℕ)). sent_by s history ++ xs) (sent_nothing s side os h.handed_is) ∙ append-nil (sent_by s history);
      accepted = λ s. accepted_grows s history more ∙ ap (λ (xs : List (List ℕ)). accepted_by s history ++ xs) (accepted_nothing s side os h.taken_is)
          ∙ append-nil (accepted_by s history);
      releases_are = releases_grow history more
          ∙ ap (λ (xs : List Release). releases_in history ++ xs) (flat_mapped (λ (o : Occurrence). released_in o.outcome) released_in side (λ o. refl) os ∙ h.releases_are)
          ∙ append-nil (releases_in history);
      disorder_is = list_any-append (λ (o : Occurrence). is_disorder o.outcome) history more
          ∙ ap (λ (b : Bool). is_disordered history || b) (any_mapped is_disorder side os ∙ h.disorder_is);
      disturbed_is = list_any-append (λ (o : Occurrence). is_disturbance o.outcome) history more
          ∙ ap (λ (b : Bool). is_disturbed history || b) (any_mapped is_disturbance side os ∙ h.disturbed_is);
      facts = flat_map-append (λ (o : Occurrence). facts_at o.side o.outcome) history more
          ∙ ap (λ (fs : List SideFact). facts_in history ++ fs) (h.facts side) ∙ append-nil (facts_in history);
    }

-- how many of them were passed
pub passes_of : (side : Side) (os : List DrillOutcome) (handed taken : List (List ℕ)) (releases : List Release) (disorder disturbed : Bool) (passes : ℕ)
    → Says os handed taken releases disorder disturbed passes → deliveries (map (at_end side) os) ≡ passes
passes_of side os handed taken releases disorder disturbed passes h =
    ap length (flat_mapped (λ (o : Occurrence). passed_in o.outcome) passed_in side (λ o. refl) os) ∙ h.passes_are

pub deliveries_grow : (history more : List Occurrence) → deliveries (history ++ more) ≡ deliveries history + deliveries more
deliveries_grow history more =
    ap length (flat_map-append (λ (o : Occurrence). passed_in o.outcome) history more)
    ∙ length-append (flat_map (λ (o : Occurrence). passed_in o.outcome) history) (flat_map (λ (o : Occurrence). passed_in o.outcome) more)

-- ---- small things

pub or_false : (b : Bool) → (b || false) ≡ b
or_false true = refl
or_false false = refl

pub not_and : (a b : Bool) → (not a || b) ≡ not (a && not b)
not_and true true = refl
not_and true false = refl
not_and false true = refl
not_and false false = refl

pub not_or : (a b c : Bool) → ((a && not b) && not c) ≡ (a && not (b || c))
not_or true true c = refl
not_or true false true = refl
not_or true false false = refl
not_or false b c = refl

pub and_true : (b : Bool) → b ≡ (b && not false)
and_true true = refl
and_true false = refl

pub and_false : (b : Bool) → false ≡ (b && not true)
and_false true = refl
and_false false = refl

pub same_count : (n : ℕ) → n ≡ n + 0
same_count n = omega arith

pub full_if : (b c : Bool) → (b || c) ≡ is_some (if b then Some E else if c then Some R else None)
full_if true c = refl
full_if false true = refl
full_if false false = refl

-- what waits, and that nothing does

pub same_waiting : (l : Link) (side : Side) → with_waiting l side (waiting_of l side) ≡ l
same_waiting l E = refl
same_waiting l R = refl

pub waits_nothing : Says (NothingWaits ∷ []) [] [] [] false false 0
waits_nothing = says_more NothingWaits [] [] [] [] false false 0 (λ side. refl) says_nothing

-- the releases, whether order was disturbed and what else was, and the deliveries, behind outcomes at one side
module _ (side : Side) (history : List Occurrence) (os : List DrillOutcome) where
  abbrev more : List Occurrence
  more = map (at_end side) os

  pub releases_more : releases_in (history ++ more) ≡ releases_in history ++ flat_map released_in os
  releases_more =
      releases_grow history more
      ∙ ap (λ (xs : List Release). releases_in history ++ xs) (flat_mapped (λ (o : Occurrence). released_in o.outcome) released_in side (λ o. refl) os)

  pub disorder_more : list_any is_disorder os ≡ false → is_disordered (history ++ more) ≡ is_disordered history
  disorder_more none =
      list_any-append (λ (o : Occurrence). is_disorder o.outcome) history more
      ∙ ap (λ (b : Bool). is_disordered history || b) (any_mapped is_disorder side os ∙ none) ∙ or_false (is_disordered history)

  pub disturbed_more : (late : Bool) → list_any is_disturbance os ≡ late → is_disturbed (history ++ more) ≡ (is_disturbed history || late)
  disturbed_more late is =
      list_any-append (λ (o : Occurrence). is_disturbance o.outcome) history more
      ∙ ap (λ (b : Bool). is_disturbed history || b) (any_mapped is_disturbance side os ∙ is)

  pub count_more : flat_map passed_in os ≡ [] → deliveries (history ++ more) ≡ deliveries history
  count_more none =
      let zero_more : deliveries more ≡ 0 = ap length (flat_mapped (λ (o : Occurrence). passed_in o.outcome) passed_in side (λ o. refl) os ∙ none) in
      let grow : deliveries (history ++ more) ≡ deliveries history + deliveries more = deliveries_grow history more in
      omega arith

-- ---- a level of a drill, whose links are pairs of ends of one kind

pub record Level (A : Type 0) : Type 1 where
  -- how its links are opened, what its ends are, and what ends of the pair do
  pub opening : LinkOpening
  pub end : A → EndAtLevel
  pub kind : EndKind A
  -- what an end keeps of what it was handed and took, and why it was released
  pub sent : A → List (List ℕ)
  pub accepted : A → List (List ℕ)
  pub released : A → Option Release
  -- what holds of an end between two events
  pub Stands : A → Type 0
  -- what is told of the safety layer
  pub Tells : List SideFact → Type 0
  pub tells_none : Tells []
  pub tells_more : (xs ys : List SideFact) → Tells xs → Tells ys → Tells (xs ++ ys)

-- an end of the drill does this with an event, where that end of the pair does that; late, where it finds a timer expired
pub record Does {A : Type 0} (v : Level A) (x : A) (done : A × List (List ℕ)) (told : EndAtLevel × List DrillOutcome) (late : Bool) : Type 0 where
  pub end_is : told.0 ≡ v.end done.0
  pub frames_are : frames_in told.1 ≡ done.1
  pub stands : v.Stands done.0
  pub sent_is : v.sent done.0 ≡ v.sent x ++ flat_map sent_in told.1
  pub accepted_is : v.accepted done.0 ≡ v.accepted x ++ flat_map accepted_in told.1
  pub releases_are : AllByRecursion (λ release. v.released done.0 ≡ Some release) (flat_map released_in told.1)
  pub stays : (release : Release) → v.released x ≡ Some release → v.released done.0 ≡ Some release
  pub in_order : list_any is_disorder told.1 ≡ false
  pub disturbs : list_any is_disturbance told.1 ≡ late
  pub none_passed : flat_map passed_in told.1 ≡ []
  pub tells : (side : Side) → v.Tells (facts_in (map (at_end side) told.1))

abbrev pub told_at : {A : Type 0} → Level A → (now : ℕ) → EndEvent → A → EndAtLevel × List DrillOutcome
told_at v now event x = end_step (key_on v.opening) now (v.end x) event

-- so it is with each event
pub record Acts {A : Type 0} (v : Level A) : Type 0 where
  pub start : (now : ℕ) (x : A) → v.Stands x → Does v x (v.kind.start now x) (told_at v now event.Start x) false
  pub receive : (now : ℕ) (octets : List ℕ) (x : A) → v.Stands x → Does v x (v.kind.receive now octets x) (told_at v now (event.Receive octets) x) false
  pub send : (now : ℕ) (user : List ℕ) (x : A) → v.Stands x → Does v x (v.kind.send now user x) (told_at v now (event.Send user) x) false
  pub take : (now : ℕ) (x : A) → v.Stands x → Does v x (v.kind.take now x) (told_at v now event.Take x) false
  pub release : (now : ℕ) (sub : ℕ) (x : A) → v.Stands x → Does v x (v.kind.release now sub x) (told_at v now (event.Release sub) x) false
  pub tick : (now : ℕ) (x : A) → v.Stands x → Does v x (v.kind.tick now x) (told_at v now event.Tick x) (v.kind.is_late now x)

-- ---- a link and what came at it, seen as a pair

-- a release that an end had is that of the pair's
abbrev pub IsOfPair : {A : Type 0} → Level A → PairLink A → Release → Type 0
IsOfPair v p release = (v.released p.e ≡ Some release) ⊎ (v.released p.r ≡ Some release)

pub record Sees {A : Type 0} (v : Level A) (l : Link) (history : List Occurrence) (p : PairLink A) : Type 0 where
  pub opening_is : l.opening ≡ v.opening
  pub e_is : l.e ≡ v.end p.e
  pub r_is : l.r ≡ v.end p.r
  pub from_e_is : l.from_e ≡ p.from_e
  pub from_r_is : l.from_r ≡ p.from_r
  pub moment_is : l.moment ≡ p.moment
  pub stands_e : v.Stands p.e
  pub stands_r : v.Stands p.r
  pub sent_e : sent_by E history ≡ v.sent p.e
  pub sent_r : sent_by R history ≡ v.sent p.r
  pub accepted_e : accepted_by E history ≡ v.accepted p.e
  pub accepted_r : accepted_by R history ≡ v.accepted p.r
  pub order : is_disordered history ≡ not p.order_kept
  pub free : is_disturbed history ≡ not p.loss_free
  pub count : deliveries history ≡ p.passes
  pub tells : v.Tells (facts_in history)
  pub releases : AllByRecursion (IsOfPair v p) (releases_in history)

-- how loss-free the pair is
abbrev pub freed : {A : Type 0} → Bool → PairLink A → PairLink A
freed free p = record p { loss_free = free }

-- what waits of a side, and how the line did
abbrev pub lined : {A : Type 0} → Side → List (List ℕ) → (order free : Bool) → ℕ → PairLink A → PairLink A
lined E frames order free passes p = record p { from_e = frames; order_kept = order; loss_free = free; passes = passes }
lined R frames order free passes p = record p { from_r = frames; order_kept = order; loss_free = free; passes = passes }

facts_grow : (history more : List Occurrence) → facts_in (history ++ more) ≡ facts_in history ++ facts_in more
facts_grow history more = flat_map-append (λ (o : Occurrence). facts_at o.side o.outcome) history more

module _ {A : Type 0} (v : Level A) where
  abbrev pub SeesAt : List Occurrence → PairLink A → Link × List Occurrence → Type 0
  SeesAt history p a = Sees v a.0 (history ++ a.1) p

  -- an event at an end
  acted_sees : (l : Link) (history : List Occurrence) (p : PairLink A) (side : Side) (done : A × List (List ℕ)) (told : EndAtLevel × List DrillOutcome) (late free : Bool)
      → Sees v l history p → Does v (end_of_side p side) done told late → free ≡ (p.loss_free && not late)
      → SeesAt history (freed free (end_did side done p)) (with_answer l side told)
  acted_sees l history p E done told late free s w is =
      let os : List DrillOutcome = told.1 in
      let q : PairLink A = freed free (end_did E done p) in
      record {
        opening_is = s.opening_is;
        e_is = w.end_is;
        r_is = s.r_is;
        from_e_is = ap₂ (λ (fs gs : List (List ℕ)). fs ++ gs) s.from_e_is w.frames_are;
        from_r_is = s.from_r_is;
        moment_is = s.moment_is;
        stands_e = w.stands;
        stands_r = s.stands_r;
        sent_e = sent_grows E history (map (at_end E) os) ∙ ap₂ (λ (xs ys : List (List ℕ)). xs ++ ys) s.sent_e (sent_e_e os) ∙ sym w.sent_is;
        sent_r = sent_grows R history (map (at_end E) os) ∙ ap (λ (xs : List (List ℕ)). sent_by R history ++ xs) (sent_r_e os) ∙ append-nil (sent_by R history) ∙ s.sent_r;
        accepted_e = accepted_grows E history (map (at_end E) os) ∙ ap₂ (λ (xs ys : List (List ℕ)). xs ++ ys) s.accepted_e (accepted_e_e os) ∙ sym w.accepted_is;
        accepted_r = accepted_grows R history (map (at_end E) os) ∙ ap (λ (xs : List (List ℕ)). accepted_by R history ++ xs) (accepted_r_e os)
            ∙ append-nil (accepted_by R history) ∙ s.accepted_r;
        order = disorder_more E history os w.in_order ∙ s.order;
        free = disturbed_more E history os late w.disturbs ∙ ap (λ (b : Bool). b || late) s.free ∙ not_and p.loss_free late ∙ ap not (sym is);
        count = count_more E history os w.none_passed ∙ s.count;
        tells = subst v.Tells (sym (facts_grow history (map (at_end E) os))) (v.tells_more (facts_in history) (facts_in (map (at_end E) os)) s.tells (w.tells E));
        releases = subst (AllByRecursion (IsOfPair v q)) (sym (releases_more E history os))
            (all_push (IsOfPair v q) (releases_in history) (flat_map released_in os)
            (all_kept (IsOfPair v p) (IsOfPair v q) (releases_in history) (λ release has. elim has [ inl x ↦ inl (w.stays release x) | inr x ↦ inr x ]) s.releases)
            (all_kept (λ release. v.released done.0 ≡ Some release) (IsOfPair v q) (flat_map released_in os) (λ release is. inl is) w.releases_are));
      }
  acted_sees l history p R done told late free s w is =
      let os : List DrillOutcome = told.1 in
      let q : PairLink A = freed free (end_did R done p) in
      record {
        opening_is = s.opening_is;
        e_is = s.e_is;
        r_is = w.end_is;
        from_e_is = s.from_e_is;
        from_r_is = ap₂ (λ (fs gs : List (List ℕ)). fs ++ gs) s.from_r_is w.frames_are;
        moment_is = s.moment_is;
        stands_e = s.stands_e;
        stands_r = w.stands;
        sent_r = sent_grows R history (map (at_end R) os) ∙ ap₂ (λ (xs ys : List (List ℕ)). xs ++ ys) s.sent_r (sent_r_r os) ∙ sym w.sent_is;
        sent_e = sent_grows E history (map (at_end R) os) ∙ ap (λ (xs : List (List ℕ)). sent_by E history ++ xs) (sent_e_r os) ∙ append-nil (sent_by E history) ∙ s.sent_e;
        accepted_r = accepted_grows R history (map (at_end R) os) ∙ ap₂ (λ (xs ys : List (List ℕ)). xs ++ ys) s.accepted_r (accepted_r_r os) ∙ sym w.accepted_is;
        accepted_e = accepted_grows E history (map (at_end R) os) ∙ ap (λ (xs : List (List ℕ)). accepted_by E history ++ xs) (accepted_e_r os)
            ∙ append-nil (accepted_by E history) ∙ s.accepted_e;
        order = disorder_more R history os w.in_order ∙ s.order;
        free = disturbed_more R history os late w.disturbs ∙ ap (λ (b : Bool). b || late) s.free ∙ not_and p.loss_free late ∙ ap not (sym is);
        count = count_more R history os w.none_passed ∙ s.count;
        tells = subst v.Tells (sym (facts_grow history (map (at_end R) os))) (v.tells_more (facts_in history) (facts_in (map (at_end R) os)) s.tells (w.tells R));
        releases = subst (AllByRecursion (IsOfPair v q)) (sym (releases_more R history os))
            (all_push (IsOfPair v q) (releases_in history) (flat_map released_in os)
            (all_kept (IsOfPair v p) (IsOfPair v q) (releases_in history) (λ release has. elim has [ inl x ↦ inl x | inr x ↦ inr (w.stays release x) ]) s.releases)
            (all_kept (λ release. v.released done.0 ≡ Some release) (IsOfPair v q) (flat_map released_in os) (λ release is. inr is) w.releases_are));
      }

  -- what an end of such a link answers
  gives_told : (l : Link) (history : List Occurrence) (p : PairLink A) (side : Side) (event : EndEvent) → Sees v l history p
      → give l side event ≡ with_answer l side (told_at v p.moment event (end_of_side p side))
  gives_told l history p E event s = rw (s.opening_is, s.e_is, s.moment_is) refl
  gives_told l history p R event s = rw (s.opening_is, s.r_is, s.moment_is) refl

  pub stands_at : (l : Link) (history : List Occurrence) (p : PairLink A) (side : Side) → Sees v l history p → v.Stands (end_of_side p side)
  stands_at l history p E s = s.stands_e
  stands_at l history p R s = s.stands_r

  -- an event is given to an end
  pub given_sees : (l : Link) (history : List Occurrence) (p : PairLink A) (side : Side) (event : EndEvent) (done : A × List (List ℕ)) (late free : Bool) → Sees v l history p
      → Does v (end_of_side p side) done (told_at v p.moment event (end_of_side p side)) late → free ≡ (p.loss_free && not late)
      → SeesAt history (freed free (end_did side done p)) (give l side event)
  given_sees l history p side event done late free s w is =
      subst (SeesAt history (freed free (end_did side done p))) (sym (gives_told l history p side event s))
      (acted_sees l history p side done (told_at v p.moment event (end_of_side p side)) late free s w is)

  -- occurrences at a side that change what waits, or nothing
  pub lined_sees : (l : Link) (history : List Occurrence) (p : PairLink A) (side : Side) (os : List DrillOutcome) (frames : List (List ℕ)) (disorder disturbed order free : Bool) (n passes : ℕ)
      → Sees v l history p → Says os [] [] [] disorder disturbed n → passes ≡ p.passes + n → order ≡ (p.order_kept && not disorder) → free ≡ (p.loss_free && not disturbed)
      → Sees v (with_waiting l side frames) (history ++ map (at_end side) os) (lined side frames order free passes p)
  lined_sees l history p E os frames disorder disturbed order free n passes s says count_is order_is free_is =
      let g = lined_of E history os disorder disturbed n says in
      record {
        opening_is = s.opening_is;
        e_is = s.e_is;
        r_is = s.r_is;
        from_e_is = refl;
        from_r_is = s.from_r_is;
        moment_is = s.moment_is;
        stands_e = s.stands_e;
        stands_r = s.stands_r;
        sent_e = g.sent E ∙ s.sent_e;
        sent_r = g.sent R ∙ s.sent_r;
        accepted_e = g.accepted E ∙ s.accepted_e;
        accepted_r = g.accepted R ∙ s.accepted_r;
        order = g.disorder_is ∙ ap (λ (b : Bool). b || disorder) s.order ∙ not_and p.order_kept disorder ∙ ap not (sym order_is);
        free = g.disturbed_is ∙ ap (λ (b : Bool). b || disturbed) s.free ∙ not_and p.loss_free disturbed ∙ ap not (sym free_is);
        count = deliveries_grow history (map (at_end E) os) ∙ ap₂ (λ (i j : ℕ). i + j) s.count (passes_of E os [] [] [] disorder disturbed n says) ∙ sym count_is;
        tells = subst v.Tells (sym g.facts) s.tells;
        releases = subst (AllByRecursion (IsOfPair v p)) (sym g.releases_are) s.releases;
      }
  lined_sees l history p R os frames disorder disturbed order free n passes s says count_is order_is free_is =
      let g = lined_of R history os disorder disturbed n says in
      record {
        opening_is = s.opening_is;
        e_is = s.e_is;
        r_is = s.r_is;
        from_e_is = s.from_e_is;
        from_r_is = refl;
        moment_is = s.moment_is;
        stands_e = s.stands_e;
        stands_r = s.stands_r;
        sent_r = g.sent R ∙ s.sent_r;
        sent_e = g.sent E ∙ s.sent_e;
        accepted_r = g.accepted R ∙ s.accepted_r;
        accepted_e = g.accepted E ∙ s.accepted_e;
        order = g.disorder_is ∙ ap (λ (b : Bool). b || disorder) s.order ∙ not_and p.order_kept disorder ∙ ap not (sym order_is);
        free = g.disturbed_is ∙ ap (λ (b : Bool). b || disturbed) s.free ∙ not_and p.loss_free disturbed ∙ ap not (sym free_is);
        count = deliveries_grow history (map (at_end R) os) ∙ ap₂ (λ (i j : ℕ). i + j) s.count (passes_of R os [] [] [] disorder disturbed n says) ∙ sym count_is;
        tells = subst v.Tells (sym g.facts) s.tells;
        releases = subst (AllByRecursion (IsOfPair v p)) (sym g.releases_are) s.releases;
      }
