-- A sweep over the sessions whose moment has come is the sweep over all of them: a visit of any other leaves it as it is.
use Rattle.er_end.specs.KeptEnds.{KEnd}
use Rattle.loop_session.specs.Keeping.{kept_ends}
use Rattle.std.proofs.Common.{◌≡◌, ℕ, true, false, inl, inr, List, [], ◌∷◌, ◌++◌, Result, Ok, Err, drop, refl, sym, ◌∙◌, ap, subst, arith}
use Rattle.std.specs.Prelude.{◌==◌}
use Rattle.std.specs.List.{AllByRecursion}
use Rattle.std.specs.List.Sorted.{IsStrictlySortedBy}
use Rattle.std.specs.Ordering.{nat_cmp}
use Rattle.std.specs.declared.cmp.Ordering.TheVariants.{Less}
use Rattle.std.proofs.lemmas.Bool.{cases_Bool}
use Rattle.std.proofs.lemmas.Bool.Decides.{nat_tests}
use Rattle.loop_model.specs.Outs.{Out, still, changed, first_answer_of}
use Rattle.loop_model.specs.Sessions.{Rules, Session}
use Rattle.loop_model.specs.Visits.{Met, nothing_met, Visit, visited, is_due, wakes}
use Rattle.loop_model.specs.Loops.{visit_at, swept, numbers}
use Rattle.loop_session.specs.declared.loop_fault.LoopFault.{LoopFault}
use Rattle.loop_io.specs.Acting.{Acted, BreaksAt, DoesLoopPart}
use Rattle.loop_io.specs.Seeing.{Seen}
use Rattle.readiness_loop.specs.Books.{due_numbers, IsTimedVisit}
use Rattle.readiness_loop.proofs.Numbers.{Leaves, visited_leaves, visited_idle}
use Rattle.readiness_loop.proofs.Sweeps.{after}

-- ---- a session that no visit is meant for

-- none of these numbers is this one
abbrev pub AreOthers : ℕ → List ℕ → Type 0
AreOthers n ns = AllByRecursion (λ y. (n == y) ≡ false) ns

skipped : (f : Session KEnd → Met → Out (List (Session KEnd))) (s : Session KEnd) (ns : List ℕ) (ss : List (Session KEnd)) (answers : List Met) → AreOthers s.number ns
    → swept f ns (s ∷ ss) answers ≡ changed (λ z. s ∷ z) (swept f ns ss answers)
unfolding swept visit_at
skipped f s [] ss answers p = refl
skipped f s (n ∷ ns) ss answers p =
    let x = visit_at f n ss (first_answer_of nothing_met answers) in
    rw p.0 (ap (after x) (skipped f s ns x.state (drop 1 answers) p.1))

same_out : {S : Type 0} (o : Out S) → o ≡ record { state = o.state; entries = o.entries; calls = o.calls; order = o.order }
same_out o = refl

left_skipped : (f : Session KEnd → Met → Out (List (Session KEnd))) (n : ℕ) (left : List (Session KEnd)) (ns : List ℕ) (ss : List (Session KEnd)) (answers : List Met)
    → Leaves n left → AreOthers n ns → swept f ns (left ++ ss) answers ≡ changed (λ z. left ++ z) (swept f ns ss answers)
left_skipped f n [] ns ss answers p q = same_out (swept f ns ss answers)
left_skipped f n (s ∷ []) ns ss answers p q = skipped f s ns ss answers (subst (λ z. AreOthers z ns) (sym p) q)
left_skipped f n (s ∷ t ∷ left) ns ss answers p q = absurd p

-- ---- numbers that rise

differs : (n m : ℕ) → nat_cmp n m ≡ Less → (n == m) ≡ false
differs n m p = grind (arith, nat_tests, p)

others : (n : ℕ) (ns : List ℕ) → AllByRecursion (λ y. nat_cmp n y ≡ Less) ns → AreOthers n ns
others n [] p = tt
others n (m ∷ ns) p = (differs n m p.0, others n ns p.1)

due_others : (n m : ℕ) (ss : List (Session KEnd)) → AreOthers n (numbers ss) → AreOthers n (due_numbers m ss)
unfolding due_numbers
due_others n m [] p = tt
due_others n m (s ∷ ss) p =
    elim (cases_Bool (is_due m (wakes kept_ends s))) [
      | inl t ↦ rw t (p.0, due_others n m ss p.1)
      | inr t ↦ rw t (due_others n m ss p.1)
    ]

-- ---- the sweep over all

-- a visit that leaves a session of the same number or none, and one whose moment hasn't come as it is
pub record IsByMoments (m : ℕ) (f : Session KEnd → Met → Out (List (Session KEnd))) : Type 0 where
  pub leaves : (s : Session KEnd) (a : Met) → Leaves s.number (f s a).state
  pub idle : (s : Session KEnd) → is_due m (wakes kept_ends s) ≡ false → (a : Met) → f s a ≡ still (s ∷ [])

itself : (n : ℕ) → (n == n) ≡ true
itself n = grind (arith, nat_tests)

-- answers for which the sweep over all numbers is that over those that are due
abbrev pub Filled : ℕ → (Session KEnd → Met → Out (List (Session KEnd))) → List (Session KEnd) → List Met → Type 0
Filled m f ss answers = (all : List Met) × (swept f (numbers ss) ss all ≡ swept f (due_numbers m ss) ss answers)

due_filled : (m : ℕ) (f : Session KEnd → Met → Out (List (Session KEnd))) (s : Session KEnd) (ss : List (Session KEnd)) (answers : List Met) → IsByMoments m f
    → AreOthers s.number (numbers ss) → is_due m (wakes kept_ends s) ≡ true → Filled m f ss (drop 1 answers) → Filled m f (s ∷ ss) answers
unfolding swept visit_at due_numbers
due_filled m f s ss answers h p t rest =
    let a = first_answer_of nothing_met answers in
    let x = changed (λ now. now ++ ss) (f s a) in
    let same : swept f (numbers ss) ((f s a).state ++ ss) rest.0 ≡ swept f (due_numbers m ss) ((f s a).state ++ ss) (drop 1 answers) =
    left_skipped f s.number (f s a).state (numbers ss) ss rest.0 (h.leaves s a) p
    ∙ ap (changed (λ z. (f s a).state ++ z)) rest.1
    ∙ sym (left_skipped f s.number (f s a).state (due_numbers m ss) ss (drop 1 answers) (h.leaves s a) (due_others s.number m ss p)) in
    (a ∷ rest.0, rw (t, itself s.number) (ap (after x) same))

idle_filled : (m : ℕ) (f : Session KEnd → Met → Out (List (Session KEnd))) (s : Session KEnd) (ss : List (Session KEnd)) (answers : List Met) → IsByMoments m f
    → AreOthers s.number (numbers ss) → is_due m (wakes kept_ends s) ≡ false → Filled m f ss answers → Filled m f (s ∷ ss) answers
unfolding swept visit_at due_numbers
idle_filled m f s ss answers h p t rest =
    let same : swept f (numbers ss) (s ∷ ss) rest.0 ≡ swept f (due_numbers m ss) (s ∷ ss) answers =
    skipped f s (numbers ss) ss rest.0 p ∙ ap (changed (λ z. s ∷ z)) rest.1 ∙ sym (skipped f s (due_numbers m ss) ss answers (due_others s.number m ss p)) in
    (nothing_met ∷ rest.0, rw (t, itself s.number, h.idle s t nothing_met) same)

pub filled : (m : ℕ) (f : Session KEnd → Met → Out (List (Session KEnd))) (ss : List (Session KEnd)) (answers : List Met) → IsByMoments m f
    → IsStrictlySortedBy nat_cmp (numbers ss) → Filled m f ss answers
unfolding IsStrictlySortedBy due_numbers swept
filled m f [] answers h p = ([], refl)
filled m f (s ∷ ss) answers h p =
    let apart = others s.number (numbers ss) p.0 in
    elim (cases_Bool (is_due m (wakes kept_ends s))) [
      | inl t ↦ due_filled m f s ss answers h apart t (filled m f ss (drop 1 answers) h p.1)
      | inr t ↦ idle_filled m f s ss answers h apart t (filled m f ss answers h p.1)
    ]

pub by_moments : (r : Rules) (m : ℕ) (v : Visit) → IsTimedVisit v → IsByMoments m (visited kept_ends r m v)
by_moments r m v timed = record { leaves = visited_leaves r m v timed; idle = visited_idle r m v timed }

pub due_does : {T : Type 0} (a b : Seen) (m : ℕ) (f : Session KEnd → Met → Out (List (Session KEnd))) (ns : List ℕ) (ss now : List (Session KEnd)) (r : Result T LoopFault)
    → IsByMoments m f → IsStrictlySortedBy nat_cmp (numbers ss) → ns ≡ due_numbers m ss
    → DoesLoopPart a b now (swept f ns ss) r → DoesLoopPart a b now (swept f (numbers ss) ss) r
due_does a b m f ns ss now (Ok done) h p is did =
    let all = filled m f ss did.answers h p in
    record { answers = all.0; is = subst (λ z. Acted a b now z) (ap (λ z. swept f z ss did.answers) is ∙ sym all.1) did.is }
due_does a b m f ns ss now (Err fault) h p is stopped =
    let all = filled m f ss stopped.answers h p in
    record { answers = all.0; breaks = subst (λ z. BreaksAt a b z fault) (ap (λ z. swept f z ss stopped.answers) is ∙ sym all.1) stopped.breaks }
