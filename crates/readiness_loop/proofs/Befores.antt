-- What comes before a turn: ticks, then closings; and nothing where nobody is due.
use Rattle.loop_session.specs.Keeping.{kept_ends}
use Rattle.std.proofs.Common.{◌≡◌, ℕ, Bool, false, inl, inr, List, [], ◌∷◌, Option, Some, None, refl, sym, ◌∙◌, ap, subst, arith}
use Rattle.std.specs.Prelude.{◌==◌}
use Rattle.std.proofs.lemmas.Bool.{cases_Bool}
use Rattle.std.proofs.lemmas.Bool.Decides.{nat_tests}
use Rattle.er_end_model.specs.Steps.{earlier_of_moments as first_moment}
use Rattle.er_end.specs.KeptEnds.{KEnd, deadline_of}
use Rattle.loop_model.specs.Outs.{Out, still}
use Rattle.loop_model.specs.Sessions.{Rules, Session}
use Rattle.loop_model.specs.Visits.{Met, visited, is_due, wakes, Tick, Expire}
use Rattle.loop_model.specs.Loops.{visit_at, swept, numbers, until, before, Sweeps}
use Rattle.loop_session.specs.declared.loop_fault.LoopFault.{LoopFault}
use Rattle.loop_io.specs.Acting.{Acted, BreaksAt, ActedSo, Stopped}
use Rattle.loop_io.specs.Seeing.{Seen}
use Rattle.loop_io.specs.Sequels.{breaks_first}
use Rattle.readiness_loop.proofs.Sequences.{acted_still, acted_then, breaks_then}

pub before_did : (a b c : Seen) (r : Rules) (m : ℕ) (ss mid now : List (Session KEnd))
    → ActedSo a b mid (swept (visited kept_ends r m Tick) (numbers ss) ss) → ActedSo b c now (swept (visited kept_ends r m Expire) (numbers mid) mid)
    → ActedSo a c now (before kept_ends r m ss)
unfolding before
before_did a b c r m ss mid now p q =
    let all : Sweeps = record { ticks = p.answers; closings = q.answers } in
    record {
      answers = all;
      is = acted_then a b c mid now (swept (visited kept_ends r m Tick) (numbers ss) ss p.answers) (λ z. swept (visited kept_ends r m Expire) (numbers z) z q.answers) p.is
          (subst (λ z. Acted b c now (swept (visited kept_ends r m Expire) (numbers z) z q.answers)) p.is.state q.is);
    }

pub before_breaks_first : (a b : Seen) (r : Rules) (m : ℕ) (ss : List (Session KEnd)) (fault : LoopFault)
    → Stopped a b (swept (visited kept_ends r m Tick) (numbers ss) ss) fault → Stopped a b (before kept_ends r m ss) fault
unfolding before
before_breaks_first a b r m ss fault p =
    let all : Sweeps = record { ticks = p.answers; closings = [] } in
    record {
      answers = all;
      breaks = breaks_first a b (swept (visited kept_ends r m Tick) (numbers ss) ss p.answers) (λ z. swept (visited kept_ends r m Expire) (numbers z) z []) fault p.breaks;
    }

pub before_breaks_then : (a b c : Seen) (r : Rules) (m : ℕ) (ss mid : List (Session KEnd)) (fault : LoopFault)
    → ActedSo a b mid (swept (visited kept_ends r m Tick) (numbers ss) ss) → Stopped b c (swept (visited kept_ends r m Expire) (numbers mid) mid) fault
    → Stopped a c (before kept_ends r m ss) fault
unfolding before
before_breaks_then a b c r m ss mid fault p q =
    let all : Sweeps = record { ticks = p.answers; closings = q.answers } in
    record {
      answers = all;
      breaks = breaks_then a b c mid (swept (visited kept_ends r m Tick) (numbers ss) ss p.answers) (λ z. swept (visited kept_ends r m Expire) (numbers z) z q.answers) fault p.is
          (subst (λ z. BreaksAt b c (swept (visited kept_ends r m Expire) (numbers z) z q.answers) fault) p.is.state q.breaks);
    }

-- ---- nobody is due

pub not_due_first : (m : ℕ) (a b : Option ℕ) → is_due m (first_moment a b) ≡ false → is_due m a ≡ false
not_due_first m None b p = refl
not_due_first m (Some x) None p = p
not_due_first m (Some x) (Some y) p = grind (arith, nat_tests, p)

pub not_due_second : (m : ℕ) (a b : Option ℕ) → is_due m (first_moment a b) ≡ false → is_due m b ≡ false
not_due_second m None b p = p
not_due_second m (Some x) None p = refl
not_due_second m (Some x) (Some y) p = grind (arith, nat_tests, p)

-- a visit that leaves every session as it is
KeepsAll : (Session KEnd → Met → Out (List (Session KEnd))) → List (Session KEnd) → Type 0
KeepsAll f [] = Unit {0}
KeepsAll f (s ∷ ss) = ((a : Met) → f s a ≡ still (s ∷ [])) × KeepsAll f ss

kept_visit : (f : Session KEnd → Met → Out (List (Session KEnd))) (n : ℕ) (ss : List (Session KEnd)) (a : Met) → KeepsAll f ss → visit_at f n ss a ≡ still ss
unfolding visit_at KeepsAll
kept_visit f n [] a p = refl
kept_visit f n (s ∷ ss) a p =
    elim (cases_Bool (s.number == n)) [
      | inl t ↦ rw (t, p.0 a) refl
      | inr t ↦ rw (t, kept_visit f n ss a p.1) refl
    ]

kept_sweep : (f : Session KEnd → Met → Out (List (Session KEnd))) (ns : List ℕ) (ss : List (Session KEnd)) (answers : List Met) → KeepsAll f ss → swept f ns ss answers ≡ still ss
unfolding swept
kept_sweep f [] ss answers p = refl
kept_sweep f (n ∷ ns) ss answers p = rw (kept_visit f n ss _ p, kept_sweep f ns ss _ p) refl

no_ticks : (r : Rules) (m : ℕ) (ss : List (Session KEnd)) → is_due m (until kept_ends ss) ≡ false → KeepsAll (visited kept_ends r m Tick) ss
unfolding KeepsAll until visited
no_ticks r m [] p = tt
no_ticks r m (s ∷ ss) p = (
  λ a. rw (not_due_first m (deadline_of s.end) s.closing (not_due_first m (wakes kept_ends s) (until kept_ends ss) p)) refl,
  no_ticks r m ss (not_due_second m (wakes kept_ends s) (until kept_ends ss) p),
)

no_closings : (r : Rules) (m : ℕ) (ss : List (Session KEnd)) → is_due m (until kept_ends ss) ≡ false → KeepsAll (visited kept_ends r m Expire) ss
unfolding KeepsAll until visited
no_closings r m [] p = tt
no_closings r m (s ∷ ss) p = (
  λ a. rw (not_due_second m (deadline_of s.end) s.closing (not_due_first m (wakes kept_ends s) (until kept_ends ss) p)) refl,
  no_closings r m ss (not_due_second m (wakes kept_ends s) (until kept_ends ss) p),
)

before_nothing : (r : Rules) (m : ℕ) (ss : List (Session KEnd)) (a : Sweeps) → is_due m (until kept_ends ss) ≡ false → before kept_ends r m ss a ≡ still ss
unfolding before
before_nothing r m ss a p =
    rw (kept_sweep (visited kept_ends r m Tick) (numbers ss) ss a.ticks (no_ticks r m ss p), kept_sweep (visited kept_ends r m Expire) (numbers ss) ss a.closings (no_closings r m ss p)) refl

pub nobody_due : (a : Seen) (r : Rules) (m : ℕ) (ss : List (Session KEnd)) (first : Option ℕ) (due : Bool)
    → first ≡ until kept_ends ss → due ≡ is_due m first → due ≡ false → ActedSo a a ss (before kept_ends r m ss)
nobody_due a r m ss first due p q t =
    let none : Sweeps = record { ticks = []; closings = [] } in
    let is : is_due m (until kept_ends ss) ≡ false = sym (q ∙ ap (is_due m) p) ∙ t in
    record { answers = none; is = subst (λ z. Acted a a ss z) (sym (before_nothing r m ss none is)) (acted_still a ss ss refl) }
