-- At most 256 connections are live, and their sessions are in rising number.
use Rattle.trace_model.specs.Checks.{most_live}
use Rattle.loop_model.specs.Ends.{ModelEnd, model_ends}
use Rattle.std.proofs.Common.{◌≡◌, ℕ, suc, ◌+◌, ◌<◌, ◌≤◌, inl, inr, List, [], ◌∷◌, ◌++◌, length, refl, sym, ◌∙◌, ap, subst, arith, length-append, ltb-true}
use Rattle.std.specs.Prelude.{◌==◌}
use Rattle.std.proofs.lemmas.Bool.{cases_Bool}
use Rattle.link_trait.specs.Wires.{Call, Closes}
use Rattle.loop_model.specs.Journals.{JournalEntry}
use Rattle.loop_model.specs.Sessions.{Rules, Session}
use Rattle.loop_model.specs.Visits.{Met, Visit, visited}
use Rattle.loop_model.specs.Loops.{Plan, rules_of, visit_at, numbers}
use Rattle.loop_model.specs.Parts.{opened_in, Rises, newest}
use Rattle.loop_model.specs.Laws.{IsFew, FewAreLive, SessionsRise}
use Rattle.loop_model.proofs.Projections.{opened_in-append, rises_first, rises_rest, newest-append}
use Rattle.loop_model.proofs.Steadies.{Calls, Left, Stays, Closed, left_visited}
use Rattle.loop_model.proofs.Loopwise.{Loopwise, wise_run}
use Rattle.loop_model.proofs.Lives.{Own}
use Rattle.loop_model.proofs.Owns.{AllGiven, own_steady, own_bare, own_reads, usual_calls}

all_given : AllGiven (λ g. Unit {0})
all_given = record { usual = record { sends = λ text. tt; leaves = λ sub. tt; takes = tt }; hears = λ octets. tt; ticks = tt; ends = tt; faults = tt }

pub own_calls : (r : Rules) → Calls r Own
own_calls r = usual_calls r (λ g. Unit {0}) Own (own_steady r) all_given own_bare own_reads

-- ---- how many

pub left_few : (s : Session ModelEnd) (ts : List (Session ModelEnd)) (xs : List JournalEntry) (cs : List Call) → Left Own s ts xs cs → length ts ≤ 1
left_few s ts xs cs (Stays t p q) = subst (λ z. length z ≤ 1) (sym p) (omega arith)
left_few s ts xs cs (Closed t ds over p e q) = subst (λ z. length z ≤ 1) (sym p) (omega arith)

one_at_most : (a b c : ℕ) → c ≡ a + b → a ≤ 1 → c ≤ suc b
one_at_most a b c p q = omega arith

visit_few : (r : Rules) (m : ℕ) (visit : Visit) (n : ℕ) (ss : List (Session ModelEnd)) (a : Met) → length (visit_at (visited model_ends r m visit) n ss a).state ≤ length ss
unfolding visit_at
visit_few r m visit n [] a = omega arith
visit_few r m visit n (s ∷ ss) a =
    let o = visited model_ends r m visit s a in
    elim (cases_Bool (s.number == n)) [
      | inl p ↦ rw p (one_at_most (length o.state) (length ss) _ (length-append o.state ss) (left_few s _ _ _ (left_visited r Own (own_calls r) visit m s a)))
      | inr p ↦ rw p (let h : length (visit_at (visited model_ends r m visit) n ss a).state ≤ length ss = visit_few r m visit n ss a in omega arith)
    ]

unfoldable pub Few : List (Session ModelEnd) → List (Session ModelEnd) → List JournalEntry → List Call → Type 0
Few ss ts xs cs = IsFew ss → IsFew ts

pub few : (plan : Plan) → Loopwise plan Few
unfolding Few
few plan = record {
  none = λ ss p. p;
  then_ = λ ss ts us xs ys cs ds p q f. q (p f);
  visit = λ m visit n ss a f. (let h : length (visit_at (visited model_ends (rules_of plan) m visit) n ss a).state ≤ length ss = visit_few (rules_of plan) m visit n ss a in omega arith);
  turned = λ ss until happening none f. f;
  opened = λ l until conn mind fits f.
      (let lt : length l.sessions < most_live = ltb-true (length l.sessions) most_live fits in
      rw (length-append {A = Session ModelEnd}) (omega arith));
  full = λ ss m live until conn most f. f;
  unserved = λ ss m handed until conn f. f;
}

pub few_are_live : FewAreLive
unfolding Few
few_are_live plan c turns f = wise_run plan Few (few plan) c turns f

-- ---- their order

-- numbers up to this one
unfoldable pub UpTo : ℕ → List ℕ → Type 0
UpTo top [] = Unit {0}
UpTo top (n ∷ ns) = (n ≤ top) × UpTo top ns

rises_down : (a b : ℕ) (ns : List ℕ) → a ≤ b → Rises b ns → Rises a ns
rises_down a b [] p q = tt
rises_down a b (n ∷ ns) p q = (let h : b < n = q.0 in omega arith, q.1)

pub up_to_more : (a b : ℕ) (ns : List ℕ) → a ≤ b → UpTo a ns → UpTo b ns
unfolding UpTo
up_to_more a b [] p q = tt
up_to_more a b (n ∷ ns) p q = (let h : n ≤ a = q.0 in omega arith, up_to_more a b ns p q.1)

-- what a visit of the first session leaves
rises_left : (from : ℕ) (s : Session ModelEnd) (ss ts : List (Session ModelEnd)) (xs : List JournalEntry) (cs : List Call) → Left Own s ts xs cs
    → Rises from (numbers (s ∷ ss)) → Rises from (numbers (ts ++ ss))
rises_left from s ss ts xs cs (Stays t p q) h = rw p (subst (λ z. (from < z) × Rises z (numbers ss)) (sym q.number) h)
rises_left from s ss ts xs cs (Closed t ds over p e q) h = rw p (rises_down from s.number (numbers ss) (let x : from < s.number = h.0 in omega arith) h.1)

up_to_left : (top : ℕ) (s : Session ModelEnd) (ss ts : List (Session ModelEnd)) (xs : List JournalEntry) (cs : List Call) → Left Own s ts xs cs
    → UpTo top (numbers (s ∷ ss)) → UpTo top (numbers (ts ++ ss))
unfolding UpTo
up_to_left top s ss ts xs cs (Stays t p q) h = rw p (subst (λ z. (z ≤ top) × UpTo top (numbers ss)) (sym q.number) h)
up_to_left top s ss ts xs cs (Closed t ds over p e q) h = rw p h.1

pub visit_rises : (r : Rules) (m : ℕ) (visit : Visit) (n from : ℕ) (ss : List (Session ModelEnd)) (a : Met) → Rises from (numbers ss)
    → Rises from (numbers (visit_at (visited model_ends r m visit) n ss a).state)
unfolding visit_at
visit_rises r m visit n from [] a h = tt
visit_rises r m visit n from (s ∷ ss) a h =
    elim (cases_Bool (s.number == n)) [
      | inl p ↦ rw p (rises_left from s ss _ _ _ (left_visited r Own (own_calls r) visit m s a) h)
      | inr p ↦ rw p (h.0, visit_rises r m visit n s.number ss a h.1)
    ]

visit_up_to : (r : Rules) (m : ℕ) (visit : Visit) (n top : ℕ) (ss : List (Session ModelEnd)) (a : Met) → UpTo top (numbers ss)
    → UpTo top (numbers (visit_at (visited model_ends r m visit) n ss a).state)
unfolding visit_at UpTo
visit_up_to r m visit n top [] a h = tt
visit_up_to r m visit n top (s ∷ ss) a h =
    elim (cases_Bool (s.number == n)) [
      | inl p ↦ rw p (up_to_left top s ss _ _ _ (left_visited r Own (own_calls r) visit m s a) h)
      | inr p ↦ rw p (h.0, visit_up_to r m visit n top ss a h.1)
    ]

visit_opens : (r : Rules) (m : ℕ) (visit : Visit) (n : ℕ) (ss : List (Session ModelEnd)) (a : Met) → opened_in (visit_at (visited model_ends r m visit) n ss a).calls ≡ []
unfolding visit_at opened_in
visit_opens r m visit n [] a = refl
visit_opens r m visit n (s ∷ ss) a =
    elim (cases_Bool (s.number == n)) [
      | inl p ↦ rw p (left_opens s _ _ _ (left_visited r Own (own_calls r) visit m s a))
      | inr p ↦ rw p (visit_opens r m visit n ss a)
    ]
  where
    left_opens : (s : Session ModelEnd) (ts : List (Session ModelEnd)) (xs : List JournalEntry) (cs : List Call) → Left Own s ts xs cs → opened_in cs ≡ []
    left_opens s ts xs cs (Stays t p q) = q.opens
    left_opens s ts xs cs (Closed t ds over p e q) = ap opened_in e ∙ opened_in-append ds (Closes t.number ∷ []) ∙ ap (λ z. z ++ []) q.opens

rises_last : (from top n : ℕ) (ns : List ℕ) → Rises from ns → UpTo top ns → from ≤ top → top < n → Rises from (ns ++ n ∷ [])
unfolding UpTo
rises_last from top n [] p q f h = (omega arith, tt)
rises_last from top n (k ∷ ns) p q f h = (p.0, rises_last k top n ns p.1 q.1 q.0 h)

up_to_last : (top n : ℕ) (ns : List ℕ) → UpTo top ns → top < n → UpTo n (ns ++ n ∷ [])
unfolding UpTo
up_to_last top n [] q h = (omega arith, tt)
up_to_last top n (k ∷ ns) q h = ((let x : k ≤ top = q.0 in omega arith), up_to_last top n ns q.1 h)

numbers-last : (ss : List (Session ModelEnd)) (s : Session ModelEnd) → numbers (ss ++ s ∷ []) ≡ numbers ss ++ s.number ∷ []
numbers-last [] s = refl
numbers-last (t ∷ ss) s = ap (λ z. t.number ∷ z) (numbers-last ss s)

pub record Ordered (top : ℕ) (ss : List (Session ModelEnd)) : Type 0 where
  pub rises : Rises 0 (numbers ss)
  pub up_to : UpTo top (numbers ss)

unfoldable pub InOrder : List (Session ModelEnd) → List (Session ModelEnd) → List JournalEntry → List Call → Type 0
InOrder ss ts xs cs = (top : ℕ) → Rises top (opened_in cs) → Ordered top ss → Ordered (newest top (opened_in cs)) ts

ordered_more : (a b : ℕ) (ss : List (Session ModelEnd)) → a ≤ b → Ordered a ss → Ordered b ss
ordered_more a b ss p o = record { rises = o.rises; up_to = up_to_more a b (numbers ss) p o.up_to }

pub in_order : (plan : Plan) → Loopwise plan InOrder
unfolding InOrder opened_in
in_order plan = record {
  none = λ ss top r o. o;
  then_ = λ ss ts us xs ys cs ds p q top r o.
      let s = subst (λ z. Rises top z) (opened_in-append cs ds) r in
      subst (λ z. Ordered z us) (sym (ap (λ z. newest top z) (opened_in-append cs ds) ∙ newest-append top (opened_in cs) (opened_in ds)))
      (q (newest top (opened_in cs)) (rises_rest top (opened_in cs) (opened_in ds) s) (p top (rises_first top (opened_in cs) (opened_in ds) s) o));
  visit = λ m visit n ss a top r o.
      subst (λ z. Ordered (newest top z) (visit_at (visited model_ends (rules_of plan) m visit) n ss a).state) (sym (visit_opens (rules_of plan) m visit n ss a))
      (record {
        rises = visit_rises (rules_of plan) m visit n 0 ss a o.rises;
        up_to = visit_up_to (rules_of plan) m visit n top ss a o.up_to;
      });
  turned = λ ss until happening none top r o. subst (λ z. Ordered (newest top (z ++ [])) ss) (sym none) o;
  opened = λ l until conn mind fits top r o. record {
    rises = rw numbers-last (rises_last 0 top conn.0 (numbers l.sessions) o.rises o.up_to (omega arith) r.0);
    up_to = rw numbers-last (up_to_last top conn.0 (numbers l.sessions) o.up_to r.0);
  };
  full = λ ss m live until conn most top r o. ordered_more top conn.0 ss (let x : top < conn.0 = r.0 in omega arith) o;
  unserved = λ ss m handed until conn top r o. ordered_more top conn.0 ss (let x : top < conn.0 = r.0 in omega arith) o;
}

pub sessions_rise : SessionsRise
unfolding InOrder UpTo
sessions_rise plan c turns h =
    (wise_run plan InOrder (in_order plan) c turns 0 h.rises (rw h.none (record { rises = tt; up_to = tt }))).rises
