-- There are at most as many events `fault` as reads and writes that failed.
use Rattle.loop_model.specs.Ends.{ModelEnd, model_ends}
use Rattle.std.proofs.Common.{◌≡◌, ℕ, ◌+◌, ◌≤◌, inl, inr, false, List, [], ◌∷◌, ◌++◌, length, Option, Some, None, refl, sym, ◌∙◌, ap, subst, arith}
use Rattle.std.specs.Prelude.{nat_lt, ◌==◌}
use Rattle.std.proofs.lemmas.Bool.{cases_Bool}
use Rattle.er_users.specs.Users.{Mind}
use Rattle.rand_core.specs.Stream.{next_u64}
use Rattle.link_trait.specs.Wires.{Call, Reading, Gave, NotNow, End, Failed, Reads, Closes}
use Rattle.loop_model.specs.Journals.{JournalEntry}
use Rattle.loop_model.specs.Outs.{first_answer_of}
use Rattle.loop_model.specs.Sessions.{Rules, Session, GivenToSession, Begins, Hears, Sends, Takes, Leaves, Ticks, Ends, Faults, Stalls, most_output, journal_event_of_given, outcomes_of_given_event, octets_in, joined, fed, Says, nothing_said, handled}
use Rattle.loop_model.specs.Visits.{most_read, Met, Visit, came, visited}
use Rattle.loop_model.specs.Loops.{Plan, rules_of, Loop, visit_at, next_user, Caller, calling, called_by, called, Course, asks, Turn, run, Dialled, opens, dials_to, dials, begun_dial}
use Rattle.loop_model.specs.Laws.{is_fault, one_if, faults, failures, HasFailed, FaultsHaveFailed}
use Rattle.loop_model.proofs.Steadies.{Steady, Usual, Quiet, Calls, steady_handled, steady_pours, follows_handled, Left, Stays, Closed, left_served, left_visited}
use Rattle.loop_model.proofs.Loopwise.{Loopwise, wise_run}

pub faults-append : (xs ys : List JournalEntry) → faults (xs ++ ys) ≡ faults xs + faults ys
unfolding faults
faults-append [] ys = omega arith
faults-append (x ∷ xs) ys = let h : faults (xs ++ ys) ≡ faults xs + faults ys = faults-append xs ys in omega arith

failures-append : (cs ds : List Call) → failures (cs ++ ds) ≡ failures cs + failures ds
unfolding failures
failures-append [] ds = omega arith
failures-append (call ∷ cs) ds = let h : failures (cs ++ ds) ≡ failures cs + failures ds = failures-append cs ds in omega arith

Fails : Session ModelEnd → Session ModelEnd → List JournalEntry → List Call → Type 0
Fails s t xs cs = faults xs ≤ failures cs

-- every event but a fault
abbrev IsNoFault : GivenToSession → Type 0
IsNoFault (Begins engine rbc rb) = Unit {0}
IsNoFault (Hears octets) = Unit {0}
IsNoFault (Sends text) = Unit {0}
IsNoFault Takes = Unit {0}
IsNoFault (Leaves sub) = Unit {0}
IsNoFault Ticks = Unit {0}
IsNoFault Ends = Unit {0}
IsNoFault Faults = ⊥
IsNoFault Stalls = Unit {0}

no_fault : (k : ModelEnd) (g : GivenToSession) → IsNoFault g → is_fault (journal_event_of_given model_ends k g) ≡ false
no_fault k (Begins engine rbc rb) p = refl
no_fault k (Hears octets) p = refl
no_fault k (Sends text) p = refl
no_fault k Takes p = refl
no_fault k (Leaves sub) p = refl
no_fault k Ticks p = refl
no_fault k Ends p = refl
no_fault k Faults p = absurd p
no_fault k Stalls p = refl

then_fails : (a b c d e f : ℕ) → a ≤ b → c ≤ d → e ≡ a + c → f ≡ b + d → e ≤ f
then_fails a b c d e f p q r s = omega arith

steady : (r : Rules) → Steady r IsNoFault Fails
unfolding Fails faults failures
steady r = record {
  none = λ s. omega arith;
  then_ = λ s t u xs ys cs ds p q. then_fails (faults xs) (failures cs) (faults ys) (failures ds) _ _ p q (faults-append xs ys) (failures-append cs ds);
  given = λ m s g allowed fits. subst (λ z. one_if z + 0 ≤ 0) (sym (no_fault s.end g allowed)) (omega arith);
  stalls = λ m s g allowed fits. subst (λ z. one_if z + (0 + 0) ≤ 0) (sym (no_fault s.end g allowed)) (omega arith);
  heard = λ s mind. omega arith;
  parts = λ s told at gone. omega arith;
}

usual : Usual IsNoFault
usual = record { sends = λ text. tt; leaves = λ sub. tt; takes = tt }

pub fed_fault : (r : Rules) (m : ℕ) (s : Session ModelEnd) → faults (fed model_ends r m s Faults).1 ≡ 1
unfolding faults fed joined
fed_fault r m s =
    elim (cases_Bool (nat_lt most_output (length s.output + length (octets_in (outcomes_of_given_event model_ends r m s.end Faults))))) [
      | inl p ↦ rw p refl
      | inr p ↦ rw p refl
    ]

handled_fault : (r : Rules) (m : ℕ) (s : Session ModelEnd) (says : Says) → faults (handled model_ends r m s Faults says).1 ≤ 1
unfolding Fails failures
handled_fault r m s says =
    let f = follows_handled r IsNoFault Fails (steady r) usual m s Faults says in
    then_fails 1 1 (faults f.rest) 0 _ 1 (omega arith) f.holds
    (ap faults f.is ∙ faults-append (fed model_ends r m s Faults).1 f.rest ∙ ap (λ z. z + faults f.rest) (fed_fault r m s)) refl

bound : (a b : ℕ) → a ≤ b → a ≤ b + 0
bound a b p = omega arith

add_none : (a b : ℕ) → a ≤ b → a ≤ 0 + b
add_none a b p = omega arith

none_failed : (a b : ℕ) → a ≤ 0 → a ≤ b
none_failed a b p = omega arith

read_fails : (r : Rules) (m : ℕ) (s : Session ModelEnd) (waits : ℕ) (reading : Reading) (says : List Says)
    → faults (came model_ends reading r m s says).1 ≤ failures (Reads s.number most_read waits reading ∷ [])
unfolding Fails failures faults
read_fails r m s waits (Gave octets) says =
    none_failed _ (0 + 0) (steady_pours r IsNoFault Fails (steady r) usual (λ octets. tt) m s octets says)
read_fails r m s waits NotNow says = omega arith
read_fails r m s waits End says =
    none_failed _ (0 + 0) (steady_handled r IsNoFault Fails (steady r) usual m s Ends (first_answer_of nothing_said says) tt)
read_fails r m s waits Failed says = bound _ 1 (handled_fault r m s (first_answer_of nothing_said says))

quiet : (r : Rules) → Quiet r Fails
unfolding Fails failures faults
quiet r = record {
  none = (steady r).none;
  then_ = (steady r).then_;
  wrote = λ s n whole. omega arith;
  put_off = λ s. omega arith;
  noted = λ s. omega arith;
  failed = λ m s says live. bound _ 1 (handled_fault r m s says);
  failed_released = λ s gone. omega arith;
  ticked = λ m s says due. steady_handled r IsNoFault Fails (steady r) usual m s Ticks says tt;
}

calls : (r : Rules) → Calls r Fails
unfolding Fails
calls r = record { quiet = quiet r; read = λ m s a live. read_fails r m s a.waits a.reading a.says }

left_fails : (s : Session ModelEnd) (ts : List (Session ModelEnd)) (xs : List JournalEntry) (cs : List Call) → Left Fails s ts xs cs → faults xs ≤ failures cs
unfolding Fails failures
left_fails s ts xs cs (Stays t p q) = q
left_fails s ts xs cs (Closed t ds over p e q) =
    then_fails (faults xs) (failures ds) 0 (0 + 0) (faults xs) (failures cs) q (omega arith) (omega arith) (ap failures e ∙ failures-append ds (Closes t.number ∷ []))

visit_fails : (r : Rules) (m : ℕ) (visit : Visit) (n : ℕ) (ss : List (Session ModelEnd)) (a : Met)
    → faults (visit_at (visited model_ends r m visit) n ss a).entries ≤ failures (visit_at (visited model_ends r m visit) n ss a).calls
unfolding visit_at faults failures
visit_fails r m visit n [] a = omega arith
visit_fails r m visit n (s ∷ ss) a =
    elim (cases_Bool (s.number == n)) [
      | inl p ↦ rw p (left_fails s _ _ _ (left_visited r Fails (calls r) visit m s a))
      | inr p ↦ rw p (visit_fails r m visit n ss a)
    ]

Along : List (Session ModelEnd) → List (Session ModelEnd) → List JournalEntry → List Call → Type 0
Along ss ts xs cs = faults xs ≤ failures cs

wise : (plan : Plan) → Loopwise plan Along
unfolding Along faults failures
wise plan = record {
  none = λ ss. omega arith;
  then_ = λ ss ts us xs ys cs ds p q. then_fails (faults xs) (failures cs) (faults ys) (failures ds) _ _ p q (faults-append xs ys) (failures-append cs ds);
  visit = λ m visit n ss a. visit_fails (rules_of plan) m visit n ss a;
  turned = λ ss until happening none. omega arith;
  opened = λ l until conn mind fits. omega arith;
  full = λ ss m live until conn most. omega arith;
  unserved = λ ss m handed until conn. omega arith;
}

run_fails : (plan : Plan) (c : Course ModelEnd) (turns : List Turn) → HasFailed (run model_ends plan c turns)
unfolding Along
run_fails plan c turns = wise_run plan Along (wise plan) c turns

called_fails : (user : Option Mind) (plan : Plan) (caller : Caller) (l : Loop ModelEnd) (conn : ℕ) (a : Met)
    → faults (called_by model_ends user plan caller l conn a).entries ≤ failures (called_by model_ends user plan caller l conn a).calls
unfolding Fails faults failures
called_fails None plan caller l conn a = omega arith
called_fails (Some mind) plan caller l conn a =
    let r = rules_of plan in
    let s = begun_dial conn (calling model_ends plan caller l) mind in
    let g = Begins caller.engine plan.rbc (next_u64 l.words).0 in
    left_fails s _ _ _ (left_served r Fails (quiet r) l.moment s g a (steady_handled r IsNoFault Fails (steady r) usual l.moment s g (first_answer_of nothing_said a.says) tt))

dial_fails : (conn : Option ℕ) (plan : Plan) (caller : Caller) (c : Course ModelEnd) (address : List ℕ) (a : Dialled) → HasFailed (dials_to model_ends conn plan caller c address a)
unfolding called faults failures
dial_fails None plan caller c address a = omega arith
dial_fails (Some conn) plan caller c address a =
    let d = asks a.first c in
    let o = opens model_ends plan caller d conn a.met in
    let e = run model_ends plan o.state a.turns in
    add_none _ _
    (then_fails (faults o.entries) (failures o.calls) (faults e.entries) (failures e.calls) _ _
    (called_fails (next_user d.loop.users) plan caller d.loop conn a.met) (run_fails plan o.state a.turns)
    (faults-append o.entries e.entries) (failures-append o.calls e.calls))

pub have_failed : FaultsHaveFailed
unfolding dials
have_failed = record {
  serving = run_fails;
  dialling = λ plan caller c address a. dial_fails a.conn plan caller c address a;
}
