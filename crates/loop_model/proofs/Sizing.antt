-- Each read of a loop asks for 4,096 octets.
use Rattle.loop_model.specs.Ends.{ModelEnd, model_ends}
use Rattle.std.proofs.Common.{ℕ, inl, inr, List, [], ◌∷◌, ◌++◌, Option, Some, None, refl, sym, subst}
use Rattle.std.specs.Prelude.{◌==◌}
use Rattle.std.proofs.lemmas.Bool.{cases_Bool}
use Rattle.er_users.specs.Users.{Mind}
use Rattle.rand_core.specs.Stream.{next_u64}
use Rattle.link_trait.specs.Wires.{Call, Reading, Reads, Closes}
use Rattle.loop_model.specs.Journals.{JournalEntry}
use Rattle.loop_model.specs.Outs.{first_answer_of}
use Rattle.loop_model.specs.Sessions.{Rules, Session, Begins, nothing_said}
use Rattle.loop_model.specs.Visits.{most_read, Met, Visit, visited}
use Rattle.loop_model.specs.Loops.{Plan, rules_of, Loop, visit_at, next_user, Caller, calling, called_by, called, Course, asks, Turn, run, Dialled, opens, dials_to, dials, begun_dial}
use Rattle.loop_model.specs.Sizes.{AreSized, ReadsAreSized}
use Rattle.loop_model.proofs.Steadies.{Steady, Calls, Left, Stays, Closed, left_served, left_visited, steady_handled}
use Rattle.loop_model.proofs.Owns.{Bare, usual_calls}
use Rattle.loop_model.proofs.Givings.{all_given}
use Rattle.loop_model.proofs.Loopwise.{Loopwise, wise_run}

sized-append : (cs ds : List Call) → AreSized cs → AreSized ds → AreSized (cs ++ ds)
sized-append [] ds p q = q
sized-append (call ∷ cs) ds p q = (p.0, sized-append cs ds p.1 q)

unfoldable Sized : Session ModelEnd → Session ModelEnd → List JournalEntry → List Call → Type 0
Sized s t xs cs = AreSized cs

steady : (r : Rules) → Steady r (λ g. Unit {0}) Sized
unfolding Sized
steady r = record {
  none = λ s. tt;
  then_ = λ s t u xs ys cs ds p q. sized-append cs ds p q;
  given = λ m s g allowed fits. tt;
  stalls = λ m s g allowed fits. tt;
  heard = λ s mind. tt;
  parts = λ s told at gone. tt;
}

bare : Bare Sized
unfolding Sized
bare = record { wrote = λ s n whole. (tt, tt); put_off = λ s. (tt, tt); failed = λ s. (tt, tt); breaks = λ s gone. tt; noted = λ s. tt }

read_sized : (s : Session ModelEnd) (waits : ℕ) (reading : Reading) → Sized s s [] (Reads s.number most_read waits reading ∷ [])
unfolding Sized
read_sized s waits reading = (refl, tt)

each : (r : Rules) → Calls r Sized
each r = usual_calls r (λ g. Unit {0}) Sized (steady r) all_given bare read_sized

left_sized : (s : Session ModelEnd) (ts : List (Session ModelEnd)) (xs : List JournalEntry) (cs : List Call) → Left Sized s ts xs cs → AreSized cs
unfolding Sized
left_sized s ts xs cs (Stays t p q) = q
left_sized s ts xs cs (Closed t ds over p e q) = subst AreSized (sym e) (sized-append ds (Closes t.number ∷ []) q (tt, tt))

visit_sized : (r : Rules) (m : ℕ) (visit : Visit) (n : ℕ) (ss : List (Session ModelEnd)) (a : Met) → AreSized (visit_at (visited model_ends r m visit) n ss a).calls
unfolding visit_at
visit_sized r m visit n [] a = tt
visit_sized r m visit n (s ∷ ss) a =
    elim (cases_Bool (s.number == n)) [
      | inl p ↦ rw p (left_sized s _ _ _ (left_visited r Sized (each r) visit m s a))
      | inr p ↦ rw p (visit_sized r m visit n ss a)
    ]

unfoldable Goes : List (Session ModelEnd) → List (Session ModelEnd) → List JournalEntry → List Call → Type 0
Goes ss ts xs cs = AreSized cs

goes : (plan : Plan) → Loopwise plan Goes
unfolding Goes
goes plan = record {
  none = λ ss. tt;
  then_ = λ ss ts us xs ys cs ds p q. sized-append cs ds p q;
  visit = λ m visit n ss a. visit_sized (rules_of plan) m visit n ss a;
  turned = λ ss until happening none. (tt, tt);
  opened = λ l until conn mind fits. (tt, tt);
  full = λ ss m live until conn most. (tt, (tt, tt));
  unserved = λ ss m handed until conn. (tt, (tt, tt));
}

run_sized : (plan : Plan) (c : Course ModelEnd) (turns : List Turn) → AreSized (run model_ends plan c turns).calls
unfolding Goes
run_sized plan c turns = wise_run plan Goes (goes plan) c turns

called_sized : (user : Option Mind) (plan : Plan) (caller : Caller) (l : Loop ModelEnd) (conn : ℕ) (a : Met) → AreSized (called_by model_ends user plan caller l conn a).calls
unfolding Sized
called_sized None plan caller l conn a = (tt, tt)
called_sized (Some mind) plan caller l conn a =
    let r = rules_of plan in
    let s = begun_dial conn (calling model_ends plan caller l) mind in
    let g = Begins caller.engine plan.rbc (next_u64 l.words).0 in
    left_sized s _ _ _ (left_served r Sized (each r).quiet l.moment s g a (steady_handled r (λ g. Unit {0}) Sized (steady r) all_given.usual l.moment s g (first_answer_of nothing_said a.says) tt))

dialled_sized : (at : Option ℕ) (plan : Plan) (caller : Caller) (c : Course ModelEnd) (address : List ℕ) (a : Dialled) → AreSized (dials_to model_ends at plan caller c address a).calls
unfolding called
dialled_sized None plan caller c address a = (tt, tt)
dialled_sized (Some conn) plan caller c address a =
    let d = asks a.first c in
    let o = opens model_ends plan caller d conn a.met in
    (tt, sized-append o.calls (run model_ends plan o.state a.turns).calls (called_sized (next_user d.loop.users) plan caller d.loop conn a.met) (run_sized plan o.state a.turns))

pub reads_are_sized : ReadsAreSized
unfolding dials
reads_are_sized = record { serving = run_sized; dialling = λ plan caller c address a. dialled_sized a.conn plan caller c address a }
