-- An event `ended` comes exactly where a read answered that the line ended.
use Rattle.loop_model.specs.Ends.{ModelEnd, model_ends}
use Rattle.std.proofs.Common.{◌≡◌, ℕ, ◌+◌, inl, inr, false, List, [], ◌∷◌, ◌++◌, length, Option, Some, None, refl, sym, ◌∙◌, ap, append-nil, append_assoc}
use Rattle.std.specs.Prelude.{nat_lt, ◌==◌}
use Rattle.std.proofs.lemmas.Bool.{cases_Bool}
use Rattle.er_users.specs.Users.{Mind}
use Rattle.rand_core.specs.Stream.{next_u64}
use Rattle.link_trait.specs.Wires.{Call, Reading, Gave, NotNow, End, Failed, Reads, Closes}
use Rattle.loop_model.specs.Journals.{JournalEntry}
use Rattle.loop_model.specs.Outs.{first_answer_of}
use Rattle.loop_model.specs.Sessions.{Rules, Session, GivenToSession, Begins, Hears, Sends, Takes, Leaves, Ticks, Ends, Faults, Stalls, most_output, journal_event_of_given, outcomes_of_given_event, octets_in, joined, fed, Says, nothing_said, handled}
use Rattle.loop_model.specs.Visits.{most_read, Met, Visit, came, visited}
use Rattle.loop_model.specs.Loops.{Plan, rules_of, Loop, visit_at, next_user, Caller, calling, called_by, called, Course, asks, Turn, run, Dialled, opens, dials_to, dials, begun_dial}
use Rattle.loop_model.specs.Turnings.{is_ended, ended, ended_by, ends_of, EndsAreTold}
use Rattle.loop_model.proofs.Steadies.{Steady, Usual, Quiet, Calls, steady_handled, steady_pours, follows_handled, Left, Stays, Closed, left_served, left_visited}
use Rattle.loop_model.proofs.Loopwise.{Loopwise, wise_run}

ended-append : (xs ys : List JournalEntry) → ended (xs ++ ys) ≡ ended xs ++ ended ys
unfolding ended
ended-append [] ys = refl
ended-append (x ∷ xs) ys =
    elim (cases_Bool (is_ended x.event)) [ inl p ↦ rw p (ap (λ z. x.conn ∷ z) (ended-append xs ys)) | inr p ↦ rw p (ended-append xs ys) ]

ends-append : (cs ds : List Call) → ends_of (cs ++ ds) ≡ ends_of cs ++ ends_of ds
unfolding ends_of
ends-append [] ds = refl
ends-append (call ∷ cs) ds = ap (λ z. ended_by call ++ z) (ends-append cs ds) ∙ sym (append_assoc (ended_by call) (ends_of cs) (ends_of ds))

Tells : Session ModelEnd → Session ModelEnd → List JournalEntry → List Call → Type 0
Tells s t xs cs = ended xs ≡ ends_of cs

-- every event but an end of the line
abbrev IsNoEnd : GivenToSession → Type 0
IsNoEnd (Begins engine rbc rb) = Unit {0}
IsNoEnd (Hears octets) = Unit {0}
IsNoEnd (Sends text) = Unit {0}
IsNoEnd Takes = Unit {0}
IsNoEnd (Leaves sub) = Unit {0}
IsNoEnd Ticks = Unit {0}
IsNoEnd Ends = ⊥
IsNoEnd Faults = Unit {0}
IsNoEnd Stalls = Unit {0}

no_end : (k : ModelEnd) (g : GivenToSession) → IsNoEnd g → is_ended (journal_event_of_given model_ends k g) ≡ false
no_end k (Begins engine rbc rb) p = refl
no_end k (Hears octets) p = refl
no_end k (Sends text) p = refl
no_end k Takes p = refl
no_end k (Leaves sub) p = refl
no_end k Ticks p = refl
no_end k Ends p = absurd p
no_end k Faults p = refl
no_end k Stalls p = refl

both_told : (xs ys : List JournalEntry) (cs ds : List Call) → ended xs ≡ ends_of cs → ended ys ≡ ends_of ds → ended (xs ++ ys) ≡ ends_of (cs ++ ds)
both_told xs ys cs ds p q = ended-append xs ys ∙ ap (λ z. z ++ ended ys) p ∙ ap (λ z. ends_of cs ++ z) q ∙ sym (ends-append cs ds)

steady : (r : Rules) → Steady r IsNoEnd Tells
unfolding Tells ended ends_of
steady r = record {
  none = λ s. refl;
  then_ = λ s t u xs ys cs ds p q. both_told xs ys cs ds p q;
  given = λ m s g allowed fits. rw (no_end s.end g allowed) refl;
  stalls = λ m s g allowed fits. rw (no_end s.end g allowed) refl;
  heard = λ s mind. refl;
  parts = λ s told at gone. refl;
}

usual : Usual IsNoEnd
usual = record { sends = λ text. tt; leaves = λ sub. tt; takes = tt }

fed_end : (r : Rules) (m : ℕ) (s : Session ModelEnd) → ended (fed model_ends r m s Ends).1 ≡ s.number ∷ []
unfolding ended fed joined
fed_end r m s =
    elim (cases_Bool (nat_lt most_output (length s.output + length (octets_in (outcomes_of_given_event model_ends r m s.end Ends))))) [ inl p ↦ rw p refl | inr p ↦ rw p refl ]

handled_end : (r : Rules) (m : ℕ) (s : Session ModelEnd) (says : Says) → ended (handled model_ends r m s Ends says).1 ≡ s.number ∷ []
unfolding Tells ends_of
handled_end r m s says =
    let f = follows_handled r IsNoEnd Tells (steady r) usual m s Ends says in
    ap ended f.is ∙ ended-append (fed model_ends r m s Ends).1 f.rest ∙ ap (λ z. z ++ ended f.rest) (fed_end r m s) ∙ ap (λ z. s.number ∷ z) f.holds

read_told : (r : Rules) (m : ℕ) (s : Session ModelEnd) (waits : ℕ) (reading : Reading) (says : List Says)
    → ended (came model_ends reading r m s says).1 ≡ ends_of (Reads s.number most_read waits reading ∷ [])
unfolding Tells ended ends_of
read_told r m s waits (Gave octets) says = steady_pours r IsNoEnd Tells (steady r) usual (λ octets. tt) m s octets says
read_told r m s waits NotNow says = refl
read_told r m s waits End says = handled_end r m s (first_answer_of nothing_said says)
read_told r m s waits Failed says = steady_handled r IsNoEnd Tells (steady r) usual m s Faults (first_answer_of nothing_said says) tt

quiet : (r : Rules) → Quiet r Tells
unfolding Tells ended ends_of
quiet r = record {
  none = (steady r).none;
  then_ = (steady r).then_;
  wrote = λ s n whole. refl;
  put_off = λ s. refl;
  noted = λ s. refl;
  failed = λ m s says live. steady_handled r IsNoEnd Tells (steady r) usual m s Faults says tt;
  failed_released = λ s gone. refl;
  ticked = λ m s says due. steady_handled r IsNoEnd Tells (steady r) usual m s Ticks says tt;
}

calls : (r : Rules) → Calls r Tells
unfolding Tells
calls r = record { quiet = quiet r; read = λ m s a live. read_told r m s a.waits a.reading a.says }

left_told : (s : Session ModelEnd) (ts : List (Session ModelEnd)) (xs : List JournalEntry) (cs : List Call) → Left Tells s ts xs cs → ended xs ≡ ends_of cs
unfolding Tells ended ends_of
left_told s ts xs cs (Stays t p q) = q
left_told s ts xs cs (Closed t ds over p e q) = q ∙ sym (ap ends_of e ∙ ends-append ds (Closes t.number ∷ []) ∙ append-nil (ends_of ds))

visit_told : (r : Rules) (m : ℕ) (visit : Visit) (n : ℕ) (ss : List (Session ModelEnd)) (a : Met)
    → ended (visit_at (visited model_ends r m visit) n ss a).entries ≡ ends_of (visit_at (visited model_ends r m visit) n ss a).calls
unfolding visit_at ended ends_of
visit_told r m visit n [] a = refl
visit_told r m visit n (s ∷ ss) a =
    elim (cases_Bool (s.number == n)) [
      | inl p ↦ rw p (left_told s _ _ _ (left_visited r Tells (calls r) visit m s a))
      | inr p ↦ rw p (visit_told r m visit n ss a)
    ]

Along : List (Session ModelEnd) → List (Session ModelEnd) → List JournalEntry → List Call → Type 0
Along ss ts xs cs = ended xs ≡ ends_of cs

wise : (plan : Plan) → Loopwise plan Along
unfolding Along ended ends_of
wise plan = record {
  none = λ ss. refl;
  then_ = λ ss ts us xs ys cs ds p q. both_told xs ys cs ds p q;
  visit = λ m visit n ss a. visit_told (rules_of plan) m visit n ss a;
  turned = λ ss until happening none. refl;
  opened = λ l until conn mind fits. refl;
  full = λ ss m live until conn most. refl;
  unserved = λ ss m handed until conn. refl;
}

run_told : (plan : Plan) (c : Course ModelEnd) (turns : List Turn) → ended (run model_ends plan c turns).entries ≡ ends_of (run model_ends plan c turns).calls
unfolding Along
run_told plan c turns = wise_run plan Along (wise plan) c turns

called_told : (user : Option Mind) (plan : Plan) (caller : Caller) (l : Loop ModelEnd) (conn : ℕ) (a : Met)
    → ended (called_by model_ends user plan caller l conn a).entries ≡ ends_of (called_by model_ends user plan caller l conn a).calls
unfolding Tells ended ends_of
called_told None plan caller l conn a = refl
called_told (Some mind) plan caller l conn a =
    let r = rules_of plan in
    let s = begun_dial conn (calling model_ends plan caller l) mind in
    let g = Begins caller.engine plan.rbc (next_u64 l.words).0 in
    left_told s _ _ _ (left_served r Tells (quiet r) l.moment s g a (steady_handled r IsNoEnd Tells (steady r) usual l.moment s g (first_answer_of nothing_said a.says) tt))

dial_told : (conn : Option ℕ) (plan : Plan) (caller : Caller) (c : Course ModelEnd) (address : List ℕ) (a : Dialled)
    → ended (dials_to model_ends conn plan caller c address a).entries ≡ ends_of (dials_to model_ends conn plan caller c address a).calls
unfolding called ended ends_of
dial_told None plan caller c address a = refl
dial_told (Some conn) plan caller c address a =
    let d = asks a.first c in
    let o = opens model_ends plan caller d conn a.met in
    let e = run model_ends plan o.state a.turns in
    both_told o.entries e.entries o.calls e.calls (called_told (next_user d.loop.users) plan caller d.loop conn a.met) (run_told plan o.state a.turns)

pub ends_are_told : EndsAreTold
unfolding dials
ends_are_told = record {
  serving = run_told;
  dialling = λ plan caller c address a. dial_told a.conn plan caller c address a;
}
