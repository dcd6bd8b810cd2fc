-- A record begins with one listen or one dial, and a loop halts as closed exactly where it dials and no session is left.
use Rattle.trace_model.specs.Checks.{most_live}
use Rattle.loop_model.specs.Ends.{ModelEnd, model_ends}
use Rattle.std.proofs.Common.{◌≡◌, ◌⊎◌, ℕ, inl, inr, Bool, true, false, ◌&&◌, List, [], ◌∷◌, ◌++◌, length, drop, Option, Some, None, refl, sym, ◌∙◌, ap, subst, append-nil, append_assoc, true≢false, eqb-true, arith}
use Rattle.std.specs.Prelude.{◌==◌, nat_lt}
use Rattle.std.proofs.lemmas.Bool.{cases_Bool}
use Rattle.er_users.specs.Users.{Mind}
use Rattle.rand_core.specs.Stream.{next_u64}
use Rattle.link_trait.specs.Wires.{Call, Listens, Dials, Reading, Reads, Closes}
use Rattle.link_trait.specs.declared.wires.Happening.{Happening}
use Rattle.link_trait.specs.declared.wires.Happening.TheVariants as happening
use Rattle.loop_model.specs.Journals.{JournalEntry}
use Rattle.loop_model.specs.Outs.{Out, still, next, acts, exactly, first_answer_of}
use Rattle.loop_model.specs.Sessions.{Rules, Session, Begins, nothing_said}
use Rattle.loop_model.specs.Visits.{most_read, Met, nothing_met, Visit, Tick, Read, Write, Expire, visited}
use Rattle.loop_model.specs.Loops.{Plan, rules_of, Loop, visit_at, numbers, swept, before, next_user, answered_by, accepted, happened, Caller, calling, called_by, called, Halt, OnEnded, OnClosed, OnFailed, Course, asks, halt_by, halt_behind, Turn, readied, turned_unless, went_unless, went, nothing_comes, run, serves, Dialled, opens, dials_to, dials, begun_dial}
use Rattle.loop_model.specs.Laws.{happenings_in_call, turns_of, GoesOn, AllGoOn}
use Rattle.loop_model.specs.Records.{listen_or_dial_in, openings_of, BeginsOnly, FailsAtOnce, RecordsBegin, HaltsClosed, ClosedExactly, HaltsRest}
use Rattle.loop_model.proofs.Steadies.{Steady, Calls, Left, Stays, Closed, left_served, left_visited, steady_handled}
use Rattle.loop_model.proofs.Owns.{Bare, AllGiven, usual_calls}

pub turns_of-append : (cs ds : List Call) → turns_of (cs ++ ds) ≡ turns_of cs ++ turns_of ds
unfolding turns_of
turns_of-append [] ds = refl
turns_of-append (call ∷ cs) ds = ap (λ z. happenings_in_call call ++ z) (turns_of-append cs ds) ∙ sym (append_assoc (happenings_in_call call) (turns_of cs) (turns_of ds))

openings_of-append : (cs ds : List Call) → openings_of (cs ++ ds) ≡ openings_of cs ++ openings_of ds
unfolding openings_of
openings_of-append [] ds = refl
openings_of-append (call ∷ cs) ds = ap (λ z. listen_or_dial_in call ++ z) (openings_of-append cs ds) ∙ sym (append_assoc (listen_or_dial_in call) (openings_of cs) (openings_of ds))

-- ---- calls that are at a connection

record AreCalm (cs : List Call) : Type 0 where
  openings : openings_of cs ≡ []
  turns : turns_of cs ≡ []

calm_none : AreCalm []
unfolding openings_of turns_of
calm_none = record { openings = refl; turns = refl }

calm_two : (cs ds : List Call) → AreCalm cs → AreCalm ds → AreCalm (cs ++ ds)
calm_two cs ds p q = record {
  openings = openings_of-append cs ds ∙ ap (λ z. z ++ openings_of ds) p.openings ∙ q.openings;
  turns = turns_of-append cs ds ∙ ap (λ z. z ++ turns_of ds) p.turns ∙ q.turns;
}

calm_one : (call : Call) → listen_or_dial_in call ≡ [] → happenings_in_call call ≡ [] → AreCalm (call ∷ [])
unfolding openings_of turns_of
calm_one call p q = record { openings = ap (λ z. z ++ []) p; turns = ap (λ z. z ++ []) q }

Calm : Session ModelEnd → Session ModelEnd → List JournalEntry → List Call → Type 0
Calm s t xs cs = AreCalm cs

steady : (r : Rules) → Steady r (λ g. Unit {0}) Calm
unfolding Calm
steady r = record {
  none = λ s. calm_none;
  then_ = λ s t u xs ys cs ds p q. calm_two cs ds p q;
  given = λ m s g allowed fits. calm_none;
  stalls = λ m s g allowed fits. calm_none;
  heard = λ s mind. calm_none;
  parts = λ s told at gone. calm_none;
}

bare : Bare Calm
unfolding Calm
bare = record { wrote = λ s n whole. calm_one _ refl refl; put_off = λ s. calm_one _ refl refl; failed = λ s. calm_one _ refl refl; breaks = λ s gone. calm_none; noted = λ s. calm_none }

all_given : AllGiven (λ g. Unit {0})
all_given = record { usual = record { sends = λ text. tt; leaves = λ sub. tt; takes = tt }; hears = λ octets. tt; ticks = tt; ends = tt; faults = tt }

read_calm : (s : Session ModelEnd) (waits : ℕ) (reading : Reading) → Calm s s [] (Reads s.number most_read waits reading ∷ [])
unfolding Calm
read_calm s waits reading = calm_one _ refl refl

calls : (r : Rules) → Calls r Calm
calls r = usual_calls r (λ g. Unit {0}) Calm (steady r) all_given bare read_calm

left_calm : (s : Session ModelEnd) (ts : List (Session ModelEnd)) (xs : List JournalEntry) (cs : List Call) → Left Calm s ts xs cs → AreCalm cs
unfolding Calm
left_calm s ts xs cs (Stays t p q) = q
left_calm s ts xs cs (Closed t ds over p e q) = subst AreCalm (sym e) (calm_two ds (Closes t.number ∷ []) q (calm_one (Closes t.number) refl refl))

visit_calm : (r : Rules) (m : ℕ) (visit : Visit) (n : ℕ) (ss : List (Session ModelEnd)) (a : Met) → AreCalm (visit_at (visited model_ends r m visit) n ss a).calls
unfolding visit_at
visit_calm r m visit n [] a = calm_none
visit_calm r m visit n (s ∷ ss) a =
    elim (cases_Bool (s.number == n)) [
      | inl p ↦ rw p (left_calm s _ _ _ (left_visited r Calm (calls r) visit m s a))
      | inr p ↦ rw p (visit_calm r m visit n ss a)
    ]

swept_calm : (r : Rules) (m : ℕ) (visit : Visit) (ns : List ℕ) (ss : List (Session ModelEnd)) (answers : List Met) → AreCalm (swept (visited model_ends r m visit) ns ss answers).calls
unfolding swept
swept_calm r m visit [] ss answers = calm_none
swept_calm r m visit (n ∷ ns) ss answers =
    let o = visit_at (visited model_ends r m visit) n ss (first_answer_of nothing_met answers) in
    calm_two o.calls (swept (visited model_ends r m visit) ns o.state (drop 1 answers)).calls (visit_calm r m visit n ss (first_answer_of nothing_met answers))
    (swept_calm r m visit ns o.state (drop 1 answers))

readied_calm : (plan : Plan) (c : Course ModelEnd) (a : Turn) → AreCalm (readied model_ends plan c a).calls
unfolding readied before
readied_calm plan c a =
    let d = asks a.first c in
    let r = rules_of plan in
    let m = d.loop.moment in
    let t = swept (visited model_ends r m Tick) (numbers d.loop.sessions) d.loop.sessions a.sweeps.ticks in
    let u = swept (visited model_ends r m Expire) (numbers t.state) t.state a.sweeps.closings in
    calm_two t.calls u.calls (swept_calm r m Tick (numbers d.loop.sessions) d.loop.sessions a.sweeps.ticks)
    (swept_calm r m Expire (numbers t.state) t.state a.sweeps.closings)

answered_calm : (user : Option Mind) (memory : Bool) (plan : Plan) (l : Loop ModelEnd) (conn : ℕ) → AreCalm (answered_by model_ends user memory plan l conn).calls
answered_calm None memory plan l conn = calm_one (Closes conn) refl refl
answered_calm (Some mind) true plan l conn = calm_none
answered_calm (Some mind) false plan l conn = calm_one (Closes conn) refl refl

happened_calm : (plan : Plan) (l : Loop ModelEnd) (what : Happening) (a : Met) → AreCalm (happened model_ends plan l what a).calls
unfolding happened accepted
happened_calm plan l (happening.Accepted conn) a =
    elim (cases_Bool (nat_lt (length l.sessions) most_live)) [
      | inl p ↦ rw p (answered_calm (next_user l.users) a.memory plan l conn.0)
      | inr p ↦ rw p (calm_one (Closes conn.0) refl refl)
    ]
happened_calm plan l (happening.Readable conn) a = visit_calm (rules_of plan) l.moment Read conn.0 l.sessions a
happened_calm plan l (happening.Writable conn) a = visit_calm (rules_of plan) l.moment Write conn.0 l.sessions a
happened_calm plan l happening.Quiet a = calm_none
happened_calm plan l happening.Ended a = calm_none
happened_calm plan l happening.Failed a = calm_none

called_calm : (user : Option Mind) (plan : Plan) (caller : Caller) (l : Loop ModelEnd) (conn : ℕ) (a : Met) → AreCalm (called_by model_ends user plan caller l conn a).calls
unfolding Calm
called_calm None plan caller l conn a = calm_one (Closes conn) refl refl
called_calm (Some mind) plan caller l conn a =
    let r = rules_of plan in
    let s = begun_dial conn (calling model_ends plan caller l) mind in
    let g = Begins caller.engine plan.rbc (next_u64 l.words).0 in
    left_calm s _ _ _ (left_served r Calm (calls r).quiet l.moment s g a (steady_handled r (λ g. Unit {0}) Calm (steady r) all_given.usual l.moment s g (first_answer_of nothing_said a.says) tt))

-- ---- turns

-- a course that goes on, or halted as closed, by its sessions; or halted by a turn
Lands : Plan → Course ModelEnd → List Happening → Type 0
Lands plan c whats =
    ((c.halt ≡ halt_by plan c.loop.sessions) × AllGoOn whats) ⊎ (((c.halt ≡ Some OnEnded) ⊎ (c.halt ≡ Some OnFailed)) × (AllGoOn whats → ⊥))

record Goes (plan : Plan) (c : Course ModelEnd) (o : Out (Course ModelEnd)) : Type 0 where
  openings : openings_of o.calls ≡ []
  lands : (whats : List Happening) → Lands plan c whats → Lands plan o.state (whats ++ turns_of o.calls)

still_goes : (plan : Plan) (c : Course ModelEnd) → Goes plan c (still c)
unfolding openings_of turns_of
still_goes plan c = record { openings = refl; lands = λ whats p. subst (λ z. Lands plan c z) (sym (append-nil whats)) p }

then_goes : (plan : Plan) (c : Course ModelEnd) (a b : Out (Course ModelEnd)) → Goes plan c a → Goes plan a.state b
    → Goes plan c (record { state = b.state; entries = a.entries ++ b.entries; calls = a.calls ++ b.calls; order = a.order ++ b.order })
then_goes plan c a b p q = record {
  openings = openings_of-append a.calls b.calls ∙ ap (λ z. z ++ openings_of b.calls) p.openings ∙ q.openings;
  lands = λ whats h.
      subst (λ z. Lands plan b.state z) (append_assoc whats (turns_of a.calls) (turns_of b.calls) ∙ ap (λ z. whats ++ z) (sym (turns_of-append a.calls b.calls)))
      (q.lands (whats ++ turns_of a.calls) (p.lands whats h));
}

on_last : (whats : List Happening) (what : Happening) → AllGoOn whats → GoesOn what → AllGoOn (whats ++ what ∷ [])
on_last [] what p q = (q, tt)
on_last (w ∷ whats) what p q = (p.0, on_last whats what p.1 q)

off_last : (whats : List Happening) (what : Happening) → AllGoOn (whats ++ what ∷ []) → GoesOn what
off_last [] what p = p.0
off_last (w ∷ whats) what p = off_last whats what p.1

-- where a course hasn't halted, all its turns went on
on_none : (plan : Plan) (c : Course ModelEnd) (whats : List Happening) → c.halt ≡ None → Lands plan c whats → AllGoOn whats
unfolding Lands
on_none plan c whats p (inl h) = h.1
on_none plan c whats p (inr (inl e, h)) = absurd (let x : Some OnEnded ≡ None = sym e ∙ p in let y : ⊥ = cc in y)
on_none plan c whats p (inr (inr e, h)) = absurd (let x : Some OnFailed ≡ None = sym e ∙ p in let y : ⊥ = cc in y)

behind_lands : (plan : Plan) (what : Happening) (c : Course ModelEnd) (whats : List Happening) → c.halt ≡ halt_behind plan what c.loop.sessions → AllGoOn whats
    → Lands plan c (whats ++ what ∷ [])
unfolding Lands
behind_lands plan (happening.Accepted conn) c whats e p = inl (e, on_last whats (happening.Accepted conn) p tt)
behind_lands plan (happening.Readable conn) c whats e p = inl (e, on_last whats (happening.Readable conn) p tt)
behind_lands plan (happening.Writable conn) c whats e p = inl (e, on_last whats (happening.Writable conn) p tt)
behind_lands plan happening.Quiet c whats e p = inl (e, on_last whats happening.Quiet p tt)
behind_lands plan happening.Ended c whats e p = inr (inl e, λ q. off_last whats happening.Ended q)
behind_lands plan happening.Failed c whats e p = inr (inr e, λ q. off_last whats happening.Failed q)

readied_halt : (plan : Plan) (c : Course ModelEnd) (a : Turn) → (readied model_ends plan c a).state.halt ≡ halt_by plan (readied model_ends plan c a).state.loop.sessions
unfolding readied
readied_halt plan c a = refl

readied_goes : (plan : Plan) (c : Course ModelEnd) (a : Turn) → c.halt ≡ None → Goes plan c (readied model_ends plan c a)
unfolding Lands
readied_goes plan c a live =
    let d = readied model_ends plan c a in
    let calm = readied_calm plan c a in
    record {
      openings = calm.openings;
      lands = λ whats h.
          let on : AllGoOn (whats ++ turns_of d.calls) = subst (λ z. AllGoOn (whats ++ z)) (sym calm.turns) (subst AllGoOn (sym (append-nil whats)) (on_none plan c whats live h)) in
          inl (readied_halt plan c a, on);
    }

turned_goes : (halt : Option Halt) (plan : Plan) (d : Course ModelEnd) (a : Turn) → d.halt ≡ halt → Goes plan d (turned_unless model_ends halt plan d a)
unfolding openings_of turns_of
turned_goes (Some halt) plan d a is = still_goes plan d
turned_goes None plan d a is =
    let l = (asks a.second d).loop in
    let calm = happened_calm plan l a.happening a.met in
    let o = turned_unless model_ends None plan d a in
    record {
      openings = calm.openings;
      lands = λ whats h.
          subst (λ z. Lands plan o.state (whats ++ z)) (ap (λ z. a.happening ∷ z) (sym calm.turns))
          (behind_lands plan a.happening o.state whats refl (on_none plan d whats is h));
    }

went_goes : (halt : Option Halt) (plan : Plan) (c : Course ModelEnd) (a : Turn) → c.halt ≡ halt → Goes plan c (went_unless model_ends halt plan c a)
went_goes (Some halt) plan c a is = still_goes plan c
went_goes None plan c a is =
    let d = readied model_ends plan c a in
    then_goes plan c d (turned_unless model_ends d.state.halt plan d.state a) (readied_goes plan c a is) (turned_goes d.state.halt plan d.state a refl)

acts_goes : (plan : Plan) (answers : List Turn) (c : Course ModelEnd) → Goes plan c (acts (went model_ends plan) c answers)
unfolding acts went
acts_goes plan [] c = still_goes plan c
acts_goes plan (a ∷ answers) c =
    let o = went_unless model_ends c.halt plan c a in
    then_goes plan c o (acts (went model_ends plan) o.state answers) (went_goes c.halt plan c a refl) (acts_goes plan answers o.state)

run_goes : (plan : Plan) (c : Course ModelEnd) (turns : List Turn) → Goes plan c (run model_ends plan c turns)
unfolding run
run_goes plan c turns = acts_goes plan (exactly plan.turns nothing_comes turns) c

opens_goes : (plan : Plan) (caller : Caller) (c : Course ModelEnd) (conn : ℕ) (a : Met) → AreCalm (opens model_ends plan caller c conn a).calls
unfolding called
opens_goes plan caller c conn a = called_calm (next_user c.loop.users) plan caller c.loop conn a

-- ---- records

serves_begin : (plan : Plan) (c : Course ModelEnd) (address : List ℕ) (listens : Bool) (turns : List Turn)
    → BeginsOnly (Listens address listens) (serves model_ends plan c address listens turns).calls
unfolding serves openings_of
serves_begin plan c address true turns = record { rest = (run model_ends plan c turns).calls; is = refl; none = (run_goes plan c turns).openings }
serves_begin plan c address false turns = record { rest = []; is = refl; none = refl }

dials_begin : (conn : Option ℕ) (plan : Plan) (caller : Caller) (c : Course ModelEnd) (address : List ℕ) (a : Dialled)
    → BeginsOnly (Dials address conn) (dials_to model_ends conn plan caller c address a).calls
unfolding openings_of
dials_begin None plan caller c address a = record { rest = []; is = refl; none = refl }
dials_begin (Some conn) plan caller c address a =
    let o = opens model_ends plan caller (asks a.first c) conn a.met in
    let e = run model_ends plan o.state a.turns in
    record {
      rest = o.calls ++ e.calls;
      is = refl;
      none =
          openings_of-append o.calls e.calls ∙ ap (λ z. z ++ openings_of e.calls) (opens_goes plan caller (asks a.first c) conn a.met).openings
          ∙ (run_goes plan o.state a.turns).openings;
    }

serves_fail : (plan : Plan) (c : Course ModelEnd) (address : List ℕ) (turns : List Turn)
    → FailsAtOnce (Listens address false) (serves model_ends plan c address false turns)
unfolding serves
serves_fail plan c address turns = record { calls = refl; entries = refl; halt = refl }

dials_fail : (conn : Option ℕ) (plan : Plan) (caller : Caller) (c : Course ModelEnd) (address : List ℕ) (a : Dialled) → conn ≡ None
    → FailsAtOnce (Dials address None) (dials_to model_ends conn plan caller c address a)
dials_fail None plan caller c address a p = record { calls = refl; entries = refl; halt = refl }
dials_fail (Some conn) plan caller c address a p = absurd (let x : ⊥ = cc in x)

pub records_begin : RecordsBegin
unfolding dials
records_begin = record {
  serving = serves_begin;
  dialling = λ plan caller c address a. dials_begin a.conn plan caller c address a;
  deaf = serves_fail;
  undialled = λ plan caller c address a p. dials_fail a.conn plan caller c address a p;
}

-- ---- closed

-- where it halts as closed, it dials and no session is left
record IsLeft (plan : Plan) (ss : List (Session ModelEnd)) : Type 0 where
  dials : plan.dials ≡ true
  none : ss ≡ []

both_true : (a b : Bool) → (a && b) ≡ true → (a ≡ true) × (b ≡ true)
both_true true true p = (refl, refl)
both_true true false p = absurd (true≢false (sym p))
both_true false b p = absurd (true≢false (sym p))

none_left : (ss : List (Session ModelEnd)) → (length ss == 0) ≡ true → ss ≡ []
none_left [] p = refl
none_left (s ∷ ss) p = let e : length (s ∷ ss) ≡ 0 = eqb-true (length (s ∷ ss)) 0 p in absurd (omega arith)

left_of : (plan : Plan) (ss : List (Session ModelEnd)) → halt_by plan ss ≡ Some OnClosed → IsLeft plan ss
left_of plan ss p =
    elim (cases_Bool (plan.dials && (length ss == 0))) [
      | inl q ↦ let b = both_true plan.dials (length ss == 0) q in record { dials = b.0; none = none_left ss b.1 }
      | inr q ↦ absurd (let x : None ≡ Some OnClosed = rw q at p in let y : ⊥ = cc in y)
    ]

halt_of : (plan : Plan) (ss : List (Session ModelEnd)) → plan.dials ≡ true → ss ≡ [] → halt_by plan ss ≡ Some OnClosed
halt_of plan ss p q = rw (p, q) refl

closed_by : (plan : Plan) (o : Out (Course ModelEnd)) → Lands plan o.state (turns_of o.calls) → HaltsClosed plan o
unfolding Lands
closed_by plan o (inl (e, on)) = record {
  only = λ p. let l = left_of plan o.state.loop.sessions (sym e ∙ p) in record { dials = l.dials; on = on; none = l.none };
  each = λ d. e ∙ halt_of plan o.state.loop.sessions d.dials d.none;
}
closed_by plan o (inr (inl e, off)) = record {
  only = λ p. absurd (let x : Some OnEnded ≡ Some OnClosed = sym e ∙ p in let y : ⊥ = cc in y);
  each = λ d. absurd (off d.on);
}
closed_by plan o (inr (inr e, off)) = record {
  only = λ p. absurd (let x : Some OnFailed ≡ Some OnClosed = sym e ∙ p in let y : ⊥ = cc in y);
  each = λ d. absurd (off d.on);
}

run_closed : (plan : Plan) (c : Course ModelEnd) (turns : List Turn) → c.halt ≡ halt_by plan c.loop.sessions → HaltsClosed plan (run model_ends plan c turns)
unfolding Lands
run_closed plan c turns p = closed_by plan (run model_ends plan c turns) ((run_goes plan c turns).lands [] (inl (p, tt)))

dial_closed : (at : Option ℕ) (plan : Plan) (caller : Caller) (c : Course ModelEnd) (address : List ℕ) (a : Dialled) (conn : ℕ) → at ≡ Some conn
    → HaltsClosed plan (dials_to model_ends at plan caller c address a)
unfolding Lands turns_of
dial_closed None plan caller c address a conn p = absurd (let x : ⊥ = cc in x)
dial_closed (Some at) plan caller c address a conn p =
    let o = opens model_ends plan caller (asks a.first c) at a.met in
    let e = run model_ends plan o.state a.turns in
    let all = dials_to model_ends (Some at) plan caller c address a in
    let same : turns_of (o.calls ++ e.calls) ≡ turns_of e.calls =
    turns_of-append o.calls e.calls ∙ ap (λ z. z ++ turns_of e.calls) (opens_goes plan caller (asks a.first c) at a.met).turns in
    closed_by plan all (subst (λ z. Lands plan e.state z) (sym same) ((run_goes plan o.state a.turns).lands [] (inl (refl, tt))))

serves_open : (plan : Plan) (c : Course ModelEnd) (address : List ℕ) (listens : Bool) (turns : List Turn) → plan.dials ≡ false → c.halt ≡ None
    → (serves model_ends plan c address listens turns).state.halt ≡ Some OnClosed → ⊥
unfolding serves
serves_open plan c address true turns p q h =
    let begins : c.halt ≡ halt_by plan c.loop.sessions = rw p q in
    true≢false (sym ((run_closed plan c turns begins).only h).dials ∙ p)
serves_open plan c address false turns p q h = let x : Some OnFailed ≡ Some OnClosed = h in cc

pub closed_exactly : ClosedExactly
unfolding dials
closed_exactly = record {
  running = run_closed;
  dialling = λ plan caller c address a conn p. dial_closed a.conn plan caller c address a conn p;
  serving = serves_open;
}

went_rests : (plan : Plan) (c : Course ModelEnd) (a : Turn) (halt : Halt) → c.halt ≡ Some halt → went model_ends plan c a ≡ still c
unfolding went
went_rests plan c a halt p = ap (λ z. went_unless model_ends z plan c a) p

acts_rest : (plan : Plan) (answers : List Turn) (c : Course ModelEnd) (halt : Halt) → c.halt ≡ Some halt → acts (went model_ends plan) c answers ≡ still c
unfolding acts
acts_rest plan [] c halt p = refl
acts_rest plan (a ∷ answers) c halt p =
    ap (λ (z : Out (Course ModelEnd)). next z (λ t. acts (went model_ends plan) t answers)) (went_rests plan c a halt p) ∙ acts_rest plan answers c halt p

run_rests : (plan : Plan) (c : Course ModelEnd) (turns : List Turn) (halt : Halt) → c.halt ≡ Some halt → run model_ends plan c turns ≡ still c
unfolding run
run_rests plan c turns halt p = acts_rest plan (exactly plan.turns nothing_comes turns) c halt p

turn_rests : (plan : Plan) (c : Course ModelEnd) (a : Turn) (halt : Halt) → c.halt ≡ None → (readied model_ends plan c a).state.halt ≡ Some halt
    → went model_ends plan c a ≡ readied model_ends plan c a
unfolding went
turn_rests plan c a halt p q =
    let d = readied model_ends plan c a in
    ap (λ z. went_unless model_ends z plan c a) p
    ∙ ap (λ z. next d (λ (t : Course ModelEnd). turned_unless model_ends z plan t a)) q
    ∙ ap (λ z. record { state = d.state; entries = z; calls = d.calls ++ []; order = d.order ++ [] }) (append-nil d.entries)
    ∙ ap (λ z. record { state = d.state; entries = d.entries; calls = z; order = d.order ++ [] }) (append-nil d.calls)
    ∙ ap (λ z. record { state = d.state; entries = d.entries; calls = d.calls; order = z }) (append-nil d.order)

pub halts_rest : HaltsRest
halts_rest = record { run = run_rests; turn = turn_rests; none = λ plan c a. (readied_calm plan c a).turns }
