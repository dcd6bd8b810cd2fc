-- Turns are counted, a loop halts by its last turn, and its moment is the greatest that the clock answered.
use Rattle.trace_model.specs.Checks.{most_live}
use Rattle.loop_model.specs.Ends.{ModelEnd, model_ends}
use Rattle.std.proofs.Common.{◌≡◌, ℕ, zero, suc, ◌+◌, ◌≤◌, max, inl, inr, Bool, true, false, ◌&&◌, List, [], ◌∷◌, ◌++◌, length, drop, Option, Some, None, refl, sym, ◌∙◌, ap, subst, append-nil, append_assoc, arith, length-append}
use Rattle.std.specs.Prelude.{◌==◌, nat_lt}
use Rattle.std.proofs.lemmas.Bool.{cases_Bool}
use Rattle.er_users.specs.Users.{Mind}
use Rattle.link_trait.specs.Wires.{Call, Reading, Reads, Closes}
use Rattle.link_trait.specs.declared.wires.Happening.{Happening}
use Rattle.link_trait.specs.declared.wires.Happening.TheVariants as happening
use Rattle.loop_model.specs.Journals.{JournalEntry}
use Rattle.loop_model.specs.Outs.{Out, acts, exactly, first_answer_of}
use Rattle.loop_model.specs.Sessions.{Rules, Session}
use Rattle.loop_model.specs.Visits.{most_read, Met, nothing_met, Visit, Tick, Read, Write, Expire, visited}
use Rattle.loop_model.specs.Loops.{Plan, rules_of, Loop, visit_at, numbers, swept, before, next_user, answered_by, accepted, happened, Halt, Course, asks, halt_by, halt_behind, Turn, readied, turned_unless, went_unless, went, nothing_comes, run}
use Rattle.loop_model.specs.Laws.{happenings_in_call, turns_of, GoesOn, AllGoOn, HaltsBy, greatest, TurnsAreCounted}
use Rattle.loop_model.proofs.Steadies.{Steady, Calls, Left, Stays, Closed, left_visited}
use Rattle.loop_model.proofs.Owns.{Bare, AllGiven, usual_calls}

turns_of-append : (cs ds : List Call) → turns_of (cs ++ ds) ≡ turns_of cs ++ turns_of ds
unfolding turns_of
turns_of-append [] ds = refl
turns_of-append (call ∷ cs) ds = ap (λ z. happenings_in_call call ++ z) (turns_of-append cs ds) ∙ sym (append_assoc (happenings_in_call call) (turns_of cs) (turns_of ds))

-- ---- visits make no turn

NoTurn : Session ModelEnd → Session ModelEnd → List JournalEntry → List Call → Type 0
NoTurn s t xs cs = turns_of cs ≡ []

steady : (r : Rules) → Steady r (λ g. Unit {0}) NoTurn
unfolding NoTurn turns_of
steady r = record {
  none = λ s. refl;
  then_ = λ s t u xs ys cs ds p q. turns_of-append cs ds ∙ ap (λ z. z ++ turns_of ds) p ∙ q;
  given = λ m s g allowed fits. refl;
  stalls = λ m s g allowed fits. refl;
  heard = λ s mind. refl;
  parts = λ s told at gone. refl;
}

bare : Bare NoTurn
unfolding NoTurn turns_of
bare = record { wrote = λ s n whole. refl; put_off = λ s. refl; failed = λ s. refl; breaks = λ s gone. refl; noted = λ s. refl }

all_given : AllGiven (λ g. Unit {0})
all_given = record { usual = record { sends = λ text. tt; leaves = λ sub. tt; takes = tt }; hears = λ octets. tt; ticks = tt; ends = tt; faults = tt }

read_no_turn : (s : Session ModelEnd) (waits : ℕ) (reading : Reading) → NoTurn s s [] (Reads s.number most_read waits reading ∷ [])
unfolding NoTurn turns_of
read_no_turn s waits reading = refl

calls : (r : Rules) → Calls r NoTurn
calls r = usual_calls r (λ g. Unit {0}) NoTurn (steady r) all_given bare read_no_turn

left_none : (s : Session ModelEnd) (ts : List (Session ModelEnd)) (xs : List JournalEntry) (cs : List Call) → Left NoTurn s ts xs cs → turns_of cs ≡ []
unfolding NoTurn turns_of
left_none s ts xs cs (Stays t p q) = q
left_none s ts xs cs (Closed t ds over p e q) = ap turns_of e ∙ turns_of-append ds (Closes t.number ∷ []) ∙ append-nil (turns_of ds) ∙ q

visit_none : (r : Rules) (m : ℕ) (visit : Visit) (n : ℕ) (ss : List (Session ModelEnd)) (a : Met) → turns_of (visit_at (visited model_ends r m visit) n ss a).calls ≡ []
unfolding visit_at turns_of
visit_none r m visit n [] a = refl
visit_none r m visit n (s ∷ ss) a =
    elim (cases_Bool (s.number == n)) [
      | inl p ↦ rw p (left_none s _ _ _ (left_visited r NoTurn (calls r) visit m s a))
      | inr p ↦ rw p (visit_none r m visit n ss a)
    ]

swept_none : (r : Rules) (m : ℕ) (visit : Visit) (ns : List ℕ) (ss : List (Session ModelEnd)) (answers : List Met) → turns_of (swept (visited model_ends r m visit) ns ss answers).calls ≡ []
unfolding swept turns_of
swept_none r m visit [] ss answers = refl
swept_none r m visit (n ∷ ns) ss answers =
    let o = visit_at (visited model_ends r m visit) n ss (first_answer_of nothing_met answers) in
    turns_of-append o.calls (swept (visited model_ends r m visit) ns o.state (drop 1 answers)).calls
    ∙ ap (λ z. z ++ turns_of (swept (visited model_ends r m visit) ns o.state (drop 1 answers)).calls) (visit_none r m visit n ss (first_answer_of nothing_met answers))
    ∙ swept_none r m visit ns o.state (drop 1 answers)

readied_none : (plan : Plan) (c : Course ModelEnd) (a : Turn) → turns_of (readied model_ends plan c a).calls ≡ []
unfolding readied before
readied_none plan c a =
    let d = asks a.first c in
    let r = rules_of plan in
    let m = d.loop.moment in
    let t = swept (visited model_ends r m Tick) (numbers d.loop.sessions) d.loop.sessions a.sweeps.ticks in
    let u = swept (visited model_ends r m Expire) (numbers t.state) t.state a.sweeps.closings in
    turns_of-append t.calls u.calls
    ∙ ap (λ z. z ++ turns_of u.calls) (swept_none r m Tick (numbers d.loop.sessions) d.loop.sessions a.sweeps.ticks)
    ∙ swept_none r m Expire (numbers t.state) t.state a.sweeps.closings

-- what happened brings no turn, and leaves the moment
record Brings (l : Loop ModelEnd) (o : Out (Loop ModelEnd)) : Type 0 where
  none : turns_of o.calls ≡ []
  moment : o.state.moment ≡ l.moment

answered_brings : (user : Option Mind) (memory : Bool) (plan : Plan) (l : Loop ModelEnd) (conn : ℕ) → Brings l (answered_by model_ends user memory plan l conn)
unfolding turns_of
answered_brings None memory plan l conn = record { none = refl; moment = refl }
answered_brings (Some mind) true plan l conn = record { none = refl; moment = refl }
answered_brings (Some mind) false plan l conn = record { none = refl; moment = refl }

happened_brings : (plan : Plan) (l : Loop ModelEnd) (what : Happening) (a : Met) → Brings l (happened model_ends plan l what a)
unfolding happened accepted turns_of
happened_brings plan l (happening.Accepted conn) a =
    elim (cases_Bool (nat_lt (length l.sessions) most_live)) [
      | inl p ↦ rw p (answered_brings (next_user l.users) a.memory plan l conn.0)
      | inr p ↦ rw p (record { none = refl; moment = refl })
    ]
happened_brings plan l (happening.Readable conn) a = record { none = visit_none (rules_of plan) l.moment Read conn.0 l.sessions a; moment = refl }
happened_brings plan l (happening.Writable conn) a = record { none = visit_none (rules_of plan) l.moment Write conn.0 l.sessions a; moment = refl }
happened_brings plan l happening.Quiet a = record { none = refl; moment = refl }
happened_brings plan l happening.Ended a = record { none = refl; moment = refl }
happened_brings plan l happening.Failed a = record { none = refl; moment = refl }

-- ---- what a course keeps

record Kept (c : Course ModelEnd) (whats : List Happening) : Type 0 where
  halts : HaltsBy c.halt whats
  turns : c.turns ≡ length whats
  moment : c.loop.moment ≡ greatest 0 c.asked

all_on-last : (whats : List Happening) (what : Happening) → AllGoOn whats → GoesOn what → AllGoOn (whats ++ what ∷ [])
all_on-last [] what p q = (q, tt)
all_on-last (w ∷ whats) what p q = (p.0, all_on-last whats what p.1 q)

greatest-last : (m : ℕ) (ats : List ℕ) (at : ℕ) → greatest m (ats ++ at ∷ []) ≡ max (greatest m ats) at
greatest-last m [] at = refl
greatest-last m (x ∷ ats) at = greatest-last (max m x) ats at

closed_or_not : (plan : Plan) (ss : List (Session ModelEnd)) (whats : List Happening) → AllGoOn whats → HaltsBy (halt_by plan ss) whats
closed_or_not plan ss whats p = elim (cases_Bool (plan.dials && (length ss == 0))) [ inl q ↦ rw q p | inr q ↦ rw q p ]

halts_behind : (plan : Plan) (what : Happening) (ss : List (Session ModelEnd)) (whats : List Happening) → AllGoOn whats → HaltsBy (halt_behind plan what ss) (whats ++ what ∷ [])
halts_behind plan (happening.Accepted conn) ss whats p = closed_or_not plan ss (whats ++ happening.Accepted conn ∷ []) (all_on-last whats (happening.Accepted conn) p tt)
halts_behind plan (happening.Readable conn) ss whats p = closed_or_not plan ss (whats ++ happening.Readable conn ∷ []) (all_on-last whats (happening.Readable conn) p tt)
halts_behind plan (happening.Writable conn) ss whats p = closed_or_not plan ss (whats ++ happening.Writable conn ∷ []) (all_on-last whats (happening.Writable conn) p tt)
halts_behind plan happening.Quiet ss whats p = closed_or_not plan ss (whats ++ happening.Quiet ∷ []) (all_on-last whats happening.Quiet p tt)
halts_behind plan happening.Ended ss whats p = record { before = whats; is = refl; on = p }
halts_behind plan happening.Failed ss whats p = record { before = whats; is = refl; on = p }

asked_one : (c : Course ModelEnd) (whats : List Happening) (at : ℕ) → Kept c whats → max c.loop.moment at ≡ greatest 0 (c.asked ++ at ∷ [])
asked_one c whats at k = ap (λ z. max z at) k.moment ∙ sym (greatest-last 0 c.asked at)

-- a part of a run, from a course with these turns on
record Runs (c : Course ModelEnd) (whats : List Happening) (count : ℕ) (o : Out (Course ModelEnd)) : Type 0 where
  kept : Kept o.state (whats ++ turns_of o.calls)
  most : o.state.turns ≤ c.turns + count
  all : o.state.halt ≡ None → o.state.turns ≡ c.turns + count
  back : o.state.halt ≡ None → c.halt ≡ None

readied_kept : (plan : Plan) (c : Course ModelEnd) (a : Turn) (whats : List Happening) → AllGoOn whats → Kept c whats → Kept (readied model_ends plan c a).state whats
unfolding readied
readied_kept plan c a whats on k =
    let d = asks a.first c in
    record {
      halts = closed_or_not plan (before model_ends (rules_of plan) d.loop.moment d.loop.sessions a.sweeps).state whats on;
      turns = k.turns;
      moment = asked_one c whats a.first k;
    }

readied_turns : (plan : Plan) (c : Course ModelEnd) (a : Turn) → (readied model_ends plan c a).state.turns ≡ c.turns
unfolding readied
readied_turns plan c a = refl

at_most : (a b n : ℕ) → a ≡ b → a ≤ b + n
at_most a b n p = omega arith

turned_runs : (halt : Option Halt) (plan : Plan) (d : Course ModelEnd) (a : Turn) (whats : List Happening) → d.halt ≡ halt → AllGoOn whats → Kept d whats
    → Runs d whats 1 (turned_unless model_ends halt plan d a)
unfolding turns_of
turned_runs (Some halt) plan d a whats is on k = record {
  kept = rw (append-nil whats) k;
  most = at_most d.turns d.turns 1 refl;
  all = λ p. absurd (let q : Some halt ≡ None = sym is ∙ p in let x : ⊥ = cc in x);
  back = λ p. p;
}
turned_runs None plan d a whats is on k =
    let l = (asks a.second d).loop in
    let b = happened_brings plan l a.happening a.met in
    let o = happened model_ends plan l a.happening a.met in
    record {
      kept = rw b.none (record {
        halts = halts_behind plan a.happening o.state.sessions whats on;
        turns = ap (λ z. z + 1) k.turns ∙ sym (length-append whats (a.happening ∷ []));
        moment = b.moment ∙ asked_one d whats a.second k;
      });
      most = omega arith;
      all = λ p. refl;
      back = λ p. is;
    }

went_runs : (halt : Option Halt) (plan : Plan) (c : Course ModelEnd) (a : Turn) (whats : List Happening) → c.halt ≡ halt → Kept c whats
    → Runs c whats 1 (went_unless model_ends halt plan c a)
unfolding turns_of
went_runs (Some halt) plan c a whats is k = record {
  kept = rw (append-nil whats) k;
  most = at_most c.turns c.turns 1 refl;
  all = λ p. absurd (let q : Some halt ≡ None = sym is ∙ p in let x : ⊥ = cc in x);
  back = λ p. p;
}
went_runs None plan c a whats is k =
    let on : AllGoOn whats = subst (λ z. HaltsBy z whats) is k.halts in
    let d = readied model_ends plan c a in
    let t = turned_unless model_ends d.state.halt plan d.state a in
    let r = turned_runs d.state.halt plan d.state a whats refl on (readied_kept plan c a whats on k) in
    let same : d.state.turns ≡ c.turns = readied_turns plan c a in
    record {
      kept = subst (λ z. Kept t.state (whats ++ z)) (sym (turns_of-append d.calls t.calls ∙ ap (λ z. z ++ turns_of t.calls) (readied_none plan c a))) r.kept;
      most = subst (λ z. t.state.turns ≤ z + 1) same r.most;
      all = λ p. subst (λ z. t.state.turns ≡ z + 1) same (r.all p);
      back = λ p. is;
    }

step_runs : (plan : Plan) (c : Course ModelEnd) (a : Turn) (whats : List Happening) → Kept c whats → Runs c whats 1 (went model_ends plan c a)
unfolding went
step_runs plan c a whats k = went_runs c.halt plan c a whats refl k

chain_most : (a b c n : ℕ) → a ≤ b + n → b ≤ c + 1 → a ≤ c + suc n
chain_most a b c n p q = omega arith

chain_all : (a b c n : ℕ) → a ≡ b + n → b ≡ c + 1 → a ≡ c + suc n
chain_all a b c n p q = omega arith

all_run : (plan : Plan) (answers : List Turn) (c : Course ModelEnd) (whats : List Happening) → Kept c whats → Runs c whats (length answers) (acts (went model_ends plan) c answers)
unfolding acts turns_of
all_run plan [] c whats k = record {
  kept = rw (append-nil whats) k;
  most = omega arith;
  all = λ p. omega arith;
  back = λ p. p;
}
all_run plan (a ∷ answers) c whats k =
    let s = step_runs plan c a whats k in
    let o = went model_ends plan c a in
    let t = acts (went model_ends plan) o.state answers in
    let r = all_run plan answers o.state (whats ++ turns_of o.calls) s.kept in
    record {
      kept = subst (λ z. Kept t.state z) (append_assoc whats (turns_of o.calls) (turns_of t.calls) ∙ ap (λ z. whats ++ z) (sym (turns_of-append o.calls t.calls))) r.kept;
      most = chain_most t.state.turns o.state.turns c.turns (length answers) r.most s.most;
      all = λ p. chain_all t.state.turns o.state.turns c.turns (length answers) (r.all p) (s.all (r.back p));
      back = λ p. s.back (r.back p);
    }

length-exactly : {A : Type 0} (n : ℕ) (plain : A) (answers : List A) → length (exactly n plain answers) ≡ n
unfolding exactly
length-exactly zero plain answers = refl
length-exactly (suc n) plain [] = ap suc (length-exactly n plain [])
length-exactly (suc n) plain (a ∷ answers) = ap suc (length-exactly n plain answers)

pub counted : TurnsAreCounted
unfolding run
counted plan c turns b =
    let given = exactly plan.turns nothing_comes turns in
    let k : Kept c [] = record { halts = subst (λ z. HaltsBy z []) (sym b.halt) tt; turns = b.turns; moment = b.moment } in
    let r = all_run plan given c [] k in
    let n : c.turns + length given ≡ plan.turns = (let z : length given ≡ plan.turns = length-exactly plan.turns nothing_comes turns in let y : c.turns ≡ 0 = b.turns in omega arith) in
    record {
      halts = r.kept.halts;
      turns = r.kept.turns;
      most = subst (λ z. (acts (went model_ends plan) c given).state.turns ≤ z) n r.most;
      all = λ p. r.all p ∙ n;
      moment = r.kept.moment;
    }
