-- A loop that dials: it opens its one connection, the header is printed, the session begins, and it runs.
use Rattle.er_end.specs.KeptEnds.{KEnd}
use Rattle.loop_session.specs.Keeping.{kept_ends}
use Rattle.std.proofs.Common.{◌≡◌, ℕ, ◌+◌, ◌-◌, ◌^◌, ◌<◌, ◌≤◌, max, min, nat_le, Bool, true, false, List, [], ◌∷◌, ◌++◌, Option, Some, None, Result, Ok, Err, refl, sym, ◌∙◌, ap, subst, arith, append-nil, length, inl, inr}
use Rattle.std.specs.Prelude.{IfOk, ◌==◌, ◌&&◌, if◌then◌else◌}
use Rattle.std.proofs.lemmas.Bool.{cases_Bool}
use Rattle.std.proofs.lemmas.Bool.Decides.{nat_tests}
use Rattle.rand_core.specs.Stream.{Stream}
use Rattle.er_base.specs.declared.no_memory.NoMemory.{NoMemory as Want}
use Rattle.des_block.specs.declared.triple_key.TripleKey.{TripleKey}
use Rattle.safety_automaton.specs.Keys.{key_at}
use Rattle.er_settings.specs.Ranges.{AllAllowed}
use Rattle.er_users.specs.Users.{Mind}
use Rattle.link_trait.specs.Outside.{Grew, GrewPart, Rose}
use Rattle.link_trait.specs.Growth.{grew_nothing, grew_then}
use Rattle.link_trait.specs.Wires as wires
use Rattle.loop_model.specs.Ends.{EndOps, ModelEnd, model_ends}
use Rattle.loop_model.specs.Journals.{trace_header, text}
use Rattle.loop_model.specs.Deeds.{Calling, text_of, calls_of}
use Rattle.loop_model.specs.Outs.{Out, still, next, makes, acts, exactly}
use Rattle.loop_model.specs.Visits.{Met}
use Rattle.link_trait.specs.States.{SinkState, WiresState, ClockState}
use Rattle.outside.specs.Acts.{Dialled as DialledSo, Called}
use Rattle.outside.specs.ActSteps.{told_call}
use Rattle.outside.specs.Doings.{Told, Did}
use Rattle.outside.specs.Scripts.{printing}
use Rattle.link_trait.specs.declared.wires.Happening.{Happening}
use Rattle.loop_model.specs.Loops.{Plan, Loop, Caller, Halt, OnClosed, OnFailed, Course, Turn, asks, opens, dials_to, run, nothing_comes, beginning, Dialled, dials, printed, went}
use Rattle.loop_model.specs.Parts.{opened_in, Rises, newest}
use Rattle.loop_model.specs.Laws.{IsDialling, RunsSo, HasFailed, faults, failures, turns_of, HaltsBy}
use Rattle.loop_session.specs.Parts.{FailedFor, Breaks}
use Rattle.loop_session.specs.Standing.{AreAlike}
use Rattle.loop_session.specs.declared.loop_fault.LoopFault.{LoopFault}
use Rattle.loop_session.specs.declared.loop_fault.LoopFault.TheVariants.{Wires, Sink, NoMemory}
use Rattle.loop_io.specs.Seeing.{Counts}
use Rattle.readiness_loop.specs.declared.line_plan.Served.{Served}
use Rattle.readiness_loop.specs.Cuts.{Cut, LiesIn, cut_behind_part, IsToldFirst, first_turns}
use Rattle.readiness_loop.specs.Claims.{pair_of, IsPrintedAndCalled, IsCutAt, IsLawfulLoop, HasTurns, HasDialledTurns, HasDialled, NotDialling, LineFailed, FailsToDial, opening as model_opening, BeforeDialling, InDiallingHeader, InOpening, InDialling, BreaksOffDialling, halt_for, caller_of, DialsOn}
use Rattle.readiness_loop.specs.Courses.{Around, around, HasComeFromCourse, Went, Broke, WentOff, RanOff, Runs, Dials, loop_outside_of, course_of, opening_over_kept_ends, Opened, Opens, halt_if}
use Rattle.loop_io.specs.Sequels.{counts_then, failed_behind}
use Rattle.readiness_loop.proofs.Cutting.{broke_behind, lies_as, lies_then}
use Rattle.readiness_loop.proofs.Planned.{many, run_many, opens_many, lies_acts}
use Rattle.readiness_loop.proofs.Likewise.{Same, same_as, AlwaysSame, rest_same, behind_as, lies_in_run}
use Rattle.readiness_loop.proofs.Sweeps.{after}
use Rattle.readiness_loop.proofs.Openings.{opened_in-append, turns_of-append}
use Rattle.readiness_loop.proofs.Running.{came_next, course_is, halted_acts, after_still}
use Rattle.readiness_loop.proofs.Calling.{opens_opens, called_moment}
use Rattle.readiness_loop.proofs.Shown.{Shown, shown}
use Rattle.readiness_loop.proofs.Tellings.{told_first, told_dialled, lies_with, rises_before, rises_with}
use Rattle.readiness_loop.proofs.Listening.{Laws, HasBegun, nothing_done, rose_past, header_wires, header_left_behind}
use Rattle.readiness_loop.proofs.Quiets.{called_words}

-- the opening, and the run behind it
abbrev pub whole : Plan → Caller → Course KEnd → ℕ → Dialled → Out (Course KEnd)
whole plan caller c conn x = next (opening_over_kept_ends plan caller c conn (x.first, x.met)) (λ e. run kept_ends plan e x.turns)

abbrev pub model_whole : Plan → Caller → Course ModelEnd → ℕ → Dialled → Out (Course ModelEnd)
model_whole plan caller c conn x = next (opens model_ends plan caller (asks x.first c) conn x.met) (λ e. run model_ends plan e x.turns)

-- both were done
pub record WentOn (plan : Plan) (caller : Caller) (m b : Around) (c : Course KEnd) (conn : ℕ) (new : Loop KEnd) (count : ℕ) (why : Option Halt) : Type 0 where
  pub answers : Dialled
  pub is_conn : answers.conn ≡ Some conn
  pub early : answers.first ≤ 1000000000000000
  pub is : HasComeFromCourse m b c new count why (whole plan caller c conn answers)

unfoldable pub met_so : ℕ → ℕ × Met → List Turn → Dialled
met_so conn x turns = record { conn = Some conn; first = x.0; met = x.1; turns = turns }

-- it ran
pub ran_on : (plan : Plan) (caller : Caller) (m k b : Around) (minds : List Mind) (words : Stream) (conn : ℕ) (l new : Loop KEnd) (count : ℕ) (why : Option Halt)
    → (p : Opened plan caller m k (beginning minds words) conn l 0 None)
    → ((asked : List ℕ) → Went (run kept_ends plan (course_of l 0 asked)) k b (course_of l 0 asked) new count why)
    → WentOn plan caller m b (beginning minds words) conn new count why
unfolding met_so
ran_on plan caller m k b minds words conn l new count why p q =
    let c = beginning minds words in
    let x = p.went.answers in
    let o = opening_over_kept_ends plan caller c conn x in
    let e = o.state in
    let is : course_of l 0 e.asked ≡ e = course_is m k c l 0 o p.went.is in
    let w : Went (run kept_ends plan e) k b e new count why = subst (λ (z : Course KEnd). Went (run kept_ends plan z) k b z new count why) is (q e.asked) in
    record {
      answers = met_so conn x w.answers;
      is_conn = refl;
      early = p.early;
      is = came_next m k b c o (λ z. run kept_ends plan z w.answers) l new 0 count None why p.went.is w.is;
    }

-- it was closed at once
pub closed_on : (plan : Plan) (caller : Caller) (m b : Around) (minds : List Mind) (words : Stream) (conn : ℕ) (l : Loop KEnd)
    → (p : Opened plan caller m b (beginning minds words) conn l 0 (Some OnClosed))
    → WentOn plan caller m b (beginning minds words) conn l 0 (Some OnClosed)
unfolding met_so run
closed_on plan caller m b minds words conn l p =
    let c = beginning minds words in
    let x = p.went.answers in
    let o = opening_over_kept_ends plan caller c conn x in
    let halted : acts (went kept_ends plan) o.state (exactly plan.turns nothing_comes []) ≡ still o.state =
    halted_acts kept_ends plan o.state OnClosed (exactly plan.turns nothing_comes []) (sym p.went.is.halt) in
    let is : next o (λ e. acts (went kept_ends plan) e (exactly plan.turns nothing_comes [])) ≡ o = ap (after o) halted ∙ after_still o in
    record {
      answers = met_so conn x [];
      is_conn = refl;
      early = p.early;
      is = subst (λ z. HasComeFromCourse m b c l 0 (Some OnClosed) z) (sym is) p.went.is;
    }

-- ---- the same of the model

-- its turns, where the opening left it going on
turns_on : (laws : Laws) (plan : Plan) (caller : Caller) (minds : List Mind) (words : Stream) (conn : ℕ) (x : Dialled)
    → (opens model_ends plan caller (asks x.first (beginning minds words)) conn x.met).state.halt ≡ None
    → let w = model_whole plan caller (beginning minds words) conn x in HasTurns plan w w.state.turns w.state.halt
turns_on laws plan caller minds words conn x goes =
    let c = asks x.first (beginning minds words) in
    let o = opens model_ends plan caller c conn x.met in
    let r = run model_ends plan o.state x.turns in
    let t : RunsSo plan r = laws.turns plan o.state x.turns (record { turns = refl; halt = goes; moment = called_moment model_ends plan caller c.loop conn x.met }) in
    let none : turns_of (o.calls ++ r.calls) ≡ turns_of r.calls = turns_of-append o.calls r.calls ∙ ap (λ z. z ++ turns_of r.calls) (opens_opens model_ends plan caller c conn x.met).1 in
    record {
      halts = subst (λ z. HaltsBy r.state.halt z) (sym none) t.halts;
      counted = t.turns ∙ ap (λ (z : List Happening). length z) (sym none);
      most = t.most;
      all = t.all;
      moment = t.moment;
    }

-- where it closed the connection, none follow
turns_off : (plan : Plan) (caller : Caller) (minds : List Mind) (words : Stream) (conn : ℕ) (x : Dialled)
    → (opens model_ends plan caller (asks x.first (beginning minds words)) conn x.met).state.halt ≡ Some OnClosed
    → let w = model_whole plan caller (beginning minds words) conn x in HasTurns plan w w.state.turns w.state.halt
unfolding run
turns_off plan caller minds words conn x closed =
    let c = asks x.first (beginning minds words) in
    let o = opens model_ends plan caller c conn x.met in
    let halted = halted_acts model_ends plan o.state OnClosed (exactly plan.turns nothing_comes x.turns) closed in
    let is : next o (λ e. acts (went model_ends plan) e (exactly plan.turns nothing_comes x.turns)) ≡ o = ap (after o) halted ∙ after_still o in
    let none = (opens_opens model_ends plan caller c conn x.met).1 in
    subst (λ (z : Out (Course ModelEnd)). HasTurns plan z z.state.turns z.state.halt) (sym is)
    (record {
      halts = subst (λ z. HaltsBy z (turns_of o.calls)) (sym closed) (subst (λ z. HaltsBy (Some OnClosed) z) (sym none) tt);
      counted = sym (ap (λ (z : List Happening). length z) none);
      most = omega arith;
      all = λ goes. absurd (let z : Some OnClosed ≡ None = sym closed ∙ goes in cc z);
      moment = called_moment model_ends plan caller c.loop conn x.met;
    })

whole_turns : (laws : Laws) (plan : Plan) (caller : Caller) (minds : List Mind) (words : Stream) (conn : ℕ) (x : Dialled)
    → let w = model_whole plan caller (beginning minds words) conn x in HasTurns plan w w.state.turns w.state.halt
whole_turns laws plan caller minds words conn x =
    let ss = (opens model_ends plan caller (asks x.first (beginning minds words)) conn x.met).state.loop.sessions in
    elim (cases_Bool (plan.dials && (length ss == 0))) [
      | inl p ↦ turns_off plan caller minds words conn x (ap (λ (b : Bool). if b then Some OnClosed else None) p)
      | inr p ↦ turns_on laws plan caller minds words conn x (ap (λ (b : Bool). if b then Some OnClosed else None) p)
    ]

-- ---- with the dial before both

-- the pair's KMAC holds at each moment that clocks answer
key_holds : (engine rbc first : ℕ) (kmac : TripleKey) → first ≤ 1000000000000000 → key_at (pair_of engine rbc kmac ∷ []) (max 0 first) engine rbc ≡ Some kmac
key_holds engine rbc first kmac p =
    let low : nat_le 0 (max 0 first) ≡ true = below 0 (max 0 first) (omega arith) in
    let high : nat_le (max 0 first) (2 ^ 64 - 1) ≡ true = below (max 0 first) (2 ^ 64 - 1) (omega (arith, p)) in
    rw (same engine, same rbc, low, high) refl
  where
    below : (x y : ℕ) → x ≤ y → nat_le x y ≡ true
    below x y q = grind (arith, nat_tests, q)

    same : (x : ℕ) → (x == x) ≡ true
    same x = grind (arith, nat_tests)

-- the dial as the opening and the run behind it
pub dials_is : {E : Type 0} (o : EndOps E) (plan : Plan) (caller : Caller) (c : Course E) (address : List ℕ) (conn : ℕ) (x : Dialled) → x.conn ≡ Some conn
    → dials o plan caller c address x ≡ next (makes (wires.Dials address (Some conn)) (asks x.first c)) (λ d. next (opens o plan caller d conn x.met) (λ e. run o plan e x.turns))
unfolding dials
dials_is o plan caller c address conn x p = ap (λ (z : Option ℕ). dials_to o z plan caller c address x) p

tail_of : {A : Type 0} → List A → List A
tail_of [] = []
tail_of (x ∷ xs) = xs

-- over ends as they are kept both do the same
pub whole_alike : (laws : Laws) (plan : Plan) (caller : Caller) (minds : List Mind) (words : Stream) (address : List ℕ) (conn : ℕ) (x : Dialled) → AllAllowed plan.settings → x.conn ≡ Some conn
    → AreAlike (whole plan caller (beginning minds words) conn x) (model_whole plan caller (beginning minds words) conn x)
unfolding tail_of
whole_alike laws plan caller minds words address conn x allowed is =
    let both = laws.dials plan caller minds words address x allowed in
    let a : AreAlike (next (makes (wires.Dials address (Some conn)) (asks x.first (beginning minds words))) (λ d. next (opens kept_ends plan caller d conn x.met) (λ e. run kept_ends plan e x.turns)))
    (next (makes (wires.Dials address (Some conn)) (asks x.first (beginning minds words))) (λ d. next (opens model_ends plan caller d conn x.met) (λ e. run model_ends plan e x.turns))) =
    subst (λ (z : Out (Course ModelEnd)). AreAlike (next (makes (wires.Dials address (Some conn)) (asks x.first (beginning minds words))) (λ d. next (opens kept_ends plan caller d conn x.met) (λ e. run kept_ends plan e x.turns))) z)
    (dials_is model_ends plan caller (beginning minds words) address conn x is)
    (subst (λ (z : Out (Course KEnd)). AreAlike z (dials model_ends plan caller (beginning minds words) address x))
    (dials_is kept_ends plan caller (beginning minds words) address conn x is) both) in
    record {
      entries = a.entries;
      calls = ap tail_of a.calls;
      order = ap tail_of a.order;
      turns = a.turns;
      halt = a.halt;
      asked = a.asked;
      moment = a.moment;
      users = a.users;
      words = a.words;
      sessions = a.sessions;
    }

pub is_dialling : (engine rbc : ℕ) (kmac : TripleKey) (plan : Plan) (m : Around) (minds : List Mind) (words : Stream) (address : List ℕ) (conn : ℕ) (x : Dialled)
    → AllAllowed plan.settings → plan.keys ≡ pair_of engine rbc kmac ∷ [] → plan.rbc ≡ rbc → m.newest ≡ conn → 0 < conn → x.conn ≡ Some conn → x.first ≤ 1000000000000000
    → Rises m.newest (opened_in (model_whole plan (caller_of engine kmac) (beginning minds words) conn x).calls)
    → IsDialling plan (caller_of engine kmac) (beginning minds words) address x
unfolding dials opened_in
is_dialling engine rbc kmac plan m minds words address conn x allowed keys number top above is early rising =
    let caller = caller_of engine kmac in
    let o = model_whole plan caller (beginning minds words) conn x in
    record {
      none = refl;
      rises = subst (λ (z : Option ℕ). Rises 0 (opened_in (dials_to model_ends z plan caller (beginning minds words) address x).calls)) (sym is)
          (above, subst (λ z. Rises z (opened_in o.calls)) top rising);
      allowed = allowed;
      key = rw (keys, number) (key_holds engine rbc x.first kmac early);
    }

first_counts : (x y : ℕ) (address : List ℕ) (conn : ℕ) → x ≤ y → Counts x y (wires.Dials address (Some conn) ∷ [])
unfolding failures
first_counts x y address conn p = omega (arith, p)

few_failures : (address : List ℕ) (conn : ℕ) (o : Out (Course ModelEnd)) → faults o.entries ≤ failures (wires.Dials address (Some conn) ∷ o.calls) → faults o.entries ≤ failures o.calls
unfolding failures
few_failures address conn o p = omega (arith, p)

dials_done : (laws : Laws) (plan : Plan) (caller : Caller) (a m b : Around) (minds : List Mind) (words : Stream) (address : List ℕ) (conn : ℕ) (x : Dialled) (count : ℕ) (why : Option Halt)
    → x.conn ≡ Some conn → HasBegun plan (wires.Dials address (Some conn)) a m → Shown m b (model_whole plan caller (beginning minds words) conn x) count why
    → IsPrintedAndCalled (loop_outside_of a) (loop_outside_of b) true plan (dials model_ends plan caller (beginning minds words) address x)
unfolding printed
dials_done laws plan caller a m b minds words address conn x count why is_conn begun s =
    let c = beginning minds words in
    let o = model_whole plan caller c conn x in
    let is = dials_is model_ends plan caller c address conn x is_conn in
    let failed : HasFailed (next (makes (wires.Dials address (Some conn)) (asks x.first c)) (λ d. next (opens model_ends plan caller d conn x.met) (λ e. run model_ends plan e x.turns))) =
    subst HasFailed is (laws.faults.dialling plan caller c address x) in
    let fewer : faults o.entries ≤ failures o.calls = few_failures address conn o failed in
    subst (λ z. IsPrintedAndCalled (loop_outside_of a) (loop_outside_of b) true plan z) (sym is)
    (record {
      text = grew_then a.seen.held m.seen.held b.seen.held (trace_header plan.settings) (text o.entries) begun.text s.printed;
      calls = grew_then a.seen.calls m.seen.calls b.seen.calls (wires.Dials address (Some conn) ∷ []) o.calls begun.calls s.told;
      clock = subst (λ z. Grew z b.asked o.state.asked) begun.asked s.asked;
      answered = (tt, s.answered);
      faults = (let less : a.seen.failed ≤ m.seen.failed = begun.failed in
          let counted : min (m.seen.failed + failures o.calls) (2 ^ 64 - 1) ≤ b.seen.failed = s.counted in
          omega (arith, fewer, less, counted));
      in_grammar = s.in_grammar;
    })

dials_lawful : (laws : Laws) (plan : Plan) (caller : Caller) (minds : List Mind) (words : Stream) (address : List ℕ) (x : Dialled)
    → IsDialling plan caller (beginning minds words) address x → IsLawfulLoop plan (dials model_ends plan caller (beginning minds words) address x)
dials_lawful laws plan caller minds words address x dialling = record {
  isolated = laws.isolated.dialling plan caller (beginning minds words) address x dialling;
  printed = laws.printed.dialling plan caller (beginning minds words) address x dialling;
  accounted = laws.accounted.dialling plan caller (beginning minds words) address x dialling;
  on_open = laws.on_open.dialling plan caller (beginning minds words) address x dialling;
  heard = laws.heard.dialling plan caller (beginning minds words) address x dialling;
  replayed = laws.replayed.dialling plan caller (beginning minds words) address x dialling;
  in_order = laws.in_order.dialling plan caller (beginning minds words) address x dialling;
}

-- whole turns
dials_turns_done : (laws : Laws) (plan : Plan) (caller : Caller) (minds : List Mind) (words : Stream) (address : List ℕ) (x : Dialled)
    → IsDialling plan caller (beginning minds words) address x → HasDialledTurns plan caller address minds words x
dials_turns_done laws plan caller minds words address x dialling = record {
  is_dialling = dialling;
  lawful = dials_lawful laws plan caller minds words address x dialling;
  replies = laws.replies.dialling plan caller (beginning minds words) address x dialling;
  users = laws.users.dialling plan caller (beginning minds words) address x dialling;
}

dials_turns : (laws : Laws) (plan : Plan) (caller : Caller) (m b : Around) (minds : List Mind) (words : Stream) (address : List ℕ) (conn : ℕ) (x : Dialled) (count : ℕ) (why : Option Halt)
    → x.conn ≡ Some conn → Shown m b (model_whole plan caller (beginning minds words) conn x) count why
    → HasTurns plan (dials model_ends plan caller (beginning minds words) address x) count why
unfolding turns_of
dials_turns laws plan caller m b minds words address conn x count why is s =
    let w = model_whole plan caller (beginning minds words) conn x in
    let t : HasTurns plan w count why =
    subst (λ z. HasTurns plan w z why) (sym s.turns) (subst (λ z. HasTurns plan w w.state.turns z) (sym s.halt) (whole_turns laws plan caller minds words conn x)) in
    subst (λ z. HasTurns plan z count why) (sym (dials_is model_ends plan caller (beginning minds words) address conn x is))
    (record { halts = t.halts; counted = t.counted; most = t.most; all = t.all; moment = t.moment })

dials_halted : (plan : Plan) (caller : Caller) (m b : Around) (minds : List Mind) (words : Stream) (address : List ℕ) (conn : ℕ) (x : Dialled) (count : ℕ) (why : Option Halt)
    → x.conn ≡ Some conn → Shown m b (model_whole plan caller (beginning minds words) conn x) count why
    → why ≡ (dials model_ends plan caller (beginning minds words) address x).state.halt
dials_halted plan caller m b minds words address conn x count why is s =
    s.halt ∙ ap (λ (z : Out (Course ModelEnd)). z.state.halt) (sym (dials_is model_ends plan caller (beginning minds words) address conn x is))

-- no connection but the one that was dialled
dials_alone : (plan : Plan) (caller : Caller) (c : Course ModelEnd) (address : List ℕ) (conn : ℕ) (x : Dialled) → x.conn ≡ Some conn
    → opened_in (model_whole plan caller c conn x).calls ≡ [] → opened_in (dials model_ends plan caller c address x).calls ≡ conn ∷ []
unfolding opened_in
dials_alone plan caller c address conn x is none =
    ap (λ (z : Out (Course ModelEnd)). opened_in z.calls) (dials_is model_ends plan caller c address conn x is) ∙ ap (λ z. conn ∷ z) none

dial_done : (laws : Laws) (engine rbc : ℕ) (kmac : TripleKey) (plan : Plan) (a m b : Around) (minds : List Mind) (words : Stream) (address : List ℕ) (conn : ℕ) (new : Loop KEnd) (count : ℕ) (why : Option Halt)
    → AllAllowed plan.settings → plan.keys ≡ pair_of engine rbc kmac ∷ [] → plan.rbc ≡ rbc → m.newest ≡ conn → 0 < conn → m.listening ≡ a.listening
    → HasBegun plan (wires.Dials address (Some conn)) a m → WentOn plan (caller_of engine kmac) m b (beginning minds words) conn new count why
    → HasDialled (loop_outside_of a) (loop_outside_of b) plan (caller_of engine kmac) address minds words count why
dial_done laws engine rbc kmac plan a m b minds words address conn new count why allowed keys number top above hears begun w =
    let caller = caller_of engine kmac in
    let x = w.answers in
    let s = shown m b (beginning minds words) new count why (whole plan caller (beginning minds words) conn x) (model_whole plan caller (beginning minds words) conn x) refl w.is
    (whole_alike laws plan caller minds words address conn x allowed w.is_conn) in
    let dialling = is_dialling engine rbc kmac plan m minds words address conn x allowed keys number top above w.is_conn w.early s.rises in
    record {
      answers = x;
      conn = conn;
      opened = w.is_conn;
      is_dialling = dialling;
      done = dials_done laws plan caller a m b minds words address conn x count why w.is_conn begun s;
      lawful = dials_lawful laws plan caller minds words address x dialling;
      replies = laws.replies.dialling plan caller (beginning minds words) address x dialling;
      users = laws.users.dialling plan caller (beginning minds words) address x dialling;
      turns = dials_turns laws plan caller m b minds words address conn x count why w.is_conn s;
      halted = dials_halted plan caller m b minds words address conn x count why w.is_conn s;
      alone = λ deaf. dials_alone plan caller (beginning minds words) address conn x w.is_conn (s.alone (hears ∙ deaf));
    }

-- ---- where it broke off

opened_as : {E : Type 0} (o : EndOps E) (plan : Plan) (caller : Caller) (c : Course E) (conn : ℕ) (a : Met) (turns : List Turn)
    → let k = opens o plan caller c conn a in
    next (opens o (many plan (length turns)) caller c conn a) (λ e. run o (many plan (length turns)) e turns) ≡ after k (acts (went o plan) k.state turns)
opened_as {E} o plan caller c conn a turns =
    let k = opens o plan caller c conn a in
    ap (λ (z : Out (Course E)). next z (λ e. run o (many plan (length turns)) e turns)) (opens_many o plan (length turns) caller c conn a) ∙ ap (after k) (run_many o plan k.state turns)

-- over ends as they are kept the opening and the turns behind it are the same
both_same : (laws : Laws) (plan : Plan) (caller : Caller) (minds : List Mind) (words : Stream) (address : List ℕ) (conn : ℕ) (x : ℕ × Met) → AllAllowed plan.settings → (turns : List Turn)
    → let k = opening_over_kept_ends plan caller (beginning minds words) conn x in let m = model_opening plan caller minds words conn x.0 x.1 in
    Same (after k (acts (went kept_ends plan) k.state turns)) (after m (acts (went model_ends plan) m.state turns))
unfolding met_so
both_same laws plan caller minds words address conn x allowed turns =
    let k = opening_over_kept_ends plan caller (beginning minds words) conn x in
    let m = model_opening plan caller minds words conn x.0 x.1 in
    let a = whole_alike laws (many plan (length turns)) caller minds words address conn (met_so conn x turns) allowed refl in
    same_as _ (after k (acts (went kept_ends plan) k.state turns)) _ (after m (acts (went model_ends plan) m.state turns))
    (opened_as kept_ends plan caller (asks x.0 (beginning minds words)) conn x.1 turns) (opened_as model_ends plan caller (asks x.0 (beginning minds words)) conn x.1 turns)
    (record { entries = a.entries; calls = a.calls; order = a.order; halt = a.halt })

pub opening_same : (laws : Laws) (plan : Plan) (caller : Caller) (minds : List Mind) (words : Stream) (address : List ℕ) (conn : ℕ) (x : ℕ × Met) → AllAllowed plan.settings
    → Same (opening_over_kept_ends plan caller (beginning minds words) conn x) (model_opening plan caller minds words conn x.0 x.1)
unfolding acts
opening_same laws plan caller minds words address conn x allowed =
    let k = opening_over_kept_ends plan caller (beginning minds words) conn x in
    let m = model_opening plan caller minds words conn x.0 x.1 in
    let a = both_same laws plan caller minds words address conn x allowed [] in
    record {
      entries = sym (append-nil k.entries) ∙ a.entries ∙ append-nil m.entries;
      calls = sym (append-nil k.calls) ∙ a.calls ∙ append-nil m.calls;
      order = sym (append-nil k.order) ∙ a.order ∙ append-nil m.order;
      halt = a.halt;
    }

turns_same : (laws : Laws) (plan : Plan) (caller : Caller) (minds : List Mind) (words : Stream) (address : List ℕ) (conn : ℕ) (x : ℕ × Met) → AllAllowed plan.settings
    → AlwaysSame plan (opening_over_kept_ends plan caller (beginning minds words) conn x).state (model_opening plan caller minds words conn x.0 x.1).state
turns_same laws plan caller minds words address conn x allowed turns =
    let k = opening_over_kept_ends plan caller (beginning minds words) conn x in
    let m = model_opening plan caller minds words conn x.0 x.1 in
    let a = both_same laws plan caller minds words address conn x allowed turns in
    let o = opening_same laws plan caller minds words address conn x allowed in
    let v = acts (went kept_ends plan) k.state turns in
    let w = acts (went model_ends plan) m.state turns in
    record {
      entries = rest_same k.entries m.entries v.entries w.entries o.entries a.entries;
      calls = rest_same k.calls m.calls v.calls w.calls o.calls a.calls;
      order = rest_same k.order m.order v.order w.order o.order a.order;
      halt = a.halt;
    }

-- with the dial and the header before the cut
cut_at : (plan : Plan) (a m b : Around) (address : List ℕ) (conn : ℕ) (cut : Cut) (fault : LoopFault) → HasBegun plan (wires.Dials address (Some conn)) a m → Broke m.seen b.seen cut fault
    → IsCutAt (loop_outside_of a) (loop_outside_of b) (trace_header plan.settings ++ text_of cut) (wires.Dials address (Some conn) ∷ calls_of cut)
cut_at plan a m b address conn cut fault begun broke = record {
  text = grew_then a.seen.held m.seen.held b.seen.held (trace_header plan.settings) (text_of cut) begun.text broke.text;
  calls = grew_then a.seen.calls m.seen.calls b.seen.calls (wires.Dials address (Some conn) ∷ []) (calls_of cut) begun.calls broke.calls;
  answered = (tt, broke.answered);
  counted = counts_then a.seen.failed m.seen.failed b.seen.failed (wires.Dials address (Some conn) ∷ []) (calls_of cut) (first_counts a.seen.failed m.seen.failed address conn begun.failed) broke.counted;
}

-- the numbers of the connections that were opened in the whole turns rise
pub rises_whole : (laws : Laws) (plan : Plan) (caller : Caller) (m k : Around) (minds : List Mind) (words : Stream) (address : List ℕ) (conn : ℕ) (l : Loop KEnd) (turns : List Turn) → AllAllowed plan.settings
    → (p : Opened plan caller m k (beginning minds words) conn l 0 None)
    → Rises k.newest (opened_in (first_turns kept_ends plan (opening_over_kept_ends plan caller (beginning minds words) conn p.went.answers).state turns).calls)
    → Rises m.newest (opened_in (model_whole (many plan (length turns)) caller (beginning minds words) conn (met_so conn p.went.answers turns)).calls)
unfolding met_so
rises_whole laws plan caller m k minds words address conn l turns allowed p rising =
    let x = p.went.answers in
    let few = many plan (length turns) in
    let o = opening_over_kept_ends plan caller (beginning minds words) conn x in
    let r = first_turns kept_ends plan o.state turns in
    let none : opened_in o.calls ≡ [] = (opens_opens kept_ends plan caller (asks x.0 (beginning minds words)) conn x.1).0 in
    let is : whole few caller (beginning minds words) conn (met_so conn x turns) ≡ after o r =
    ap (λ (z : Out (Course KEnd)). next z (λ e. run kept_ends few e turns)) (opens_many kept_ends plan (length turns) caller (asks x.0 (beginning minds words)) conn x.1) in
    let both : opened_in (o.calls ++ r.calls) ≡ opened_in r.calls = opened_in-append o.calls r.calls ∙ ap (λ z. z ++ opened_in r.calls) none in
    let top : k.newest ≡ m.newest = p.went.is.opened ∙ ap (newest m.newest) none in
    let same : o.calls ++ r.calls ≡ (model_whole few caller (beginning minds words) conn (met_so conn x turns)).calls =
    ap (λ (z : Out (Course KEnd)). z.calls) (sym is) ∙ (whole_alike laws few caller minds words address conn (met_so conn x turns) allowed refl).calls in
    subst (λ z. Rises m.newest (opened_in z)) same (subst (λ z. Rises m.newest z) (sym both) (subst (λ z. Rises z (opened_in r.calls)) top rising))

-- what is done before a cut behind the opening is done in order
dial_told : (laws : Laws) (plan : Plan) (caller : Caller) (minds : List Mind) (words : Stream) (address : List ℕ) (conn : ℕ) (x : ℕ × Met) (turns : List Turn) (cut : Cut)
    → IsDialling (many plan (length turns)) caller (beginning minds words) address (met_so conn x turns)
    → LiesIn (first_turns model_ends plan (model_opening plan caller minds words conn x.0 x.1).state turns) cut
    → IsToldFirst (cut_behind_part (model_opening plan caller minds words conn x.0 x.1) cut)
unfolding met_so
dial_told laws plan caller minds words address conn x turns cut dialling l =
    let more = many plan (length turns) in
    let mine = model_opening plan caller minds words conn x.0 x.1 in
    let d = dials model_ends more caller (beginning minds words) address (met_so conn x turns) in
    let all : Out (Course ModelEnd) = next mine (λ e. run model_ends more e turns) in
    let is : d.order ≡ Calling (wires.Dials address (Some conn)) ∷ all.order =
    ap (λ (z : Out (Course ModelEnd)). z.order) (dials_is model_ends more caller (beginning minds words) address conn (met_so conn x turns) refl)
    ∙ ap (λ (z : Out (Course ModelEnd)). Calling (wires.Dials address (Some conn)) ∷ (next z (λ e. run model_ends more e turns)).order) (opens_many model_ends plan (length turns) caller (asks x.0 (beginning minds words)) conn x.1) in
    let within = lies_then mine (λ e. run model_ends more e turns) cut l in
    told_dialled more d address conn all.order (cut_behind_part mine cut) within.rest (laws.in_order.dialling more caller (beginning minds words) address (met_so conn x turns) dialling) is within.is

-- the run behind the opening broke off
dial_off : (laws : Laws) (engine rbc : ℕ) (kmac : TripleKey) (plan : Plan) (a m k b : Around) (minds : List Mind) (words : Stream) (address : List ℕ) (conn : ℕ) (l : Loop KEnd) (fault : LoopFault)
    → AllAllowed plan.settings → plan.keys ≡ pair_of engine rbc kmac ∷ [] → plan.rbc ≡ rbc → m.newest ≡ conn → 0 < conn
    → HasBegun plan (wires.Dials address (Some conn)) a m → (p : Opened plan (caller_of engine kmac) m k (beginning minds words) conn l 0 None)
    → ((asked : List ℕ) → RanOff plan k b (course_of l 0 asked) fault)
    → BreaksOffDialling (loop_outside_of a) (loop_outside_of b) plan (caller_of engine kmac) address minds words × FailedFor fault a.seen.sunk b.seen.sunk
unfolding met_so lies_in_run lies_acts
dial_off laws engine rbc kmac plan a m k b minds words address conn l fault allowed keys number top above begun p q =
    let caller = caller_of engine kmac in
    let x = p.went.answers in
    let o = opening_over_kept_ends plan caller (beginning minds words) conn x in
    let w : RanOff plan k b o.state fault = subst (λ (z : Course KEnd). RanOff plan k b z fault) (course_is m k (beginning minds words) l 0 o p.went.is) (q o.state.asked) in
    let same = opening_same laws plan caller minds words address conn x allowed in
    let mine = model_opening plan caller minds words conn x.0 x.1 in
    let few = many plan (length w.lies.turns) in
    let dialling = is_dialling engine rbc kmac few m minds words address conn (met_so conn x w.lies.turns) allowed keys number top above refl p.early
    (rises_whole laws plan caller m k minds words address conn l w.lies.turns allowed p (rises_before plan k b o.state fault w)) in
    let next_too = w.lies.turns ++ w.lies.last ∷ [] in
    let more = many plan (length next_too) in
    let dialling_too = is_dialling engine rbc kmac more m minds words address conn (met_so conn x next_too) allowed keys number top above refl p.early
    (rises_whole laws plan caller m k minds words address conn l next_too allowed p (rises_with plan k b o.state fault w)) in
    let lies = lies_in_run plan o.state mine.state (turns_same laws plan caller minds words address conn x allowed) w.cut w.lies in
    let broke = broke_behind m.seen k.seen b.seen o.state o w.cut fault p.went.is.acted w.broke in (
      InDialling conn x.0 x.1 w.cut (cut_behind_part mine w.cut) lies
          (dials_turns_done laws few caller minds words address (met_so conn x w.lies.turns) dialling) refl
          (dial_told laws plan caller minds words address conn x next_too w.cut dialling_too (lies_with model_ends plan mine.state w.cut lies))
          (cut_at plan a m b address conn (cut_behind_part mine w.cut) fault begun
          (subst (λ z. Broke m.seen b.seen z fault) (behind_as o mine w.cut same.order) broke)),
      failed_behind a.seen.sunk m.seen.sunk b.seen.sunk fault begun.sunk broke.failed,
    )

-- the run, however it ended
pub dial_ran : (laws : Laws) (engine rbc : ℕ) (kmac : TripleKey) (plan : Plan) (a m k b : Around) (minds : List Mind) (words left : Stream) (address : List ℕ) (conn : ℕ) (l new : Loop KEnd) (count : ℕ) (r : Result Served LoopFault)
    → AllAllowed plan.settings → plan.keys ≡ pair_of engine rbc kmac ∷ [] → plan.rbc ≡ rbc → m.newest ≡ conn → 0 < conn → m.listening ≡ a.listening
    → HasBegun plan (wires.Dials address (Some conn)) a m → Opened plan (caller_of engine kmac) m k (beginning minds words) conn l 0 None
    → ((asked : List ℕ) → Runs plan k b (course_of l 0 asked) new count r)
    → Dials plan (caller_of engine kmac) a b minds words left address r
unfolding met_so
dial_ran laws engine rbc kmac plan a m k b minds words left address conn l new count (Ok served) allowed keys number top above hears begun p q =
    dial_done laws engine rbc kmac plan a m b minds words address conn new served.turns (halt_for served.why) allowed keys number top above hears begun
    (ran_on plan (caller_of engine kmac) m k b minds words conn l new served.turns (halt_for served.why) p q)
dial_ran laws engine rbc kmac plan a m k b minds words left address conn l new count (Err Wires) allowed keys number top above hears begun p q = (
  LineFailed count (dial_done laws engine rbc kmac plan a m b minds words address conn new count (Some OnFailed) allowed keys number top above hears begun
      (ran_on plan (caller_of engine kmac) m k b minds words conn l new count (Some OnFailed) p (λ asked. (q asked).went))),
  (let x : a.turns_failed ≤ m.turns_failed = begun.turns_failed in let y : m.turns_failed ≤ k.turns_failed = p.went.is.failed in
      rose_past a.turns_failed k.turns_failed b.turns_failed (omega (arith, x, y)) (q []).rose),
)
dial_ran laws engine rbc kmac plan a m k b minds words left address conn l new count (Err Sink) allowed keys number top above hears begun p q =
    dial_off laws engine rbc kmac plan a m k b minds words address conn l Sink allowed keys number top above begun p q
dial_ran laws engine rbc kmac plan a m k b minds words left address conn l new count (Err (NoMemory want)) allowed keys number top above hears begun p q =
    dial_off laws engine rbc kmac plan a m k b minds words address conn l (NoMemory want) allowed keys number top above begun p q

-- the connection was closed at once
pub dial_closed : (laws : Laws) (engine rbc : ℕ) (kmac : TripleKey) (plan : Plan) (a m b : Around) (minds : List Mind) (words : Stream) (address : List ℕ) (conn : ℕ) (l : Loop KEnd) (stays : Bool)
    → AllAllowed plan.settings → plan.keys ≡ pair_of engine rbc kmac ∷ [] → plan.rbc ≡ rbc → m.newest ≡ conn → 0 < conn → m.listening ≡ a.listening
    → HasBegun plan (wires.Dials address (Some conn)) a m → stays ≡ false → Opened plan (caller_of engine kmac) m b (beginning minds words) conn l 0 (halt_if stays)
    → HasDialled (loop_outside_of a) (loop_outside_of b) plan (caller_of engine kmac) address minds words 0 (Some OnClosed)
dial_closed laws engine rbc kmac plan a m b minds words address conn l stays allowed keys number top above hears begun closed p =
    dial_done laws engine rbc kmac plan a m b minds words address conn l 0 (Some OnClosed) allowed keys number top above hears begun
    (closed_on plan (caller_of engine kmac) m b minds words conn l
    (subst (λ z. Opened plan (caller_of engine kmac) m b (beginning minds words) conn l 0 (halt_if z)) closed p))

-- the opening broke off
opening_off : (laws : Laws) (plan : Plan) (caller : Caller) (a m b : Around) (minds : List Mind) (words : Stream) (address : List ℕ) (conn : ℕ) (fault : LoopFault)
    → AllAllowed plan.settings → HasBegun plan (wires.Dials address (Some conn)) a m → WentOff (opening_over_kept_ends plan caller (beginning minds words) conn) (λ x cut. LiesIn (opening_over_kept_ends plan caller (beginning minds words) conn x) cut) m b fault
    → BreaksOffDialling (loop_outside_of a) (loop_outside_of b) plan caller address minds words × FailedFor fault a.seen.sunk b.seen.sunk
opening_off laws plan caller a m b minds words address conn fault allowed begun p =
    let x = p.answers in
    let same = opening_same laws plan caller minds words address conn x allowed in (
      InOpening conn x.0 x.1 p.cut
          (lies_as (opening_over_kept_ends plan caller (beginning minds words) conn x) (model_opening plan caller minds words conn x.0 x.1) p.cut same.order p.lies)
          (told_first plan (model_opening plan caller minds words conn x.0 x.1) p.cut (laws.opening plan caller (asks x.0 (beginning minds words)) conn x.1)
          (lies_as (opening_over_kept_ends plan caller (beginning minds words) conn x) (model_opening plan caller minds words conn x.0 x.1) p.cut same.order p.lies))
          (cut_at plan a m b address conn p.cut fault begun p.broke),
      failed_behind a.seen.sunk m.seen.sunk b.seen.sunk fault begun.sunk p.broke.failed,
    )

pub dial_stops : (laws : Laws) (plan : Plan) (caller : Caller) (a m b : Around) (minds : List Mind) (words left : Stream) (address : List ℕ) (conn : ℕ) (new : Loop KEnd) (n : ℕ) (fault : LoopFault)
    → AllAllowed plan.settings → HasBegun plan (wires.Dials address (Some conn)) a m
    → Opens plan caller m b (beginning minds words) conn new n (Err fault) → Dials plan caller a b minds words left address (Err fault)
dial_stops laws plan caller a m b minds words left address conn new n Wires allowed begun p = absurd p
dial_stops laws plan caller a m b minds words left address conn new n Sink allowed begun p = opening_off laws plan caller a m b minds words address conn Sink allowed begun p
dial_stops laws plan caller a m b minds words left address conn new n (NoMemory want) allowed begun p = opening_off laws plan caller a m b minds words address conn (NoMemory want) allowed begun p

-- the header broke off
dial_header_off : (plan : Plan) (caller : Caller) (a b : Around) (minds : List Mind) (words : Stream) (address : List ℕ) (conn : ℕ)
    → Grew a.seen.calls b.seen.calls (wires.Dials address (Some conn) ∷ []) → a.seen.failed ≤ b.seen.failed → GrewPart a.seen.held b.seen.held (trace_header plan.settings)
    → BreaksOffDialling (loop_outside_of a) (loop_outside_of b) plan caller address minds words
dial_header_off plan caller a b minds words address conn told less p =
    InDiallingHeader conn p.part p.rest p.is (record { text = p.grew; calls = told; answered = (tt, tt); counted = first_counts a.seen.failed b.seen.failed address conn less })

pub dial_header_stops : (plan : Plan) (caller : Caller) (a b : Around) (minds : List Mind) (words left : Stream) (address : List ℕ) (conn : ℕ) (fault : LoopFault)
    → Grew a.seen.calls b.seen.calls (wires.Dials address (Some conn) ∷ []) → a.seen.failed ≤ b.seen.failed
    → GrewPart a.seen.held b.seen.held (trace_header plan.settings) → FailedFor fault a.seen.sunk b.seen.sunk → Dials plan caller a b minds words left address (Err fault)
dial_header_stops plan caller a b minds words left address conn Wires told less p q = absurd q
dial_header_stops plan caller a b minds words left address conn Sink told less p q = (dial_header_off plan caller a b minds words address conn told less p, q)
dial_header_stops plan caller a b minds words left address conn (NoMemory want) told less p q = (dial_header_off plan caller a b minds words address conn told less p, q)

-- memory ran out before it dialled
pub dial_wanted : (plan : Plan) (caller : Caller) (a : Around) (minds : List Mind) (words left : Stream) (address : List ℕ) (want : Want)
    → Dials plan caller a a minds words left address (Err (NoMemory want))
dial_wanted plan caller a minds words left address want = (
  BeforeDialling (nothing_done a),
  (let z : a.seen.sunk ≤ a.seen.sunk = omega arith in z),
)

-- it never dialled
pub never_dials : (plan : Plan) (caller : Caller) (a b : Around) (minds : List Mind) (words left : Stream) (address : List ℕ)
    → b.seen.held ≡ a.seen.held → Grew a.seen.calls b.seen.calls (wires.Dials address None ∷ []) → b.asked ≡ a.asked → left ≡ words → Rose a.turns_failed b.turns_failed
    → Dials plan caller a b minds words left address (Err Wires)
never_dials plan caller a b minds words left address held told asked same rose = (
  NotDialling (record {
    text = subst (λ z. Grew a.seen.held z []) (sym held) (grew_nothing a.seen.held);
    calls = told;
    clock = subst (λ z. Grew a.asked z []) (sym asked) (grew_nothing a.asked);
  }) same,
  rose,
)

-- ---- as a function has them

-- the course from which it opens
pub from_start : (P : Course KEnd → ℕ → Type 0) (minds : List Mind) (words : Stream) (l0 : Loop KEnd) (n0 n : ℕ) → l0 ≡ (beginning minds words).loop → n0 ≡ 0 → n ≡ n0
    → P (course_of l0 n0 []) n → P (beginning minds words) 0
from_start P minds words l0 n0 n is zero same p =
    subst (λ z. P (course_of z 0 []) 0) is (subst (λ z. P (course_of l0 z []) z) zero (subst (λ z. P (course_of l0 n0 []) z) same p))

pub dial_closed_from : (laws : Laws) (engine rbc : ℕ) (kmac : TripleKey) (plan : Plan) (a m b : Around) (minds : List Mind) (words : Stream) (address : List ℕ) (conn : ℕ) (l0 l : Loop KEnd) (n0 n : ℕ) (stays : Bool)
    → AllAllowed plan.settings → plan.keys ≡ pair_of engine rbc kmac ∷ [] → plan.rbc ≡ rbc → m.newest ≡ conn → 0 < conn → m.listening ≡ a.listening
    → HasBegun plan (wires.Dials address (Some conn)) a m → stays ≡ false → l0 ≡ (beginning minds words).loop → n0 ≡ 0 → n ≡ n0
    → Opens plan (caller_of engine kmac) m b (course_of l0 n0 []) conn l n (Ok stays)
    → HasDialled (loop_outside_of a) (loop_outside_of b) plan (caller_of engine kmac) address minds words 0 (Some OnClosed)
dial_closed_from laws engine rbc kmac plan a m b minds words address conn l0 l n0 n stays allowed keys number top above hears begun closed is zero same p =
    dial_closed laws engine rbc kmac plan a m b minds words address conn l stays allowed keys number top above hears begun closed
    (from_start (λ c z. Opened plan (caller_of engine kmac) m b c conn l z (halt_if stays)) minds words l0 n0 n is zero same p)

pub dial_stops_from : (laws : Laws) (plan : Plan) (caller : Caller) (a m b : Around) (minds : List Mind) (words left : Stream) (address : List ℕ) (conn : ℕ) (l0 new : Loop KEnd) (n0 n : ℕ) (fault : LoopFault)
    → AllAllowed plan.settings → HasBegun plan (wires.Dials address (Some conn)) a m → l0 ≡ (beginning minds words).loop → n0 ≡ 0 → n ≡ n0
    → Opens plan caller m b (course_of l0 n0 []) conn new n (Err fault) → Dials plan caller a b minds words left address (Err fault)
dial_stops_from laws plan caller a m b minds words left address conn l0 new n0 n fault allowed begun is zero same p =
    dial_stops laws plan caller a m b minds words left address conn new 0 fault allowed begun
    (from_start (λ c z. Opens plan caller m b c conn new z (Err fault)) minds words l0 n0 n is zero same p)

pub dial_ran_from : (laws : Laws) (engine rbc : ℕ) (kmac : TripleKey) (plan : Plan) (a m k b : Around) (minds : List Mind) (words left : Stream) (address : List ℕ) (conn : ℕ) (l0 l new : Loop KEnd) (n0 n count : ℕ) (stays : Bool) (r : Result Served LoopFault)
    → AllAllowed plan.settings → plan.keys ≡ pair_of engine rbc kmac ∷ [] → plan.rbc ≡ rbc → m.newest ≡ conn → 0 < conn → m.listening ≡ a.listening
    → HasBegun plan (wires.Dials address (Some conn)) a m → stays ≡ true → l0 ≡ (beginning minds words).loop → n0 ≡ 0 → n ≡ n0
    → Opens plan (caller_of engine kmac) m k (course_of l0 n0 []) conn l n (Ok stays)
    → ((asked : List ℕ) → Runs plan k b (course_of l 0 asked) new count r)
    → Dials plan (caller_of engine kmac) a b minds words left address r
dial_ran_from laws engine rbc kmac plan a m k b minds words left address conn l0 l new n0 n count stays r allowed keys number top above hears begun goes is zero same p q =
    let from : Opened plan (caller_of engine kmac) m k (beginning minds words) conn l 0 (halt_if stays) =
    from_start (λ c z. Opened plan (caller_of engine kmac) m k c conn l z (halt_if stays)) minds words l0 n0 n is zero same p in
    dial_ran laws engine rbc kmac plan a m k b minds words left address conn l new count r allowed keys number top above hears begun
    (subst (λ z. Opened plan (caller_of engine kmac) m k (beginning minds words) conn l 0 (halt_if z)) goes from) q

-- ---- the public clauses

pub dialled_of : (plan : Plan) (caller : Caller) (a b : Around) (minds : List Mind) (words left : Stream) (address : List ℕ) (r : Result Served LoopFault) → Dials plan caller a b minds words left address r
    → IfOk r (λ served. HasDialled (loop_outside_of a) (loop_outside_of b) plan caller address minds words served.turns (halt_for served.why))
dialled_of plan caller a b minds words left address (Ok served) p = p
dialled_of plan caller a b minds words left address (Err fault) p = tt

pub dial_failed_of : (plan : Plan) (caller : Caller) (a b : Around) (minds : List Mind) (words left : Stream) (address : List ℕ) (r : Result Served LoopFault) → Dials plan caller a b minds words left address r
    → r ≡ Err Wires → FailsToDial (loop_outside_of a) (loop_outside_of b) plan caller address minds words left
dial_failed_of plan caller a b minds words left address r p is = (subst (λ z. Dials plan caller a b minds words left address z) is p).0

pub dial_rose_of : (plan : Plan) (caller : Caller) (a b : Around) (minds : List Mind) (words left : Stream) (address : List ℕ) (r : Result Served LoopFault) → Dials plan caller a b minds words left address r
    → r ≡ Err Wires → Rose a.turns_failed b.turns_failed
dial_rose_of plan caller a b minds words left address r p is = (subst (λ z. Dials plan caller a b minds words left address z) is p).1

pub dial_off_of : (plan : Plan) (caller : Caller) (a b : Around) (minds : List Mind) (words left : Stream) (address : List ℕ) (r : Result Served LoopFault) → Dials plan caller a b minds words left address r
    → r ≡ Err Sink → BreaksOffDialling (loop_outside_of a) (loop_outside_of b) plan caller address minds words
dial_off_of plan caller a b minds words left address r p is = (subst (λ z. Dials plan caller a b minds words left address z) is p).0

pub dial_sunk_of : (plan : Plan) (caller : Caller) (a b : Around) (minds : List Mind) (words left : Stream) (address : List ℕ) (r : Result Served LoopFault) → Dials plan caller a b minds words left address r
    → r ≡ Err Sink → Rose a.seen.sunk b.seen.sunk
dial_sunk_of plan caller a b minds words left address r p is = (subst (λ z. Dials plan caller a b minds words left address z) is p).1

pub dial_memory_of : (plan : Plan) (caller : Caller) (a b : Around) (minds : List Mind) (words left : Stream) (address : List ℕ) (r : Result Served LoopFault) → Dials plan caller a b minds words left address r
    → (want : Want) → r ≡ Err (NoMemory want) → BreaksOffDialling (loop_outside_of a) (loop_outside_of b) plan caller address minds words
dial_memory_of plan caller a b minds words left address r p want is = (subst (λ z. Dials plan caller a b minds words left address z) is p).0

pub dial_header_stops_so : (plan : Plan) (caller : Caller) (a l m : Told) (minds : List Mind) (words left : Stream) (address : List ℕ) (conn : ℕ) (fault : LoopFault)
    → Did a l (Called (DialledSo address (Some conn)) ∷ []) → Breaks l m (printing (trace_header plan.settings)) fault → Dials plan caller (around a) (around m) minds words left address (Err fault)
dial_header_stops_so plan caller a l m minds words left address conn fault p q =
    let h = header_left_behind (trace_header plan.settings) a l m (wires.Dials address (Some conn)) (DialledSo address (Some conn)) fault refl p q in
    dial_header_stops plan caller (around a) (around m) minds words left address conn fault h.0 h.1 h.2 h.3

-- the connection that was dialled is the newest behind the header, and the wires listen as before
pub dial_newest : (line : List ℕ) (a l m : Told) (address : List ℕ) (conn : ℕ) → Did a l (Called (DialledSo address (Some conn)) ∷ []) → Did l m (printing line) → conn ≡ a.wires.opened + 1 → m.wires.opened ≡ conn
dial_newest line a l m address conn p q number = ap (λ (z : WiresState). z.opened) (header_wires line l m q) ∙ p.wires.opened ∙ sym number

pub dial_listening : (line : List ℕ) (a l m : Told) (address : List ℕ) (conn : ℕ) → Did a l (Called (DialledSo address (Some conn)) ∷ []) → Did l m (printing line) → m.wires.listening ≡ a.wires.listening
dial_listening line a l m address conn p q = ap (λ (z : WiresState). z.listening) (header_wires line l m q) ∙ p.wires.listening

pub never_dials_so : (plan : Plan) (caller : Caller) (a l : Told) (minds : List Mind) (address : List ℕ) → Did a l (Called (DialledSo address None) ∷ []) → Dials plan caller (around a) (around l) minds a.words l.words address (Err Wires)
never_dials_so plan caller a l minds address p =
    never_dials plan caller (around a) (around l) minds a.words l.words address (ap (λ (z : SinkState). z.held) (p.sink.rests refl)) (told_call a.wires.calls l.wires.calls (DialledSo address None) (wires.Dials address None) refl p.wires.calls)
    (ap (λ (z : ClockState). z.answers) (p.clock.rests refl)) (called_words a l (DialledSo address None) p) (p.wires.turn_faults.rose refl)

-- all of them, of the plan that the caller has
pub dials_on : (before now : Told) (plan plan' : Plan) (caller : Caller) (address : List ℕ) (minds : List Mind) (r : Result Served LoopFault) → plan ≡ plan'
    → Dials plan caller (around before) (around now) minds before.words now.words address r → before.sink.faults ≤ now.sink.faults
    → DialsOn before now plan' caller address minds r
dials_on before now plan plan' caller address minds r same p later =
    let a = around before in
    let b = around now in
    let q : Dials plan' caller a b minds before.words now.words address r = subst (λ z. Dials z caller a b minds before.words now.words address r) same p in
    record {
      served = dialled_of plan' caller a b minds before.words now.words address r q;
      wires = dial_failed_of plan' caller a b minds before.words now.words address r q;
      rose = dial_rose_of plan' caller a b minds before.words now.words address r q;
      sink = dial_off_of plan' caller a b minds before.words now.words address r q;
      sunk = dial_sunk_of plan' caller a b minds before.words now.words address r q;
      memory = dial_memory_of plan' caller a b minds before.words now.words address r q;
      sink_count = later;
    }
