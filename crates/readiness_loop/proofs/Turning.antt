-- A turn: what happens is handled whole, and why the loop halts behind it.
use Rattle.trace_model.specs.Checks.{most_live}
use Rattle.er_end.specs.KeptEnds.{KEnd}
use Rattle.loop_session.specs.Keeping.{kept_ends}
use Rattle.std.proofs.Common.{◌≡◌, ℕ, ◌+◌, ◌-◌, ◌≤◌, max, nat_lt, Bool, true, false, inl, inr, List, [], ◌∷◌, ◌++◌, Option, Some, None, Result, Ok, Err, length, IsTrue, refl, sym, ◌∙◌, ap, subst, arith, append-nil}
use Rattle.std.specs.Prelude.{◌==◌, ◌&&◌, if◌then◌else◌}
use Rattle.std.proofs.lemmas.Bool.{cases_Bool}
use Rattle.slab.specs.Slab.{Slab}
use Rattle.std.specs.List.{list_any}
use Rattle.link_trait.specs.States.{ClockState, WiresState}
use Rattle.link_trait.specs.Outside.{Grew, Rose}
use Rattle.outside.specs.Acts.{Called, Asked, Turned as TurnedBy, is_opening_fault}
use Rattle.outside.specs.ActSteps.{told_call}
use Rattle.outside.specs.Doings.{Told, Did}
use Rattle.link_trait.specs.Wires.{Turns, opened_by_turn}
use Rattle.link_trait.specs.declared.wires.Conn.{Conn}
use Rattle.link_trait.specs.declared.wires.Happening.{Happening}
use Rattle.link_trait.specs.declared.wires.Happening.TheVariants as happening
use Rattle.loop_model.specs.Outs.{changed, makes}
use Rattle.loop_model.specs.Sessions.{Session}
use Rattle.loop_model.specs.Visits.{Met, Visit, nothing_met, visited, Read, Write}
use Rattle.loop_model.specs.Loops.{Plan, Loop, rules_of, with_sessions, visit_at, until, accepted, answered_by, next_user, happened, Halt, OnEnded, OnClosed, OnFailed, halt_by, halt_behind, Course, Turn, turn, follows, turned_unless}
use Rattle.loop_model.specs.Parts.{opened_in, opened_by, Rises, newest}
use Rattle.loop_session.specs.Parts.{rules_of_session}
use Rattle.er_users.specs.Users.{Mind}
use Rattle.loop_session.specs.declared.loop_fault.LoopFault.{LoopFault}
use Rattle.loop_session.specs.declared.loop_fault.LoopFault.TheVariants.{Wires, Sink, NoMemory}
use Rattle.loop_io.specs.Acting.{Acted, ActedSo, Stopped, DoesLoopPart}
use Rattle.loop_io.specs.Seeing.{Seen, seen}
use Rattle.loop_io.specs.DeedSteps.{began_behind}
use Rattle.loop_io.specs.Sequels.{acted_makes}
use Rattle.readiness_loop.specs.Lives.{LeavesTurns}
use Rattle.readiness_loop.proofs.Quiets.{asked_wires, asked_once, turned_words, done_behind_asked, stopped_behind_asked}
use Rattle.readiness_loop.specs.declared.live_loop.Next.{Next}
use Rattle.rand_core.specs.Stream.{Stream}
use Rattle.std.specs.BTreeMap.{BTreeMap}
use Rattle.readiness_loop.specs.Books.{AreSeated, sessions}
use Rattle.readiness_loop.specs.Cuts.{cut_behind_part}
use Rattle.readiness_loop.specs.Courses.{around, Went, WentOff, LiesBehind, Turned, halt_of, halt_after, HaltsSo, course_of, loop_of, IsReadyFor}
use Rattle.readiness_loop.proofs.Sequences.{acted_as, acted_still, acted_then, breaks_as}
use Rattle.readiness_loop.proofs.Openings.{visit_opens}
use Rattle.readiness_loop.proofs.Cutting.{cut_of, cut_lies, cut_broke, broke_behind}

-- ---- what happened

pub react_accept : {T : Type 0} (a b : Seen) (plan : Plan) (l new : Loop KEnd) (conn : Conn) (r : Result T LoopFault)
    → DoesLoopPart a b new (accepted kept_ends plan l conn.0) r → DoesLoopPart a b new (happened kept_ends plan l (happening.Accepted conn)) r
unfolding happened
react_accept a b plan l new conn (Ok done) p = record { answers = record nothing_met { memory = p.answers }; is = p.is }
react_accept a b plan l new conn (Err fault) p = record { answers = record nothing_met { memory = p.answers }; breaks = p.breaks }

pub react_read : {T : Type 0} (a b : Seen) (plan : Plan) (l new : Loop KEnd) (ss : List (Session KEnd)) (conn : Conn) (r : Result T LoopFault)
    → new ≡ with_sessions l ss → DoesLoopPart a b ss (visit_at (visited kept_ends (rules_of plan) l.moment Read) conn.0 l.sessions) r
    → DoesLoopPart a b new (happened kept_ends plan l (happening.Readable conn)) r
unfolding happened
react_read a b plan l new ss conn (Ok done) same p = record {
  answers = p.answers;
  is = acted_as a b ss new (visit_at (visited kept_ends (rules_of plan) l.moment Read) conn.0 l.sessions p.answers) (changed (with_sessions l) (visit_at (visited kept_ends (rules_of plan) l.moment Read) conn.0 l.sessions p.answers)) (record { entries = refl; calls = refl; order = refl })
      (same ∙ ap (with_sessions l) p.is.state) p.is;
}
react_read a b plan l new ss conn (Err fault) same p = record {
  answers = p.answers;
  breaks = breaks_as a b (visit_at (visited kept_ends (rules_of plan) l.moment Read) conn.0 l.sessions p.answers) (changed (with_sessions l) (visit_at (visited kept_ends (rules_of plan) l.moment Read) conn.0 l.sessions p.answers)) fault (record { entries = refl; calls = refl; order = refl }) p.breaks;
}

pub react_write : {T : Type 0} (a b : Seen) (plan : Plan) (l new : Loop KEnd) (ss : List (Session KEnd)) (conn : Conn) (r : Result T LoopFault)
    → new ≡ with_sessions l ss → DoesLoopPart a b ss (visit_at (visited kept_ends (rules_of plan) l.moment Write) conn.0 l.sessions) r
    → DoesLoopPart a b new (happened kept_ends plan l (happening.Writable conn)) r
unfolding happened
react_write a b plan l new ss conn (Ok done) same p = record {
  answers = p.answers;
  is = acted_as a b ss new (visit_at (visited kept_ends (rules_of plan) l.moment Write) conn.0 l.sessions p.answers) (changed (with_sessions l) (visit_at (visited kept_ends (rules_of plan) l.moment Write) conn.0 l.sessions p.answers)) (record { entries = refl; calls = refl; order = refl })
      (same ∙ ap (with_sessions l) p.is.state) p.is;
}
react_write a b plan l new ss conn (Err fault) same p = record {
  answers = p.answers;
  breaks = breaks_as a b (visit_at (visited kept_ends (rules_of plan) l.moment Write) conn.0 l.sessions p.answers) (changed (with_sessions l) (visit_at (visited kept_ends (rules_of plan) l.moment Write) conn.0 l.sessions p.answers)) fault (record { entries = refl; calls = refl; order = refl }) p.breaks;
}

pub react_quiet : (a : Seen) (plan : Plan) (l : Loop KEnd) → ActedSo a a l (happened kept_ends plan l happening.Quiet)
unfolding happened
react_quiet a plan l = record { answers = nothing_met; is = acted_still a l l refl }

pub react_ended : (a : Seen) (plan : Plan) (l : Loop KEnd) → ActedSo a a l (happened kept_ends plan l happening.Ended)
unfolding happened
react_ended a plan l = record { answers = nothing_met; is = acted_still a l l refl }

pub react_failed : (a : Seen) (plan : Plan) (l : Loop KEnd) → ActedSo a a l (happened kept_ends plan l happening.Failed)
unfolding happened
react_failed a plan l = record { answers = nothing_met; is = acted_still a l l refl }

-- behind a turn
pub ready_for : (what : Happening) (before now : ℕ) (slots : Slab (Session KEnd)) (es : List (ℕ × ℕ)) → now ≡ opened_by_turn what before
    → ((conn : Conn) → what ≡ happening.Accepted conn → conn.0 ≡ before + 1) → AreSeated before slots es → IsReadyFor what now slots es
ready_for (happening.Accepted conn) before now slots es p number q =
    let is : conn.0 ≡ before + 1 = number conn refl in
    (is ∙ sym p, omega (arith, is), subst (λ z. AreSeated z slots es) (let h : before ≡ conn.0 - 1 = omega (arith, is) in h) q)
ready_for (happening.Readable conn) before now slots es p number q = subst (λ z. AreSeated z slots es) (sym p) q
ready_for (happening.Writable conn) before now slots es p number q = subst (λ z. AreSeated z slots es) (sym p) q
ready_for happening.Quiet before now slots es p number q = subst (λ z. AreSeated z slots es) (sym p) q
ready_for happening.Ended before now slots es p number q = subst (λ z. AreSeated z slots es) (sym p) q
ready_for happening.Failed before now slots es p number q = subst (λ z. AreSeated z slots es) (sym p) q

-- ---- nothing that happens opens a connection, but the turn itself

answered_opens : (o : Option Mind) (memory : Bool) (plan : Plan) (l : Loop KEnd) (conn : ℕ) → opened_in (answered_by kept_ends o memory plan l conn).calls ≡ []
unfolding opened_in
answered_opens None memory plan l conn = refl
answered_opens (Some mind) true plan l conn = refl
answered_opens (Some mind) false plan l conn = refl

pub happened_opens : (plan : Plan) (l : Loop KEnd) (what : Happening) (a : Met) → opened_in (happened kept_ends plan l what a).calls ≡ []
unfolding happened accepted opened_in
happened_opens plan l (happening.Accepted conn) a =
    elim (cases_Bool (nat_lt (length l.sessions) most_live)) [
      | inl p ↦ rw p (answered_opens (next_user l.users) a.memory plan l conn.0)
      | inr p ↦ rw p refl
    ]
happened_opens plan l (happening.Readable conn) a = visit_opens kept_ends (rules_of plan) l.moment Read conn.0 l.sessions a
happened_opens plan l (happening.Writable conn) a = visit_opens kept_ends (rules_of plan) l.moment Write conn.0 l.sessions a
happened_opens plan l happening.Quiet a = refl
happened_opens plan l happening.Ended a = refl
happened_opens plan l happening.Failed a = refl

newest_by : (what : Happening) (before now : ℕ) → now ≡ opened_by_turn what before → ((conn : Conn) → what ≡ happening.Accepted conn → conn.0 ≡ before + 1)
    → (now ≡ newest before (opened_by what)) × Rises before (opened_by what)
newest_by (happening.Accepted conn) before now p number = (let is : conn.0 ≡ before + 1 = number conn refl in (p ∙ sym is, (omega (arith, is), tt)))
newest_by (happening.Readable conn) before now p number = (p, tt)
newest_by (happening.Writable conn) before now p number = (p, tt)
newest_by happening.Quiet before now p number = (p, tt)
newest_by happening.Ended before now p number = (p, tt)
newest_by happening.Failed before now p number = (p, tt)

-- wires that don't listen accept none
none_by : (what : Happening) (heard : Bool) → ((conn : Conn) → what ≡ happening.Accepted conn → heard ≡ true) → heard ≡ false → opened_by what ≡ []
none_by (happening.Accepted conn) heard hearing deaf = absurd (let p : true ≡ false = sym (hearing conn refl) ∙ deaf in cc)
none_by (happening.Readable conn) heard hearing deaf = refl
none_by (happening.Writable conn) heard hearing deaf = refl
none_by happening.Quiet heard hearing deaf = refl
none_by happening.Ended heard hearing deaf = refl
none_by happening.Failed heard hearing deaf = refl

-- ---- a turn and what follows

-- the turn itself, as one part
turn_acted : {S : Type 0} (old mid : Told) (s : S) (at : Option ℕ) (what : Happening) → Did old mid (Called (TurnedBy at what) ∷ []) → Acted (seen old) (seen mid) s (makes (Turns at what) s)
turn_acted old mid s at what p = acted_makes old mid s (Turns at what) p (told_call old.wires.calls mid.wires.calls (TurnedBy at what) (Turns at what) refl p.wires.calls) tt

-- what was met
met_in : Happening → ℕ → Met → Turn
met_in what at met = record { first = 0; sweeps = record { ticks = []; closings = [] }; happening = what; second = at; met = met }

-- a turn that failed is a fault
failed_turns : (what : Happening) → what ≡ happening.Failed → IsTrue (list_any is_opening_fault (Called (TurnedBy None what) ∷ []))
failed_turns what p = subst (λ z. IsTrue (list_any is_opening_fault (Called (TurnedBy None z) ∷ []))) (sym p) refl

pub turned_came : (plan : Plan) (old mid now : Told)
    (l new : Loop KEnd) (n : ℕ) (asked : List ℕ) (at : Option ℕ) (what : Happening) (second : ℕ) (why : Option Halt)
    → at ≡ until kept_ends l.sessions → Did old mid (Called (TurnedBy at what) ∷ []) → Grew old.clock.answers now.clock.answers (second ∷ [])
    → ActedSo (seen mid) (seen now) new (happened kept_ends plan (record l { moment = max l.moment second }) what)
    → now.wires.opened ≡ opened_by_turn what old.wires.opened → ((conn : Conn) → what ≡ happening.Accepted conn → conn.0 ≡ old.wires.opened + 1) → old.wires.turn_faults ≤ now.wires.turn_faults
    → now.wires.listening ≡ old.wires.listening → ((conn : Conn) → what ≡ happening.Accepted conn → old.wires.listening ≡ true)
    → why ≡ halt_behind plan what new.sessions
    → Went (turned_unless kept_ends None plan (course_of l n asked)) (around old) (around now) (course_of l n asked) new (n + 1) why
unfolding met_in opened_in
turned_came plan old mid now l new n asked at what second why due told clock did op number fewer same hearing halts =
    let c = course_of l n asked in
    let a = met_in what second did.answers in
    let d : Course KEnd = record { loop = record l { moment = max l.moment second }; turns = n + 1; halt = None; asked = asked ++ second ∷ [] } in
    let first = turn_acted old mid d (until kept_ends l.sessions) what (subst (λ t. Did old mid (Called (TurnedBy t what) ∷ [])) due told) in
    let o = happened kept_ends plan d.loop what did.answers in
    let rest = acted_as (seen mid) (seen now) new (follows kept_ends plan d a).state o (follows kept_ends plan d a) (record { entries = refl; calls = refl; order = refl }) refl did.is in
    let calls_are : opened_in (Turns (until kept_ends l.sessions) what ∷ o.calls) ≡ opened_by what = ap (λ t. opened_by what ++ t) (happened_opens plan d.loop what did.answers) ∙ append-nil (opened_by what) in
    let counts = newest_by what old.wires.opened now.wires.opened op number in
    record {
      answers = a;
      is = record {
        loop = did.is.state;
        turns = refl;
        halt = halts ∙ ap (λ (t : Loop KEnd). halt_behind plan what t.sessions) did.is.state;
        acted = acted_then (seen old) (seen mid) (seen now) d (follows kept_ends plan d a).state (turn kept_ends c a) (λ t. follows kept_ends plan t a) first rest;
        more = second ∷ [];
        asked = refl;
        answered = clock;
        opened = counts.0 ∙ ap (newest old.wires.opened) (sym calls_are);
        rises = subst (λ t. Rises old.wires.opened t) (sym calls_are) counts.1;
        failed = fewer;
        listens = same;
        alone = λ deaf. calls_are ∙ none_by what old.wires.listening hearing deaf;
      };
    }

went_off : (plan : Plan) (old mid now : Told)
    (l : Loop KEnd) (n : ℕ) (asked : List ℕ) (at : Option ℕ) (what : Happening) (second : ℕ) (fault : LoopFault)
    → at ≡ until kept_ends l.sessions → Did old mid (Called (TurnedBy at what) ∷ [])
    → Stopped (seen mid) (seen now) (happened kept_ends plan (record l { moment = max l.moment second }) what) fault
    → ((conn : Conn) → what ≡ happening.Accepted conn → conn.0 ≡ old.wires.opened + 1)
    → WentOff (turned_unless kept_ends None plan (course_of l n asked)) (LiesBehind plan old.wires.opened (course_of l n asked)) (around old) (around now) fault
unfolding met_in
went_off plan old mid now l n asked at what second fault due told p number =
    let c = course_of l n asked in
    let a = met_in what second p.answers in
    let d : Course KEnd = record { loop = record l { moment = max l.moment second }; turns = n + 1; halt = None; asked = asked ++ second ∷ [] } in
    let first = turn_acted old mid d (until kept_ends l.sessions) what (subst (λ t. Did old mid (Called (TurnedBy t what) ∷ [])) due told) in
    let breaks = breaks_as (seen mid) (seen now) (happened kept_ends plan d.loop what p.answers) (follows kept_ends plan d a) fault (record { entries = refl; calls = refl; order = refl }) p.breaks in
    let rest = cut_of (seen mid) (seen now) (follows kept_ends plan d a) fault breaks in
    record {
      answers = a;
      cut = cut_behind_part (turn kept_ends c a) rest;
      lies = record { rest = rest; lies = cut_lies (seen mid) (seen now) (follows kept_ends plan d a) fault breaks; is = refl; rises = (newest_by what old.wires.opened (opened_by_turn what old.wires.opened) refl number).1 };
      broke = broke_behind (seen old) (seen mid) (seen now) d (turn kept_ends c a) rest fault first
          (cut_broke (seen mid) (seen now) (follows kept_ends plan d a) fault breaks);
      began = began_behind old mid now (turn kept_ends c a).order (follows kept_ends plan d a).order fault first.did breaks.began;
    }

pub turned_off : (plan : Plan) (old mid now : Told)
    (l new : Loop KEnd) (n m : ℕ) (asked : List ℕ) (at : Option ℕ) (what : Happening) (second : ℕ) (fault : LoopFault)
    → at ≡ until kept_ends l.sessions → Did old mid (Called (TurnedBy at what) ∷ [])
    → Stopped (seen mid) (seen now) (happened kept_ends plan (record l { moment = max l.moment second }) what) fault
    → ((conn : Conn) → what ≡ happening.Accepted conn → conn.0 ≡ old.wires.opened + 1)
    → Turned plan (around old) (around now) (course_of l n asked) new m (Err fault)
turned_off plan old mid now l new n m asked at what second Wires due told p number = absurd p.breaks.failed
turned_off plan old mid now l new n m asked at what second Sink due told p number =
    went_off plan old mid now l n asked at what second Sink due told p number
turned_off plan old mid now l new n m asked at what second (NoMemory want) due told p number =
    went_off plan old mid now l n asked at what second (NoMemory want) due told p number

not_failed : (plan : Plan) (ss : List (Session KEnd)) → Some OnFailed ≡ halt_by plan ss → ⊥
not_failed plan ss p =
    elim (cases_Bool (plan.dials && (length ss == 0))) [
      | inl t ↦ (let q : Some OnFailed ≡ Some OnClosed = p ∙ ap (λ b. if b then Some OnClosed else None) t in cc)
      | inr t ↦ (let q : Some OnFailed ≡ None = p ∙ ap (λ b. if b then Some OnClosed else None) t in cc)
    ]

failed_only : (plan : Plan) (what : Happening) (ss : List (Session KEnd)) → Some OnFailed ≡ halt_behind plan what ss → what ≡ happening.Failed
failed_only plan (happening.Accepted conn) ss p = absurd (not_failed plan ss p)
failed_only plan (happening.Readable conn) ss p = absurd (not_failed plan ss p)
failed_only plan (happening.Writable conn) ss p = absurd (not_failed plan ss p)
failed_only plan happening.Quiet ss p = absurd (not_failed plan ss p)
failed_only plan happening.Ended ss p = absurd (let q : Some OnFailed ≡ Some OnEnded = p in cc)
failed_only plan happening.Failed ss p = refl

-- by what follows the happening
pub turned_on : (plan : Plan) (old mid now : Told)
    (l new : Loop KEnd) (n : ℕ) (asked : List ℕ) (at : Option ℕ) (what : Happening) (second : ℕ) (r : Result Next LoopFault)
    → at ≡ until kept_ends l.sessions → Did old mid (Called (TurnedBy at what) ∷ []) → Grew old.clock.answers now.clock.answers (second ∷ [])
    → ActedSo (seen mid) (seen now) new (happened kept_ends plan (record l { moment = max l.moment second }) what)
    → now.wires.opened ≡ opened_by_turn what old.wires.opened → ((conn : Conn) → what ≡ happening.Accepted conn → conn.0 ≡ old.wires.opened + 1) → old.wires.turn_faults ≤ now.wires.turn_faults
    → now.wires.listening ≡ old.wires.listening → ((conn : Conn) → what ≡ happening.Accepted conn → old.wires.listening ≡ true)
    → (what ≡ happening.Failed → Rose old.wires.turn_faults now.wires.turn_faults) → HaltsSo r (halt_behind plan what new.sessions)
    → Turned plan (around old) (around now) (course_of l n asked) new (n + 1) r
turned_on plan old mid now l new n asked at what second (Ok then_) due told clock did op number fewer same hearing cause p =
    turned_came plan old mid now l new n asked at what second (halt_of then_) due told clock did op number fewer same hearing p
turned_on plan old mid now l new n asked at what second (Err Wires) due told clock did op number fewer same hearing cause p = record {
  went = turned_came plan old mid now l new n asked at what second (Some OnFailed) due told clock did op number fewer same hearing p;
  rose = cause (failed_only plan what new.sessions p);
}
turned_on plan old mid now l new n asked at what second (Err Sink) due told clock did op number fewer same hearing cause p = absurd p
turned_on plan old mid now l new n asked at what second (Err (NoMemory want)) due told clock did op number fewer same hearing cause p = absurd p

-- the halt behind a happening, by its two parts
pub halts_as : (plan : Plan) (what : Happening) (ss : List (Session KEnd)) (why : Option Halt) (r : Result Next LoopFault) → why ≡ halt_by plan ss → HaltsSo r (halt_after what why)
    → HaltsSo r (halt_behind plan what ss)
halts_as plan (happening.Accepted conn) ss why r p q = subst (λ t. HaltsSo r t) p q
halts_as plan (happening.Readable conn) ss why r p q = subst (λ t. HaltsSo r t) p q
halts_as plan (happening.Writable conn) ss why r p q = subst (λ t. HaltsSo r t) p q
halts_as plan happening.Quiet ss why r p q = subst (λ t. HaltsSo r t) p q
halts_as plan happening.Ended ss why r p q = q
halts_as plan happening.Failed ss why r p q = q

-- ---- the same, by the facts as a function has them

pub accept_does : {T : Type 0} (a b : Seen) (plan : Plan) (l new : Loop KEnd) (what : Happening) (conn : Conn) (r : Result T LoopFault)
    → what ≡ happening.Accepted conn → DoesLoopPart a b new (accepted kept_ends plan l conn.0) r → DoesLoopPart a b new (happened kept_ends plan l what) r
accept_does a b plan l new what conn r is p = subst (λ w. DoesLoopPart a b new (happened kept_ends plan l w) r) (sym is) (react_accept a b plan l new conn r p)

-- a visit by the moment of a loop and the set-up time of its plan
at_plan : {T : Type 0} (a b : Seen) (plan : Plan) (l : Loop KEnd) (ss : List (Session KEnd)) (v : Visit) (n : ℕ) (r : Result T LoopFault) (m setup : ℕ)
    → m ≡ l.moment → setup ≡ plan.settings.setup → DoesLoopPart a b ss (visit_at (visited kept_ends (rules_of_session plan.keys setup) m v) n l.sessions) r
    → DoesLoopPart a b ss (visit_at (visited kept_ends (rules_of plan) l.moment v) n l.sessions) r
at_plan a b plan l ss v n r m setup at till p =
    subst (λ (z : ℕ). DoesLoopPart a b ss (visit_at (visited kept_ends (rules_of_session plan.keys z) l.moment v) n l.sessions) r) till
    (subst (λ (z : ℕ). DoesLoopPart a b ss (visit_at (visited kept_ends (rules_of_session plan.keys setup) z v) n l.sessions) r) at p)

pub read_does : {T : Type 0} (a b : Seen) (plan : Plan) (l new : Loop KEnd) (ss : List (Session KEnd)) (what : Happening) (conn : Conn) (r : Result T LoopFault) (m setup : ℕ)
    → what ≡ happening.Readable conn → new ≡ with_sessions l ss → m ≡ l.moment → setup ≡ plan.settings.setup
    → DoesLoopPart a b ss (visit_at (visited kept_ends (rules_of_session plan.keys setup) m Read) conn.0 l.sessions) r → DoesLoopPart a b new (happened kept_ends plan l what) r
read_does a b plan l new ss what conn r m setup is same at till p =
    subst (λ w. DoesLoopPart a b new (happened kept_ends plan l w) r) (sym is) (react_read a b plan l new ss conn r same (at_plan a b plan l ss Read conn.0 r m setup at till p))

pub write_does : {T : Type 0} (a b : Seen) (plan : Plan) (l new : Loop KEnd) (ss : List (Session KEnd)) (what : Happening) (conn : Conn) (r : Result T LoopFault) (m setup : ℕ)
    → what ≡ happening.Writable conn → new ≡ with_sessions l ss → m ≡ l.moment → setup ≡ plan.settings.setup
    → DoesLoopPart a b ss (visit_at (visited kept_ends (rules_of_session plan.keys setup) m Write) conn.0 l.sessions) r → DoesLoopPart a b new (happened kept_ends plan l what) r
write_does a b plan l new ss what conn r m setup is same at till p =
    subst (λ w. DoesLoopPart a b new (happened kept_ends plan l w) r) (sym is) (react_write a b plan l new ss conn r same (at_plan a b plan l ss Write conn.0 r m setup at till p))

pub quiet_did : (a : Seen) (plan : Plan) (l : Loop KEnd) (what : Happening) → what ≡ happening.Quiet → ActedSo a a l (happened kept_ends plan l what)
quiet_did a plan l what is = subst (λ w. ActedSo a a l (happened kept_ends plan l w)) (sym is) (react_quiet a plan l)

pub ended_did : (a : Seen) (plan : Plan) (l : Loop KEnd) (what : Happening) → what ≡ happening.Ended → ActedSo a a l (happened kept_ends plan l what)
ended_did a plan l what is = subst (λ w. ActedSo a a l (happened kept_ends plan l w)) (sym is) (react_ended a plan l)

pub failed_did : (a : Seen) (plan : Plan) (l : Loop KEnd) (what : Happening) → what ≡ happening.Failed → ActedSo a a l (happened kept_ends plan l what)
failed_did a plan l what is = subst (λ w. ActedSo a a l (happened kept_ends plan l w)) (sym is) (react_failed a plan l)

-- whether the one connection of a dial was closed
pub closed_is : (plan : Plan) (ss : List (Session KEnd)) (n : ℕ) (b : Bool) → b ≡ (plan.dials && (n == 0)) → length ss ≡ n
    → halt_by plan ss ≡ (if b then Some OnClosed else None)
closed_is plan ss n b p q =
    ap (λ (z : ℕ). if plan.dials && (z == 0) then Some OnClosed else None) q ∙ ap (λ (z : Bool). if z then Some OnClosed else None) (sym p)

pub turn_goes : (plan : Plan) (old mid clocked now : Told)
    (l new : Loop KEnd) (n count m : ℕ) (asked : List ℕ) (at : Option ℕ) (what : Happening) (second : ℕ) (closed : Bool) (entries : ℕ) (r : Result Next LoopFault)
    → at ≡ until kept_ends l.sessions → Did old mid (Called (TurnedBy at what) ∷ []) → Did mid clocked (Asked second ∷ []) → m ≡ max l.moment second
    → ActedSo (seen clocked) (seen now) new (happened kept_ends plan (record l { moment = m }) what) → LeavesTurns clocked now
    → ((conn : Conn) → what ≡ happening.Accepted conn → conn.0 ≡ old.wires.opened + 1) → ((conn : Conn) → what ≡ happening.Accepted conn → old.wires.listening ≡ true) → count ≡ n + 1
    → closed ≡ (plan.dials && (entries == 0)) → length new.sessions ≡ entries
    → ((why : Option Halt) → why ≡ (if closed then Some OnClosed else None) → HaltsSo r (halt_after what why))
    → Turned plan (around old) (around now) (course_of l n asked) new count r
turn_goes plan old mid clocked now l new n count m asked at what second closed entries r due told clock moment did leaves number hearing counted is_closed len halts =
    let wires = asked_wires mid clocked second clock in
    let opened : now.wires.opened ≡ mid.wires.opened = leaves.opened ∙ ap (λ (z : WiresState). z.opened) wires in
    let tops : now.wires.turn_faults ≡ mid.wires.turn_faults = leaves.turn_count ∙ ap (λ (z : WiresState). z.turn_faults) wires in
    let fewer = told.wires.turn_faults.later in
    subst (λ t. Turned plan (around old) (around now) (course_of l n asked) new t r) (sym counted)
    (turned_on plan old mid now l new n asked at what second r due told
    (subst (λ (z : ClockState). Grew z.answers now.clock.answers (second ∷ [])) (told.clock.rests refl) (asked_once mid clocked now second clock leaves.clock))
    (subst (λ t. ActedSo (seen mid) (seen now) new (happened kept_ends plan (record l { moment = t }) what)) moment (done_behind_asked mid clocked (seen now) second new _ clock did))
    (opened ∙ told.wires.opened) number (omega (arith, fewer, tops)) (leaves.listening ∙ ap (λ (z : WiresState). z.listening) wires ∙ told.wires.listening) hearing
    (λ p. subst (λ t. Rose old.wires.turn_faults t) (sym tops) (told.wires.turn_faults.rose (failed_turns what p)))
    (halts_as plan what new.sessions (halt_by plan new.sessions) r refl (halts (halt_by plan new.sessions) (closed_is plan new.sessions entries closed is_closed len))))

pub turn_stops : (plan : Plan) (old mid clocked now : Told)
    (l new : Loop KEnd) (n count m : ℕ) (asked : List ℕ) (at : Option ℕ) (what : Happening) (second : ℕ) (fault : LoopFault)
    → at ≡ until kept_ends l.sessions → Did old mid (Called (TurnedBy at what) ∷ []) → Did mid clocked (Asked second ∷ []) → m ≡ max l.moment second
    → Stopped (seen clocked) (seen now) (happened kept_ends plan (record l { moment = m }) what) fault
    → ((conn : Conn) → what ≡ happening.Accepted conn → conn.0 ≡ old.wires.opened + 1)
    → Turned plan (around old) (around now) (course_of l n asked) new count (Err fault)
turn_stops plan old mid clocked now l new n count m asked at what second fault due told clock moment p number =
    turned_off plan old mid now l new n count asked at what second fault due told
    (subst (λ t. Stopped (seen mid) (seen now) (happened kept_ends plan (record l { moment = t }) what) fault) moment (stopped_behind_asked mid clocked (seen now) second _ fault clock p)) number

-- ---- with the loop as the code has it, whose words a turn and a question leave alone

pub turn_goes_on : (plan : Plan) (old mid clocked now : Told) (slots : Slab (Session KEnd)) (places : BTreeMap ℕ ℕ) (users : List Mind) (from : ℕ)
    (new : Loop KEnd) (n count m : ℕ) (asked : List ℕ) (at : Option ℕ) (what : Happening) (second : ℕ) (closed : Bool) (entries : ℕ) (r : Result Next LoopFault)
    → at ≡ until kept_ends (sessions slots places) → Did old mid (Called (TurnedBy at what) ∷ []) → Did mid clocked (Asked second ∷ []) → m ≡ max from second
    → ActedSo (seen clocked) (seen now) new (happened kept_ends plan (loop_of slots places users m clocked.words) what) → LeavesTurns clocked now
    → ((conn : Conn) → what ≡ happening.Accepted conn → conn.0 ≡ old.wires.opened + 1) → ((conn : Conn) → what ≡ happening.Accepted conn → old.wires.listening ≡ true) → count ≡ n + 1
    → closed ≡ (plan.dials && (entries == 0)) → length new.sessions ≡ entries
    → ((why : Option Halt) → why ≡ (if closed then Some OnClosed else None) → HaltsSo r (halt_after what why))
    → Turned plan (around old) (around now) (course_of (loop_of slots places users from old.words) n asked) new count r
turn_goes_on plan old mid clocked now slots places users from new n count m asked at what second closed entries r due told clock moment did leaves number hearing counted is_closed len halts =
    subst (λ (z : Stream). Turned plan (around old) (around now) (course_of (loop_of slots places users from z) n asked) new count r) (turned_words old mid clocked (TurnedBy at what) second told clock)
    (turn_goes plan old mid clocked now (loop_of slots places users from clocked.words) new n count m asked at what second closed entries r due told clock moment did leaves number hearing counted is_closed len halts)

pub turn_stops_so : (plan : Plan) (old mid clocked now : Told) (slots : Slab (Session KEnd)) (places : BTreeMap ℕ ℕ) (users : List Mind) (from : ℕ)
    (new : Loop KEnd) (n count m : ℕ) (asked : List ℕ) (at : Option ℕ) (what : Happening) (second : ℕ) (fault : LoopFault)
    → at ≡ until kept_ends (sessions slots places) → Did old mid (Called (TurnedBy at what) ∷ []) → Did mid clocked (Asked second ∷ []) → m ≡ max from second
    → Stopped (seen clocked) (seen now) (happened kept_ends plan (loop_of slots places users m clocked.words) what) fault
    → ((conn : Conn) → what ≡ happening.Accepted conn → conn.0 ≡ old.wires.opened + 1)
    → Turned plan (around old) (around now) (course_of (loop_of slots places users from old.words) n asked) new count (Err fault)
turn_stops_so plan old mid clocked now slots places users from new n count m asked at what second fault due told clock moment p number =
    subst (λ (z : Stream). Turned plan (around old) (around now) (course_of (loop_of slots places users from z) n asked) new count (Err fault)) (turned_words old mid clocked (TurnedBy at what) second told clock)
    (turn_stops plan old mid clocked now (loop_of slots places users from clocked.words) new n count m asked at what second fault due told clock moment p number)

-- what the handling of a happening stands on
pub ready_from : (old mid clocked : Told) (at : Option ℕ) (what : Happening) (second : ℕ) (slots : Slab (Session KEnd)) (es : List (ℕ × ℕ))
    → Did old mid (Called (TurnedBy at what) ∷ []) → Did mid clocked (Asked second ∷ []) → ((conn : Conn) → what ≡ happening.Accepted conn → conn.0 ≡ old.wires.opened + 1)
    → AreSeated old.wires.opened slots es → IsReadyFor what clocked.wires.opened slots es
ready_from old mid clocked at what second slots es told clock number seated =
    ready_for what old.wires.opened clocked.wires.opened slots es (ap (λ (z : WiresState). z.opened) (asked_wires mid clocked second clock) ∙ told.wires.opened) number seated
