-- A loop that serves and one that dials, however they end: recorded before it goes.
use Rattle.er_end.specs.KeptEnds.{KEnd}
use Rattle.loop_session.specs.Keeping.{kept_ends}
use Rattle.std.proofs.Common.{◌≡◌, ℕ, ◌<◌, List, [], ◌∷◌, ◌++◌, Option, Some, None, Result, Ok, Err, length, refl, sym, ◌∙◌, ap, subst, arith}
use Rattle.std.specs.Prelude.{true, false, Bool}
use Rattle.rand_core.specs.Stream.{Stream}
use Rattle.des_block.specs.declared.triple_key.TripleKey.{TripleKey}
use Rattle.er_settings.specs.Ranges.{AllAllowed}
use Rattle.er_users.specs.Users.{Mind}
use Rattle.link_trait.specs.Wires as wires
use Rattle.link_trait.specs.Wires.{given_of}
use Rattle.outside.specs.Acts.{Listened, Dialled as DialledSo, Called}
use Rattle.outside.specs.Doings.{Told, Did}
use Rattle.outside.specs.Scripts.{printing}
use Rattle.loop_model.specs.Ends.{ModelEnd, model_ends}
use Rattle.loop_model.specs.Journals.{trace_header}
use Rattle.loop_model.specs.Deeds.{LoopDeed, Calling, entries_in, calls_in}
use Rattle.loop_model.specs.Outs.{Out, next}
use Rattle.loop_model.specs.Loops.{Plan, Loop, Caller, Halt, OnClosed, OnFailed, Course, Dialled, asks, run, beginning, dials}
use Rattle.loop_model.specs.Orderings.{IsSequenced}
use Rattle.loop_model.specs.Parts.{Rises, opened_in}
use Rattle.loop_model.specs.Laws.{IsServing, IsDialling}
use Rattle.loop_session.specs.declared.loop_fault.LoopFault.{LoopFault}
use Rattle.loop_session.specs.declared.loop_fault.LoopFault.TheVariants.{Wires, Sink, NoMemory}
use Rattle.loop_io.specs.Acting.{DidDeeds, BeganDeeds}
use Rattle.loop_io.specs.DeedSteps.{began_behind}
use Rattle.readiness_loop.specs.declared.line_plan.Served.{Served}
use Rattle.readiness_loop.specs.Cuts.{LiesIn, first_turns}
use Rattle.readiness_loop.specs.Claims.{pair_of, caller_of, halt_for, opening as model_opening}
use Rattle.readiness_loop.specs.Courses.{around, Went, WentOff, RanOff, Runs, course_of, opening_over_kept_ends, Opened, Opens, halt_if}
use Rattle.readiness_loop.specs.Recorded.{IsRecordedFirst}
use Rattle.readiness_loop.proofs.Planned.{many, opens_many}
use Rattle.readiness_loop.proofs.Running.{course_is}
use Rattle.readiness_loop.proofs.Sweeps.{after}
use Rattle.readiness_loop.proofs.Shown.{shown}
use Rattle.readiness_loop.proofs.Tellings.{rises_with}
use Rattle.readiness_loop.proofs.Listening.{Laws, is_serving, rises_low}
use Rattle.readiness_loop.proofs.Dials.{whole, model_whole, WentOn, met_so, ran_on, closed_on, dials_is, whole_alike, is_dialling, opening_same, rises_whole, from_start}
use Rattle.readiness_loop.proofs.Recordings.{InOrder, came_all, came_some, recorded_run}

ordered : (plan : Plan) (o : Out (Course ModelEnd)) → IsSequenced plan o → InOrder o.order
ordered plan o h = record { told = h.told; last = h.last }

-- ---- a loop that serves

serve_whole : (laws : Laws) (plan : Plan) (a l m b : Told) (minds : List Mind) (words : Stream) (address : List ℕ) (new : Loop KEnd) (count : ℕ) (why : Option Halt)
    → AllAllowed plan.settings → Did a l (Called (Listened address true) ∷ []) → Did l m (printing (trace_header plan.settings))
    → Went (run kept_ends plan (beginning minds words)) (around m) (around b) (beginning minds words) new count why → IsRecordedFirst (trace_header plan.settings) a b
serve_whole laws plan a l m b minds words address new count why allowed p q w =
    let o = run model_ends plan (beginning minds words) w.answers in
    let alike = laws.runs plan minds words w.answers allowed in
    let s = shown (around m) (around b) (beginning minds words) new count why (run kept_ends plan (beginning minds words) w.answers) o refl w.is alike in
    let serving = is_serving plan (around m) (around b) minds words w.answers count why allowed s in
    recorded_run (trace_header plan.settings) a l m b (Listened address true) o.order refl p q (ordered plan o (laws.in_order.serving plan (beginning minds words) w.answers serving))
    (came_all m b o.order (subst (λ (z : List LoopDeed). DidDeeds m b z) alike.order w.is.acted.did))

serve_part : (laws : Laws) (plan : Plan) (a l m b : Told) (minds : List Mind) (words : Stream) (address : List ℕ) (fault : LoopFault)
    → AllAllowed plan.settings → Did a l (Called (Listened address true) ∷ []) → Did l m (printing (trace_header plan.settings))
    → RanOff plan (around m) (around b) (beginning minds words) fault → IsRecordedFirst (trace_header plan.settings) a b
serve_part laws plan a l m b minds words address fault allowed p q w =
    let turns = w.lies.turns ++ w.lies.last ∷ [] in
    let more = many plan (length turns) in
    let o = run model_ends more (beginning minds words) turns in
    let alike = laws.runs more minds words turns allowed in
    let serving : IsServing more (beginning minds words) turns = record {
      none = refl;
      rises = rises_low 0 m.wires.opened _ (omega arith) (subst (λ z. Rises m.wires.opened (opened_in z)) alike.calls (rises_with plan (around m) (around b) (beginning minds words) fault w));
      allowed = allowed;
    } in
    recorded_run (trace_header plan.settings) a l m b (Listened address true) o.order refl p q (ordered more o (laws.in_order.serving more (beginning minds words) turns serving))
    (came_some m b o.order fault (subst (λ (z : List LoopDeed). BeganDeeds m b z fault) alike.order w.began))

serve_ran : (laws : Laws) (plan : Plan) (a l m b : Told) (minds : List Mind) (words : Stream) (address : List ℕ) (new : Loop KEnd) (count : ℕ) (r : Result Served LoopFault)
    → AllAllowed plan.settings → Did a l (Called (Listened address true) ∷ []) → Did l m (printing (trace_header plan.settings))
    → Runs plan (around m) (around b) (beginning minds words) new count r → IsRecordedFirst (trace_header plan.settings) a b
serve_ran laws plan a l m b minds words address new count (Ok served) allowed p q w = serve_whole laws plan a l m b minds words address new served.turns (halt_for served.why) allowed p q w
serve_ran laws plan a l m b minds words address new count (Err Wires) allowed p q w = serve_whole laws plan a l m b minds words address new count (Some OnFailed) allowed p q w.went
serve_ran laws plan a l m b minds words address new count (Err Sink) allowed p q w = serve_part laws plan a l m b minds words address Sink allowed p q w
serve_ran laws plan a l m b minds words address new count (Err (NoMemory want)) allowed p q w = serve_part laws plan a l m b minds words address (NoMemory want) allowed p q w

pub serve_recorded : (laws : Laws) (plan : Plan) (a l m b : Told) (minds : List Mind) (words : Stream) (address : List ℕ) (start new : Loop KEnd) (count : ℕ) (r : Result Served LoopFault)
    → AllAllowed plan.settings → Did a l (Called (Listened address true) ∷ []) → Did l m (printing (trace_header plan.settings)) → start ≡ (beginning minds words).loop
    → Runs plan (around m) (around b) (course_of start 0 []) new count r → IsRecordedFirst (trace_header plan.settings) a b
serve_recorded laws plan a l m b minds words address start new count r allowed p q is w =
    serve_ran laws plan a l m b minds words address new count r allowed p q (subst (λ (z : Loop KEnd). Runs plan (around m) (around b) (course_of z 0 []) new count r) is w)

-- ---- a loop that dials

-- without the dial that comes first
dials_ordered : (laws : Laws) (plan : Plan) (caller : Caller) (minds : List Mind) (words : Stream) (address : List ℕ) (conn : ℕ) (x : Dialled) → x.conn ≡ Some conn
    → IsDialling plan caller (beginning minds words) address x → InOrder (model_whole plan caller (beginning minds words) conn x).order
unfolding given_of entries_in calls_in
dials_ordered laws plan caller minds words address conn x is dialling =
    let h = laws.in_order.dialling plan caller (beginning minds words) address x dialling in
    let d : LoopDeed = Calling (wires.Dials address (Some conn)) in
    let same : (dials model_ends plan caller (beginning minds words) address x).order ≡ d ∷ (model_whole plan caller (beginning minds words) conn x).order =
    ap (λ (z : Out (Course ModelEnd)). z.order) (dials_is model_ends plan caller (beginning minds words) address conn x is) in
    record {
      told = λ n done rest e. h.told n (d ∷ done) rest (ap (λ z. d ∷ z) e ∙ sym same);
      last = λ n done rest e. h.last n (d ∷ done) rest (ap (λ z. d ∷ z) e ∙ sym same);
    }

dial_whole : (laws : Laws) (engine rbc : ℕ) (kmac : TripleKey) (plan : Plan) (a l m b : Told) (minds : List Mind) (words : Stream) (address : List ℕ) (conn : ℕ) (new : Loop KEnd) (count : ℕ) (why : Option Halt)
    → AllAllowed plan.settings → plan.keys ≡ pair_of engine rbc kmac ∷ [] → plan.rbc ≡ rbc → m.wires.opened ≡ conn → 0 < conn
    → Did a l (Called (DialledSo address (Some conn)) ∷ []) → Did l m (printing (trace_header plan.settings))
    → WentOn plan (caller_of engine kmac) (around m) (around b) (beginning minds words) conn new count why → IsRecordedFirst (trace_header plan.settings) a b
dial_whole laws engine rbc kmac plan a l m b minds words address conn new count why allowed keys number top above p q w =
    let caller = caller_of engine kmac in
    let x = w.answers in
    let o = model_whole plan caller (beginning minds words) conn x in
    let alike = whole_alike laws plan caller minds words address conn x allowed w.is_conn in
    let s = shown (around m) (around b) (beginning minds words) new count why (whole plan caller (beginning minds words) conn x) o refl w.is alike in
    let dialling = is_dialling engine rbc kmac plan (around m) minds words address conn x allowed keys number top above w.is_conn w.early s.rises in
    recorded_run (trace_header plan.settings) a l m b (DialledSo address (Some conn)) o.order refl p q (dials_ordered laws plan caller minds words address conn x w.is_conn dialling)
    (came_all m b o.order (subst (λ (z : List LoopDeed). DidDeeds m b z) alike.order w.is.acted.did))

-- the run behind the opening broke off
dial_part : (laws : Laws) (engine rbc : ℕ) (kmac : TripleKey) (plan : Plan) (a l m k b : Told) (minds : List Mind) (words : Stream) (address : List ℕ) (conn : ℕ) (live : Loop KEnd) (fault : LoopFault)
    → AllAllowed plan.settings → plan.keys ≡ pair_of engine rbc kmac ∷ [] → plan.rbc ≡ rbc → m.wires.opened ≡ conn → 0 < conn
    → Did a l (Called (DialledSo address (Some conn)) ∷ []) → Did l m (printing (trace_header plan.settings))
    → (o : Opened plan (caller_of engine kmac) (around m) (around k) (beginning minds words) conn live 0 None)
    → ((asked : List ℕ) → RanOff plan (around k) (around b) (course_of live 0 asked) fault) → IsRecordedFirst (trace_header plan.settings) a b
unfolding met_so
dial_part laws engine rbc kmac plan a l m k b minds words address conn live fault allowed keys number top above p q opened f =
    let caller = caller_of engine kmac in
    let x = opened.went.answers in
    let o = opening_over_kept_ends plan caller (beginning minds words) conn x in
    let w : RanOff plan (around k) (around b) o.state fault =
    subst (λ (z : Course KEnd). RanOff plan (around k) (around b) z fault) (course_is (around m) (around k) (beginning minds words) live 0 o opened.went.is) (f o.state.asked) in
    let turns = w.lies.turns ++ w.lies.last ∷ [] in
    let more = many plan (length turns) in
    let answers = met_so conn x turns in
    let dialling = is_dialling engine rbc kmac more (around m) minds words address conn answers allowed keys number top above refl opened.early
    (rises_whole laws plan caller (around m) (around k) minds words address conn live turns allowed opened (rises_with plan (around k) (around b) o.state fault w)) in
    let r = first_turns kept_ends plan o.state turns in
    let is : whole more caller (beginning minds words) conn answers ≡ after o r =
    ap (λ (z : Out (Course KEnd)). next z (λ e. run kept_ends more e turns)) (opens_many kept_ends plan (length turns) caller (asks x.0 (beginning minds words)) conn x.1) in
    let same = ap (λ (z : Out (Course KEnd)). z.order) (sym is) ∙ (whole_alike laws more caller minds words address conn answers allowed refl).order in
    let all = model_whole more caller (beginning minds words) conn answers in
    recorded_run (trace_header plan.settings) a l m b (DialledSo address (Some conn)) all.order refl p q (dials_ordered laws more caller minds words address conn answers refl dialling)
    (came_some m b all.order fault (subst (λ (z : List LoopDeed). BeganDeeds m b z fault) same (began_behind m k b o.order r.order fault opened.went.is.acted.did w.began)))

dial_opening : (laws : Laws) (plan : Plan) (caller : Caller) (a l m b : Told) (minds : List Mind) (words : Stream) (address : List ℕ) (conn : ℕ) (fault : LoopFault)
    → AllAllowed plan.settings → Did a l (Called (DialledSo address (Some conn)) ∷ []) → Did l m (printing (trace_header plan.settings))
    → WentOff (opening_over_kept_ends plan caller (beginning minds words) conn) (λ x cut. LiesIn (opening_over_kept_ends plan caller (beginning minds words) conn x) cut) (around m) (around b) fault
    → IsRecordedFirst (trace_header plan.settings) a b
dial_opening laws plan caller a l m b minds words address conn fault allowed p q w =
    let x = w.answers in
    let o = model_opening plan caller minds words conn x.0 x.1 in
    recorded_run (trace_header plan.settings) a l m b (DialledSo address (Some conn)) o.order refl p q (ordered plan o (laws.opening plan caller (asks x.0 (beginning minds words)) conn x.1))
    (came_some m b o.order fault (subst (λ (z : List LoopDeed). BeganDeeds m b z fault) (opening_same laws plan caller minds words address conn x allowed).order w.began))

-- it was closed at once
pub dial_closed_recorded : (laws : Laws) (engine rbc : ℕ) (kmac : TripleKey) (plan : Plan) (a l m b : Told) (minds : List Mind) (words : Stream) (address : List ℕ) (conn : ℕ) (start new : Loop KEnd) (n0 n : ℕ) (stays : Bool)
    → AllAllowed plan.settings → plan.keys ≡ pair_of engine rbc kmac ∷ [] → plan.rbc ≡ rbc → m.wires.opened ≡ conn → 0 < conn
    → Did a l (Called (DialledSo address (Some conn)) ∷ []) → Did l m (printing (trace_header plan.settings))
    → stays ≡ false → start ≡ (beginning minds words).loop → n0 ≡ 0 → n ≡ n0
    → Opens plan (caller_of engine kmac) (around m) (around b) (course_of start n0 []) conn new n (Ok stays) → IsRecordedFirst (trace_header plan.settings) a b
dial_closed_recorded laws engine rbc kmac plan a l m b minds words address conn start new n0 n stays allowed keys number top above p q closed is zero same o =
    let opened : Opened plan (caller_of engine kmac) (around m) (around b) (beginning minds words) conn new 0 (halt_if stays) =
    from_start (λ c z. Opened plan (caller_of engine kmac) (around m) (around b) c conn new z (halt_if stays)) minds words start n0 n is zero same o in
    dial_whole laws engine rbc kmac plan a l m b minds words address conn new 0 (Some OnClosed) allowed keys number top above p q
    (closed_on plan (caller_of engine kmac) (around m) (around b) minds words conn new
    (subst (λ z. Opened plan (caller_of engine kmac) (around m) (around b) (beginning minds words) conn new 0 (halt_if z)) closed opened))

-- the opening broke off
dial_stopped : (laws : Laws) (plan : Plan) (caller : Caller) (a l m b : Told) (minds : List Mind) (words : Stream) (address : List ℕ) (conn : ℕ) (new : Loop KEnd) (n : ℕ) (fault : LoopFault)
    → AllAllowed plan.settings → Did a l (Called (DialledSo address (Some conn)) ∷ []) → Did l m (printing (trace_header plan.settings))
    → Opens plan caller (around m) (around b) (beginning minds words) conn new n (Err fault) → IsRecordedFirst (trace_header plan.settings) a b
dial_stopped laws plan caller a l m b minds words address conn new n Wires allowed p q o = absurd o
dial_stopped laws plan caller a l m b minds words address conn new n Sink allowed p q o = dial_opening laws plan caller a l m b minds words address conn Sink allowed p q o
dial_stopped laws plan caller a l m b minds words address conn new n (NoMemory want) allowed p q o = dial_opening laws plan caller a l m b minds words address conn (NoMemory want) allowed p q o

pub dial_stops_recorded : (laws : Laws) (plan : Plan) (caller : Caller) (a l m b : Told) (minds : List Mind) (words : Stream) (address : List ℕ) (conn : ℕ) (start new : Loop KEnd) (n0 n : ℕ) (fault : LoopFault)
    → AllAllowed plan.settings → Did a l (Called (DialledSo address (Some conn)) ∷ []) → Did l m (printing (trace_header plan.settings))
    → start ≡ (beginning minds words).loop → n0 ≡ 0 → n ≡ n0
    → Opens plan caller (around m) (around b) (course_of start n0 []) conn new n (Err fault) → IsRecordedFirst (trace_header plan.settings) a b
dial_stops_recorded laws plan caller a l m b minds words address conn start new n0 n fault allowed p q is zero same o =
    dial_stopped laws plan caller a l m b minds words address conn new 0 fault allowed p q
    (from_start (λ c z. Opens plan caller (around m) (around b) c conn new z (Err fault)) minds words start n0 n is zero same o)

-- the run behind the opening, however it ended
dial_ran : (laws : Laws) (engine rbc : ℕ) (kmac : TripleKey) (plan : Plan) (a l m k b : Told) (minds : List Mind) (words : Stream) (address : List ℕ) (conn : ℕ) (live new : Loop KEnd) (count : ℕ) (r : Result Served LoopFault)
    → AllAllowed plan.settings → plan.keys ≡ pair_of engine rbc kmac ∷ [] → plan.rbc ≡ rbc → m.wires.opened ≡ conn → 0 < conn
    → Did a l (Called (DialledSo address (Some conn)) ∷ []) → Did l m (printing (trace_header plan.settings))
    → Opened plan (caller_of engine kmac) (around m) (around k) (beginning minds words) conn live 0 None
    → ((asked : List ℕ) → Runs plan (around k) (around b) (course_of live 0 asked) new count r) → IsRecordedFirst (trace_header plan.settings) a b
dial_ran laws engine rbc kmac plan a l m k b minds words address conn live new count (Ok served) allowed keys number top above p q o f =
    dial_whole laws engine rbc kmac plan a l m b minds words address conn new served.turns (halt_for served.why) allowed keys number top above p q
    (ran_on plan (caller_of engine kmac) (around m) (around k) (around b) minds words conn live new served.turns (halt_for served.why) o f)
dial_ran laws engine rbc kmac plan a l m k b minds words address conn live new count (Err Wires) allowed keys number top above p q o f =
    dial_whole laws engine rbc kmac plan a l m b minds words address conn new count (Some OnFailed) allowed keys number top above p q
    (ran_on plan (caller_of engine kmac) (around m) (around k) (around b) minds words conn live new count (Some OnFailed) o (λ asked. (f asked).went))
dial_ran laws engine rbc kmac plan a l m k b minds words address conn live new count (Err Sink) allowed keys number top above p q o f =
    dial_part laws engine rbc kmac plan a l m k b minds words address conn live Sink allowed keys number top above p q o f
dial_ran laws engine rbc kmac plan a l m k b minds words address conn live new count (Err (NoMemory want)) allowed keys number top above p q o f =
    dial_part laws engine rbc kmac plan a l m k b minds words address conn live (NoMemory want) allowed keys number top above p q o f

pub dial_ran_recorded : (laws : Laws) (engine rbc : ℕ) (kmac : TripleKey) (plan : Plan) (a l m k b : Told) (minds : List Mind) (words : Stream) (address : List ℕ) (conn : ℕ) (start live new : Loop KEnd) (n0 n count : ℕ) (stays : Bool) (r : Result Served LoopFault)
    → AllAllowed plan.settings → plan.keys ≡ pair_of engine rbc kmac ∷ [] → plan.rbc ≡ rbc → m.wires.opened ≡ conn → 0 < conn
    → Did a l (Called (DialledSo address (Some conn)) ∷ []) → Did l m (printing (trace_header plan.settings))
    → stays ≡ true → start ≡ (beginning minds words).loop → n0 ≡ 0 → n ≡ n0
    → Opens plan (caller_of engine kmac) (around m) (around k) (course_of start n0 []) conn live n (Ok stays)
    → ((asked : List ℕ) → Runs plan (around k) (around b) (course_of live 0 asked) new count r) → IsRecordedFirst (trace_header plan.settings) a b
dial_ran_recorded laws engine rbc kmac plan a l m k b minds words address conn start live new n0 n count stays r allowed keys number top above p q goes is zero same o f =
    let opened : Opened plan (caller_of engine kmac) (around m) (around k) (beginning minds words) conn live 0 (halt_if stays) =
    from_start (λ c z. Opened plan (caller_of engine kmac) (around m) (around k) c conn live z (halt_if stays)) minds words start n0 n is zero same o in
    dial_ran laws engine rbc kmac plan a l m k b minds words address conn live new count r allowed keys number top above p q
    (subst (λ z. Opened plan (caller_of engine kmac) (around m) (around k) (beginning minds words) conn live 0 (halt_if z)) goes opened) f
