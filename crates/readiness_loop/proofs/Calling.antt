-- The opening of a dial: its one connection gets a session that calls, or is turned away.
use Rattle.er_end.specs.KeptEnds.{KEnd}
use Rattle.loop_session.specs.Keeping.{kept_ends}
use Rattle.std.proofs.Common.{◌≡◌, ℕ, ◌≤◌, max, Bool, true, false, List, [], ◌∷◌, ◌++◌, Option, Some, None, Result, Ok, Err, length, refl, sym, ◌∙◌, ap, subst, arith}
use Rattle.std.specs.Prelude.{◌==◌, if◌then◌else◌, OnOk, IfOk}
use Rattle.std.specs.BTreeMap.{BTreeMap}
use Rattle.rand_core.specs.Stream.{Stream, next_u64}
use Rattle.slab.specs.Slab.{Slab}
use Rattle.er_base.specs.declared.no_memory.NoMemory.{NoMemory as Want}
use Rattle.er_trace.specs.declared.event.Event.TheVariants as event
use Rattle.er_users.specs.Users.{Mind}
use Rattle.link_trait.specs.Outside.{Grew}
use Rattle.link_trait.specs.States.{WiresState}
use Rattle.outside.specs.Acts.{Asked}
use Rattle.outside.specs.Doings.{Told, Did}
use Rattle.loop_model.specs.Ends.{EndOps}
use Rattle.loop_model.specs.Outs.{Out, changed}
use Rattle.loop_model.specs.Sessions.{Session, Begins}
use Rattle.loop_model.specs.Visits.{Met, nothing_met, served}
use Rattle.loop_model.specs.Loops.{Plan, Loop, rules_of, Course, asks, halt_by, opens, begun_dial, Caller, calling, called_by, called, with_sessions, one_less, next_user, other_users, turned_away}
use Rattle.loop_model.specs.Parts.{opened_in, Rises, newest}
use Rattle.loop_model.specs.Laws.{turns_of}
use Rattle.safety_automaton.specs.Keys as keys
use Rattle.loop_session.specs.Parts.{rules_of_session}
use Rattle.loop_session.specs.declared.loop_fault.LoopFault.{LoopFault}
use Rattle.loop_session.specs.declared.loop_fault.LoopFault.TheVariants.{Wires, Sink, NoMemory}
use Rattle.loop_io.specs.Acting.{Acted, BreaksAt, ActedSo, Stopped, DoesLoopPart}
use Rattle.loop_io.specs.Seeing.{Seen, seen}
use Rattle.loop_io.specs.Sequels.{breaks_wanted, breaks_behind}
use Rattle.loop_io.specs.Visiting.{left, Visits}
use Rattle.readiness_loop.specs.Books.{sessions, AreSeated}
use Rattle.readiness_loop.specs.Cuts.{LiesIn}
use Rattle.readiness_loop.proofs.Cutting.{cut_of, cut_lies, cut_broke, lies_as}
use Rattle.readiness_loop.specs.Courses.{Around, around, WentOff, loop_of, course_of, opening_over_kept_ends, Opens, halt_if}
use Rattle.readiness_loop.proofs.Sequences.{acted_as, breaks_as}
use Rattle.readiness_loop.proofs.Acceptings.{last_user, other_ones, no_sessions, length_sessions}
use Rattle.readiness_loop.specs.Lives.{LeavesTurns}
use Rattle.readiness_loop.proofs.Openings.{OpensNone, served_opens}
use Rattle.readiness_loop.proofs.Quiets.{asked_words, asked_wires, asked_once, part_behind_asked}

-- ---- the session that calls

-- memory ran out before it began
pub want_first : {S : Type 0} (a : Seen) (model : Met → Out S) (want : Want) → Stopped a a model (NoMemory want)
want_first a model want = record { answers = nothing_met; breaks = breaks_wanted a (model nothing_met) want }

-- memory ran out behind it
pub want_behind : (a b : Seen) (s : Session KEnd) (stays : Bool) (model model' : Met → Out (List (Session KEnd))) (want : Want)
    → model ≡ model' → Visits a b s model (Ok stays) → Stopped a b model' (NoMemory want)
want_behind a b s stays model model' want same did =
    subst (λ z. Stopped a b z (NoMemory want)) same
    (record { answers = did.answers; breaks = breaks_behind a b (left stays s) (model did.answers) want did.is })

pub call_model : (entries : List keys.KmacEntry) (setup setup' m m' : ℕ) (s s' : Session KEnd) (engine rbc rb rb' : ℕ) → setup ≡ setup' → m ≡ m' → s ≡ s' → rb ≡ rb'
    → served kept_ends (rules_of_session entries setup) m s (Begins engine rbc rb) ≡ served kept_ends (rules_of_session entries setup') m' s' (Begins engine rbc rb')
call_model entries setup setup' m m' s s' engine rbc rb rb' p q r t = rw (p, q, r, t) refl

pub call_stays : (a b : Seen) (slots now : Slab (Session KEnd)) (places then_ : BTreeMap ℕ ℕ) (s : Session KEnd) (stays : Bool) (model model' : Met → Out (List (Session KEnd)))
    → model ≡ model' → places.entries ≡ [] → stays ≡ true → sessions now then_ ≡ sessions slots places ++ s ∷ [] → Visits a b s model (Ok stays)
    → ActedSo a b (sessions now then_) model'
call_stays a b slots now places then_ s stays model model' same none is joins did =
    subst (λ z. ActedSo a b (sessions now then_) z) same
    (subst (λ ss. ActedSo a b ss model) (sym (joins ∙ ap (λ z. z ++ s ∷ []) (no_sessions slots places none)))
    (subst (λ z. ActedSo a b (left z s) model) is did))

pub call_leaves : (a b : Seen) (slots : Slab (Session KEnd)) (places : BTreeMap ℕ ℕ) (s : Session KEnd) (stays : Bool) (model model' : Met → Out (List (Session KEnd)))
    → model ≡ model' → places.entries ≡ [] → stays ≡ false → Visits a b s model (Ok stays) → ActedSo a b (sessions slots places) model'
call_leaves a b slots places s stays model model' same none is did =
    subst (λ z. ActedSo a b (sessions slots places) z) same
    (subst (λ ss. ActedSo a b ss model) (sym (no_sessions slots places none)) (subst (λ z. ActedSo a b (left z s) model) is did))

pub call_breaks : (a b : Seen) (model model' : Met → Out (List (Session KEnd))) (fault : LoopFault) → model ≡ model' → Stopped a b model fault → Stopped a b model' fault
call_breaks a b model model' fault same p = subst (λ z. Stopped a b z fault) same p

pub one_entry : (top : ℕ) (slots now : Slab (Session KEnd)) (places then_ : BTreeMap ℕ ℕ) (s : Session KEnd) → places.entries ≡ [] → AreSeated top now then_.entries
    → sessions now then_ ≡ sessions slots places ++ s ∷ [] → (length then_.entries == 0) ≡ false
one_entry top slots now places then_ s none seated joins =
    let one : length then_.entries ≡ 1 = sym (length_sessions top now then_.entries seated) ∙ ap (λ (z : List (Session KEnd)). length z) (joins ∙ ap (λ z. z ++ s ∷ []) (no_sessions slots places none)) in
    rw one refl

-- ---- the opening

-- the loop behind a call
abbrev pub called_loop : Loop KEnd → List (Session KEnd) → List Mind → Loop KEnd
called_loop l ss users = record { sessions = ss; users = users; moment = l.moment; words = (next_u64 l.words).1 }

pub open_called : (a b : Seen) (plan : Plan) (caller : Caller) (l new : Loop KEnd) (ss : List (Session KEnd)) (users : List Mind) (mind : Mind) (conn : ℕ) (r : Result Bool LoopFault)
    → l.users ≡ users ++ mind ∷ [] → OnOk r (new ≡ called_loop l ss users)
    → DoesLoopPart a b ss (served kept_ends (rules_of plan) l.moment (begun_dial conn (calling kept_ends plan caller l) mind) (Begins caller.engine plan.rbc (next_u64 l.words).0)) r
    → DoesLoopPart a b new (called kept_ends plan caller l conn) r
unfolding called
open_called a b plan caller l new ss users mind conn (Ok stays) has is did =
    let o = served kept_ends (rules_of plan) l.moment (begun_dial conn (calling kept_ends plan caller l) mind) (Begins caller.engine plan.rbc (next_u64 l.words).0) did.answers in
    let next_is : next_user l.users ≡ Some mind = ap next_user has ∙ last_user users mind in
    let others : other_users l.users ≡ users = ap other_users has ∙ other_ones users mind in
    let acted : Acted a b new (changed (with_sessions (one_less l)) o) =
    acted_as a b ss new o (changed (with_sessions (one_less l)) o) (record { entries = refl; calls = refl; order = refl })
    (is ∙ ap (λ z. called_loop l ss z) (sym others) ∙ ap (with_sessions (one_less l)) did.is.state) did.is in
    record { answers = did.answers; is = subst (λ (z : Option Mind). Acted a b new (called_by kept_ends z plan caller l conn did.answers)) (sym next_is) acted }
open_called a b plan caller l new ss users mind conn (Err fault) has is did =
    let o = served kept_ends (rules_of plan) l.moment (begun_dial conn (calling kept_ends plan caller l) mind) (Begins caller.engine plan.rbc (next_u64 l.words).0) did.answers in
    let next_is : next_user l.users ≡ Some mind = ap next_user has ∙ last_user users mind in
    let breaks : BreaksAt a b (changed (with_sessions (one_less l)) o) fault =
    breaks_as a b o (changed (with_sessions (one_less l)) o) fault (record { entries = refl; calls = refl; order = refl }) did.breaks in
    record { answers = did.answers; breaks = subst (λ (z : Option Mind). BreaksAt a b (called_by kept_ends z plan caller l conn did.answers) fault) (sym next_is) breaks }

pub unserved_breaks : (a b : Seen) (plan : Plan) (caller : Caller) (l : Loop KEnd) (conn : ℕ) (fault : LoopFault)
    → l.users ≡ [] → BreaksAt a b (turned_away l conn (event.Unserved 0)) fault → Stopped a b (called kept_ends plan caller l conn) fault
unfolding called
unserved_breaks a b plan caller l conn fault none p =
    let none_is : next_user l.users ≡ None = ap next_user none in
    record { answers = nothing_met; breaks = subst (λ (z : Option Mind). BreaksAt a b (called_by kept_ends z plan caller l conn nothing_met) fault) (sym none_is) p }

pub unserved_did : (a b : Seen) (plan : Plan) (caller : Caller) (l new : Loop KEnd) (conn : ℕ)
    → l.users ≡ [] → new ≡ l → Acted a b l (turned_away l conn (event.Unserved 0)) → ActedSo a b new (called kept_ends plan caller l conn)
unfolding called
unserved_did a b plan caller l new conn none same p =
    let none_is : next_user l.users ≡ None = ap next_user none in
    let acted : Acted a b new (turned_away l conn (event.Unserved 0)) = subst (λ z. Acted a b z (turned_away l conn (event.Unserved 0))) (sym same) p in
    record { answers = nothing_met; is = subst (λ (z : Option Mind). Acted a b new (called_by kept_ends z plan caller l conn nothing_met)) (sym none_is) acted }

called_by_opens : {E : Type 0} (o : EndOps E) (user : Option Mind) (plan : Plan) (caller : Caller) (l : Loop E) (conn : ℕ) (a : Met) → OpensNone (called_by o user plan caller l conn a)
unfolding opened_in turns_of
called_by_opens o None plan caller l conn a = (refl, refl)
called_by_opens o (Some mind) plan caller l conn a = served_opens o (rules_of plan) l.moment _ _ a

called_opens : {E : Type 0} (o : EndOps E) (plan : Plan) (caller : Caller) (l : Loop E) (conn : ℕ) (a : Met) → OpensNone (called o plan caller l conn a)
unfolding called
called_opens o plan caller l conn a = called_by_opens o (next_user l.users) plan caller l conn a

called_by_moment : {E : Type 0} (o : EndOps E) (user : Option Mind) (plan : Plan) (caller : Caller) (l : Loop E) (conn : ℕ) (a : Met) → (called_by o user plan caller l conn a).state.moment ≡ l.moment
called_by_moment o None plan caller l conn a = refl
called_by_moment o (Some mind) plan caller l conn a = refl

pub called_moment : {E : Type 0} (o : EndOps E) (plan : Plan) (caller : Caller) (l : Loop E) (conn : ℕ) (a : Met) → (called o plan caller l conn a).state.moment ≡ l.moment
unfolding called
called_moment o plan caller l conn a = called_by_moment o (next_user l.users) plan caller l conn a

pub opens_opens : {E : Type 0} (o : EndOps E) (plan : Plan) (caller : Caller) (c : Course E) (conn : ℕ) (a : Met) → OpensNone (opens o plan caller c conn a)
opens_opens o plan caller c conn a = called_opens o plan caller c.loop conn a

opening_opens : (plan : Plan) (caller : Caller) (c : Course KEnd) (conn : ℕ) (x : ℕ × Met) → OpensNone (opening_over_kept_ends plan caller c conn x)
opening_opens plan caller c conn x = opens_opens kept_ends plan caller (asks x.0 c) conn x.1

opened_off : (plan : Plan) (caller : Caller) (a b : Around) (l : Loop KEnd) (n m first conn : ℕ) (asked : List ℕ) (fault : LoopFault)
    → m ≡ max l.moment first → Stopped a.seen b.seen (called kept_ends plan caller (record l { moment = m }) conn) fault
    → WentOff (opening_over_kept_ends plan caller (course_of l n asked) conn) (λ x cut. LiesIn (opening_over_kept_ends plan caller (course_of l n asked) conn x) cut) a b fault
opened_off plan caller a b l n m first conn asked fault moment did =
    let o = called kept_ends plan caller (record l { moment = max l.moment first }) conn did.answers in
    let c = course_of l n asked in
    let breaks : BreaksAt a.seen b.seen o fault = subst (λ z. BreaksAt a.seen b.seen (called kept_ends plan caller (record l { moment = z }) conn did.answers) fault) moment did.breaks in
    record {
      answers = (first, did.answers);
      cut = cut_of a.seen b.seen o fault breaks;
      lies = lies_as o (opening_over_kept_ends plan caller c conn (first, did.answers)) (cut_of a.seen b.seen o fault breaks) refl (cut_lies a.seen b.seen o fault breaks);
      broke = cut_broke a.seen b.seen o fault breaks;
      began = breaks.began;
    }

pub opened_so : (plan : Plan) (caller : Caller) (a b : Around) (l new : Loop KEnd) (n m first conn : ℕ) (asked : List ℕ) (r : Result Bool LoopFault)
    → m ≡ max l.moment first → first ≤ 1000000000000000 → Grew a.asked b.asked (first ∷ [])
    → DoesLoopPart a.seen b.seen new (called kept_ends plan caller (record l { moment = m }) conn) r
    → b.newest ≡ a.newest → b.turns_failed ≡ a.turns_failed → b.listening ≡ a.listening → IfOk r (λ stays. halt_if stays ≡ halt_by plan new.sessions)
    → Opens plan caller a b (course_of l n asked) conn new n r
opened_so plan caller a b l new n m first conn asked (Ok stays) moment early clock did top fails hears halts =
    let c = course_of l n asked in
    let x : ℕ × Met = (first, did.answers) in
    let o = called kept_ends plan caller (record l { moment = max l.moment first }) conn did.answers in
    let is : Acted a.seen b.seen new o = subst (λ z. Acted a.seen b.seen new (called kept_ends plan caller (record l { moment = z }) conn did.answers)) moment did.is in
    let state : Loop KEnd → Course KEnd = λ z. record { loop = z; turns = n; halt = halt_by plan z.sessions; asked = asked ++ first ∷ [] } in
    let none = opening_opens plan caller c conn x in
    record {
      went = record {
        answers = x;
        is = record {
          loop = is.state;
          turns = refl;
          halt = halts ∙ ap (λ (z : Loop KEnd). halt_by plan z.sessions) is.state;
          acted = acted_as a.seen b.seen new (opening_over_kept_ends plan caller c conn x).state o (opening_over_kept_ends plan caller c conn x) (record { entries = refl; calls = refl; order = refl }) refl is;
          more = first ∷ [];
          asked = refl;
          answered = clock;
          opened = top ∙ ap (newest a.newest) (sym none.0);
          rises = subst (λ z. Rises a.newest z) (sym none.0) tt;
          failed = omega (arith, fails);
          listens = hears;
          alone = λ deaf. none.0;
        };
      };
      early = early;
    }
opened_so plan caller a b l new n m first conn asked (Err Wires) moment early clock did top fails hears halts = did.breaks.failed
opened_so plan caller a b l new n m first conn asked (Err Sink) moment early clock did top fails hears halts = opened_off plan caller a b l n m first conn asked Sink moment did
opened_so plan caller a b l new n m first conn asked (Err (NoMemory want)) moment early clock did top fails hears halts =
    opened_off plan caller a b l n m first conn asked (NoMemory want) moment did

-- why it halts behind the opening
pub halt_stays : (plan : Plan) (ss : List (Session KEnd)) (n : ℕ) (stays : Bool) → plan.dials ≡ true → length ss ≡ n → (n == 0) ≡ (if stays then false else true)
    → halt_if stays ≡ halt_by plan ss
halt_stays plan ss n true dials len p = rw (dials, len, p) refl
halt_stays plan ss n false dials len p = rw (dials, len, p) refl

-- ---- as a function has them

pub called_state : {T : Type 0} (l : Loop KEnd) (slots : Slab (Session KEnd)) (places : BTreeMap ℕ ℕ) (users users' : List Mind) (m : ℕ) (words : Stream) (r : Result T LoopFault)
    → OnOk r (words ≡ (next_u64 l.words).1) → users' ≡ users → m ≡ l.moment
    → OnOk r (loop_of slots places users' m words ≡ called_loop l (sessions slots places) users)
called_state l slots places users users' m words (Ok done) p q s = rw (p, q, s) refl
called_state l slots places users users' m words (Err fault) p q s = tt

pub halts_so : (plan : Plan) (top : ℕ) (slots : Slab (Session KEnd)) (places : BTreeMap ℕ ℕ) (r : Result Bool LoopFault) → plan.dials ≡ true
    → OnOk r (AreSeated top slots places.entries) → IfOk r (λ stays. (length places.entries == 0) ≡ (if stays then false else true))
    → IfOk r (λ stays. halt_if stays ≡ halt_by plan (sessions slots places))
halts_so plan top slots places (Ok stays) dials seated p = halt_stays plan (sessions slots places) (length places.entries) stays dials (length_sessions top slots places.entries seated) p
halts_so plan top slots places (Err fault) dials seated p = tt

pub halts_away : (plan : Plan) (slots : Slab (Session KEnd)) (places : BTreeMap ℕ ℕ) → plan.dials ≡ true → places.entries ≡ [] → halt_if false ≡ halt_by plan (sessions slots places)
halts_away plan slots places dials none = halt_stays plan (sessions slots places) 0 false dials (ap (λ (z : List (Session KEnd)). length z) (no_sessions slots places none)) refl

pub opened_from : (plan : Plan) (caller : Caller) (a b : Around) (l new : Loop KEnd) (n count m first conn : ℕ) (asked : List ℕ) (r : Result Bool LoopFault)
    → count ≡ n → m ≡ max l.moment first → first ≤ 1000000000000000 → Grew a.asked b.asked (first ∷ [])
    → DoesLoopPart a.seen b.seen new (called kept_ends plan caller (record l { moment = m }) conn) r
    → b.newest ≡ a.newest → b.turns_failed ≡ a.turns_failed → b.listening ≡ a.listening → IfOk r (λ stays. halt_if stays ≡ halt_by plan new.sessions)
    → Opens plan caller a b (course_of l n asked) conn new count r
opened_from plan caller a b l new n count m first conn asked r same moment early clock did top fails hears halts =
    subst (λ z. Opens plan caller a b (course_of l n asked) conn new z r) (sym same)
    (opened_so plan caller a b l new n m first conn asked r moment early clock did top fails hears halts)

-- behind the clock's answer
pub opened_asked : (plan : Plan) (caller : Caller) (t u v : Told) (slots : Slab (Session KEnd)) (places : BTreeMap ℕ ℕ) (users : List Mind) (at : ℕ) (new : Loop KEnd) (n count m first conn : ℕ) (asked : List ℕ) (r : Result Bool LoopFault)
    → Did t u (Asked first ∷ []) → count ≡ n → m ≡ max at first → first ≤ 1000000000000000
    → DoesLoopPart (seen u) (seen v) new (called kept_ends plan caller (loop_of slots places users m u.words) conn) r
    → LeavesTurns u v → IfOk r (λ stays. halt_if stays ≡ halt_by plan new.sessions)
    → Opens plan caller (around t) (around v) (course_of (loop_of slots places users at t.words) n asked) conn new count r
opened_asked plan caller t u v slots places users at new n count m first conn asked r told same moment early did leaves halts =
    let wires = asked_wires t u first told in
    subst (λ (z : Stream). Opens plan caller (around t) (around v) (course_of (loop_of slots places users at z) n asked) conn new count r) (asked_words t u first told)
    (opened_from plan caller (around t) (around v) (loop_of slots places users at u.words) new n count m first conn asked r same moment early (asked_once t u v first told leaves.clock)
    (part_behind_asked t u (seen v) first new (called kept_ends plan caller (loop_of slots places users m u.words) conn) r told did)
    (leaves.opened ∙ ap (λ (z : WiresState). z.opened) wires) (leaves.turn_count ∙ ap (λ (z : WiresState). z.turn_faults) wires) (leaves.listening ∙ ap (λ (z : WiresState). z.listening) wires) halts)
