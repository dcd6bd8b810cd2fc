-- One turn with what comes before it.
use Rattle.er_end.specs.KeptEnds.{KEnd}
use Rattle.loop_session.specs.Keeping.{kept_ends}
use Rattle.std.proofs.Common.{◌≡◌, ℕ, ◌≤◌, max, Bool, true, false, List, [], ◌∷◌, ◌++◌, Option, Some, None, Result, Ok, Err, length, refl, sym, ◌∙◌, ap, subst, arith, append-nil, append_assoc}
use Rattle.std.specs.Prelude.{◌==◌, ◌&&◌, if◌then◌else◌}
use Rattle.link_trait.specs.Outside.{Grew, Rose}
use Rattle.link_trait.specs.Growth.{grew_then}
use Rattle.loop_model.specs.Outs.{Out, still, next}
use Rattle.loop_model.specs.Sessions.{Session}
use Rattle.loop_model.specs.Loops.{Plan, Loop, rules_of, before, Halt, OnClosed, OnFailed, halt_by, Course, Turn, readied, turn, follows, turned_unless, went, nothing_comes}
use Rattle.loop_model.specs.Parts.{opened_in, opened_by, Rises, newest}
use Rattle.loop_session.specs.declared.loop_fault.LoopFault.{LoopFault}
use Rattle.loop_session.specs.declared.loop_fault.LoopFault.TheVariants.{Wires, Sink, NoMemory}
use Rattle.loop_io.specs.Acting.{BeganDeeds, Acted, BreaksAt, ActedSo, Stopped}
use Rattle.loop_io.specs.Seeing.{Seen}
use Rattle.loop_io.specs.DeedSteps.{began_more, began_behind}
use Rattle.readiness_loop.specs.declared.live_loop.Next.{Next}
use Rattle.readiness_loop.specs.Cuts.{cut_behind_part, LiesIn}
use Rattle.readiness_loop.specs.Courses.{Around, HasComeFromCourse, Went, WentOff, LiesBehind, LiesInTurn, Turned, Turns, halt_of, course_of}
use Rattle.readiness_loop.proofs.Cutting.{cut_of, cut_lies, cut_broke, broke_behind, lies_as, lies_first, lies_then}
use Rattle.readiness_loop.proofs.Sequences.{acted_as, acted_still, acted_then}
use Rattle.readiness_loop.proofs.Openings.{opened_in-append, before_opens}
use Rattle.readiness_loop.proofs.Turning.{closed_is}

-- the course behind what comes before a turn, where these sessions are left
abbrev readied_to : Plan → Loop KEnd → ℕ → List ℕ → ℕ → List (Session KEnd) → Course KEnd
readied_to plan l n asked first ss = record {
  loop = record l { sessions = ss; moment = max l.moment first };
  turns = n;
  halt = halt_by plan ss;
  asked = asked ++ first ∷ [];
}

readied_acted : (plan : Plan) (a m : Seen) (l : Loop KEnd) (ss : List (Session KEnd)) (n first at : ℕ) (asked : List ℕ) (t : Turn)
    → at ≡ max l.moment first → (did : ActedSo a m ss (before kept_ends (rules_of plan) at l.sessions))
    → Acted a m (readied_to plan l n asked first ss) (readied kept_ends plan (course_of l n asked) (record t { first = first; sweeps = did.answers }))
unfolding readied
readied_acted plan a m l ss n first at asked t moment did =
    let x : Turn = record t { first = first; sweeps = did.answers } in
    let o = before kept_ends (rules_of plan) (max l.moment first) l.sessions did.answers in
    let is : Acted a m ss o = subst (λ z. Acted a m ss (before kept_ends (rules_of plan) z l.sessions did.answers)) moment did.is in
    acted_as a m ss (readied_to plan l n asked first ss) o (readied kept_ends plan (course_of l n asked) x) (record { entries = refl; calls = refl; order = refl })
    (ap (readied_to plan l n asked first) is.state) is

pub readied_opens : (plan : Plan) (c : Course KEnd) (x : Turn) → opened_in (readied kept_ends plan c x).calls ≡ []
unfolding readied
readied_opens plan c x = before_opens kept_ends (rules_of plan) (max c.loop.moment x.first) c.loop.sessions x.sweeps

pub go_came : (plan : Plan) (a m b : Around) (l new : Loop KEnd) (ss : List (Session KEnd)) (n count first at : ℕ) (asked : List ℕ) (h : Option Halt)
    → at ≡ max l.moment first → Grew a.asked m.asked (first ∷ []) → ActedSo a.seen m.seen ss (before kept_ends (rules_of plan) at l.sessions)
    → m.newest ≡ a.newest → m.turns_failed ≡ a.turns_failed → m.listening ≡ a.listening → None ≡ halt_by plan ss
    → Went (turned_unless kept_ends None plan (course_of (record l { sessions = ss; moment = at }) n (asked ++ first ∷ []))) m b
    (course_of (record l { sessions = ss; moment = at }) n (asked ++ first ∷ [])) new count h
    → Went (went kept_ends plan (course_of l n asked)) a b (course_of l n asked) new count h
unfolding went
go_came plan a m b l new ss n count first at asked h moment clock did top fails hears none q =
    let x : Turn = record q.answers { first = first; sweeps = did.answers } in
    let c = course_of l n asked in
    let r = readied kept_ends plan c x in
    let c1 = course_of (record l { sessions = ss; moment = at }) n (asked ++ first ∷ []) in
    let acted = readied_acted plan a.seen m.seen l ss n first at asked q.answers moment did in
    let there : c1 ≡ r.state =
    ap (λ (z : ℕ). course_of (record l { sessions = ss; moment = z }) n (asked ++ first ∷ [])) moment
    ∙ ap (λ (z : Option Halt). let d : Course KEnd = record { loop = record l { sessions = ss; moment = max l.moment first }; turns = n; halt = z; asked = asked ++ first ∷ [] } in d) none
    ∙ acted.state in
    let is : HasComeFromCourse m b c1 new count h (turned_unless kept_ends r.state.halt plan r.state x) =
    subst (λ (z : Course KEnd). HasComeFromCourse m b c1 new count h (turned_unless kept_ends z.halt plan z x)) there q.is in
    let o = turned_unless kept_ends r.state.halt plan r.state x in
    let calls_are : opened_in (r.calls ++ o.calls) ≡ opened_in o.calls = opened_in-append r.calls o.calls ∙ ap (λ z. z ++ opened_in o.calls) (readied_opens plan c x) in
    record {
      answers = x;
      is = record {
        loop = is.loop;
        turns = is.turns;
        halt = is.halt;
        acted = acted_then a.seen m.seen b.seen (readied_to plan l n asked first ss) o.state r (λ z. turned_unless kept_ends z.halt plan z x) acted is.acted;
        more = first ∷ is.more;
        asked = is.asked ∙ append_assoc asked (first ∷ []) is.more;
        answered = grew_then a.asked m.asked b.asked (first ∷ []) is.more clock is.answered;
        opened = is.opened ∙ ap (λ z. newest z (opened_in o.calls)) top ∙ ap (newest a.newest) (sym calls_are);
        rises = subst (λ z. Rises a.newest z) (sym calls_are) (subst (λ z. Rises z (opened_in o.calls)) top is.rises);
        failed = (let p : m.turns_failed ≤ b.turns_failed = is.failed in omega (arith, p, fails));
        listens = is.listens ∙ hears;
        alone = λ deaf. calls_are ∙ is.alone (hears ∙ deaf);
      };
    }

pub go_off : (plan : Plan) (a m b : Around) (l : Loop KEnd) (ss : List (Session KEnd)) (n first at : ℕ) (asked : List ℕ) (fault : LoopFault)
    → at ≡ max l.moment first → ActedSo a.seen m.seen ss (before kept_ends (rules_of plan) at l.sessions) → m.newest ≡ a.newest → None ≡ halt_by plan ss
    → WentOff (turned_unless kept_ends None plan (course_of (record l { sessions = ss; moment = at }) n (asked ++ first ∷ []))) (LiesBehind plan m.newest (course_of (record l { sessions = ss; moment = at }) n (asked ++ first ∷ []))) m b fault
    → WentOff (went kept_ends plan (course_of l n asked)) (LiesInTurn plan a.newest (course_of l n asked)) a b fault
unfolding went
go_off plan a m b l ss n first at asked fault moment did top none q =
    let x : Turn = record q.answers { first = first; sweeps = did.answers } in
    let c = course_of l n asked in
    let r = readied kept_ends plan c x in
    let c1 = course_of (record l { sessions = ss; moment = at }) n (asked ++ first ∷ []) in
    let acted = readied_acted plan a.seen m.seen l ss n first at asked q.answers moment did in
    let there : c1 ≡ r.state =
    ap (λ (z : ℕ). course_of (record l { sessions = ss; moment = z }) n (asked ++ first ∷ [])) moment
    ∙ ap (λ (z : Option Halt). let d : Course KEnd = record { loop = record l { sessions = ss; moment = max l.moment first }; turns = n; halt = z; asked = asked ++ first ∷ [] } in d) none
    ∙ acted.state in
    let q' : LiesBehind plan m.newest r.state q.answers q.cut = subst (λ (z : Course KEnd). LiesBehind plan m.newest z q.answers q.cut) there q.lies in
    let on : None ≡ r.state.halt = ap (λ (z : Course KEnd). z.halt) there in
    let behind_turn : LiesIn (turned_unless kept_ends None plan r.state x) q.cut =
    subst (λ z. LiesIn (turned_unless kept_ends None plan r.state x) z) (sym q'.is) (lies_then (turn kept_ends r.state x) (λ z. follows kept_ends plan z x) q'.rest q'.lies) in
    record {
      answers = x;
      cut = cut_behind_part r q.cut;
      lies = record {
        lies = lies_then r (λ z. turned_unless kept_ends z.halt plan z x) q.cut (subst (λ (z : Option Halt). LiesIn (turned_unless kept_ends z plan r.state x) q.cut) on behind_turn);
        rises = subst (λ z. Rises z (opened_by x.happening)) top q'.rises;
      };
      broke = broke_behind a.seen m.seen b.seen (readied_to plan l n asked first ss) r q.cut fault acted q.broke;
      began = began_behind a.seen.told m.seen.told b.seen.told r.order (turned_unless kept_ends r.state.halt plan r.state x).order fault acted.did
          (subst (λ (z : Option Halt). BeganDeeds m.seen.told b.seen.told (turned_unless kept_ends z plan r.state x).order fault) on
          (subst (λ (z : Course KEnd). BeganDeeds m.seen.told b.seen.told (turned_unless kept_ends None plan z x).order fault) there q.began));
    }

pub go_on : (plan : Plan) (a m b : Around) (l new : Loop KEnd) (ss : List (Session KEnd)) (n count first at : ℕ) (asked : List ℕ) (r : Result Next LoopFault)
    → at ≡ max l.moment first → Grew a.asked m.asked (first ∷ []) → ActedSo a.seen m.seen ss (before kept_ends (rules_of plan) at l.sessions)
    → m.newest ≡ a.newest → m.turns_failed ≡ a.turns_failed → m.listening ≡ a.listening → None ≡ halt_by plan ss
    → Turned plan m b (course_of (record l { sessions = ss; moment = at }) n (asked ++ first ∷ [])) new count r
    → Turns plan a b (course_of l n asked) new count r
go_on plan a m b l new ss n count first at asked (Ok then_) moment clock did top fails hears none q =
    go_came plan a m b l new ss n count first at asked (halt_of then_) moment clock did top fails hears none q
go_on plan a m b l new ss n count first at asked (Err Wires) moment clock did top fails hears none q = record {
  went = go_came plan a m b l new ss n count first at asked (Some OnFailed) moment clock did top fails hears none q.went;
  rose = subst (λ z. Rose z b.turns_failed) fails q.rose;
}
go_on plan a m b l new ss n count first at asked (Err Sink) moment clock did top fails hears none q = go_off plan a m b l ss n first at asked Sink moment did top none q
go_on plan a m b l new ss n count first at asked (Err (NoMemory want)) moment clock did top fails hears none q =
    go_off plan a m b l ss n first at asked (NoMemory want) moment did top none q

-- what comes before the turn broke off
before_off : (plan : Plan) (a b : Around) (l : Loop KEnd) (n first at : ℕ) (asked : List ℕ) (fault : LoopFault)
    → at ≡ max l.moment first → Stopped a.seen b.seen (before kept_ends (rules_of plan) at l.sessions) fault
    → WentOff (went kept_ends plan (course_of l n asked)) (LiesInTurn plan a.newest (course_of l n asked)) a b fault
unfolding readied went
before_off plan a b l n first at asked fault moment p =
    let x : Turn = record nothing_comes { first = first; sweeps = p.answers } in
    let c = course_of l n asked in
    let o = before kept_ends (rules_of plan) (max l.moment first) l.sessions p.answers in
    let breaks : BreaksAt a.seen b.seen o fault = subst (λ z. BreaksAt a.seen b.seen (before kept_ends (rules_of plan) z l.sessions p.answers) fault) moment p.breaks in
    record {
      answers = x;
      cut = cut_of a.seen b.seen o fault breaks;
      lies = record {
        lies = lies_first (readied kept_ends plan c x) (λ z. turned_unless kept_ends z.halt plan z x) (cut_of a.seen b.seen o fault breaks)
            (lies_as o (readied kept_ends plan c x) (cut_of a.seen b.seen o fault breaks) refl (cut_lies a.seen b.seen o fault breaks));
        rises = tt;
      };
      broke = cut_broke a.seen b.seen o fault breaks;
      began = began_more a.seen.told b.seen.told o.order (turned_unless kept_ends (readied kept_ends plan c x).state.halt plan (readied kept_ends plan c x).state x).order fault breaks.began;
    }

pub go_stops : (plan : Plan) (a b : Around) (l new : Loop KEnd) (n count first at : ℕ) (asked : List ℕ) (fault : LoopFault)
    → at ≡ max l.moment first → Stopped a.seen b.seen (before kept_ends (rules_of plan) at l.sessions) fault
    → Turns plan a b (course_of l n asked) new count (Err fault)
go_stops plan a b l new n count first at asked Wires moment p = absurd p.breaks.failed
go_stops plan a b l new n count first at asked Sink moment p = before_off plan a b l n first at asked Sink moment p
go_stops plan a b l new n count first at asked (NoMemory want) moment p = before_off plan a b l n first at asked (NoMemory want) moment p

-- it closed the one connection of a dial
pub go_closed : (plan : Plan) (a b : Around) (l : Loop KEnd) (ss : List (Session KEnd)) (n first at : ℕ) (asked : List ℕ)
    → at ≡ max l.moment first → Grew a.asked b.asked (first ∷ []) → ActedSo a.seen b.seen ss (before kept_ends (rules_of plan) at l.sessions)
    → b.newest ≡ a.newest → b.turns_failed ≡ a.turns_failed → b.listening ≡ a.listening → Some OnClosed ≡ halt_by plan ss
    → Went (went kept_ends plan (course_of l n asked)) a b (course_of l n asked) (record l { sessions = ss; moment = at }) n (Some OnClosed)
unfolding went
go_closed plan a b l ss n first at asked moment clock did top fails hears halts =
    let x : Turn = record nothing_comes { first = first; sweeps = did.answers } in
    let c = course_of l n asked in
    let r = readied kept_ends plan c x in
    let acted = readied_acted plan a.seen b.seen l ss n first at asked nothing_comes moment did in
    let halted : Some OnClosed ≡ r.state.halt = halts ∙ ap (λ (z : Course KEnd). z.halt) acted.state in
    let stays : still r.state ≡ turned_unless kept_ends r.state.halt plan r.state x = ap (λ z. turned_unless kept_ends z plan r.state x) halted in
    let all : Out (Course KEnd) = next r (λ z. still z) in
    let whole : all ≡ next r (λ z. turned_unless kept_ends z.halt plan z x) =
    ap (λ (z : Out (Course KEnd)). let o : Out (Course KEnd) = record { state = z.state; entries = r.entries ++ z.entries; calls = r.calls ++ z.calls; order = r.order ++ z.order } in o) stays in
    let calls_are : opened_in (r.calls ++ []) ≡ [] = ap opened_in (append-nil r.calls) ∙ readied_opens plan c x in
    record {
      answers = x;
      is = subst (λ z. HasComeFromCourse a b c (record l { sessions = ss; moment = at }) n (Some OnClosed) z) whole
          (record {
            loop = ap (λ (z : ℕ). let k : Loop KEnd = record l { sessions = ss; moment = z } in k) moment ∙ ap (λ (z : Course KEnd). z.loop) acted.state;
            turns = ap (λ (z : Course KEnd). z.turns) acted.state;
            halt = halted;
            acted = acted_then a.seen b.seen b.seen (readied_to plan l n asked first ss) r.state r (λ z. still z) acted (acted_still b.seen r.state r.state refl);
            more = first ∷ [];
            asked = sym (ap (λ (z : Course KEnd). z.asked) acted.state);
            answered = clock;
            opened = top ∙ ap (newest a.newest) (sym calls_are);
            rises = subst (λ z. Rises a.newest z) (sym calls_are) tt;
            failed = omega (arith, fails);
            listens = hears;
            alone = λ deaf. calls_are;
          });
    }

-- ---- the same, by the facts as a function has them

pub not_closed : (plan : Plan) (ss : List (Session KEnd)) (n : ℕ) (b : Bool) → b ≡ (plan.dials && (n == 0)) → length ss ≡ n → b ≡ false → None ≡ halt_by plan ss
not_closed plan ss n b p q r = sym (closed_is plan ss n b p q ∙ ap (λ (z : Bool). if z then Some OnClosed else None) r)

pub closed_now : (plan : Plan) (ss : List (Session KEnd)) (n : ℕ) (b : Bool) → b ≡ (plan.dials && (n == 0)) → length ss ≡ n → b ≡ true → Some OnClosed ≡ halt_by plan ss
closed_now plan ss n b p q r = sym (closed_is plan ss n b p q ∙ ap (λ (z : Bool). if z then Some OnClosed else None) r)

pub go_on_from : (plan : Plan) (a m b : Around) (l l1 new : Loop KEnd) (ss : List (Session KEnd)) (n n1 count first at : ℕ) (asked : List ℕ) (r : Result Next LoopFault)
    → at ≡ max l.moment first → Grew a.asked m.asked (first ∷ []) → ActedSo a.seen m.seen ss (before kept_ends (rules_of plan) at l.sessions)
    → m.newest ≡ a.newest → m.turns_failed ≡ a.turns_failed → m.listening ≡ a.listening → None ≡ halt_by plan ss
    → l1 ≡ record l { sessions = ss; moment = at } → n1 ≡ n
    → Turned plan m b (course_of l1 n1 (asked ++ first ∷ [])) new count r
    → Turns plan a b (course_of l n asked) new count r
go_on_from plan a m b l l1 new ss n n1 count first at asked r moment clock did top fails hears none is same q =
    go_on plan a m b l new ss n count first at asked r moment clock did top fails hears none
    (subst (λ z. Turned plan m b (course_of (record l { sessions = ss; moment = at }) z (asked ++ first ∷ [])) new count r) same
    (subst (λ z. Turned plan m b (course_of z n1 (asked ++ first ∷ [])) new count r) is q))

pub go_closed_from : (plan : Plan) (a b : Around) (l l1 : Loop KEnd) (ss : List (Session KEnd)) (n n1 first at : ℕ) (asked : List ℕ)
    → at ≡ max l.moment first → Grew a.asked b.asked (first ∷ []) → ActedSo a.seen b.seen ss (before kept_ends (rules_of plan) at l.sessions)
    → b.newest ≡ a.newest → b.turns_failed ≡ a.turns_failed → b.listening ≡ a.listening → Some OnClosed ≡ halt_by plan ss
    → l1 ≡ record l { sessions = ss; moment = at } → n1 ≡ n
    → Went (went kept_ends plan (course_of l n asked)) a b (course_of l n asked) l1 n1 (Some OnClosed)
go_closed_from plan a b l l1 ss n n1 first at asked moment clock did top fails hears halts is same =
    subst (λ z. Went (went kept_ends plan (course_of l n asked)) a b (course_of l n asked) l1 z (Some OnClosed)) (sym same)
    (subst (λ z. Went (went kept_ends plan (course_of l n asked)) a b (course_of l n asked) z n (Some OnClosed)) (sym is)
    (go_closed plan a b l ss n first at asked moment clock did top fails hears halts))
