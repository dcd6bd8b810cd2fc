-- A loop that serves: it listens, the header is printed, and it runs.
use Rattle.er_end.specs.KeptEnds.{KEnd}
use Rattle.loop_session.specs.Keeping.{kept_ends}
use Rattle.std.proofs.Common.{◌≡◌, ℕ, ◌+◌, ◌-◌, ◌^◌, ◌<◌, ◌≤◌, min, List, [], ◌∷◌, ◌++◌, Option, Some, Result, Ok, Err, length, refl, sym, ◌∙◌, ap, subst, arith, append-nil}
use Rattle.std.specs.Prelude.{true, false, IfOk, IsFalse}
use Rattle.rand_core.specs.Stream.{Stream}
use Rattle.slab.specs.Slab.{Slab}
use Rattle.std.specs.BTreeMap.{BTreeMap}
use Rattle.er_base.specs.LineTexts.{line_text}
use Rattle.er_base.specs.declared.no_memory.NoMemory.{NoMemory as Want}
use Rattle.er_settings.specs.Values.{Settings}
use Rattle.er_settings.specs.Ranges.{AllAllowed}
use Rattle.er_trace.specs.Texts.{header_words as header_words_of}
use Rattle.loop_model.specs.Sessions.{Session}
use Rattle.er_users.specs.Users.{Mind}
use Rattle.std.specs.List.{list_any}
use Rattle.link_trait.specs.States.{SinkState, WiresState, ClockState}
use Rattle.outside.specs.Acts.{SeenCall, Listened, Act, Wrote, Called, is_call, is_question}
use Rattle.outside.specs.ActSteps.{call_seen_so, told_call}
use Rattle.outside.specs.Doings.{Told, Did}
use Rattle.outside.specs.Scripts.{printing}
use Rattle.outside.specs.SinkTexts.{nothing_left_by, text_printed_by, text_begun_by}
use Rattle.outside.specs.Ties.{GrewBy, PutsInSink, AreDrawn}
use Rattle.link_trait.specs.Outside.{Grew, GrewPart, Rose}
use Rattle.link_trait.specs.Growth.{grew_nothing, grew_then, part_whole}
use Rattle.link_trait.specs.Wires.{Call, Listens, Closes, given_of, taken_of}
use Rattle.loop_model.specs.Ends.{ModelEnd, model_ends}
use Rattle.loop_model.specs.Journals.{trace_header, text}
use Rattle.loop_model.specs.Deeds.{LoopDeed, Calling, entries_in, calls_in, text_of, calls_of}
use Rattle.loop_model.specs.Outs.{Out, next, makes}
use Rattle.loop_model.specs.Signs.{order_next, order_makes}
use Rattle.loop_model.specs.Orderings.{GivesTold, IsSilentOnConnection, IsSequenced, OrderIsKept, OpeningIsKept}
use Rattle.loop_model.specs.Loops.{Plan, Loop, Halt, OnFailed, Course, Turn, run, beginning, serves, printed}
use Rattle.loop_model.specs.Parts.{Rises, of, calls_at, opened_in}
use Rattle.loop_model.specs.Laws.{ConnectionsAreIsolated, JournalIsPrinted, OctetsAreAccounted, CallsAreOnOpen, FaultsHaveFailed, TurnsAreCounted, IsServing, RunsSo, octets_of_entries, faults, failures, turns_of, HaltsBy}
use Rattle.loop_model.specs.Points.{OctetsAreHeard, UsersReply}
use Rattle.loop_model.specs.Told.{UsersHear}
use Rattle.loop_model.specs.Recordings.{RecordingsReplay}
use Rattle.loop_session.specs.Parts.{FailedFor, Breaks, Puts}
use Rattle.loop_session.specs.Writes.{failed_for}
use Rattle.loop_session.specs.Standing.{RunsAlike, DialsAlike}
use Rattle.loop_session.specs.declared.loop_fault.LoopFault.{LoopFault}
use Rattle.loop_session.specs.declared.loop_fault.LoopFault.TheVariants.{Wires, Sink, NoMemory}
use Rattle.loop_io.specs.Seeing.{Counts}
use Rattle.readiness_loop.specs.declared.line_plan.Served.{Served}
use Rattle.readiness_loop.specs.Claims.{IsPrintedAndCalled, IsLawfulLoop, HasTurns, AreSpoken, UsersHeard, HasServedTurns, HasServed, NotListening, TurnFailed, FailsToServe, IsCutAt, BeforeListening, InServingHeader, InServing, BreaksOffServing, halt_for, ServesOn}
use Rattle.readiness_loop.specs.Courses.{Around, around, Went, RanOff, Runs, Serves, loop_outside_of, course_of, loop_of}
use Rattle.loop_io.specs.Sequels.{counts_none, counts_then, failed_behind}
use Rattle.readiness_loop.proofs.Acceptings.{no_sessions}
use Rattle.readiness_loop.proofs.Planned.{many, lies_acts}
use Rattle.readiness_loop.proofs.Likewise.{begin_same, lies_in_run}
use Rattle.readiness_loop.proofs.Quiets.{called_words}
use Rattle.readiness_loop.proofs.Recordings.{HeaderBegun, NoneOfIt, AllOfIt, FailedAt, header_begun}
use Rattle.readiness_loop.proofs.Shown.{Shown, shown}
use Rattle.readiness_loop.proofs.Tellings.{same_first, told_first, lies_with, rises_before, rises_with}

-- the laws of the loop, as a function cites them
pub record Laws : Type 0 where
  pub isolated : ConnectionsAreIsolated
  pub printed : JournalIsPrinted
  pub accounted : OctetsAreAccounted
  pub on_open : CallsAreOnOpen
  pub heard : OctetsAreHeard
  pub replayed : RecordingsReplay
  pub in_order : OrderIsKept
  pub opening : OpeningIsKept
  pub replies : UsersReply
  pub users : UsersHear
  pub faults : FaultsHaveFailed
  pub turns : TurnsAreCounted
  -- over ends as they are kept a loop does the same
  pub runs : RunsAlike
  pub dials : DialsAlike

-- a first call was made, and the header was printed
pub record HasBegun (plan : Plan) (call : Call) (a m : Around) : Type 0 where
  pub text : Grew a.seen.held m.seen.held (trace_header plan.settings)
  pub calls : Grew a.seen.calls m.seen.calls (call ∷ [])
  pub sunk : a.seen.sunk ≤ m.seen.sunk
  pub failed : a.seen.failed ≤ m.seen.failed
  pub turns_failed : a.turns_failed ≤ m.turns_failed
  pub asked : m.asked ≡ a.asked

pub rises_low : (low from : ℕ) (ns : List ℕ) → low ≤ from → Rises from ns → Rises low ns
rises_low low from [] p q = tt
rises_low low from (n ∷ ns) p q = (let h : from < n = q.0 in omega (arith, p, h), q.1)

pub is_serving : (plan : Plan) (m b : Around) (minds : List Mind) (words : Stream) (turns : List Turn) (count : ℕ) (why : Option Halt)
    → AllAllowed plan.settings → Shown m b (run model_ends plan (beginning minds words) turns) count why
    → IsServing plan (beginning minds words) turns
is_serving plan m b minds words turns count why allowed s = record {
  none = refl;
  rises = rises_low 0 m.newest _ (omega arith) s.rises;
  allowed = allowed;
}

serves_done : (laws : Laws) (plan : Plan) (a m b : Around) (minds : List Mind) (words : Stream) (address : List ℕ) (turns : List Turn) (count : ℕ) (why : Option Halt)
    → HasBegun plan (Listens address true) a m → Shown m b (run model_ends plan (beginning minds words) turns) count why
    → IsPrintedAndCalled (loop_outside_of a) (loop_outside_of b) true plan (serves model_ends plan (beginning minds words) address true turns)
unfolding serves printed
serves_done laws plan a m b minds words address turns count why begun s =
    let o = run model_ends plan (beginning minds words) turns in
    record {
      text = grew_then a.seen.held m.seen.held b.seen.held (trace_header plan.settings) (text o.entries) begun.text s.printed;
      calls = grew_then a.seen.calls m.seen.calls b.seen.calls (Listens address true ∷ []) o.calls begun.calls s.told;
      clock = subst (λ z. Grew z b.asked o.state.asked) begun.asked s.asked;
      answered = (tt, s.answered);
      faults = (let few : faults o.entries ≤ failures o.calls = laws.faults.serving plan (beginning minds words) turns in
          let less : a.seen.failed ≤ m.seen.failed = begun.failed in
          let counted : min (m.seen.failed + failures o.calls) (2 ^ 64 - 1) ≤ b.seen.failed = s.counted in
          omega (arith, few, less, counted));
      in_grammar = s.in_grammar;
    }

-- with the listen before it
listened : (plan : Plan) (c : Course ModelEnd) (address : List ℕ) (o : Out (Course ModelEnd)) → IsSequenced plan o → IsSequenced plan (next (makes (Listens address true) c) (λ d. o))
unfolding entries_in calls_in given_of octets_of_entries of
listened plan c address o h = record {
  one = order_next (makes (Listens address true) c) (λ d. o) (order_makes (Listens address true) c) h.one;
  told = told;
  last = last;
}
  where
    told : (conn : ℕ) (done rest : List LoopDeed) → done ++ rest ≡ Calling (Listens address true) ∷ o.order → GivesTold conn done
    told conn [] rest e = record { rest = []; is = refl }
    told conn (d ∷ done) rest e =
        let s = same_first d (Calling (Listens address true)) (done ++ rest) o.order e in
        subst (λ z. GivesTold conn (z ∷ done)) (sym s.0) (h.told conn done rest s.1)

    last : (conn : ℕ) (done rest : List LoopDeed) → done ++ Calling (Closes conn) ∷ rest ≡ Calling (Listens address true) ∷ o.order → IsSilentOnConnection conn rest
    last conn [] rest e = absurd (let s : Calling (Closes conn) ≡ Calling (Listens address true) = (same_first (Calling (Closes conn)) (Calling (Listens address true)) rest o.order e).0 in cc s)
    last conn (d ∷ done) rest e = h.last conn done rest (same_first d (Calling (Listens address true)) (done ++ Calling (Closes conn) ∷ rest) o.order e).1

serves_lawful : (laws : Laws) (plan : Plan) (minds : List Mind) (words : Stream) (address : List ℕ) (turns : List Turn)
    → IsServing plan (beginning minds words) turns → IsLawfulLoop plan (serves model_ends plan (beginning minds words) address true turns)
unfolding serves given_of taken_of calls_at
serves_lawful laws plan minds words address turns serving = record {
  isolated = laws.isolated.serving plan (beginning minds words) turns serving;
  printed = laws.printed.serving plan (beginning minds words) turns serving;
  accounted = laws.accounted.serving plan (beginning minds words) turns serving;
  on_open = laws.on_open.serving plan (beginning minds words) turns serving;
  heard = λ conn.
      let h = laws.heard.serving plan (beginning minds words) turns serving conn in
      record { beginning = record { rest = h.beginning.rest; is = h.beginning.is }; all = h.all };
  replayed = laws.replayed.serving plan (beginning minds words) turns serving;
  in_order = listened plan (beginning minds words) address (run model_ends plan (beginning minds words) turns) (laws.in_order.serving plan (beginning minds words) turns serving);
}

serves_replies : (laws : Laws) (plan : Plan) (minds : List Mind) (words : Stream) (address : List ℕ) (turns : List Turn)
    → IsServing plan (beginning minds words) turns → AreSpoken minds (serves model_ends plan (beginning minds words) address true turns)
unfolding serves
serves_replies laws plan minds words address turns serving = laws.replies.serving plan (beginning minds words) turns serving

serves_heard : (laws : Laws) (plan : Plan) (minds : List Mind) (words : Stream) (address : List ℕ) (turns : List Turn)
    → IsServing plan (beginning minds words) turns → UsersHeard minds (serves model_ends plan (beginning minds words) address true turns)
unfolding serves
serves_heard laws plan minds words address turns serving = laws.users.serving plan (beginning minds words) turns serving

serves_turns : (laws : Laws) (plan : Plan) (m b : Around) (minds : List Mind) (words : Stream) (address : List ℕ) (turns : List Turn) (count : ℕ) (why : Option Halt)
    → Shown m b (run model_ends plan (beginning minds words) turns) count why
    → HasTurns plan (serves model_ends plan (beginning minds words) address true turns) count why
unfolding serves turns_of
serves_turns laws plan m b minds words address turns count why s =
    let o = run model_ends plan (beginning minds words) turns in
    let t : RunsSo plan o = laws.turns plan (beginning minds words) turns (record { turns = refl; halt = refl; moment = refl }) in
    record {
      halts = subst (λ z. HaltsBy z (turns_of o.calls)) (sym s.halt) t.halts;
      counted = s.turns ∙ t.turns;
      most = subst (λ z. z ≤ plan.turns) (sym s.turns) t.most;
      all = λ none. s.turns ∙ t.all (sym s.halt ∙ none);
      moment = t.moment;
    }

-- it stopped for this reason
serves_halted : (plan : Plan) (m b : Around) (minds : List Mind) (words : Stream) (address : List ℕ) (turns : List Turn) (count : ℕ) (why : Option Halt)
    → Shown m b (run model_ends plan (beginning minds words) turns) count why
    → why ≡ (serves model_ends plan (beginning minds words) address true turns).state.halt
unfolding serves
serves_halted plan m b minds words address turns count why s = s.halt

serve_done : (laws : Laws) (plan : Plan) (a m b : Around) (minds : List Mind) (words : Stream) (address : List ℕ) (new : Loop KEnd) (count : ℕ) (why : Option Halt)
    → AllAllowed plan.settings → HasBegun plan (Listens address true) a m
    → Went (run kept_ends plan (beginning minds words)) m b (beginning minds words) new count why
    → HasServed (loop_outside_of a) (loop_outside_of b) plan address minds words count why
serve_done laws plan a m b minds words address new count why allowed begun w =
    let s = shown m b (beginning minds words) new count why (run kept_ends plan (beginning minds words) w.answers) (run model_ends plan (beginning minds words) w.answers)
    refl w.is (laws.runs plan minds words w.answers allowed) in
    let serving = is_serving plan m b minds words w.answers count why allowed s in
    record {
      answers = w.answers;
      is_serving = serving;
      done = serves_done laws plan a m b minds words address w.answers count why begun s;
      lawful = serves_lawful laws plan minds words address w.answers serving;
      replies = serves_replies laws plan minds words address w.answers serving;
      users = serves_heard laws plan minds words address w.answers serving;
      turns = serves_turns laws plan m b minds words address w.answers count why s;
      halted = serves_halted plan m b minds words address w.answers count why s;
    }

-- nothing was printed and called
pub nothing_done : (a : Around) → IsCutAt (loop_outside_of a) (loop_outside_of a) [] []
nothing_done a = record {
  text = grew_nothing a.seen.held;
  calls = grew_nothing a.seen.calls;
  answered = tt;
  counted = counts_none a.seen.failed a.seen.failed (let z : a.seen.failed ≤ a.seen.failed = omega arith in z);
}

pub rose_past : (x y z : ℕ) → x ≤ y → Rose y z → Rose x z
rose_past x y z p q = omega (arith, p, q)

first_counts : (x y : ℕ) (address : List ℕ) → x ≤ y → Counts x y (Listens address true ∷ [])
unfolding failures
first_counts x y address p = omega (arith, p)

-- whole turns
serves_turns_done : (laws : Laws) (plan : Plan) (minds : List Mind) (words : Stream) (address : List ℕ) (turns : List Turn)
    → IsServing plan (beginning minds words) turns → HasServedTurns plan address minds words turns
serves_turns_done laws plan minds words address turns serving = record {
  is_serving = serving;
  lawful = serves_lawful laws plan minds words address turns serving;
  replies = serves_replies laws plan minds words address turns serving;
  users = serves_heard laws plan minds words address turns serving;
}

serve_off : (laws : Laws) (plan : Plan) (a m b : Around) (minds : List Mind) (words : Stream) (address : List ℕ) (fault : LoopFault) → AllAllowed plan.settings
    → HasBegun plan (Listens address true) a m → RanOff plan m b (beginning minds words) fault
    → BreaksOffServing (loop_outside_of a) (loop_outside_of b) plan address minds words
unfolding lies_in_run lies_acts
serve_off laws plan a m b minds words address fault allowed begun w =
    let few = many plan (length w.lies.turns) in
    let serving : IsServing few (beginning minds words) w.lies.turns = record {
      none = refl;
      rises = rises_low 0 m.newest _ (omega arith) (subst (λ z. Rises m.newest (opened_in z)) (laws.runs few minds words w.lies.turns allowed).calls (rises_before plan m b (beginning minds words) fault w));
      allowed = allowed;
    } in
    let next_too = w.lies.turns ++ w.lies.last ∷ [] in
    let more = many plan (length next_too) in
    let serving_too : IsServing more (beginning minds words) next_too = record {
      none = refl;
      rises = rises_low 0 m.newest _ (omega arith) (subst (λ z. Rises m.newest (opened_in z)) (laws.runs more minds words next_too allowed).calls (rises_with plan m b (beginning minds words) fault w));
      allowed = allowed;
    } in
    let lies = lies_in_run plan (beginning minds words) (beginning minds words) (begin_same laws.runs plan minds words allowed) w.cut w.lies in
    InServing w.cut lies
    (serves_turns_done laws few minds words address w.lies.turns serving)
    (told_first more (run model_ends more (beginning minds words) next_too) w.cut (laws.in_order.serving more (beginning minds words) next_too serving_too) (lies_with model_ends plan (beginning minds words) w.cut lies))
    (record {
      text = grew_then a.seen.held m.seen.held b.seen.held (trace_header plan.settings) (text_of w.cut) begun.text w.broke.text;
      calls = grew_then a.seen.calls m.seen.calls b.seen.calls (Listens address true ∷ []) (calls_of w.cut) begun.calls w.broke.calls;
      answered = (tt, w.broke.answered);
      counted = counts_then a.seen.failed m.seen.failed b.seen.failed (Listens address true ∷ []) (calls_of w.cut) (first_counts a.seen.failed m.seen.failed address begun.failed) w.broke.counted;
    })

-- the run, however it ended
pub serve_ran : (laws : Laws) (plan : Plan) (a m b : Around) (minds : List Mind) (words left : Stream) (address : List ℕ) (new : Loop KEnd) (count : ℕ) (r : Result Served LoopFault)
    → AllAllowed plan.settings → HasBegun plan (Listens address true) a m → Runs plan m b (beginning minds words) new count r → Serves plan a b minds words left address r
serve_ran laws plan a m b minds words left address new count (Ok served) allowed begun q =
    serve_done laws plan a m b minds words address new served.turns (halt_for served.why) allowed begun q
serve_ran laws plan a m b minds words left address new count (Err Wires) allowed begun q = (
  TurnFailed count (serve_done laws plan a m b minds words address new count (Some OnFailed) allowed begun q.went),
  rose_past a.turns_failed m.turns_failed b.turns_failed begun.turns_failed q.rose,
)
serve_ran laws plan a m b minds words left address new count (Err Sink) allowed begun q =
    (serve_off laws plan a m b minds words address Sink allowed begun q, failed_behind a.seen.sunk m.seen.sunk b.seen.sunk Sink begun.sunk q.broke.failed)
serve_ran laws plan a m b minds words left address new count (Err (NoMemory want)) allowed begun q =
    (serve_off laws plan a m b minds words address (NoMemory want) allowed begun q, failed_behind a.seen.sunk m.seen.sunk b.seen.sunk (NoMemory want) begun.sunk q.broke.failed)

-- the header broke off
header_off : (plan : Plan) (a b : Around) (minds : List Mind) (words : Stream) (address : List ℕ)
    → Grew a.seen.calls b.seen.calls (Listens address true ∷ []) → a.seen.failed ≤ b.seen.failed → GrewPart a.seen.held b.seen.held (trace_header plan.settings)
    → BreaksOffServing (loop_outside_of a) (loop_outside_of b) plan address minds words
header_off plan a b minds words address told less p =
    InServingHeader p.part p.rest p.is (record { text = p.grew; calls = told; answered = (tt, tt); counted = first_counts a.seen.failed b.seen.failed address less })

pub header_stops : (plan : Plan) (a b : Around) (minds : List Mind) (words left : Stream) (address : List ℕ) (fault : LoopFault)
    → Grew a.seen.calls b.seen.calls (Listens address true ∷ []) → a.seen.failed ≤ b.seen.failed
    → GrewPart a.seen.held b.seen.held (trace_header plan.settings) → FailedFor fault a.seen.sunk b.seen.sunk → Serves plan a b minds words left address (Err fault)
header_stops plan a b minds words left address Wires told less p q = absurd q
header_stops plan a b minds words left address Sink told less p q = (header_off plan a b minds words address told less p, q)
header_stops plan a b minds words left address (NoMemory want) told less p q = (header_off plan a b minds words address told less p, q)

-- memory ran out before it listened
pub serve_wanted : (plan : Plan) (a : Around) (minds : List Mind) (words left : Stream) (address : List ℕ) (want : Want) → Serves plan a a minds words left address (Err (NoMemory want))
serve_wanted plan a minds words left address want = (
  BeforeListening (nothing_done a),
  (let z : a.seen.sunk ≤ a.seen.sunk = omega arith in z),
)

-- it never listened
pub never_listens : (plan : Plan) (a b : Around) (minds : List Mind) (words left : Stream) (address : List ℕ)
    → b.seen.held ≡ a.seen.held → Grew a.seen.calls b.seen.calls (Listens address false ∷ []) → b.asked ≡ a.asked → left ≡ words → Rose a.turns_failed b.turns_failed
    → Serves plan a b minds words left address (Err Wires)
never_listens plan a b minds words left address held told asked same rose = (
  NotListening (record {
    text = subst (λ z. Grew a.seen.held z []) (sym held) (grew_nothing a.seen.held);
    calls = told;
    clock = subst (λ z. Grew a.asked z []) (sym asked) (grew_nothing a.asked);
  }) same,
  rose,
)

-- ---- as a function has them

none_called : (line : List ℕ) → IsFalse (list_any is_call (printing line))
none_called [] = refl
none_called (octet ∷ octets) = refl

none_asked : (line : List ℕ) → IsFalse (list_any is_question (printing line))
none_asked [] = refl
none_asked (octet ∷ octets) = refl

header_printed : (line : List ℕ) (l m : Told) → Did l m (printing line) → Grew l.sink.held m.sink.held line
header_printed line l m q =
    text_printed_by l.sink.held m.sink.held line (subst (λ (z : List Act). GrewBy PutsInSink l.sink.held m.sink.held z) (sym (append-nil (printing line))) q.sink.held)

pub begun_so : (plan : Plan) (call : Call) (first : SeenCall) (a l m : Told) → call_seen_so first ≡ Some call → Did a l (Called first ∷ []) → Did l m (printing (trace_header plan.settings))
    → HasBegun plan call (around a) (around m)
begun_so plan call first a l m is p q = record {
  text = subst (λ (z : SinkState). Grew z.held m.sink.held (trace_header plan.settings)) (p.sink.rests refl) (header_printed (trace_header plan.settings) l m q);
  calls = subst (λ (z : WiresState). Grew a.wires.calls z.calls (call ∷ [])) (sym (q.wires.rests (none_called (trace_header plan.settings)))) (told_call a.wires.calls l.wires.calls first call is p.wires.calls);
  sunk = (let x : a.sink.faults ≤ l.sink.faults = p.sink.faults.later in let y : l.sink.faults ≤ m.sink.faults = q.sink.faults.later in omega (arith, x, y));
  failed = (let x : a.wires.faults ≤ l.wires.faults = p.wires.faults.later in let y : l.wires.faults ≤ m.wires.faults = q.wires.faults.later in omega (arith, x, y));
  turns_failed = (let x : a.wires.turn_faults ≤ l.wires.turn_faults = p.wires.turn_faults.later in let y : l.wires.turn_faults ≤ m.wires.turn_faults = q.wires.turn_faults.later in omega (arith, x, y));
  asked = ap (λ (z : ClockState). z.answers) (q.clock.rests (none_asked (trace_header plan.settings)) ∙ p.clock.rests refl);
}

-- the wires behind the header
pub header_wires : (line : List ℕ) (l m : Told) → Did l m (printing line) → m.wires ≡ l.wires
header_wires line l m q = q.wires.rests (none_called line)

words_left : (l m : Told) → Did l m [] → m.words ≡ l.words
unfolding AreDrawn
words_left l m q = q.words

words_behind_write : (l m : Told) (piece : List ℕ) → Did l m (Wrote piece true ∷ []) → m.words ≡ l.words
unfolding AreDrawn
words_behind_write l m piece q = q.words

pub header_words : (line : List ℕ) (l m : Told) → Did l m (printing line) → m.words ≡ l.words
header_words [] l m q = words_left l m q
header_words (octet ∷ octets) l m q = words_behind_write l m (octet ∷ octets) q

-- what a header that broke off left
pub record HeaderLeft (line : List ℕ) (l m : Told) : Type 0 where
  pub wires : m.wires ≡ l.wires
  pub held : GrewPart l.sink.held m.sink.held line

pub header_left : (line : List ℕ) (l m : Told) (fault : LoopFault) → Breaks l m (printing line) fault → HeaderLeft line l m
header_left line l m fault p = at p.acts p.did (header_begun line fault p.acts p.begun)
  where
    nothing : Did l m [] → HeaderLeft line l m
    nothing q = record { wires = q.wires.rests refl; held = record { part = []; rest = line; is = refl; grew = nothing_left_by l.sink.held m.sink.held q.sink.held } }

    failed : Did l m (Wrote line false ∷ []) → HeaderLeft line l m
    failed q = record { wires = q.wires.rests refl; held = text_begun_by l.sink.held m.sink.held line q.sink.held }

    at : (acts : List Act) → Did l m acts → HeaderBegun line acts → HeaderLeft line l m
    at acts q (NoneOfIt e) = nothing (subst (λ (z : List Act). Did l m z) e q)
    at acts q (AllOfIt e) =
        let d : Did l m (printing line) = subst (λ (z : List Act). Did l m z) e q in
        record { wires = header_wires line l m d; held = part_whole l.sink.held m.sink.held line (header_printed line l m d) }
    at acts q (FailedAt e) = failed (subst (λ (z : List Act). Did l m z) e q)

-- behind the first call
pub header_left_behind : (line : List ℕ) (a l m : Told) (call : Call) (first : SeenCall) (fault : LoopFault) → call_seen_so first ≡ Some call → Did a l (Called first ∷ []) → Breaks l m (printing line) fault
    → Grew a.wires.calls m.wires.calls (call ∷ []) × (a.wires.faults ≤ m.wires.faults) × GrewPart a.sink.held m.sink.held line × FailedFor fault a.sink.faults m.sink.faults
header_left_behind line a l m call first fault is p q =
    let left = header_left line l m fault q in
    let same : l.sink ≡ a.sink = p.sink.rests refl in (
      subst (λ (z : WiresState). Grew a.wires.calls z.calls (call ∷ [])) (sym left.wires) (told_call a.wires.calls l.wires.calls first call is p.wires.calls),
      (let x : a.wires.faults ≤ l.wires.faults = p.wires.faults.later in let y : l.wires.faults ≤ m.wires.faults = q.did.wires.faults.later in omega (arith, x, y)),
      subst (λ (z : SinkState). GrewPart z.held m.sink.held line) same left.held,
      subst (λ (z : SinkState). FailedFor fault z.faults m.sink.faults) same (failed_for l m (printing line) fault q),
    )

pub header_stops_so : (plan : Plan) (a l m : Told) (minds : List Mind) (words left : Stream) (address : List ℕ) (fault : LoopFault)
    → Did a l (Called (Listened address true) ∷ []) → Breaks l m (printing (trace_header plan.settings)) fault → Serves plan (around a) (around m) minds words left address (Err fault)
header_stops_so plan a l m minds words left address fault p q =
    let h = header_left_behind (trace_header plan.settings) a l m (Listens address true) (Listened address true) fault refl p q in
    header_stops plan (around a) (around m) minds words left address fault h.0 h.1 h.2 h.3

pub never_listens_so : (plan : Plan) (a l : Told) (minds : List Mind) (address : List ℕ) → Did a l (Called (Listened address false) ∷ []) → Serves plan (around a) (around l) minds a.words l.words address (Err Wires)
never_listens_so plan a l minds address p =
    never_listens plan (around a) (around l) minds a.words l.words address (ap (λ (z : SinkState). z.held) (p.sink.rests refl)) (told_call a.wires.calls l.wires.calls (Listened address false) (Listens address false) refl p.wires.calls)
    (ap (λ (z : ClockState). z.answers) (p.clock.rests refl)) (called_words a l (Listened address false) p) (p.wires.turn_faults.rose refl)

pub header_put : {T : Type 0} (a b : Told) (settings : Settings) (before now line : List ℕ) (r : Result T LoopFault)
    → before ≡ [] → now ≡ before ++ line_text (header_words_of settings) → line ≡ now → Puts a b (printing line) r → Puts a b (printing (trace_header settings)) r
unfolding trace_header
header_put a b settings before now line r none more is p =
    subst (λ z. Puts a b (printing z) r) (is ∙ more ∙ ap (λ z. z ++ line_text (header_words_of settings)) none) p

pub start_is : (slots : Slab (Session KEnd)) (places : BTreeMap ℕ ℕ) (users minds : List Mind) (m : ℕ) (words first : Stream)
    → places.entries ≡ [] → users ≡ minds → m ≡ 0 → words ≡ first → loop_of slots places users m words ≡ (beginning minds first).loop
start_is slots places users minds m words first none same zero drawn = rw (no_sessions slots places none, same, zero, drawn) refl

pub serve_ran_from : (laws : Laws) (plan : Plan) (a m b : Around) (minds : List Mind) (words left : Stream) (address : List ℕ) (l new : Loop KEnd) (count : ℕ) (r : Result Served LoopFault)
    → AllAllowed plan.settings → HasBegun plan (Listens address true) a m → l ≡ (beginning minds words).loop
    → Runs plan m b (course_of l 0 []) new count r → Serves plan a b minds words left address r
serve_ran_from laws plan a m b minds words left address l new count r allowed begun is q =
    serve_ran laws plan a m b minds words left address new count r allowed begun (subst (λ (z : Loop KEnd). Runs plan m b (course_of z 0 []) new count r) is q)

-- ---- the public clauses

pub served_of : (plan : Plan) (a b : Around) (minds : List Mind) (words left : Stream) (address : List ℕ) (r : Result Served LoopFault) → Serves plan a b minds words left address r
    → IfOk r (λ served. HasServed (loop_outside_of a) (loop_outside_of b) plan address minds words served.turns (halt_for served.why))
served_of plan a b minds words left address (Ok served) p = p
served_of plan a b minds words left address (Err fault) p = tt

pub failed_of : (plan : Plan) (a b : Around) (minds : List Mind) (words left : Stream) (address : List ℕ) (r : Result Served LoopFault) → Serves plan a b minds words left address r
    → r ≡ Err Wires → FailsToServe (loop_outside_of a) (loop_outside_of b) plan address minds words left
failed_of plan a b minds words left address r p is = (subst (λ z. Serves plan a b minds words left address z) is p).0

pub rose_of : (plan : Plan) (a b : Around) (minds : List Mind) (words left : Stream) (address : List ℕ) (r : Result Served LoopFault) → Serves plan a b minds words left address r
    → r ≡ Err Wires → Rose a.turns_failed b.turns_failed
rose_of plan a b minds words left address r p is = (subst (λ z. Serves plan a b minds words left address z) is p).1

pub off_of : (plan : Plan) (a b : Around) (minds : List Mind) (words left : Stream) (address : List ℕ) (r : Result Served LoopFault) → Serves plan a b minds words left address r
    → r ≡ Err Sink → BreaksOffServing (loop_outside_of a) (loop_outside_of b) plan address minds words
off_of plan a b minds words left address r p is = (subst (λ z. Serves plan a b minds words left address z) is p).0

pub sunk_of : (plan : Plan) (a b : Around) (minds : List Mind) (words left : Stream) (address : List ℕ) (r : Result Served LoopFault) → Serves plan a b minds words left address r
    → r ≡ Err Sink → Rose a.seen.sunk b.seen.sunk
sunk_of plan a b minds words left address r p is = (subst (λ z. Serves plan a b minds words left address z) is p).1

pub memory_of : (plan : Plan) (a b : Around) (minds : List Mind) (words left : Stream) (address : List ℕ) (r : Result Served LoopFault) → Serves plan a b minds words left address r
    → (want : Want) → r ≡ Err (NoMemory want) → BreaksOffServing (loop_outside_of a) (loop_outside_of b) plan address minds words
memory_of plan a b minds words left address r p want is = (subst (λ z. Serves plan a b minds words left address z) is p).0

-- all of them, of the plan that the caller has
pub serves_on : (before now : Told) (plan plan' : Plan) (address : List ℕ) (minds : List Mind) (r : Result Served LoopFault) → plan ≡ plan'
    → Serves plan (around before) (around now) minds before.words now.words address r → before.sink.faults ≤ now.sink.faults
    → ServesOn before now plan' address minds r
serves_on before now plan plan' address minds r same p later =
    let a = around before in
    let b = around now in
    let q : Serves plan' a b minds before.words now.words address r = subst (λ z. Serves z a b minds before.words now.words address r) same p in
    record {
      served = served_of plan' a b minds before.words now.words address r q;
      wires = failed_of plan' a b minds before.words now.words address r q;
      rose = rose_of plan' a b minds before.words now.words address r q;
      sink = off_of plan' a b minds before.words now.words address r q;
      sunk = sunk_of plan' a b minds before.words now.words address r q;
      memory = memory_of plan' a b minds before.words now.words address r q;
      sink_count = later;
    }
