-- Representation: how far the loop's code has come, as a course of the model; what is seen of the outside; how a turn and a run of turns end;
-- no claim rests on it.
use Rattle.loop_session.specs.Keeping.{kept_ends}
use Rattle.std.specs.Prelude.{◌≡◌, ℕ, ◌≤◌, ◌<◌, ◌-◌, Bool, true, false, List, [], ◌∷◌, ◌++◌, Option, Some, None, Result, Ok, Err}
use Rattle.rand_core.specs.Stream.{Stream}
use Rattle.er_settings.specs.Values.{Settings}
use Rattle.er_end_model.specs.Ends.{Answer as AnswersWith}
use Rattle.er_end.specs.KeptEnds.{KEnd, kept_opened}
use Rattle.er_trace.specs.declared.event.Event.TheVariants as event
use Rattle.loop_model.specs.Journals.{JournalEntry}
use Rattle.slab.specs.Slab.{Slab}
use Rattle.std.specs.BTreeMap.{BTreeMap}
use Rattle.safety_automaton.specs.Keys as keys
use Rattle.er_users.specs.Users.{Mind}
use Rattle.link_trait.specs.Outside.{Grew, Rose}
use Rattle.outside.specs.Doings.{Told}
use Rattle.loop_model.specs.Deeds.{text_of, calls_of}
use Rattle.loop_model.specs.Outs.{Out}
use Rattle.loop_model.specs.Sessions.{Session}
use Rattle.loop_model.specs.Visits.{Met}
use Rattle.loop_model.specs.Loops.{Plan, Loop, Halt, OnEnded, OnClosed, OnFailed, Course, Turn, turn, follows, went, turned_unless, run, asks, opens, begun}
use Rattle.loop_model.specs.Loops.{Caller, next_user, answered_by}
use Rattle.loop_model.specs.Parts.{opened_in, opened_by, Rises, newest}
use Rattle.loop_session.specs.declared.loop_fault.LoopFault.{LoopFault}
use Rattle.loop_session.specs.declared.loop_fault.LoopFault.TheVariants.{Wires, Sink, NoMemory}
use Rattle.loop_session.specs.Parts.{FailedFor}
use Rattle.loop_io.specs.Acting.{Acted, BreaksAt, BeganDeeds}
use Rattle.loop_io.specs.Seeing.{Seen, seen, AreAnsweredSo, Counts}
use Rattle.readiness_loop.specs.declared.loop_plan.LoopPlan.{LoopPlan}
use Rattle.readiness_loop.specs.declared.line_plan.Served.{Served}
use Rattle.readiness_loop.specs.declared.live_loop.Next.{Next}
use Rattle.readiness_loop.specs.declared.live_loop.Next.TheVariants as next
use Rattle.link_trait.specs.declared.wires.Happening.{Happening}
use Rattle.link_trait.specs.declared.wires.Happening.TheVariants as happening
use Rattle.readiness_loop.specs.Books.{sessions, AreSeated}
use Rattle.readiness_loop.specs.Cuts.{Cut, LiesIn, cut_behind_part, first_turns, LiesInRun}
use Rattle.readiness_loop.specs.Claims.{LoopOutside, halt_for, HasServed, FailsToServe, BreaksOffServing, HasDialled, FailsToDial, BreaksOffDialling}

-- what the code goes by, as a plan
abbrev pub plan_of_loop : List keys.KmacEntry → LoopPlan → Plan
plan_of_loop entries plan = record { settings = plan.settings; keys = entries; rbc = plan.rbc; handed = plan.handed; turns = plan.turns; dials = plan.dials }

-- what the code has, as a loop
abbrev pub loop_of : Slab (Session KEnd) → BTreeMap ℕ ℕ → List Mind → ℕ → Stream → Loop KEnd
loop_of slots places users moment words = record { sessions = sessions slots places; users = users; moment = moment; words = words }

-- what is seen of the outside: of the sink and the wires; how often a listen, dial or turn failed; the newest connection, and whether the
-- wires listen; the clock's answers
pub record Around : Type 0 where
  pub seen : Seen
  pub turns_failed : ℕ
  pub newest : ℕ
  pub listening : Bool
  pub asked : Option (List ℕ)

abbrev pub around : Told → Around
around told = record {
  seen = seen told;
  turns_failed = told.wires.turn_faults;
  newest = told.wires.opened;
  listening = told.wires.listening;
  asked = told.clock.answers;
}

-- so far the loop came from a course on, and this is what was printed, called and asked on the way
pub record HasComeFromCourse (a b : Around) (c : Course KEnd) (l : Loop KEnd) (n : ℕ) (h : Option Halt) (o : Out (Course KEnd)) : Type 0 where
  pub loop : l ≡ o.state.loop
  pub turns : n ≡ o.state.turns
  pub halt : h ≡ o.state.halt
  pub acted : Acted a.seen b.seen o.state o
  pub more : List ℕ
  pub asked : o.state.asked ≡ c.asked ++ more
  pub answered : Grew a.asked b.asked more
  pub opened : b.newest ≡ newest a.newest (opened_in o.calls)
  pub rises : Rises a.newest (opened_in o.calls)
  pub failed : a.turns_failed ≤ b.turns_failed
  pub listens : b.listening ≡ a.listening
  pub alone : a.listening ≡ false → opened_in o.calls ≡ []

-- there are answers for which the model of a part came so far
pub record Went {A : Type 0} (model : A → Out (Course KEnd)) (a b : Around) (c : Course KEnd) (l : Loop KEnd) (n : ℕ) (h : Option Halt) : Type 0 where
  pub answers : A
  pub is : HasComeFromCourse a b c l n h (model answers)

-- it broke off, since the sink failed or memory ran out: up to a cut all came out
pub record Broke (a b : Seen) (cut : Cut) (fault : LoopFault) : Type 0 where
  pub text : Grew a.held b.held (text_of cut)
  pub calls : Grew a.calls b.calls (calls_of cut)
  pub answered : AreAnsweredSo (calls_of cut)
  pub counted : Counts a.failed b.failed (calls_of cut)
  pub failed : FailedFor fault a.sunk b.sunk

-- for some answers the cut lies so, and a beginning of what the model of the part does was done
pub record WentOff {A : Type 0} (model : A → Out (Course KEnd)) (Lies : A → Cut → Type 0) (a b : Around) (fault : LoopFault) : Type 0 where
  pub answers : A
  pub cut : Cut
  pub lies : Lies answers cut
  pub broke : Broke a.seen b.seen cut fault
  pub began : BeganDeeds a.seen.told b.seen.told (model answers).order fault

-- it lies behind a turn, in what follows that; a connection that is accepted is above those before
pub record LiesBehind (plan : Plan) (low : ℕ) (c : Course KEnd) (x : Turn) (cut : Cut) : Type 0 where
  pub rest : Cut
  pub lies : LiesIn (follows kept_ends plan (turn kept_ends c x).state x) rest
  pub is : cut ≡ cut_behind_part (turn kept_ends c x) rest
  pub rises : Rises low (opened_by x.happening)

-- it lies in a turn, with what comes before and behind it
pub record LiesInTurn (plan : Plan) (low : ℕ) (c : Course KEnd) (x : Turn) (cut : Cut) : Type 0 where
  pub lies : LiesIn (went kept_ends plan c x) cut
  pub rises : Rises low (opened_by x.happening)

-- a turn failed, and the count of such faults rose
pub record WentWrong {A : Type 0} (model : A → Out (Course KEnd)) (a b : Around) (c : Course KEnd) (l : Loop KEnd) (n : ℕ) : Type 0 where
  pub went : Went model a b c l n (Some OnFailed)
  pub rose : Rose a.turns_failed b.turns_failed

abbrev pub halt_of : Next → Option Halt
halt_of next.GoesOn = None
halt_of next.Ended = Some OnEnded
halt_of next.Closed = Some OnClosed

abbrev pub Goes : {A : Type 0} → (A → Out (Course KEnd)) → (A → Cut → Type 0) → Around → Around → Course KEnd → Loop KEnd → ℕ → Result Next LoopFault → Type 0
Goes model lies a b c l n (Ok next) = Went model a b c l n (halt_of next)
Goes model lies a b c l n (Err Wires) = WentWrong model a b c l n
Goes model lies a b c l n (Err Sink) = WentOff model lies a b Sink
Goes model lies a b c l n (Err (NoMemory want)) = WentOff model lies a b (NoMemory want)

-- a turn and what follows it; and with what comes before it
abbrev pub Turned : Plan → Around → Around → Course KEnd → Loop KEnd → ℕ → Result Next LoopFault → Type 0
Turned plan a b c l n r = Goes (turned_unless kept_ends None plan c) (LiesBehind plan a.newest c) a b c l n r

abbrev pub Turns : Plan → Around → Around → Course KEnd → Loop KEnd → ℕ → Result Next LoopFault → Type 0
Turns plan a b c l n r = Goes (went kept_ends plan c) (LiesInTurn plan a.newest c) a b c l n r

-- a run of turns broke off
pub record RanOff (plan : Plan) (a b : Around) (c : Course KEnd) (fault : LoopFault) : Type 0 where
  pub cut : Cut
  pub lies : LiesInRun kept_ends plan c cut
  pub rises : Rises a.newest (opened_in (first_turns kept_ends plan c lies.turns).calls ++ opened_by lies.last.happening)
  pub broke : Broke a.seen b.seen cut fault
  -- of the whole turns and the next
  pub began : BeganDeeds a.seen.told b.seen.told (first_turns kept_ends plan c (lies.turns ++ lies.last ∷ [])).order fault

-- a run of turns
abbrev pub Runs : Plan → Around → Around → Course KEnd → Loop KEnd → ℕ → Result Served LoopFault → Type 0
Runs plan a b c l n (Ok served) = Went (run kept_ends plan c) a b c l served.turns (halt_for served.why)
Runs plan a b c l n (Err Wires) = WentWrong (run kept_ends plan c) a b c l n
Runs plan a b c l n (Err Sink) = RanOff plan a b c Sink
Runs plan a b c l n (Err (NoMemory want)) = RanOff plan a b c (NoMemory want)

-- a course that hasn't halted
abbrev pub course_of : Loop KEnd → ℕ → List ℕ → Course KEnd
course_of l n asked = record { loop = l; turns = n; halt = None; asked = asked }

-- the event that opens a session that answers, and that session
abbrev pub answer_event : (ra rbc moment conn : ℕ) → JournalEntry
answer_event ra rbc moment conn = record { moment = moment; conn = conn; event = event.Answer rbc ra; outcomes = [] }

abbrev pub answering_session : (ra : ℕ) → Settings → (rbc moment conn : ℕ) → Mind → Session KEnd
answering_session ra settings rbc moment conn mind = begun conn (kept_opened (AnswersWith settings rbc ra moment)) mind

-- a connection that is accepted and finds a user, with memory for its session or none
abbrev pub answer_of_next_user : Plan → Loop KEnd → ℕ → Bool → Out (Loop KEnd)
answer_of_next_user plan l conn memory = answered_by kept_ends (next_user l.users) memory plan l conn

-- why the loop halts behind a happening, where it halts for this reason else
abbrev pub halt_after : Happening → Option Halt → Option Halt
halt_after (happening.Accepted conn) why = why
halt_after (happening.Readable conn) why = why
halt_after (happening.Writable conn) why = why
halt_after happening.Quiet why = why
halt_after happening.Ended why = Some OnEnded
halt_after happening.Failed why = Some OnFailed

-- what follows a happening
abbrev pub HaltsSo : Result Next LoopFault → Option Halt → Type 0
HaltsSo (Ok next) why = halt_of next ≡ why
HaltsSo (Err Wires) why = Some OnFailed ≡ why
HaltsSo (Err Sink) why = ⊥
HaltsSo (Err (NoMemory want)) why = ⊥

-- a part without answers of the outside was done, or it broke off
abbrev pub Acts : {T S : Type 0} → Seen → Seen → S → Out S → Result T LoopFault → Type 0
Acts a b new o (Ok done) = Acted a b new o
Acts a b new o (Err fault) = BreaksAt a b o fault

-- behind a turn: a connection that was accepted is the newest, and above those that have a session
abbrev pub IsReadyFor : Happening → ℕ → Slab (Session KEnd) → List (ℕ × ℕ) → Type 0
IsReadyFor (happening.Accepted conn) newest slots es = (conn.0 ≡ newest) × (0 < conn.0) × AreSeated (conn.0 - 1) slots es
IsReadyFor (happening.Readable conn) newest slots es = AreSeated newest slots es
IsReadyFor (happening.Writable conn) newest slots es = AreSeated newest slots es
IsReadyFor happening.Quiet newest slots es = AreSeated newest slots es
IsReadyFor happening.Ended newest slots es = AreSeated newest slots es
IsReadyFor happening.Failed newest slots es = AreSeated newest slots es

-- ---- the two calls

abbrev pub loop_outside_of : Around → LoopOutside
loop_outside_of a = record { held = a.seen.held; sunk = a.seen.sunk; calls = a.seen.calls; failed = a.seen.failed; listening = a.listening; clock = a.asked }

-- how a loop that serves ends
abbrev pub Serves : Plan → Around → Around → List Mind → (words left : Stream) → List ℕ → Result Served LoopFault → Type 0
Serves plan a b minds words left address (Ok served) =
    HasServed (loop_outside_of a) (loop_outside_of b) plan address minds words served.turns (halt_for served.why)
Serves plan a b minds words left address (Err Wires) =
    FailsToServe (loop_outside_of a) (loop_outside_of b) plan address minds words left × Rose a.turns_failed b.turns_failed
Serves plan a b minds words left address (Err Sink) =
    BreaksOffServing (loop_outside_of a) (loop_outside_of b) plan address minds words × Rose a.seen.sunk b.seen.sunk
Serves plan a b minds words left address (Err (NoMemory want)) =
    BreaksOffServing (loop_outside_of a) (loop_outside_of b) plan address minds words × (a.seen.sunk ≤ b.seen.sunk)

-- the opening of a dial: the clock's answer before it, and what it meets
abbrev pub opening_over_kept_ends : Plan → Caller → Course KEnd → ℕ → ℕ × Met → Out (Course KEnd)
opening_over_kept_ends plan caller c conn x = opens kept_ends plan caller (asks x.0 c) conn x.1

abbrev pub halt_if : Bool → Option Halt
halt_if true = None
halt_if false = Some OnClosed

-- it was done, at a moment that clocks answer
pub record Opened (plan : Plan) (caller : Caller) (a b : Around) (c : Course KEnd) (conn : ℕ) (l : Loop KEnd) (n : ℕ) (h : Option Halt) : Type 0 where
  pub went : Went (opening_over_kept_ends plan caller c conn) a b c l n h
  pub early : went.answers.0 ≤ 1000000000000000

abbrev pub Opens : Plan → Caller → Around → Around → Course KEnd → ℕ → Loop KEnd → ℕ → Result Bool LoopFault → Type 0
Opens plan caller a b c conn l n (Ok stays) = Opened plan caller a b c conn l n (halt_if stays)
Opens plan caller a b c conn l n (Err Wires) = ⊥
Opens plan caller a b c conn l n (Err Sink) =
    WentOff (opening_over_kept_ends plan caller c conn) (λ x cut. LiesIn (opening_over_kept_ends plan caller c conn x) cut) a b Sink
Opens plan caller a b c conn l n (Err (NoMemory want)) =
    WentOff (opening_over_kept_ends plan caller c conn) (λ x cut. LiesIn (opening_over_kept_ends plan caller c conn x) cut) a b (NoMemory want)

-- how a loop that dials ends
abbrev pub Dials : Plan → Caller → Around → Around → List Mind → (words left : Stream) → List ℕ → Result Served LoopFault → Type 0
Dials plan caller a b minds words left address (Ok served) =
    HasDialled (loop_outside_of a) (loop_outside_of b) plan caller address minds words served.turns (halt_for served.why)
Dials plan caller a b minds words left address (Err Wires) =
    FailsToDial (loop_outside_of a) (loop_outside_of b) plan caller address minds words left × Rose a.turns_failed b.turns_failed
Dials plan caller a b minds words left address (Err Sink) =
    BreaksOffDialling (loop_outside_of a) (loop_outside_of b) plan caller address minds words × Rose a.seen.sunk b.seen.sunk
Dials plan caller a b minds words left address (Err (NoMemory want)) =
    BreaksOffDialling (loop_outside_of a) (loop_outside_of b) plan caller address minds words × (a.seen.sunk ≤ b.seen.sunk)
