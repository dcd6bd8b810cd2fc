-- What is claimed of a loop that serves and of one that dials: there is a journal, which the sink got behind the header; the calls made on the
-- wires and the clock's answers are those of that journal; both are what the loop of `loop_model` does for some answers of the outside.
use Rattle.std.specs.Prelude.{◌≡◌, ℕ, ◌+◌, ◌-◌, ◌^◌, ◌≤◌, min, Bool, true, false, List, [], ◌∷◌, ◌++◌, length, Option, Some, None, Result, Err, IfOk}
use Rattle.rand_core.specs.Stream.{Stream}
use Rattle.des_block.specs.declared.triple_key.TripleKey.{TripleKey}
use Rattle.safety_automaton.specs.Keys as keys
use Rattle.er_base.specs.declared.no_memory.NoMemory.{NoMemory as Want}
use Rattle.er_users.specs.Users.{Mind}
use Rattle.link_trait.specs.Outside.{Grew, Rose}
use Rattle.link_trait.specs.Wires.{Call, Listens, Dials}
use Rattle.outside.specs.Doings.{Told}
use Rattle.loop_model.specs.Ends.{ModelEnd, model_ends}
use Rattle.loop_model.specs.Grammar.{AreInGrammar}
use Rattle.loop_model.specs.Journals.{trace_header}
use Rattle.loop_model.specs.Deeds.{text_of, calls_of}
use Rattle.loop_model.specs.Outs.{Out}
use Rattle.loop_model.specs.Visits.{Met}
use Rattle.loop_model.specs.Loops.{Plan, Halt, OnEnded, OnClosed, OnFailed, Course, Turn, beginning, serves, Caller, Dialled, dials, asks, opens, printed}
use Rattle.loop_model.specs.Laws.{IsServing, IsDialling, IsIsolated, IsPrinted, AreAccounted, AreOnOpen, faults, HaltsBy, turns_of, greatest}
use Rattle.loop_model.specs.Parts.{session_of_connection, of, opened_in}
use Rattle.loop_model.specs.Orderings.{IsSequenced}
use Rattle.loop_model.specs.Points.{AreHeard, user_of, IsSpoken}
use Rattle.loop_model.specs.Told.{HasUserHeard}
use Rattle.loop_model.specs.Recordings.{IsReplayed}
use Rattle.loop_session.specs.declared.loop_fault.LoopFault.{LoopFault}
use Rattle.loop_session.specs.declared.loop_fault.LoopFault.TheVariants as fault
use Rattle.loop_io.specs.Seeing.{AreAnsweredSo, Counts}
use Rattle.readiness_loop.specs.Cuts.{Cut, LiesIn, cut_behind_part, IsToldFirst, with_turns, LiesInRun}
use Rattle.readiness_loop.specs.declared.line_plan.LinePlan.{LinePlan}
use Rattle.readiness_loop.specs.declared.line_plan.Served.{Served}
use Rattle.readiness_loop.specs.declared.line_plan.LoopStop.{LoopStop}
use Rattle.readiness_loop.specs.declared.line_plan.LoopStop.TheVariants as stop

-- ---- the two plans

-- a loop that serves, with these keys, as this radio block centre, to so many users
abbrev pub serving : List keys.KmacEntry → LinePlan → ℕ → ℕ → Plan
serving entries plan rbc handed =
    record { settings = plan.settings; keys = entries; rbc = rbc; handed = handed; turns = plan.turns; dials = false }

-- the keys of one pair, which hold at every moment
abbrev pub pair_of : (engine rbc : ℕ) → TripleKey → keys.KmacEntry
pair_of engine rbc kmac = record { engine = engine; rbc = rbc; kmac = kmac; first = 0; last = 2 ^ 64 - 1 }

abbrev pub dialling : TripleKey → LinePlan → (engine rbc handed : ℕ) → Plan
dialling kmac plan engine rbc handed =
    record { settings = plan.settings; keys = pair_of engine rbc kmac ∷ []; rbc = rbc; handed = handed; turns = plan.turns; dials = true }

-- the session that calls
abbrev pub caller_of : (engine : ℕ) → TripleKey → Caller
caller_of engine kmac = record { engine = engine; kmac = kmac }

-- ---- what is seen of the outside

-- the sink: what it holds, and how often it failed; the wires: the calls, how often they failed, and whether they listen; the clock: its
-- answers
pub record LoopOutside : Type 0 where
  pub held : Option (List ℕ)
  pub sunk : ℕ
  pub calls : Option (List Call)
  pub failed : ℕ
  pub listening : Bool
  pub clock : Option (List ℕ)

-- all that a loop prints and calls was printed and called: behind the header, where that was printed; and the clock was asked so
pub record IsPrintedAndCalled (before now : LoopOutside) (began : Bool) (plan : Plan) (o : Out (Course ModelEnd)) : Type 0 where
  pub text : Grew before.held now.held (printed began plan o.entries)
  pub calls : Grew before.calls now.calls o.calls
  pub clock : Grew before.clock now.clock o.state.asked
  -- as wires answer: no read gave too much, or nothing where octets wait
  pub answered : AreAnsweredSo o.calls
  -- each event `fault` is one that the wires counted
  pub faults : min (before.failed + faults o.entries) (2 ^ 64 - 1) ≤ now.failed
  -- each event line is in the grammar of traces
  pub in_grammar : AreInGrammar o.entries

-- it broke off: this was printed and called, and nothing else
pub record IsCutAt (before now : LoopOutside) (printed : List ℕ) (called : List Call) : Type 0 where
  pub text : Grew before.held now.held printed
  pub calls : Grew before.calls now.calls called
  pub answered : AreAnsweredSo called
  -- each read and write that failed is one that the wires counted
  pub counted : Counts before.failed now.failed called

-- ---- what holds of its journal and its calls

pub record IsLawfulLoop (plan : Plan) (o : Out (Course ModelEnd)) : Type 0 where
  -- the outcomes of each connection are those of its own events
  pub isolated : IsIsolated plan o
  -- the text is the printed text of the events
  pub printed : IsPrinted plan o
  -- what was given to a connection is a beginning of the octets of its outcomes
  pub accounted : AreAccounted o
  -- no call is made on a connection that was closed
  pub on_open : AreOnOpen o
  -- the joined octets of a connection's events are a beginning of those taken from it, and all of them where it never stalled
  pub heard : AreHeard o
  -- a replay refuses no event, and prints what the loop printed
  pub replayed : IsReplayed plan o
  -- text and calls come in one order: what is given to a connection was told of it before, and a close is its last
  pub in_order : IsSequenced plan o

-- the sends and the release of each connection are the replies that the relation of its user's kind gives to what the user hears
abbrev pub AreSpoken : List Mind → Out (Course ModelEnd) → Type 0
AreSpoken minds o = (conn : ℕ) → IsSpoken (user_of conn o.entries minds) (of conn o.entries)

-- a user of a live session that tells what it heard has told exactly what the events of its connection say
abbrev pub UsersHeard : List Mind → Out (Course ModelEnd) → Type 0
UsersHeard minds o = (conn : ℕ) → HasUserHeard (session_of_connection conn o.state.loop.sessions) (user_of conn o.entries minds) (of conn o.entries)

-- its turns: none behind one that ended or failed, as many as it counts, and not more than planned; and its moment
pub record HasTurns (plan : Plan) (o : Out (Course ModelEnd)) (count : ℕ) (why : Option Halt) : Type 0 where
  pub halts : HaltsBy why (turns_of o.calls)
  pub counted : count ≡ length (turns_of o.calls)
  pub most : count ≤ plan.turns
  pub all : why ≡ None → count ≡ plan.turns
  pub moment : o.state.loop.moment ≡ greatest 0 o.state.asked

-- why it stopped, as the model says it
abbrev pub halt_for : LoopStop → Option Halt
halt_for stop.Turns = None
halt_for stop.Ended = Some OnEnded
halt_for stop.Closed = Some OnClosed

-- ---- the answers

abbrev pub loop_outside : Told → LoopOutside
loop_outside told = record {
  held = told.sink.held;
  sunk = told.sink.faults;
  calls = told.wires.calls;
  failed = told.wires.faults;
  listening = told.wires.listening;
  clock = told.clock.answers;
}

-- a loop that serves, for some answers of the outside: what it printed and called, and how it stopped
pub record HasServed (before now : LoopOutside) (plan : Plan) (address : List ℕ) (minds : List Mind) (words : Stream) (count : ℕ) (why : Option Halt) : Type 0
  where
    pub answers : List Turn
    -- what the laws of the loop ask for: it begins with no session, the numbers of accepted connections rise, the settings are in their ranges
    pub is_serving : IsServing plan (beginning minds words) answers
    pub done : IsPrintedAndCalled before now true plan (serves model_ends plan (beginning minds words) address true answers)
    pub lawful : IsLawfulLoop plan (serves model_ends plan (beginning minds words) address true answers)
    pub replies : AreSpoken minds (serves model_ends plan (beginning minds words) address true answers)
    pub users : UsersHeard minds (serves model_ends plan (beginning minds words) address true answers)
    pub turns : HasTurns plan (serves model_ends plan (beginning minds words) address true answers) count why
    pub halted : why ≡ (serves model_ends plan (beginning minds words) address true answers).state.halt

-- the wires never listened; nothing was printed, and the clock wasn't asked
pub record NeverListened (before now : LoopOutside) (address : List ℕ) : Type 0 where
  pub text : Grew before.held now.held []
  pub calls : Grew before.calls now.calls (Listens address false ∷ [])
  pub clock : Grew before.clock now.clock []

-- either that, and all random words are left; or a turn failed
pub data FailsToServe (before now : LoopOutside) (plan : Plan) (address : List ℕ) (minds : List Mind) (words left : Stream) : Type 0 where
  NotListening : NeverListened before now address → left ≡ words → FailsToServe before now plan address minds words left
  TurnFailed : (count : ℕ) → HasServed before now plan address minds words count (Some OnFailed)
      → FailsToServe before now plan address minds words left

-- whole turns of a loop that then broke off: what the laws of the loop ask for, what holds of its journal, and what its users said and heard
pub record HasServedTurns (plan : Plan) (address : List ℕ) (minds : List Mind) (words : Stream) (turns : List Turn) : Type 0 where
  pub is_serving : IsServing plan (beginning minds words) turns
  pub lawful : IsLawfulLoop plan (serves model_ends plan (beginning minds words) address true turns)
  pub replies : AreSpoken minds (serves model_ends plan (beginning minds words) address true turns)
  pub users : UsersHeard minds (serves model_ends plan (beginning minds words) address true turns)

-- a write of the sink failed or memory ran out: before the loop listened; while the header was printed; or in its turns, at one cut
pub data BreaksOffServing (before now : LoopOutside) (plan : Plan) (address : List ℕ) (minds : List Mind) (words : Stream) : Type 0 where
  BeforeListening : IsCutAt before now [] [] → BreaksOffServing before now plan address minds words
  InServingHeader : (part rest : List ℕ) → part ++ rest ≡ trace_header plan.settings → IsCutAt before now part (Listens address true ∷ [])
      → BreaksOffServing before now plan address minds words
  -- the whole turns before the cut are those of a loop that did no more
  InServing : (cut : Cut) (lies : LiesInRun model_ends plan (beginning minds words) cut)
      → HasServedTurns (with_turns plan (length lies.turns)) address minds words lies.turns
      → IsToldFirst cut
      → IsCutAt before now (trace_header plan.settings ++ text_of cut) (Listens address true ∷ calls_of cut)
      → BreaksOffServing before now plan address minds words

-- the same of a loop that dials
pub record HasDialled (before now : LoopOutside) (plan : Plan) (caller : Caller) (address : List ℕ) (minds : List Mind) (words : Stream) (count : ℕ)
    (why : Option Halt) : Type 0 where
  pub answers : Dialled
  pub conn : ℕ
  pub opened : answers.conn ≡ Some conn
  -- what the laws of the loop ask for: besides, the pair's KMAC holds at the moment of the call
  pub is_dialling : IsDialling plan caller (beginning minds words) address answers
  pub done : IsPrintedAndCalled before now true plan (dials model_ends plan caller (beginning minds words) address answers)
  pub lawful : IsLawfulLoop plan (dials model_ends plan caller (beginning minds words) address answers)
  pub replies : AreSpoken minds (dials model_ends plan caller (beginning minds words) address answers)
  pub users : UsersHeard minds (dials model_ends plan caller (beginning minds words) address answers)
  pub turns : HasTurns plan (dials model_ends plan caller (beginning minds words) address answers) count why
  pub halted : why ≡ (dials model_ends plan caller (beginning minds words) address answers).state.halt
  -- where the wires didn't listen before, no other connection was opened
  pub alone : before.listening ≡ false → opened_in (dials model_ends plan caller (beginning minds words) address answers).calls ≡ conn ∷ []

pub record NeverDialled (before now : LoopOutside) (address : List ℕ) : Type 0 where
  pub text : Grew before.held now.held []
  pub calls : Grew before.calls now.calls (Dials address None ∷ [])
  pub clock : Grew before.clock now.clock []

pub data FailsToDial (before now : LoopOutside) (plan : Plan) (caller : Caller) (address : List ℕ) (minds : List Mind) (words left : Stream) : Type 0 where
  NotDialling : NeverDialled before now address → left ≡ words → FailsToDial before now plan caller address minds words left
  LineFailed : (count : ℕ) → HasDialled before now plan caller address minds words count (Some OnFailed)
      → FailsToDial before now plan caller address minds words left

-- the opening of the one connection that was dialled
abbrev pub opening : Plan → Caller → List Mind → Stream → (conn first : ℕ) → Met → Out (Course ModelEnd)
opening plan caller minds words conn first met = opens model_ends plan caller (asks first (beginning minds words)) conn met

-- what a dial meets that opens a connection
abbrev pub dial_with_connection : (conn first : ℕ) → Met → List Turn → Dialled
dial_with_connection conn first met turns = record { conn = Some conn; first = first; met = met; turns = turns }

-- whole turns of a loop that dialled and then broke off
pub record HasDialledTurns (plan : Plan) (caller : Caller) (address : List ℕ) (minds : List Mind) (words : Stream) (answers : Dialled) : Type 0 where
  pub is_dialling : IsDialling plan caller (beginning minds words) address answers
  pub lawful : IsLawfulLoop plan (dials model_ends plan caller (beginning minds words) address answers)
  pub replies : AreSpoken minds (dials model_ends plan caller (beginning minds words) address answers)
  pub users : UsersHeard minds (dials model_ends plan caller (beginning minds words) address answers)

-- the same, or in the opening
pub data BreaksOffDialling (before now : LoopOutside) (plan : Plan) (caller : Caller) (address : List ℕ) (minds : List Mind) (words : Stream) : Type 0 where
  BeforeDialling : IsCutAt before now [] [] → BreaksOffDialling before now plan caller address minds words
  InDiallingHeader : (conn : ℕ) (part rest : List ℕ) → part ++ rest ≡ trace_header plan.settings → IsCutAt before now part (Dials address (Some conn) ∷ [])
      → BreaksOffDialling before now plan caller address minds words
  InOpening : (conn first : ℕ) (met : Met) (cut : Cut) → LiesIn (opening plan caller minds words conn first met) cut
      → IsToldFirst cut
      → IsCutAt before now (trace_header plan.settings ++ text_of cut) (Dials address (Some conn) ∷ calls_of cut)
      → BreaksOffDialling before now plan caller address minds words
  InDialling : (conn first : ℕ) (met : Met) (rest cut : Cut) (lies : LiesInRun model_ends plan (opening plan caller minds words conn first met).state rest)
      → HasDialledTurns (with_turns plan (length lies.turns)) caller address minds words (dial_with_connection conn first met lies.turns)
      → cut ≡ cut_behind_part (opening plan caller minds words conn first met) rest
      → IsToldFirst cut
      → IsCutAt before now (trace_header plan.settings ++ text_of cut) (Dials address (Some conn) ∷ calls_of cut)
      → BreaksOffDialling before now plan caller address minds words

-- ---- the clauses of both calls, over what the outside tells

-- how a call ends: with Ok it did so much; with an error it failed so, or broke off so, and the count of those faults rose
pub record Ends (before now : Told) (Does : ℕ → Option Halt → Type 0) (Fails BreaksOff : Type 0) (result : Result Served LoopFault) : Type 0 where
  pub served : IfOk result (λ served. Does served.turns (halt_for served.why))
  -- a listen, dial or turn failed
  pub wires : result ≡ Err fault.Wires → Fails
  pub rose : result ≡ Err fault.Wires → Rose before.wires.turn_faults now.wires.turn_faults
  -- a write of the sink failed
  pub sink : result ≡ Err fault.Sink → BreaksOff
  pub sunk : result ≡ Err fault.Sink → Rose before.sink.faults now.sink.faults
  -- memory ran out
  pub memory : (want : Want) → result ≡ Err (fault.NoMemory want) → BreaksOff
  -- the sink's count of faults doesn't fall
  pub sink_count : before.sink.faults ≤ now.sink.faults

abbrev pub ServesOn : (before now : Told) → Plan → List ℕ → List Mind → Result Served LoopFault → Type 0
ServesOn before now plan address minds result =
    Ends before now
    (HasServed (loop_outside before) (loop_outside now) plan address minds before.words)
    (FailsToServe (loop_outside before) (loop_outside now) plan address minds before.words now.words)
    (BreaksOffServing (loop_outside before) (loop_outside now) plan address minds before.words) result

abbrev pub DialsOn : (before now : Told) → Plan → Caller → List ℕ → List Mind → Result Served LoopFault → Type 0
DialsOn before now plan caller address minds result =
    Ends before now
    (HasDialled (loop_outside before) (loop_outside now) plan caller address minds before.words)
    (FailsToDial (loop_outside before) (loop_outside now) plan caller address minds before.words now.words)
    (BreaksOffDialling (loop_outside before) (loop_outside now) plan caller address minds before.words) result
