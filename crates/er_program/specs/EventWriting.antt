-- Contract: how a replay goes through its script, event by event, and how the refusal of an event is told.
use Rattle.std.specs.Prelude.{◌≡◌, ℕ, false, List, [], ◌∷◌, ◌++◌, take, drop, Some, None, Result, Ok, Err}
use Rattle.er_settings.specs.Values.{Settings}
use Rattle.er_trace.specs.declared.entry.Entry.{Entry as TraceEntry}
use Rattle.er_end_model.specs.Steps.{Finds}
use Rattle.trace_model.specs.declared.replay_fault.ReplayFault.{ReplayFault}
use Rattle.trace_model.specs.declared.replay_fault.ReplayFault.TheVariants.{NoConn, ConnTwice, MomentBack, NoKey, Many, Sink, NoMemory}
use Rattle.trace_model.specs.Checks.{fault_of_trace_event}
use Rattle.trace_model.specs.Printed.{entry_text}
use Rattle.trace_replay.specs.Standing.{StandsBehind}
use Rattle.trace_replay.specs.declared.run.Replaying.{Replaying}
use Rattle.outside.specs.Acts.{Wrote}
use Rattle.outside.specs.Doings.{Told, Did}
use Rattle.outside.specs.Scripts.{End, Sunk, OutOfMemory, Ends, Does, LeadsOn, printing, says_last}
use Rattle.er_program.specs.Answers.{replay_fault_line}
use Rattle.er_program.specs.KeyedScripts.{replays_events}

-- ---- one event, behind those before it

-- its text was printed
pub record WentEvent (s : Settings) (f : Finds) (before : List TraceEntry) (e : TraceEntry) (new : Replaying) (mid now : Told) : Type 0 where
  pub none : fault_of_trace_event s f before e ≡ None
  pub printed : Did mid now (printing (entry_text s f before e))
  pub stands : StandsBehind s f (before ++ e ∷ []) new

-- the write of it failed
pub record FailedEvent (s : Settings) (f : Finds) (before : List TraceEntry) (e : TraceEntry) (mid now : Told) : Type 0 where
  pub none : fault_of_trace_event s f before e ≡ None
  pub sank : Did mid now (Wrote (entry_text s f before e) false ∷ [])

-- it isn't taken, for this fault, and nothing was done
pub record RefusesEvent (s : Settings) (f : Finds) (before : List TraceEntry) (e : TraceEntry) (fault : ReplayFault) (mid now : Told) : Type 0 where
  pub is : fault_of_trace_event s f before e ≡ Some fault
  pub rests : now ≡ mid

abbrev pub ReplaysEvent : Settings → Finds → List TraceEntry → TraceEntry → Replaying → (mid now : Told) → Result (Unit {0}) ReplayFault → Type 0
ReplaysEvent s f before e new mid now (Ok done) = WentEvent s f before e new mid now
ReplaysEvent s f before e new mid now (Err (NoConn line conn)) = RefusesEvent s f before e (NoConn line conn) mid now
ReplaysEvent s f before e new mid now (Err (ConnTwice line conn)) = RefusesEvent s f before e (ConnTwice line conn) mid now
ReplaysEvent s f before e new mid now (Err (MomentBack line was moment)) = RefusesEvent s f before e (MomentBack line was moment) mid now
ReplaysEvent s f before e new mid now (Err (NoKey line engine rbc)) = RefusesEvent s f before e (NoKey line engine rbc) mid now
ReplaysEvent s f before e new mid now (Err (Many line live)) = RefusesEvent s f before e (Many line live) mid now
ReplaysEvent s f before e new mid now (Err Sink) = FailedEvent s f before e mid now
ReplaysEvent s f before e new mid now (Err (NoMemory want)) = now ≡ mid

-- ---- all events

-- so many were replayed; what is left is the script of those behind them
pub record ReplayedTo (s : Settings) (f : Finds) (entries : List TraceEntry) (n : ℕ) (r : Replaying) (before now : Told) : Type 0 where
  pub stands : StandsBehind s f (take n entries) r
  pub leads : LeadsOn (replays_events s f [] entries) (replays_events s f (take n entries) (drop n entries)) before now

-- all were replayed, or the first that isn't taken is yet to be told; or the script broke off
abbrev pub ReplaysEvents : Settings → Finds → List TraceEntry → (before now : Told) → Result (Unit {0}) ReplayFault → Type 0
ReplaysEvents s f entries before now (Ok done) = LeadsOn (replays_events s f [] entries) (Ends 0) before now
ReplaysEvents s f entries before now (Err (NoConn line conn)) =
    LeadsOn (replays_events s f [] entries) (says_last 3 (replay_fault_line (NoConn line conn))) before now
ReplaysEvents s f entries before now (Err (ConnTwice line conn)) =
    LeadsOn (replays_events s f [] entries) (says_last 3 (replay_fault_line (ConnTwice line conn))) before now
ReplaysEvents s f entries before now (Err (MomentBack line was moment)) =
    LeadsOn (replays_events s f [] entries) (says_last 3 (replay_fault_line (MomentBack line was moment))) before now
ReplaysEvents s f entries before now (Err (NoKey line engine rbc)) =
    LeadsOn (replays_events s f [] entries) (says_last 3 (replay_fault_line (NoKey line engine rbc))) before now
ReplaysEvents s f entries before now (Err (Many line live)) =
    LeadsOn (replays_events s f [] entries) (says_last 3 (replay_fault_line (Many line live))) before now
ReplaysEvents s f entries before now (Err Sink) = Does (replays_events s f [] entries) before now Sunk
ReplaysEvents s f entries before now (Err (NoMemory want)) = Does (replays_events s f [] entries) before now OutOfMemory

-- ---- the fault of a replay

-- an event's refusal was told; where a write had failed or memory had run out, nothing was done
abbrev pub TellsRefusal : ReplayFault → (before now : Told) → End → Type 0
TellsRefusal (NoConn line conn) before now end = Does (says_last 3 (replay_fault_line (NoConn line conn))) before now end
TellsRefusal (ConnTwice line conn) before now end = Does (says_last 3 (replay_fault_line (ConnTwice line conn))) before now end
TellsRefusal (MomentBack line was moment) before now end = Does (says_last 3 (replay_fault_line (MomentBack line was moment))) before now end
TellsRefusal (NoKey line engine rbc) before now end = Does (says_last 3 (replay_fault_line (NoKey line engine rbc))) before now end
TellsRefusal (Many line live) before now end = Does (says_last 3 (replay_fault_line (Many line live))) before now end
TellsRefusal Sink before now end = (now ≡ before) × (end ≡ Sunk)
TellsRefusal (NoMemory want) before now end = (now ≡ before) × (end ≡ OutOfMemory)
