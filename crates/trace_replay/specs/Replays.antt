-- Contract: what a replay of one event and of all events comes to.
use Rattle.std.specs.Prelude.{ℕ, ◌≡◌, List, [], ◌∷◌, ◌++◌, Some, None, Result, Ok, Err}
use Rattle.er_settings.specs.Values.{Settings}
use Rattle.er_trace.specs.declared.entry.Entry.{Entry}
use Rattle.er_end_model.specs.Steps.{Finds}
use Rattle.trace_model.specs.declared.replay_fault.ReplayFault.{ReplayFault}
use Rattle.trace_model.specs.declared.replay_fault.ReplayFault.TheVariants.{NoConn, ConnTwice, MomentBack, NoKey, Many, Sink, NoMemory}
use Rattle.trace_model.specs.Checks.{fault_of_trace_event}
use Rattle.trace_model.specs.Printed.{entry_text, text_of_trace}
use Rattle.trace_model.specs.Replays.{AreTaken, HasFirstRefusedEvent}
use Rattle.trace_replay.specs.declared.run.Replaying.{Replaying}
use Rattle.trace_replay.specs.Standing.{StandsBehind}

-- ---- one event, behind those before it

-- it is taken, its lines were made, and what is kept stands behind it too
pub record HasTakenNext (settings : Settings) (finds : Finds) (before : List Entry) (e : Entry) (new : Replaying) (out now : List ℕ) : Type 0 where
  pub taken : fault_of_trace_event settings finds before e ≡ None
  pub text : now ≡ out ++ entry_text settings finds before e
  pub stands : StandsBehind settings finds (before ++ e ∷ []) new

-- or it isn't, for this fault
abbrev pub ReplaysNext : Settings → Finds → List Entry → Entry → Replaying → (out now : List ℕ) → Result (Unit {0}) ReplayFault → Type 0
ReplaysNext s f before e new out now (Ok done) = HasTakenNext s f before e new out now
ReplaysNext s f before e new out now (Err (NoConn line conn)) = fault_of_trace_event s f before e ≡ Some (NoConn line conn)
ReplaysNext s f before e new out now (Err (ConnTwice line conn)) = fault_of_trace_event s f before e ≡ Some (ConnTwice line conn)
ReplaysNext s f before e new out now (Err (MomentBack line was moment)) = fault_of_trace_event s f before e ≡ Some (MomentBack line was moment)
ReplaysNext s f before e new out now (Err (NoKey line engine rbc)) = fault_of_trace_event s f before e ≡ Some (NoKey line engine rbc)
ReplaysNext s f before e new out now (Err (Many line live)) = fault_of_trace_event s f before e ≡ Some (Many line live)
ReplaysNext s f before e new out now (Err Sink) = ⊥
ReplaysNext s f before e new out now (Err (NoMemory want)) = Unit {0}

-- ---- all events

-- all are taken, and their text was made
pub record HasReplayedAll (settings : Settings) (finds : Finds) (entries : List Entry) (out now : List ℕ) : Type 0 where
  pub taken : AreTaken settings finds entries
  pub text : now ≡ out ++ text_of_trace settings finds entries

-- one isn't, for this fault, and the text of those before it was made
pub record HasReplayedFirst (settings : Settings) (finds : Finds) (entries : List Entry) (fault : ReplayFault) (out now : List ℕ) : Type 0 where
  pub first : HasFirstRefusedEvent settings finds entries fault
  pub text : now ≡ out ++ text_of_trace settings finds first.first

abbrev pub ReplaysAll : Settings → Finds → List Entry → (out now : List ℕ) → Result (Unit {0}) ReplayFault → Type 0
ReplaysAll s f entries out now (Ok done) = HasReplayedAll s f entries out now
ReplaysAll s f entries out now (Err (NoConn line conn)) = HasReplayedFirst s f entries (NoConn line conn) out now
ReplaysAll s f entries out now (Err (ConnTwice line conn)) = HasReplayedFirst s f entries (ConnTwice line conn) out now
ReplaysAll s f entries out now (Err (MomentBack line was moment)) = HasReplayedFirst s f entries (MomentBack line was moment) out now
ReplaysAll s f entries out now (Err (NoKey line engine rbc)) = HasReplayedFirst s f entries (NoKey line engine rbc) out now
ReplaysAll s f entries out now (Err (Many line live)) = HasReplayedFirst s f entries (Many line live) out now
ReplaysAll s f entries out now (Err Sink) = ⊥
ReplaysAll s f entries out now (Err (NoMemory want)) = Unit {0}
