-- Representation: how the parts of a replay end; no claim rests on it.
use Rattle.std.specs.Prelude.{ℕ, ◌≡◌, ◌≤◌, ◌==◌, Bool, true, false, List, [], ◌∷◌, ◌++◌, Option, Some, None, Result, Ok, Err}
use Rattle.std.specs.BTreeMap.{get, btree_map_len}
use Rattle.std.specs.Ordering.{nat_cmp}
use Rattle.er_base.specs.declared.no_memory.NoMemory.{NoMemory as Want}
use Rattle.er_base.specs.declared.release.Release.{Release}
use Rattle.er_base.specs.LineTexts.{line_text}
use Rattle.er_trace.specs.declared.event.Event.{Event}
use Rattle.er_trace.specs.declared.event.Event.TheVariants as event
use Rattle.er_trace.specs.Texts.{entry_words}
use Rattle.er_end_model.specs.Outcomes.{Outcome, Refused, RefusedReleased, NothingToTake}
use Rattle.er_settings.specs.Values.{Settings}
use Rattle.er_trace.specs.declared.entry.Entry.{Entry}
use Rattle.er_end_model.specs.Steps.{Finds}
use Rattle.er_end_model.specs.Ends.{End, Come, step_event}
use Rattle.er_end.specs.declared.event.Event.{Event as EndEvent}
use Rattle.er_end.specs.KeptEnds.{KEnd}
use Rattle.er_end.specs.Given.{model_event_of}
use Rattle.trace_model.specs.declared.replay_fault.ReplayFault.{ReplayFault}
use Rattle.trace_model.specs.declared.replay_fault.ReplayFault.TheVariants.{NoConn, ConnTwice, MomentBack, NoKey, Many, Sink, NoMemory}
use Rattle.trace_model.specs.Connections.{goes_on, happens}
use Rattle.trace_model.specs.Checks.{role_of, role_check}
use Rattle.trace_model.specs.Printed.{outcomes_text, entry_text}
use Rattle.trace_replay.specs.declared.connections.Connections.{Connections}
use Rattle.trace_replay.specs.Places.{FollowsEnd, HoldsOfAllConnections, StandsForAlikeEnd}

-- an event of a trace is this one of its end
abbrev pub IsOfEnd : Event → EndEvent → Type 0
IsOfEnd e on = (settings : Settings) (finds : Finds) (now : ℕ) (m : Option End) → happens settings finds now e m ≡ goes_on now (model_event_of finds on) m

-- it is none of an end
abbrev pub IsOfNoEnd : Event → Type 0
IsOfNoEnd e = (settings : Settings) (finds : Finds) (now : ℕ) (m : Option End) → happens settings finds now e m ≡ (m, [])

-- an event was given to the end of a connection, and the lines of its outcomes were made
pub record GivesEventToEnd (settings : Settings) (finds : Finds) (e : Entry) (m : Option End) (k : KEnd) (out new : List ℕ) : Type 0 where
  pub follows : FollowsEnd e.moment k (happens settings finds e.moment e.event m).0
  pub text : new ≡ out ++ outcomes_text e.conn (happens settings finds e.moment e.event m).1

-- octets were given to an end, frame by frame
pub record GivesOctetsToEnd (now conn : ℕ) (finds : Finds) (octets : List ℕ) (m : End) (k : KEnd) (out new : List ℕ) : Type 0 where
  pub follows : StandsForAlikeEnd now k (step_event now (Come finds octets) m).0
  pub text : new ≡ out ++ outcomes_text conn (step_event now (Come finds octets) m).1

-- what comes of an event at an end that is over
abbrev pub told_over : Release → Event → List Outcome
told_over why (event.Call engine rbc rb) = []
told_over why (event.Answer rbc ra) = []
told_over why (event.Octets octets) = []
told_over why (event.Send text) = Refused (RefusedReleased why) ∷ []
told_over why event.Take = NothingToTake ∷ []
told_over why (event.Release sub) = []
told_over why event.Tick = []
told_over why event.Ended = []
told_over why event.Fault = []
told_over why event.Stalled = []
told_over why (event.Full count) = []
told_over why (event.Unserved count) = []

-- the same at the end that is kept of a live connection; nothing else changed
pub record GivesLive (finds : Finds) (e : Entry) (old new : Connections) (out now : List ℕ) : Type 0 where
  pub before : KEnd
  pub behind : KEnd
  pub was : get nat_cmp old.live e.conn ≡ Some before
  pub here : get nat_cmp new.live e.conn ≡ Some behind
  pub others : (c : ℕ) → (e.conn == c) ≡ false → get nat_cmp new.live c ≡ get nat_cmp old.live c
  pub over : new.over ≡ old.over
  pub count : btree_map_len new.live ≡ btree_map_len old.live
  pub gives : (settings : Settings) (last : ℕ) (m : End) → StandsForAlikeEnd last before m → last ≤ e.moment
      → GivesEventToEnd settings finds e (Some m) behind (out ++ line_text (entry_words e.moment e.conn e.event)) now

-- where there is one
abbrev pub GivesIfLive : Finds → Entry → Connections → Connections → List ℕ → List ℕ → Result Bool Want → Type 0
GivesIfLive finds e old new out now (Ok true) = GivesLive finds e old new out now
GivesIfLive finds e old new out now (Ok false) = (get nat_cmp old.live e.conn ≡ None) × (new ≡ old) × (now ≡ out)
GivesIfLive finds e old new out now (Err want) = Unit {0}

-- an event was taken, but for the check of its moment: the lines were made, and what is kept goes on
pub record Taken (settings : Settings) (finds : Finds) (before : List Entry) (e : Entry) (new : Connections) (out now : List ℕ) : Type 0 where
  pub allowed : role_check settings finds before e (role_of e.event) ≡ None
  pub text : now ≡ out ++ entry_text settings finds before e
  pub holds : HoldsOfAllConnections settings finds (before ++ e ∷ []) new

-- it was taken, or it isn't for this fault
abbrev pub TakesTraceEvent : {T : Type 0} → Settings → Finds → List Entry → Entry → Connections → List ℕ → List ℕ → Result T ReplayFault → Type 0
TakesTraceEvent s f before e new out now (Ok done) = Taken s f before e new out now
TakesTraceEvent s f before e new out now (Err (NoConn line conn)) = role_check s f before e (role_of e.event) ≡ Some (NoConn line conn)
TakesTraceEvent s f before e new out now (Err (ConnTwice line conn)) = role_check s f before e (role_of e.event) ≡ Some (ConnTwice line conn)
TakesTraceEvent s f before e new out now (Err (MomentBack line was moment)) = ⊥
TakesTraceEvent s f before e new out now (Err (NoKey line engine rbc)) = role_check s f before e (role_of e.event) ≡ Some (NoKey line engine rbc)
TakesTraceEvent s f before e new out now (Err (Many line live)) = role_check s f before e (role_of e.event) ≡ Some (Many line live)
TakesTraceEvent s f before e new out now (Err Sink) = ⊥
TakesTraceEvent s f before e new out now (Err (NoMemory want)) = Unit {0}
