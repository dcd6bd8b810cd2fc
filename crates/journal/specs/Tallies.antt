-- Contract: what one event of a journal counts: what it begins, what a user said by it, and how many outcomes of each kind its lines tell.
use Rattle.std.specs.Prelude.{◌≡◌, ℕ, Bool, true, false, List, [], ◌∷◌, length, filter, filter_map, Option, Some, None}
use Rattle.er_base.specs.declared.release.Release.{Release}
use Rattle.er_end_model.specs.Outcomes.{Outcome, ConnectedTo, Accepted, Taken, NothingToTake, Refused, WasReleased}
use Rattle.er_end_model.specs.Outcomes as outcome
use Rattle.er_trace.specs.declared.event.Event.{Event}
use Rattle.er_trace.specs.declared.event.Event.TheVariants as event
use Rattle.loop_model.specs.Journals.{JournalEntry, entry_text}
use Rattle.journal.specs.declared.began.Began.{Began}
use Rattle.journal.specs.declared.began.Began.TheVariants.{Nothing, End, Full, Unserved}
use Rattle.journal.specs.declared.event_tally.EventTally.{EventTally}

-- ---- the event

-- an end begins where an engine calls and where a radio block centre answers; a connection that is turned away says why
abbrev pub what_event_begins : Event → Began
what_event_begins (event.Call engine rbc rb) = End
what_event_begins (event.Answer rbc ra) = End
what_event_begins (event.Octets octets) = Nothing
what_event_begins (event.Send text) = Nothing
what_event_begins event.Take = Nothing
what_event_begins (event.Release sub) = Nothing
what_event_begins event.Tick = Nothing
what_event_begins event.Ended = Nothing
what_event_begins event.Fault = Nothing
what_event_begins event.Stalled = Nothing
what_event_begins (event.Full count) = Full
what_event_begins (event.Unserved count) = Unserved

-- a send is one message that the user said, also where it is refused
abbrev pub messages_said_by_event : Event → ℕ
messages_said_by_event (event.Call engine rbc rb) = 0
messages_said_by_event (event.Answer rbc ra) = 0
messages_said_by_event (event.Octets octets) = 0
messages_said_by_event (event.Send text) = 1
messages_said_by_event event.Take = 0
messages_said_by_event (event.Release sub) = 0
messages_said_by_event event.Tick = 0
messages_said_by_event event.Ended = 0
messages_said_by_event event.Fault = 0
messages_said_by_event event.Stalled = 0
messages_said_by_event (event.Full count) = 0
messages_said_by_event (event.Unserved count) = 0

-- ---- its outcomes

abbrev pub tells_connection : Outcome → Bool
tells_connection (ConnectedTo peer) = true
tells_connection (Accepted message) = false
tells_connection (Taken message) = false
tells_connection NothingToTake = false
tells_connection (Refused refusal) = false
tells_connection (WasReleased release) = false
tells_connection (outcome.Octets octets) = false

abbrev pub tells_acceptance : Outcome → Bool
tells_acceptance (ConnectedTo peer) = false
tells_acceptance (Accepted message) = true
tells_acceptance (Taken message) = false
tells_acceptance NothingToTake = false
tells_acceptance (Refused refusal) = false
tells_acceptance (WasReleased release) = false
tells_acceptance (outcome.Octets octets) = false

abbrev pub tells_refusal : Outcome → Bool
tells_refusal (ConnectedTo peer) = false
tells_refusal (Accepted message) = false
tells_refusal (Taken message) = false
tells_refusal NothingToTake = false
tells_refusal (Refused refusal) = true
tells_refusal (WasReleased release) = false
tells_refusal (outcome.Octets octets) = false

abbrev pub told_release : Outcome → Option Release
told_release (ConnectedTo peer) = None
told_release (Accepted message) = None
told_release (Taken message) = None
told_release NothingToTake = None
told_release (Refused refusal) = None
told_release (WasReleased release) = Some release
told_release (outcome.Octets octets) = None

-- how many outcomes are of a kind
abbrev pub count_outcomes : (Outcome → Bool) → List Outcome → ℕ
count_outcomes is_one outcomes = length (filter is_one outcomes)

abbrev pub releases_told : List Outcome → List Release
releases_told outcomes = filter_map told_release outcomes

abbrev pub release_or_none : Option Release → List Release
release_or_none None = []
release_or_none (Some release) = release ∷ []

-- ---- all together

-- this is what an event with its outcomes counts; how many frames were ignored stands in no journal
pub record IsTallyOfEntry (x : JournalEntry) (t : EventTally) : Type 0 where
  pub conn : t.conn ≡ x.conn
  pub began : t.began ≡ what_event_begins x.event
  pub said : t.said ≡ messages_said_by_event x.event
  pub refused : t.refused ≡ count_outcomes tells_refusal x.outcomes
  pub accepted : t.accepted ≡ count_outcomes tells_acceptance x.outcomes
  pub connected : t.connected ≡ count_outcomes tells_connection x.outcomes
  pub released : release_or_none t.released ≡ releases_told x.outcomes

-- these are the lines of an event which counts this
pub record IsTallyOf (lines : List ℕ) (t : EventTally) : Type 0 where
  pub entry : JournalEntry
  pub text : lines ≡ entry_text entry
  pub counts : IsTallyOfEntry entry t
