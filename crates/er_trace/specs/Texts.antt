-- The lines of a trace as they are printed (this profile).
use Rattle.std.specs.Prelude.{ℕ, ◌≡◌, ◌<◌, ◌^◌, List, [], ◌∷◌, codes}
use Rattle.std.specs.Fmt.{decimal}
use Rattle.er_base.specs.Hexadecimal.{hex_of}
use Rattle.er_base.specs.Octets.{eight}
use Rattle.er_settings.specs.Values.{Settings}
use Rattle.er_settings.specs.Ranges.{AllAllowed}
use Rattle.er_trace.specs.declared.entry.Entry.{Entry}
use Rattle.er_trace.specs.declared.event.Event.{Event}
use Rattle.er_trace.specs.declared.event.Event.TheVariants.{Call, Answer, Octets, Send, Take, Release, Tick, Ended, Fault, Stalled, Full, Unserved}
use Rattle.er_trace.specs.declared.event_name.EventName.TheVariants as name
use Rattle.er_trace.specs.declared.outcome_name.OutcomeName.TheVariants as outcome
use Rattle.er_trace.specs.declared.refusal_name.RefusalName.TheVariants as refusal
use Rattle.er_trace.specs.declared.trace.Trace.{Trace}
use Rattle.er_trace.specs.Outcomes as of
use Rattle.er_trace.specs.Outcomes.{TraceOutcome}
use Rattle.er_trace.specs.Ranges.{IsMoment, IsEtcsNumber, IsOctet, IsEventText, IsInRange}
use Rattle.er_trace.specs.Table.{event_word, outcome_word, refusal_word, releaser_word}

-- the header
abbrev pub header_words : Settings → List (List ℕ)
header_words s =
    codes "trace" ∷ codes "1" ∷ decimal s.window ∷ decimal s.credit ∷ decimal s.size ∷ decimal s.t1 ∷ decimal s.n2 ∷ decimal s.setup ∷ []

-- the word of an event, and those behind it
abbrev pub words_of_event : Event → List (List ℕ)
words_of_event (Call engine rbc rb) = event_word name.Call ∷ decimal engine ∷ decimal rbc ∷ hex_of (eight rb) ∷ []
words_of_event (Answer rbc ra) = event_word name.Answer ∷ decimal rbc ∷ hex_of (eight ra) ∷ []
words_of_event (Octets octets) = event_word name.Octets ∷ hex_of octets ∷ []
words_of_event (Send text) = event_word name.Send ∷ hex_of text ∷ []
words_of_event Take = event_word name.Take ∷ []
words_of_event (Release sub) = event_word name.Release ∷ decimal sub ∷ []
words_of_event Tick = event_word name.Tick ∷ []
words_of_event Ended = event_word name.Ended ∷ []
words_of_event Fault = event_word name.Fault ∷ []
words_of_event Stalled = event_word name.Stalled ∷ []
words_of_event (Full count) = event_word name.Full ∷ decimal count ∷ []
words_of_event (Unserved count) = event_word name.Unserved ∷ decimal count ∷ []

-- the line of an event
abbrev pub event_words : (at conn : ℕ) → List (List ℕ) → List (List ℕ)
event_words at conn words = codes ">" ∷ decimal at ∷ decimal conn ∷ words

abbrev pub entry_words : (at conn : ℕ) → Event → List (List ℕ)
entry_words at conn event = event_words at conn (words_of_event event)

-- the word of an outcome, and those behind it
abbrev pub words_of_outcome : TraceOutcome → List (List ℕ)
words_of_outcome (of.Connected peer) = outcome_word outcome.Connected ∷ decimal peer ∷ []
words_of_outcome (of.Accepted text) = outcome_word outcome.Accepted ∷ hex_of text ∷ []
words_of_outcome (of.Taken text) = outcome_word outcome.Taken ∷ hex_of text ∷ []
words_of_outcome of.Empty = outcome_word outcome.Empty ∷ []
words_of_outcome (of.RefusedReleased r) = codes "refused" ∷ refusal_word refusal.Released ∷ decimal r.reason ∷ decimal r.sub ∷ []
words_of_outcome of.RefusedNotConnected = codes "refused" ∷ refusal_word refusal.NotConnected ∷ []
words_of_outcome (of.RefusedLength octets) = codes "refused" ∷ refusal_word refusal.Length ∷ decimal octets ∷ []
words_of_outcome (of.RefusedFull waiting) = codes "refused" ∷ refusal_word refusal.Full ∷ decimal waiting ∷ []
words_of_outcome (of.Released r) = outcome_word outcome.Released ∷ decimal r.reason ∷ decimal r.sub ∷ releaser_word r.by_peer ∷ []
words_of_outcome (of.Octets octets) = outcome_word outcome.Octets ∷ hex_of octets ∷ []

-- the line of an outcome
abbrev pub outcome_words : (conn : ℕ) → TraceOutcome → List (List ℕ)
outcome_words conn outcome = codes "<" ∷ decimal conn ∷ words_of_outcome outcome

-- ---- what can be read again

-- an event in its ranges, at a moment and a connection in theirs
pub record IsReadableEntry (entry : Entry) : Type 0 where
  pub moment : IsMoment entry.moment
  pub conn : entry.conn < 2 ^ 64
  pub event : IsInRange entry.event

abbrev pub AreReadableEntries : List Entry → Type 0
AreReadableEntries [] = Unit {0}
AreReadableEntries (entry ∷ entries) = IsReadableEntry entry × AreReadableEntries entries

-- a trace that `read` can answer, line numbers aside
pub record CanBeRead (trace : Trace) : Type 0 where
  pub settings : AllAllowed trace.settings
  pub modulo : trace.settings.modulo ≡ 8
  pub entries : AreReadableEntries trace.entries

-- an outcome in its ranges
abbrev pub IsTellable : TraceOutcome → Type 0
IsTellable (of.Connected peer) = IsEtcsNumber peer
IsTellable (of.Accepted text) = IsEventText text
IsTellable (of.Taken text) = IsEventText text
IsTellable of.Empty = Unit {0}
IsTellable (of.RefusedReleased r) = IsOctet r.reason × IsOctet r.sub
IsTellable of.RefusedNotConnected = Unit {0}
IsTellable (of.RefusedLength octets) = octets < 2 ^ 64
IsTellable (of.RefusedFull waiting) = waiting < 2 ^ 64
IsTellable (of.Released r) = IsOctet r.reason × IsOctet r.sub
IsTellable (of.Octets octets) = IsEventText octets
