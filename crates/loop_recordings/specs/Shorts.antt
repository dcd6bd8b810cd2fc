-- What an end tells of an event is short, where the links have the usual settings: a window of seven I frames, TPDUs of at most 128 octets.
use Rattle.std.specs.Prelude.{◌<◌, ◌≤◌, ◌^◌, List, [], ◌∷◌, length}
use Rattle.er_settings.specs.Making.{usual_settings}
use Rattle.er_trace.specs.declared.entry.Entry.{Entry}
use Rattle.er_trace.specs.Texts.{IsReadableEntry, AreReadableEntries}
use Rattle.sapdu.specs.Messages.{IsMessage}
use Rattle.er_end_model.specs.Outcomes.{SendRefusal, RefusedReleased, RefusedNotConnected, RefusedLength, RefusedFull}
use Rattle.er_end_model.specs.Outcomes.{Outcome, ConnectedTo, Accepted, Taken, NothingToTake, Refused, WasReleased, Octets}
use Rattle.er_end_model.specs.Steps.{Finds}
use Rattle.trace_model.specs.Printed.{outcomes_at}

-- the number that a refusal tells, where it tells one, is one of eight octets
abbrev pub IsShortRefusal : SendRefusal → Type 0
IsShortRefusal (RefusedReleased release) = Unit {0}
IsShortRefusal RefusedNotConnected = Unit {0}
IsShortRefusal (RefusedLength found) = found < 2 ^ 64
IsShortRefusal (RefusedFull waiting) = waiting < 2 ^ 64

-- the peer's number is an ETCS number of three octets, a message has 1 to 1,023 octets, and at most 2,700 octets go to the line at once
abbrev pub IsShort : Outcome → Type 0
IsShort (ConnectedTo peer) = peer < 16777216
IsShort (Accepted message) = IsMessage message
IsShort (Taken message) = IsMessage message
IsShort NothingToTake = Unit {0}
IsShort (Refused refusal) = IsShortRefusal refusal
IsShort (WasReleased release) = Unit {0}
IsShort (Octets octets) = length octets ≤ 2700

-- each of these outcomes is short
abbrev pub AreShort : List Outcome → Type 0
AreShort [] = Unit {0}
AreShort (outcome ∷ outcomes) = IsShort outcome × AreShort outcomes

-- the outcomes of each event of a trace are short, whatever the events before it, and however KMACs are looked up
abbrev pub OutcomesAreShort : Type 0
OutcomesAreShort =
    (finds : Finds) (before : List Entry) (entry : Entry) → AreReadableEntries before → IsReadableEntry entry
    → AreShort (outcomes_at usual_settings finds before entry)
