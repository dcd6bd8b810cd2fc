-- Which events a journal can have: each with its line in the grammar of traces, and of what is told of it each reason and each text in
-- octets. How long such a text is at most, and that a peer's number is an ETCS number, follows of the end.
use Rattle.std.specs.Prelude.{◌<◌, ◌^◌, List, [], ◌∷◌}
use Rattle.er_base.specs.Octets.{AreOctets}
use Rattle.er_trace.specs.Ranges.{IsOctet}
use Rattle.er_trace.specs.Texts.{IsReadableEntry}
use Rattle.er_end_model.specs.Outcomes.{SendRefusal, RefusedReleased, RefusedNotConnected, RefusedLength, RefusedFull, Outcome, ConnectedTo, Accepted, Taken}
use Rattle.er_end_model.specs.Outcomes.{NothingToTake, Refused, WasReleased, Octets}
use Rattle.loop_model.specs.Journals.{JournalEntry, trace_line_of}

-- a reason and a sub-reason in octets, a number in eight of them
abbrev pub RefusalHasOctets : SendRefusal → Type 0
RefusalHasOctets (RefusedReleased release) = IsOctet release.reason × IsOctet release.sub
RefusalHasOctets RefusedNotConnected = Unit {0}
RefusalHasOctets (RefusedLength found) = found < 2 ^ 64
RefusalHasOctets (RefusedFull waiting) = waiting < 2 ^ 64

abbrev pub HasOctets : Outcome → Type 0
HasOctets (ConnectedTo peer) = Unit {0}
HasOctets (Accepted message) = AreOctets message
HasOctets (Taken message) = AreOctets message
HasOctets NothingToTake = Unit {0}
HasOctets (Refused refusal) = RefusalHasOctets refusal
HasOctets (WasReleased release) = IsOctet release.reason × IsOctet release.sub
HasOctets (Octets octets) = AreOctets octets

abbrev pub HaveOctets : List Outcome → Type 0
HaveOctets [] = Unit {0}
HaveOctets (outcome ∷ outcomes) = HasOctets outcome × HaveOctets outcomes

-- an event whose line is in the grammar, and whose outcomes have octets
pub record IsInGrammar (x : JournalEntry) : Type 0 where
  pub event : IsReadableEntry (trace_line_of x)
  pub outcomes : HaveOctets x.outcomes

abbrev pub AreInGrammar : List JournalEntry → Type 0
AreInGrammar [] = Unit {0}
AreInGrammar (x ∷ xs) = IsInGrammar x × AreInGrammar xs
