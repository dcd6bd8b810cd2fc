-- What an event came to, as a program in C is told it: the outcomes of the end model as numbers.
use Rattle.std.specs.Prelude.{ℕ, ℤ, Bool, if◌then◌else◌, List, [], ◌∷◌, length, Option, Some, None, is_some}
use Rattle.er_base.specs.declared.release.Release.{Release}
use Rattle.hdlc_station_model.specs.declared.counts.Counts.{Counts}
use Rattle.er_end_model.specs.Outcomes.{Outcome, ConnectedTo, Accepted, Taken, NothingToTake, Refused, WasReleased, Octets, SendRefusal, RefusedReleased}
use Rattle.er_end_model.specs.Outcomes.{RefusedNotConnected, RefusedLength, RefusedFull}
use Rattle.er_end_c.specs.declared.face.CDeeds.{CDeeds}
use Rattle.er_end_c.specs.declared.face.CCounts.{CCounts}
use Rattle.er_end_c.specs.Statuses.{ok, released, not_connected, wrong_length, full, none}

abbrev pub deed_flag : Bool → ℕ
deed_flag b = if b then 1 else 0

abbrev pub no_deeds : CDeeds
no_deeds = record { out = 0; used = 0; message = 0; connected = 0; peer = 0; released = 0; reason = 0; sub = 0; by_peer = 0; back = 0 }

-- ---- what outcomes are as deeds

abbrev pub released_so : Release → CDeeds → CDeeds
released_so why deeds = record deeds { released = 1; reason = why.reason; sub = why.sub; by_peer = deed_flag why.by_peer }

-- the octets that go to the line are so many, the message that was accepted or taken has so many, the safe connection came to stand with
-- this peer, the end was released for this reason
abbrev pub deeds_told : List Outcome → CDeeds
deeds_told [] = no_deeds
deeds_told (ConnectedTo peer ∷ outcomes) = record (deeds_told outcomes) { connected = 1; peer = peer }
deeds_told (Accepted message ∷ outcomes) = record (deeds_told outcomes) { message = length message }
deeds_told (Taken message ∷ outcomes) = record (deeds_told outcomes) { message = length message }
deeds_told (NothingToTake ∷ outcomes) = deeds_told outcomes
deeds_told (Refused refusal ∷ outcomes) = deeds_told outcomes
deeds_told (WasReleased why ∷ outcomes) = released_so why (deeds_told outcomes)
deeds_told (Octets octets ∷ outcomes) = record (deeds_told outcomes) { out = length octets }

-- why a send is refused, as a status
abbrev pub refused_status : SendRefusal → ℤ
refused_status (RefusedReleased why) = released
refused_status RefusedNotConnected = not_connected
refused_status (RefusedLength found) = wrong_length
refused_status (RefusedFull waiting) = full

-- OK, but where a send was refused or no message was there to be taken
abbrev pub status_told : List Outcome → ℤ
status_told [] = ok
status_told (ConnectedTo peer ∷ outcomes) = status_told outcomes
status_told (Accepted message ∷ outcomes) = status_told outcomes
status_told (Taken message ∷ outcomes) = status_told outcomes
status_told (NothingToTake ∷ outcomes) = none
status_told (Refused refusal ∷ outcomes) = refused_status refusal
status_told (WasReleased why ∷ outcomes) = status_told outcomes
status_told (Octets octets ∷ outcomes) = status_told outcomes

-- ---- the same by what an event told of each kind

abbrev pub release_deeds : Option Release → CDeeds
release_deeds None = no_deeds
release_deeds (Some why) = released_so why no_deeds

abbrev pub text_size_or_zero : Option (List ℕ) → ℕ
text_size_or_zero None = 0
text_size_or_zero (Some text) = length text

abbrev pub number_or_zero : Option ℕ → ℕ
number_or_zero None = 0
number_or_zero (Some n) = n

abbrev pub deeds_by_outcome_kind : ℕ → Option ℕ → Option (List ℕ) → Option Release → List ℕ → CDeeds
deeds_by_outcome_kind used connected accepted leaves out = record (release_deeds leaves) {
  out = length out;
  used = used;
  message = text_size_or_zero accepted;
  connected = deed_flag (is_some connected);
  peer = number_or_zero connected;
}

-- ---- counts

abbrev pub counts_shown : Counts → CCounts
counts_shown counts = record { bad_fcs = counts.bad_fcs; too_short = counts.short; too_long = counts.long; aborted = counts.aborted; stray = counts.stray }
