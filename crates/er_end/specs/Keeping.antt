-- Contract: what an event leaves of what an end keeps: the messages that wait, and a release.
use Rattle.std.specs.Prelude.{ℕ, ◌≡◌, ◌≤◌, Bool, true, false, List, [], ◌∷◌, ◌++◌, length, drop, Some, None, is_some}
use Rattle.er_base.specs.declared.release.Release.{Release}
use Rattle.er_end_model.specs.Outcomes.{Outcome, ConnectedTo, Accepted, Taken, NothingToTake, Refused, WasReleased, Octets}
use Rattle.er_end_model.specs.Steps.{Finds}
use Rattle.er_end_model.specs.Ends.{Event, Start, Come, Send, Take, Leave, Tick, Ended, Fault, Stalled}
use Rattle.er_end.specs.KeptEnds.{KEnd, kept_end_behind_event, tells, used_of, waiting_in, deadline_of}

-- ---- messages that wait

-- the messages that were accepted, among outcomes
abbrev pub accepted_in : List Outcome → List (List ℕ)
accepted_in [] = []
accepted_in (ConnectedTo peer ∷ outcomes) = accepted_in outcomes
accepted_in (Accepted message ∷ outcomes) = message ∷ accepted_in outcomes
accepted_in (Taken message ∷ outcomes) = accepted_in outcomes
accepted_in (NothingToTake ∷ outcomes) = accepted_in outcomes
accepted_in (Refused refusal ∷ outcomes) = accepted_in outcomes
accepted_in (WasReleased release ∷ outcomes) = accepted_in outcomes
accepted_in (Octets octets ∷ outcomes) = accepted_in outcomes

-- a take takes the oldest
abbrev pub messages_left_by_event : Event → List (List ℕ) → List (List ℕ)
messages_left_by_event Start messages = messages
messages_left_by_event (Come finds octets) messages = messages
messages_left_by_event (Send user) messages = messages
messages_left_by_event Take messages = drop 1 messages
messages_left_by_event (Leave sub) messages = messages
messages_left_by_event Tick messages = messages
messages_left_by_event Ended messages = messages
messages_left_by_event Fault messages = messages
messages_left_by_event Stalled messages = messages

-- behind an event those wait that it left, and what it accepted
abbrev pub WaitsMove : Type 0
WaitsMove = (now : ℕ) (event : Event) (k : KEnd)
    → waiting_in (kept_end_behind_event now event k) ≡ messages_left_by_event event (waiting_in k) ++ accepted_in (tells now event k)

abbrev pub is_octets : Event → Bool
is_octets Start = false
is_octets (Come finds octets) = true
is_octets (Send user) = false
is_octets Take = false
is_octets (Leave sub) = false
is_octets Tick = false
is_octets Ended = false
is_octets Fault = false
is_octets Stalled = false

-- octets alone bring a message
abbrev pub OctetsBring : Type 0
OctetsBring = (now : ℕ) (event : Event) (k : KEnd) → is_octets event ≡ false → accepted_in (tells now event k) ≡ []

-- ---- a release

-- an end stays released, for this reason
abbrev pub ReleaseStays : Type 0
ReleaseStays = (now : ℕ) (event : Event) (k : KEnd) (why : Release) → k.core.released ≡ Some why → (kept_end_behind_event now event k).core.released ≡ Some why

-- an end whose line ended, failed or stalled is released
pub record BreaksRelease : Type 0 where
  pub ended : (now : ℕ) (k : KEnd) → is_some (kept_end_behind_event now Ended k).core.released ≡ true
  pub fault : (now : ℕ) (k : KEnd) → is_some (kept_end_behind_event now Fault k).core.released ≡ true
  pub stalled : (now : ℕ) (k : KEnd) → is_some (kept_end_behind_event now Stalled k).core.released ≡ true

-- a released end wants no tick
abbrev pub ReleasedWantNone : Type 0
ReleasedWantNone = (k : KEnd) → is_some k.core.released ≡ true → deadline_of k ≡ None

-- octets that come to a released end tell nothing
abbrev pub ReleasedTellNone : Type 0
ReleasedTellNone = (now : ℕ) (finds : Finds) (octets : List ℕ) (k : KEnd) (why : Release) → k.core.released ≡ Some why → tells now (Come finds octets) k ≡ []

-- ---- octets that are used

-- a released end uses all; each uses an octet at least, where one came, and no more than came
pub record Uses : Type 0 where
  pub all : (k : KEnd) (piece : List ℕ) → is_some k.core.released ≡ true → used_of k piece ≡ length piece
  pub one : (k : KEnd) (octet : ℕ) (octets : List ℕ) → 1 ≤ used_of k (octet ∷ octets)
  pub most : (k : KEnd) (piece : List ℕ) → used_of k piece ≤ length piece
