-- Contract: the lines of an event say what it counts.
use Rattle.std.specs.Prelude.{◌≡◌, ◌<◌, ◌^◌, ℕ, List, Option, Some, None}
use Rattle.er_base.specs.declared.release.Release.{Release}
use Rattle.journal.specs.declared.event_tally.EventTally.{EventTally}
use Rattle.journal.specs.Tallies.{IsTallyOf}

-- the numbers of a tally as its types have them
abbrev pub HasReasonOctets : Option Release → Type 0
HasReasonOctets None = Unit {0}
HasReasonOctets (Some release) = (release.reason < 256) × (release.sub < 256)

pub record HasTallyRanges (t : EventTally) : Type 0 where
  pub conn : t.conn < 2 ^ 64
  pub released : HasReasonOctets t.released

-- both count the same, but for the frames that were ignored
pub record CountAlike (s t : EventTally) : Type 0 where
  pub conn : s.conn ≡ t.conn
  pub began : s.began ≡ t.began
  pub said : s.said ≡ t.said
  pub refused : s.refused ≡ t.refused
  pub accepted : s.accepted ≡ t.accepted
  pub connected : s.connected ≡ t.connected
  pub released : s.released ≡ t.released

-- two tallies of the same lines count alike, whatever events they are meant for: no reader of the lines could count otherwise. Of a count that no line tells
-- this doesn't hold, as of the frames that were ignored; nor were it so of releases whose line left out who released
abbrev pub LinesSayCounts : Type 0
LinesSayCounts = (lines : List ℕ) (s t : EventTally) → HasTallyRanges s → HasTallyRanges t → IsTallyOf lines s → IsTallyOf lines t → CountAlike s t
