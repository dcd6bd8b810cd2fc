-- Representation: what a replay keeps of the connections of a trace, and how it stands for their ends; no claim rests on it.
use Rattle.er_end.specs.FrameRoom.{one_if}
use Rattle.std.specs.Prelude.{ℕ, ◌≡◌, ◌≤◌, ◌+◌, ◌==◌, Bool, true, false, ◌||◌, if◌then◌else◌, List, [], ◌∷◌, length, Option, Some, None}
use Rattle.std.specs.BTreeMap.{get, btree_map_len}
use Rattle.std.specs.Ordering.{nat_cmp}
use Rattle.er_base.specs.declared.release.Release.{Release}
use Rattle.er_settings.specs.Values.{Settings}
use Rattle.er_trace.specs.declared.entry.Entry.{Entry}
use Rattle.er_end_model.specs.Steps.{Finds, new_event_at}
use Rattle.er_end_model.specs.Layers.{model}
use Rattle.er_end_model.specs.Ends.{End}
use Rattle.er_end.specs.KeptEnds.{KEnd, waiting_in}
use Rattle.er_end.specs.Standing.{EndStands}
use Rattle.trace_model.specs.Connections.{end_at}
use Rattle.trace_model.specs.Checks.{is_named, is_opened, connections_opened_in_trace, last_moment, is_live}
use Rattle.trace_replay.specs.declared.connections.Connections.{Connections}

-- ---- one end

-- two ends that differ at most in what the last event showed, which the next one clears, and in moments before this one
pub record AlikeFrom (last : ℕ) (m n : End) : Type 0 where
  pub stream : m.stream ≡ n.stream
  pub begun : (now : ℕ) → last ≤ now → new_event_at model now m.core ≡ new_event_at model now n.core

-- what the code keeps of an end stands for such an end: octets are given piece by piece, and a last one may close no frame
pub record StandsForAlikeEnd (last : ℕ) (k : KEnd) (n : End) : Type 0 where
  pub exact : End
  pub stands : EndStands k exact
  pub alike : AlikeFrom last exact n

abbrev pub FollowsEnd : ℕ → KEnd → Option End → Type 0
FollowsEnd last k None = ⊥
FollowsEnd last k (Some n) = StandsForAlikeEnd last k n

-- ---- what is kept of a connection

pub data ConnectionPlace : Type 0 where
  -- nothing named it
  Absent : ConnectionPlace
  -- no end was opened
  Declined : ConnectionPlace
  -- its end
  Live : KEnd → ConnectionPlace
  -- its end was released for this reason, and no message waits
  Over : Release → ConnectionPlace

abbrev pub unless_live : Option (Option Release) → ConnectionPlace
unless_live None = Absent
unless_live (Some None) = Declined
unless_live (Some (Some why)) = Over why

-- why an end that is over was released
abbrev pub why_in : Option (Option Release) → Option Release
why_in None = None
why_in (Some why) = why

abbrev pub place_by_live_or_over : Option KEnd → Option (Option Release) → ConnectionPlace
place_by_live_or_over None over = unless_live over
place_by_live_or_over (Some k) over = Live k

unfoldable pub place_of_connection : Connections → ℕ → ConnectionPlace
place_of_connection c conn = place_by_live_or_over (get nat_cmp c.live conn) (get nat_cmp c.over conn)

abbrev pub is_absent : ConnectionPlace → Bool
is_absent Absent = true
is_absent Declined = false
is_absent (Live k) = false
is_absent (Over why) = false

abbrev pub is_there : ConnectionPlace → Bool
is_there Absent = false
is_there Declined = false
is_there (Live k) = true
is_there (Over why) = false

-- why an end is over
unfoldable pub over_of : KEnd → Option Release
over_of k = if length (waiting_in k) == 0 then k.core.released else None

abbrev pub place_by : Option Release → KEnd → ConnectionPlace
place_by None k = Live k
place_by (Some why) k = Over why

-- where an end is kept
unfoldable pub place_for : KEnd → ConnectionPlace
place_for k = place_by (over_of k) k

-- ---- a change at one connection

pub record Places (old new : Connections) (conn : ℕ) (p : ConnectionPlace) : Type 0 where
  pub here : place_of_connection new conn ≡ p
  pub others : (c : ℕ) → (conn == c) ≡ false → place_of_connection new c ≡ place_of_connection old c
  pub count : btree_map_len new.live + one_if (is_there (place_of_connection old conn)) ≡ btree_map_len old.live + one_if (is_there p)

-- ---- all connections

abbrev pub IsOver : Release → Option End → Type 0
IsOver why None = ⊥
IsOver why (Some m) = (m.core.released ≡ Some why) × (model.untaken m.core.upper ≡ 0)

-- what is kept of a connection, by its end and by how it was named
abbrev pub KeepsConnection : ℕ → ConnectionPlace → Option End → (named opened : Bool) → Type 0
KeepsConnection last Absent m named opened = (m ≡ None) × (named ≡ false) × (opened ≡ false)
KeepsConnection last Declined m named opened = (m ≡ None) × (named ≡ true) × (opened ≡ false)
KeepsConnection last (Live k) m named opened = FollowsEnd last k m × (is_live m ≡ true) × (named ≡ true) × (opened ≡ true)
KeepsConnection last (Over why) m named opened = IsOver why m × (named ≡ true) × (opened ≡ true)

unfoldable pub has_connection : ℕ → List ℕ → Bool
has_connection c [] = false
has_connection c (x ∷ xs) = (x == c) || has_connection c xs

abbrev pub AreApart : List ℕ → Type 0
AreApart [] = Unit {0}
AreApart (x ∷ xs) = (has_connection x xs ≡ false) × AreApart xs

unfoldable pub count_of : (ℕ → Bool) → List ℕ → ℕ
count_of p [] = 0
count_of p (x ∷ xs) = one_if (p x) + count_of p xs

-- what is kept stands for the ends of all connections behind events
pub record AllHold (settings : Settings) (finds : Finds) (before : List Entry) (c : Connections) : Type 0 where
  pub keeps : (conn : ℕ) → KeepsConnection (last_moment before) (place_of_connection c conn) (end_at settings finds conn before) (is_named conn before)
      (is_opened conn before)
  pub apart : AreApart (connections_opened_in_trace before)
  pub count : btree_map_len c.live ≡ count_of (λ conn. is_there (place_of_connection c conn)) (connections_opened_in_trace before)

-- the same, as a word that no search opens
unfoldable pub HoldsOfAllConnections : Settings → Finds → List Entry → Connections → Type 0
HoldsOfAllConnections settings finds before c = AllHold settings finds before c
