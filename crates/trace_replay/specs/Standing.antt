-- Contract: what a replay keeps stands behind the events that it took.
use Rattle.std.specs.Prelude.{◌≡◌, List}
use Rattle.er_settings.specs.Values.{Settings}
use Rattle.er_trace.specs.declared.entry.Entry.{Entry}
use Rattle.er_end_model.specs.Steps.{Finds}
use Rattle.trace_model.specs.Checks.{last_moment}
use Rattle.trace_replay.specs.declared.run.Replaying.{Replaying}
use Rattle.trace_replay.specs.Places.{HoldsOfAllConnections}

-- the ends of all connections, and the moment of the newest event
pub record KeepsBehind (settings : Settings) (finds : Finds) (before : List Entry) (r : Replaying) : Type 0 where
  pub connections : HoldsOfAllConnections settings finds before r.connections
  pub last : r.last ≡ last_moment before

-- the same, as a word that no search opens
unfoldable pub StandsBehind : Settings → Finds → List Entry → Replaying → Type 0
StandsBehind settings finds before r = KeepsBehind settings finds before r
