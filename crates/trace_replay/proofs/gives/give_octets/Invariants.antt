-- The octets so far were given.
use Rattle.std.proofs.Common.{ℕ, ◌≤◌, ◌-◌, take, length}
use Rattle.safety_automaton.specs.Keys.{key_at}
use Rattle.er_end_model.specs.Ends.{End}
use Rattle.trace_replay.specs.Places.{StandsForAlikeEnd}
use Rattle.trace_replay.specs.Takings.{GivesOctetsToEnd}
use Rattle.trace_replay.proofs.gives.give_octets.Given as goal

abbrev pub invariant-loop-used : goal.invariant-loop-used
invariant-loop-used g l = record {
  within : l.used ≤ length l.octets;
  heard : (last : ℕ) (m : End) → StandsForAlikeEnd last l.fn.end m → last ≤ l.now
      → GivesOctetsToEnd l.now l.conn (key_at (g.K.KeyFinder.entries l.keys)) (take l.used l.octets) m l.end l.fn.out.items l.out.items;
}

abbrev pub decreases-loop-used : goal.decreases-loop-used
decreases-loop-used g l = length l.octets - l.used
