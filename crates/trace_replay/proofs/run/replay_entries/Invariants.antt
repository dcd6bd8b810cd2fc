-- So many events were replayed.
use Rattle.safety_automaton.specs.Keys.{key_at}
use Rattle.trace_replay.specs.Going.{HasReplayedFirstEvents}
use Rattle.trace_replay.proofs.run.replay_entries.Given as goal

abbrev pub invariant-loop-entry : goal.invariant-loop-entry
invariant-loop-entry g l =
    HasReplayedFirstEvents l.trace.settings (key_at (g.K.KeyFinder.entries l.keys)) l.trace.entries l.entry-index l.replaying l.fn.out.items l.out.items
