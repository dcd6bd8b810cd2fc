-- So many events were replayed; what is left is the script of those behind them.
use Rattle.safety_automaton.specs.Keys.{key_at}
use Rattle.er_program.specs.EventWriting.{ReplayedTo}
use Rattle.er_program.proofs.replay.replay_each.Given as goal

abbrev pub invariant-loop-entry : goal.invariant-loop-entry
invariant-loop-entry g l =
    ReplayedTo l.trace.settings (key_at l.store) l.trace.entries l.entry-index l.replaying (g.O.Outside.told l.fn.outside) (g.O.Outside.told l.outside)
