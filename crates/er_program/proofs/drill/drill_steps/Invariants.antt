-- So many steps were done; what is left is the script of those behind them.
use Rattle.er_program.specs.StepWriting.{DrilledTo}
use Rattle.er_program.proofs.drill.drill_steps.Given as goal

abbrev pub invariant-loop-numbered : goal.invariant-loop-numbered
invariant-loop-numbered g l = DrilledTo l.scenario l.numbered-index l.world (g.O.Outside.told l.fn.outside) (g.O.Outside.told l.outside)
