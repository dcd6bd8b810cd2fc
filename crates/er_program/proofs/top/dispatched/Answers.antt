-- What the status of a command without wires means; and that of `serve` and `call`.
use Rattle.er_serving.specs.LineCommandViews.{line_view}
use Rattle.er_program.proofs.WholeRuns.{line_run, file_recorded, line_recorded}
use Rattle.er_program.proofs.top.dispatched.Goals as goal

pub returns-in-File : goal.returns-in-File
returns-in-File g c = record {
  run = rw c.in-File.is (c.run_off_line.ensures.run _);
  recorded = rw c.in-File.is (file_recorded c.in-File.command _ _);
}

pub returns-in-Line : goal.returns-in-Line
returns-in-Line g c = record {
  run = rw c.in-Line.is (line_run (line_view c.in-Line.command) _ _ _ _ c.run_on_line.ensures.run);
  recorded = rw c.in-Line.is (line_recorded (line_view c.in-Line.command) _ _ c.run_on_line.ensures.recorded);
}
