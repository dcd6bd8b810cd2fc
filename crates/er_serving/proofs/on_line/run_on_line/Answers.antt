-- What the status means, by how the run ended.
use Rattle.er_serving.specs.LineCommandViews.{line_view}
use Rattle.er_serving.proofs.LineMeanings.{run_exits, exit_recorded}
use Rattle.er_serving.proofs.on_line.run_on_line.Goals as goal

pub returns-clause-run : goal.returns-clause-run
returns-clause-run g c =
    run_exits (line_view c.args.command.now) _ (g.O.Outside.told c.args.outside.now) (g.O.Outside.told c.answered-ended.new.outside) (g.O.Outside.told c.exits.new.outside) c.answered-ended.result c.exits.result.0
    c.answered-ended.ensures.ends c.answered-ended.ensures.asks c.exits.ensures.exits

pub returns-clause-recorded : goal.returns-clause-recorded
returns-clause-recorded g c =
    exit_recorded (line_view c.args.command.now) (g.O.Outside.told c.args.outside.now) (g.O.Outside.told c.answered-ended.new.outside) (g.O.Outside.told c.exits.new.outside) c.answered-ended.result c.exits.result.0 c.answered-ended.ensures.asks c.exits.ensures.exits
