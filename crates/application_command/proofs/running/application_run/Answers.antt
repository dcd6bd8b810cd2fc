-- By how the run ended.
use Rattle.application_command.specs.ApplicationCommandViews.{application_view}
use Rattle.application_command.proofs.RunEnds.{known}
use Rattle.application_command.proofs.running.application_run.Goals as goal

pub returns-clause-known : goal.returns-clause-known
returns-clause-known g c =
    known (application_view c.args.command.now) (g.O.Outside.told c.args.outside.now) (g.O.Outside.told c.ran-ended.new.outside)
    (g.O.Outside.told c.exits.new.outside) _ c.exits.result.0 c.ran-ended.ensures.ends c.exits.ensures.exits
