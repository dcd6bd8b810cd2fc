use Rattle.drill_model.proofs.Growing.{world_run_grows, text_grows}
use Rattle.drill_model.proofs.laws.runs_grow.Goals as goal

pub returns-clause-run : goal.returns-clause-run
returns-clause-run c = world_run_grows

pub returns-clause-text : goal.returns-clause-text
returns-clause-text c = text_grows
