use Rattle.er_end_c.proofs.Running.{runs_as_model}
use Rattle.er_end_c.proofs.laws.runs.Goals as goal

pub returns : goal.returns
returns c = runs_as_model c.standing.ensures.made c.standing.ensures.steps c.kept_stands_for_stream.ensures c.standing.ensures.shows c.standing-2.ensures.counts
