use Rattle.loop_model.proofs.laws.progress.Goals as goal
use Rattle.loop_model.proofs.Progressing.{readable_progress}

pub returns : goal.returns
returns c = readable_progress
