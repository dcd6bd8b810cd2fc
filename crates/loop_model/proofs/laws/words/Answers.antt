use Rattle.loop_model.proofs.laws.words.Goals as goal
use Rattle.loop_model.proofs.Words.{words_are_next}

pub returns : goal.returns
returns c = words_are_next
