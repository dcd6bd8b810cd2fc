use Rattle.loop_model.proofs.laws.closing_reasons.Goals as goal
use Rattle.loop_model.proofs.EndKeepings.{steps_alike, made_stands}
use Rattle.loop_model.proofs.Settlings.{closes_have_reasons}

pub returns : goal.returns
returns c = closes_have_reasons steps_alike made_stands
