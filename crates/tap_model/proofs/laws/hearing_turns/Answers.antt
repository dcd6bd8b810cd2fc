use Rattle.tap_model.proofs.Turning.{hearing_turns}
use Rattle.tap_model.proofs.laws.hearing_turns.Goals as goal

pub returns : goal.returns
returns c = hearing_turns
