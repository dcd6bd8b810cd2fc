use Rattle.safety_pair_laws.proofs.Talking.{talks_are_authentic}
use Rattle.safety_pair_laws.proofs.laws.talks_are_authentic.Goals as goal

pub returns : goal.returns
returns c = talks_are_authentic c.steps.ensures.only c.texts_tell.ensures
