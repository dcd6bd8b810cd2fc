use Rattle.relay_model.specs.Units.{Unbegun}
use Rattle.relay_model.proofs.Cuts as lemmas
use Rattle.relay_model.proofs.laws.parts_are_sent.Goals as goal

pub returns : goal.returns
returns c = λ came. lemmas.parts_are_sent Unbegun came
