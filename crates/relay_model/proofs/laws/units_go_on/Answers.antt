use Rattle.relay_model.specs.Units.{Unbegun}
use Rattle.relay_model.proofs.Cuts.{parts_append, standing_append}
use Rattle.relay_model.proofs.laws.units_go_on.Goals as goal

pub returns : goal.returns
returns c = record { parts = λ came more. parts_append Unbegun came more; standing = λ came more. standing_append Unbegun came more }
