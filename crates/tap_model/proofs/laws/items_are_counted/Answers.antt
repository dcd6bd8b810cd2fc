use Rattle.tap_model.proofs.Counting.{items_are_counted}
use Rattle.tap_model.proofs.laws.items_are_counted.Goals as goal

pub returns : goal.returns
returns c = items_are_counted
