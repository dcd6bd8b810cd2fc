use Rattle.loop_model.proofs.Sequenced.{order_is_kept, opening_is_kept}
use Rattle.loop_model.proofs.laws.order.Goals as goal

pub returns : goal.returns
returns c = record { kept = order_is_kept; opening = opening_is_kept }
