use Rattle.hdlc_station_model.proofs.Gives.{hands_keep, others_keep}
use Rattle.hdlc_station_model.proofs.laws.others_keep.Goals as goal

pub returns-clause-hands : goal.returns-clause-hands
returns-clause-hands c = hands_keep

pub returns-clause-others : goal.returns-clause-others
returns-clause-others c = others_keep
