use Rattle.er_end_model.proofs.Offering.{offers_rest}
use Rattle.er_end_model.proofs.laws.offers_rest.Goals as goal

pub returns : goal.returns
returns c = offers_rest
