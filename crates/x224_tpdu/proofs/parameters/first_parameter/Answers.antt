-- The parameter that is cut from the front is the first of those that the octets are made of.
use Rattle.x224_tpdu.proofs.Cutting.{in_few, begins}
use Rattle.x224_tpdu.proofs.parameters.first_parameter.Goals as goal

pub returns-in_default : goal.returns-in_default
returns-in_default c = in_few _ c.in_default.len_below

pub returns : goal.returns
returns c = begins _ _ _ _ c.in-len2-up.len_at_least c.from-size.ensures c.if-rest-size.false c.split_at.ensures.front c.split_at.ensures.back
