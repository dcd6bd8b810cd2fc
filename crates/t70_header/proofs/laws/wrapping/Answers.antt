-- The law of wrapping is proved over the definitions alone.
use Rattle.t70_header.proofs.Joins.{wrapped_is_joined}
use Rattle.t70_header.proofs.laws.wrapping.Goals as goal

pub returns : goal.returns
returns c = wrapped_is_joined
