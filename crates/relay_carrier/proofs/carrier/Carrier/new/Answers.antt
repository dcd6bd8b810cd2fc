-- Nothing came.
use Rattle.relay_carrier.proofs.Takings.{new_stands}
use Rattle.relay_carrier.proofs.carrier.Carrier.new.Goals as goal

pub returns-clause-stands : goal.returns-clause-stands
returns-clause-stands c = λ script. new_stands script c.args.side _ _ c.in_ok-new.ensures c.new-2.ensures
