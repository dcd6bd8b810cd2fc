use Rattle.hdlc_station.proofs.Alikes.{steps_alike, kept_is_modelled}
use Rattle.hdlc_station.proofs.laws.steps_alike.Goals as goal

pub returns-clause-steps : goal.returns-clause-steps
returns-clause-steps c = steps_alike

pub returns-clause-modelled : goal.returns-clause-modelled
returns-clause-modelled c = kept_is_modelled
