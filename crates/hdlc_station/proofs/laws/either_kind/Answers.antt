use Rattle.hdlc_station.proofs.Ways.{fits_either, some_answers, few_answers}
use Rattle.hdlc_station.proofs.laws.either_kind.Goals as goal

pub returns-clause-fits : goal.returns-clause-fits
returns-clause-fits c = fits_either

pub returns-clause-some : goal.returns-clause-some
returns-clause-some c = some_answers

pub returns-clause-few : goal.returns-clause-few
returns-clause-few c = few_answers
