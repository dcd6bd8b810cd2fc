-- Each moment is a beginning of the history.
use Rattle.application_serving.proofs.Moments.{by_the_model}
use Rattle.application_serving.proofs.laws.serves_by_the_model.Goals as goal

pub returns : goal.returns
returns c = by_the_model c.each_beginning_is_as_claimed.ensures
