-- What comes of it is what the model tells, and the lines to the application are those of its outcomes.
use Rattle.application_loop.proofs.LinkGoing.{occurs_by_the_model}
use Rattle.application_loop.proofs.laws.occurs_by_the_model.Goals as goal

pub returns : goal.returns
returns c = occurs_by_the_model c.kept_ends_tell_alike.ensures.on c.port_goes_by_the_model.ensures
