-- By each call of an end, which is one step of the model.
use Rattle.application_loop.proofs.StackGoing.{go_on_alike, answer_alike, call_alike}
use Rattle.application_loop.proofs.laws.kept_ends_tell_alike.Goals as goal

pub returns-clause-on : goal.returns-clause-on
returns-clause-on c = go_on_alike c.standing.ensures.steps

pub returns-clause-answers : goal.returns-clause-answers
returns-clause-answers c = answer_alike c.standing.ensures.made

pub returns-clause-calls : goal.returns-clause-calls
returns-clause-calls c = call_alike c.standing.ensures.made c.standing.ensures.steps
