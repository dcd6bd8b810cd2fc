-- What is done in turn begins what was asked for.
use Rattle.application_serving.proofs.Moments.{done_in_order}
use Rattle.application_serving.proofs.laws.does_in_order.Goals as goal

pub returns : goal.returns
returns c = done_in_order c.each_beginning_is_as_claimed.ensures c.done_begins_the_asked.ensures.begins
