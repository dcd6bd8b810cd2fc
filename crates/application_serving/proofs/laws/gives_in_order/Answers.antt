-- What was told in turn begins the journal.
use Rattle.application_serving.proofs.Moments.{given_in_order}
use Rattle.application_serving.proofs.laws.gives_in_order.Goals as goal

pub returns : goal.returns
returns c = given_in_order c.each_beginning_is_as_claimed.ensures c.told_begins_the_journal.ensures
