-- What is read in turn begins what is said.
use Rattle.application_serving.proofs.Moments.{read_in_order}
use Rattle.application_serving.proofs.laws.reads_in_order.Goals as goal

pub returns : goal.returns
returns c =
    read_in_order c.streams_go_on.ensures.on c.streams_go_on.ensures.whole c.each_beginning_is_as_claimed.ensures c.lines_are_read.ensures.begins
