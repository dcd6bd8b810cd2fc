-- By the model, and since the ends of this stack keep messages.
use Rattle.application_serving.proofs.Moments.{loses_none}
use Rattle.application_serving.proofs.laws.loses_none_so_far.Goals as goal

pub returns : goal.returns
returns c = loses_none c.each_beginning_is_as_claimed.ensures c.keeps_messages.ensures
