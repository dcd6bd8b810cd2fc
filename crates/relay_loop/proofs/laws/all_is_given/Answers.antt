-- What is carried is what came, and no line closes the connection.
use Rattle.relay_loop.proofs.RelayLaws.{all_is_given}
use Rattle.relay_loop.proofs.laws.all_is_given.Goals as goal

pub returns : goal.returns
returns c = all_is_given c.closed_stays.ensures c.passed_is_sent.ensures
