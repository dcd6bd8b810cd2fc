-- What is carried is what came.
use Rattle.relay_loop.proofs.RelayLaws.{given_is_read}
use Rattle.relay_loop.proofs.laws.given_is_read.Goals as goal

pub returns : goal.returns
returns c = given_is_read c.passed_is_sent.ensures
