-- A beginning of what is carried has a beginning of its frames.
use Rattle.relay_loop.proofs.RelayLaws.{found_are_sent}
use Rattle.relay_loop.proofs.laws.found_are_sent.Goals as goal

pub returns : goal.returns
returns c = found_are_sent c.losing_line.ensures c.cut_goes_on.ensures
