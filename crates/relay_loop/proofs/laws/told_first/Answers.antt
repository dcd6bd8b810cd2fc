-- By the moment behind the write.
use Rattle.relay_loop.proofs.RelayLaws.{told_first}
use Rattle.relay_loop.proofs.laws.told_first.Goals as goal

pub returns : goal.returns
returns c = told_first
