use Rattle.er_end_promises.proofs.Sending.{takes_while_few_wait}
use Rattle.er_end_promises.proofs.laws.takes_while_few_wait.Goals as goal

pub returns : goal.returns
returns c = takes_while_few_wait
