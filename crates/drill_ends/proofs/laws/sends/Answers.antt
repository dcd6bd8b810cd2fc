use Rattle.drill_ends.proofs.Sends.{sent_so}
use Rattle.drill_ends.proofs.laws.sends.Goals as goal

pub returns : goal.returns
returns c = sent_so c.steps.ensures.only
