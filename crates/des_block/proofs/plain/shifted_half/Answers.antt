use Rattle.des_block.proofs.PlainSteps.{turn_step}
use Rattle.des_block.proofs.plain.shifted_half.Goals as goal

pub returns-clause-value : goal.returns-clause-value
returns-clause-value c = turn_step c.args.half c.args.by c.requires.half c.requires.by
