-- The oldest message was taken, in the model too.
use Rattle.std.proofs.Common.{rules, arith}
use Rattle.std.proofs.lemmas.Grind.{common_steps}
use Rattle.x224_class2.proofs.Following.{taken_follows}
use Rattle.x224_class2.proofs.transport.Transport.taken.Goals as goal

pub returns-clause-follows : goal.returns-clause-follows
returns-clause-follows c = taken_follows c.args.self.now _ (first_of (search rules, grind (arith, common_steps))) c.requires
