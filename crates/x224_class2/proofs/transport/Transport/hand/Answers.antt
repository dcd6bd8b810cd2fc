-- One message more waits, in the model too.
use Rattle.std.proofs.Common.{rules, arith}
use Rattle.std.proofs.lemmas.Grind.{common_steps}
use Rattle.x224_class2.proofs.Following.{hand_follows}
use Rattle.x224_class2.proofs.transport.Transport.hand.Goals as goal

pub returns-clause-handed : goal.returns-clause-handed
returns-clause-handed c =
    hand_follows c.args.self.now _ c.args.message.now (first_of (search rules, grind (arith, common_steps))) c.requires.open c.requires.message.0
