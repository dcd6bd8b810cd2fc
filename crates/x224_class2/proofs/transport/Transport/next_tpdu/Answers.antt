-- The TPDU that was given is the model's.
use Rattle.x224_class2.proofs.Following.{next_follows, next_gives}
use Rattle.x224_class2.proofs.transport.Transport.next_tpdu.Goals as goal

pub returns-clause-follows : goal.returns-clause-follows
returns-clause-follows c = next_follows c.args.self.now c.give_next.new.self c.give_next.ensures.state

pub returns-clause-gives : goal.returns-clause-gives
returns-clause-gives c = next_gives c.args.self.now c.args.out.now c.give_next.new.out c.give_next.result c.give_next.ensures.wrote c.give_next.ensures.some
