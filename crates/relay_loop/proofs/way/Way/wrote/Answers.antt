-- What is written was printed.
use Rattle.std.proofs.Common.{refl}
use Rattle.relay_loop.proofs.WayCalls.{writes}
use Rattle.relay_loop.proofs.way.Way.wrote.Goals as goal

pub returns-clause-writes : goal.returns-clause-writes
returns-clause-writes c = λ script. writes script c.args.self.now _ c.args.count refl c.requires.alive refl refl refl refl c.advance.ensures.items refl refl
