-- The other side gets nothing any more.
use Rattle.std.proofs.Common.{refl}
use Rattle.relay_loop.proofs.WayCalls.{loses}
use Rattle.relay_loop.proofs.way.Way.lose.Goals as goal

pub returns-clause-loses : goal.returns-clause-loses
returns-clause-loses c = λ script. loses script c.args.self.now _ refl refl refl
