use Rattle.std.proofs.Common.{arith}
use Rattle.session_keys.proofs.Halves.{left_is}
use Rattle.session_keys.proofs.derivation.join_left.Goals as goal

pub returns : goal.returns
returns c = left_is c.args.ra c.args.rb (omega arith) (omega arith)
