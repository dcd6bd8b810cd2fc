use Rattle.session_keys.proofs.Halves.{right_is}
use Rattle.session_keys.proofs.derivation.join_right.Goals as goal

pub returns : goal.returns
returns c = right_is c.args.ra c.args.rb
