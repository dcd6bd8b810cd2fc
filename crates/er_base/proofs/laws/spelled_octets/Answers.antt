use Rattle.er_base.proofs.SpelledOctets.{spelled_octets}
use Rattle.er_base.proofs.laws.spelled_octets.Goals as goal

pub returns : goal.returns
returns c = spelled_octets
