use Rattle.er_end.proofs.laws.used_octets.Goals as goal
use Rattle.er_end.proofs.Keepings.{uses_octets}

pub returns : goal.returns
returns c = uses_octets
