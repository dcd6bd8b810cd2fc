use Rattle.er_base.proofs.OctetNumbers.{octets_joined, octets_parted}
use Rattle.er_base.proofs.laws.octets_of_parts.Goals as goal

pub returns-clause-joined : goal.returns-clause-joined
returns-clause-joined c = octets_joined

pub returns-clause-parts : goal.returns-clause-parts
returns-clause-parts c = octets_parted
