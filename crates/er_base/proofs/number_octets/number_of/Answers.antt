use Rattle.std.proofs.Common.{sym, ◌∙◌}
use Rattle.er_base.proofs.OctetNumbers.{number_from_octets}
use Rattle.er_base.proofs.number_octets.number_of.Goals as goal

pub returns-clause-number : goal.returns-clause-number
returns-clause-number c = c.from_be_bytes.ensures ∙ sym (number_from_octets c.args.octets.now c.told-octets)
