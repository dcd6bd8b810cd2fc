use Rattle.std.proofs.Common.{arith}
use Rattle.std.proofs.lemmas.Grind.{common_steps}
use Rattle.er_base.proofs.hexadecimal.put_spelled.Goals as goal

pub returns-clause-ok : goal.returns-clause-ok
returns-clause-ok c = record { octets = c.decode.new.octets; spelled = c.decode.ensures; appended = grind (arith, common_steps) }
