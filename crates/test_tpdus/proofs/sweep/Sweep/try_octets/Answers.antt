-- What was read is spelled by the octets, so it can be written unless it is ER.
use Rattle.std.proofs.Common.{◌≡◌, true}
use Rattle.x224_tpdu.specs.Spellings.{pdu_of, Spells}
use Rattle.test_tpdus.proofs.sweep.Sweep.try_octets.Goals as goal

pub write_into-requires-clause-value : goal.write_into-requires-clause-value
write_into-requires-clause-value c =
    let spelled : Spells (pdu_of c.in-Ok.tpdu) c.args.octets.now = rw c.in-Ok.is at c.read-answer.ensures.exact in
    c.writing.ensures.writable c.args.octets.now (pdu_of c.in-Ok.tpdu) spelled
    (λ e. let t : c.is_error.result ≡ true = c.is_error.ensures.1 e in cc)
