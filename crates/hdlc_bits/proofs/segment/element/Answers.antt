use Rattle.hdlc_bits.proofs.BufferLaws.{element_bits}
use Rattle.hdlc_bits.proofs.segment.element.Goals as goal

pub returns-clause-bits : goal.returns-clause-bits
returns-clause-bits c = element_bits c.args.gap c.args.ones c.requires
