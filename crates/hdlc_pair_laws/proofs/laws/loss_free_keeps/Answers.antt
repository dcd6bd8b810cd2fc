use Rattle.hdlc_pair_laws.proofs.LossFree.{flow_keeps, flow_bounds}
use Rattle.hdlc_pair_laws.proofs.laws.loss_free_keeps.Goals as goal

pub returns-clause-calls : goal.returns-clause-calls
returns-clause-calls c = flow_keeps c.control_reads_back.ensures

pub returns-clause-bounds : goal.returns-clause-bounds
returns-clause-bounds c = flow_bounds
