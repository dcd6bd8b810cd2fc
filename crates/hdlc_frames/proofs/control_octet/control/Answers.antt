use Rattle.std.proofs.Common.{◌∙◌}
use Rattle.hdlc_frames.proofs.ControlLaws.{table_of, value_8}
use Rattle.hdlc_frames.proofs.control_octet.control.Goals as goal

pub returns-clause-table : goal.returns-clause-table
returns-clause-table c = table_of 8 c.args.body.now (λ k. (c.type_inv.body k).fits) c.read.result (c.read.ensures ∙ value_8 c.args.body.now)

pub returns-clause-value : goal.returns-clause-value
returns-clause-value c = c.read.ensures ∙ value_8 c.args.body.now
