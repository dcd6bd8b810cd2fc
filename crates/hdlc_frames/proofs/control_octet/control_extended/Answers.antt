use Rattle.std.proofs.Common.{◌∙◌}
use Rattle.hdlc_frames.proofs.ControlLaws.{table_of, value_128}
use Rattle.hdlc_frames.proofs.control_octet.control_extended.Goals as goal

pub returns-clause-table : goal.returns-clause-table
returns-clause-table c = table_of 128 c.args.body.now (λ k. (c.type_inv.body k).fits) c.read_extended.result (c.read_extended.ensures ∙ value_128 c.args.body.now)

pub returns-clause-value : goal.returns-clause-value
returns-clause-value c = c.read_extended.ensures ∙ value_128 c.args.body.now
