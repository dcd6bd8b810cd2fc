use Rattle.er_base.proofs.PrintedLines.{rows_read}
use Rattle.er_base.proofs.laws.printed_lines.Goals as goal

pub returns : goal.returns
returns c = rows_read
