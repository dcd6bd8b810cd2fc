use Rattle.drill_laws.proofs.Printing.{printed_as_marked, lines_in_order}
use Rattle.drill_laws.proofs.laws.printed.Goals as goal

pub returns-clause-marks : goal.returns-clause-marks
returns-clause-marks c = printed_as_marked c.marks_grow.ensures c.histories.ensures.grow c.histories.ensures.facts

pub returns-clause-order : goal.returns-clause-order
returns-clause-order c = lines_in_order
