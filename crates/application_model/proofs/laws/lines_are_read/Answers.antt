-- Behind the octets that bring them all lines are read.
use Rattle.application_model.proofs.Reading.{lines_are_read, read_begins}
use Rattle.application_model.proofs.laws.lines_are_read.Goals as goal

pub returns-clause-read : goal.returns-clause-read
returns-clause-read c = lines_are_read

pub returns-clause-begins : goal.returns-clause-begins
returns-clause-begins c = read_begins c.streams_go_on.ensures.on c.streams_go_on.ensures.whole
