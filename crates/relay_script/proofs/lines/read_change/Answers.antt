-- Each line by its own reader.
use Rattle.relay_script.proofs.lines.read_change.Goals as goal

pub returns-in-Lose-clause-line : goal.returns-in-Lose-clause-line
returns-in-Lose-clause-line c = rw c.in-Lose.is c.lose.ensures.line

pub returns-in-Repeat-clause-line : goal.returns-in-Repeat-clause-line
returns-in-Repeat-clause-line c = rw c.in-Repeat.is c.repeat.ensures.line

pub returns-in-Alter-clause-line : goal.returns-in-Alter-clause-line
returns-in-Alter-clause-line c = rw c.in-Alter.is c.alter.ensures.line

pub returns-in-Put-clause-line : goal.returns-in-Put-clause-line
returns-in-Put-clause-line c = rw c.in-Put.is c.put.ensures.line

pub returns-in-Delay-clause-line : goal.returns-in-Delay-clause-line
returns-in-Delay-clause-line c = rw c.in-Delay.is c.delay.ensures.line

pub returns-in-Close-clause-line : goal.returns-in-Close-clause-line
returns-in-Close-clause-line c = rw c.in-Close.is c.close.ensures.line
