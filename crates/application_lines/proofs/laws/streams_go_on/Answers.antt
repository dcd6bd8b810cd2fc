-- By the laws of pieces.
use Rattle.application_lines.proofs.Pieces.{goes_on, whole_from_the_first, cut_anywhere, stands_well}
use Rattle.application_lines.proofs.laws.streams_go_on.Goals as goal

pub returns-clause-on : goal.returns-clause-on
returns-clause-on c = goes_on

pub returns-clause-whole : goal.returns-clause-whole
returns-clause-whole c = whole_from_the_first

pub returns-clause-cut : goal.returns-clause-cut
returns-clause-cut c = cut_anywhere

pub returns-clause-well : goal.returns-clause-well
returns-clause-well c = stands_well
