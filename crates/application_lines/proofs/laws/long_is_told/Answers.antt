-- All octets are one piece.
use Rattle.application_lines.proofs.Pieces.{long_is_told}
use Rattle.application_lines.proofs.laws.long_is_told.Goals as goal

pub returns : goal.returns
returns c = long_is_told
