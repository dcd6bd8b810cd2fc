-- By the lengths of the words.
use Rattle.application_lines.proofs.ShortNotices.{notices_are_short}
use Rattle.application_lines.proofs.laws.notices_are_short.Goals as goal

pub returns : goal.returns
returns c = notices_are_short
