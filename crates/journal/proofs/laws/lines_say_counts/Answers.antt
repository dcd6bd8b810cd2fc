-- By the law of words.
use Rattle.journal.proofs.SayingCounts as counts
use Rattle.journal.proofs.laws.lines_say_counts.Goals as goal

pub returns : goal.returns
returns c = counts.lines_say_counts c.printed_words.ensures
