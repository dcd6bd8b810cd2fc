-- Entries of the same lines count alike, one by one.
use Rattle.counted.proofs.Deciding.{decided}
use Rattle.counted.proofs.laws.are_decided_by_the_lines.Goals as goal

pub returns : goal.returns
returns c = decided c.lines_say_counts.ensures
