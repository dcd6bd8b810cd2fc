use Rattle.std.proofs.Common.{rules}
use Rattle.recorded.proofs.Steps.{kept_at_first}
use Rattle.recorded.proofs.recorded.Recorded.new.Goals as goal

pub invariant_of-result-clause-kept : goal.invariant_of-result-clause-kept
invariant_of-result-clause-kept g c = kept_at_first _ _ _ c.requires c.new.ensures (search rules)

pub invariant_of-result-clause-room : goal.invariant_of-result-clause-room
invariant_of-result-clause-room g c = search rules
