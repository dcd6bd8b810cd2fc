-- The caller's deed says that the connection is made.
use Rattle.std.proofs.Common.{rules}
use Rattle.bench.proofs.transport.sides.Sides.new.Goals as goal

pub invariant_of-result-clause-made : goal.invariant_of-result-clause-made
invariant_of-result-clause-made c = λ e. search rules
