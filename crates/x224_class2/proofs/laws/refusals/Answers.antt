-- The causes of a refusal are proved over the definitions alone.
use Rattle.x224_class2.proofs.Causes.{cause_refuses, refuses_only}
use Rattle.x224_class2.proofs.laws.refusals.Goals as goal

pub returns : goal.returns
returns c = record { each = cause_refuses; only = refuses_only }
