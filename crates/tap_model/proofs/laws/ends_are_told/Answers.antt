use Rattle.tap_model.proofs.StreamEnding.{ends_are_told}
use Rattle.tap_model.proofs.StreamRules.{rules_end}
use Rattle.tap_model.proofs.laws.ends_are_told.Goals as goal

pub returns-clause-told : goal.returns-clause-told
returns-clause-told c = ends_are_told

pub returns-clause-rules : goal.returns-clause-rules
returns-clause-rules c = rules_end
