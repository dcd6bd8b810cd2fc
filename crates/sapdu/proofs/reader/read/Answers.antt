use Rattle.std.proofs.Common.{rules, ap, sym, ◌∙◌}
use Rattle.sapdu.specs.Spelling.{read_of}
use Rattle.sapdu.proofs.reader.read.Goals as goal

pub returns-clause-spelled : goal.returns-clause-spelled
returns-clause-spelled c = search rules

pub returns-clause-value : goal.returns-clause-value
returns-clause-value c = let is = returns-clause-spelled c in sym (ap read_of is.2 ∙ c.spelled_is_read.ensures _ _ is.1)
