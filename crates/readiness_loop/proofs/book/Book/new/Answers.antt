use Rattle.readiness_loop.proofs.Awaited.{awaited_none}
use Rattle.readiness_loop.proofs.book.Book.new.Goals as goal

pub returns-clause-awaited : goal.returns-clause-awaited
returns-clause-awaited g c = awaited_none _ _ _ c.new.ensures.empty c.new-2.ensures
